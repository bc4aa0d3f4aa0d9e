-- Demand 1: "gets a defined reply or refusal", "The box checks its callers itself. A refused call changes only what document 01 says it
-- changes." The refusal of every call, and what a refused call leaves.
-- Assumes nothing.
use mathlib.Core.Path.{◌≡◌, refl, sym, ap, ◌∙◌}
use mathlib.Core.Logic.{◌≢◌}
use Prim.Native.Nat.{ℕ}
use mathlib.Core.Bool.{Bool, true, false, not, true≢false}
use mathlib.Core.List.{List, [], ◌∷◌, ◌++◌}
use borrow.Author.Tests.{eq-eqb}
use Rattle.std.specs.Prelude.{if◌then◌else◌}
use Rattle.formats.specs.Checks.{refusal_of as refused_by, Res, refused, passed, ◌>>◌, ◌or_else◌, all}
use Rattle.boxlog.specs.Log.{places, held_bytes}
use Rattle.controller.specs.declared.Controller.{Controller}
use Rattle.controller.specs.Controller.{Areas}
use Rattle.lines.specs.Program.{is_program}
use Rattle.controller.specs.Refusals.{Call, power_on, byte, tick, press, emptying, lent, check}
use Rattle.controller.specs.Calls.{After, call, settled}
use Rattle.controller.specs.Effects.{is_power_on}
use Rattle.controller.proofs.Refusals.{refused_call}
use Rattle.demands.specs.Histories.{Made, unpowered, outcome, after}
use Rattle.demands.specs.Seen.{is_taken, seen, note, notes}
use Rattle.demands.specs.Told.{Told, powered, tell, tell_all, told}
use Rattle.demands.specs.Changes.{changes, held_after}
use Rattle.demands.specs.Lent.{first_of, refusal_of}
use Rattle.demands.proofs.History.Agrees.{Agrees}
use Rattle.demands.proofs.History.Telling.{told_more, held_as_told}
use Rattle.demands.proofs.Logs.LogLeft.{held_as_counted}
use Rattle.formats.proofs.Checks.{and_true}

-- ---- checks

by_test : (t : Bool) (e : ℕ) → refused_by (t or_else e) ≡ (if not t then e else 0)
unfolding ◌or_else◌
by_test true e = refl
by_test false e = refl

by_next : (t : Bool) (e : ℕ) (r : Res (Unit {0})) → refused_by ((t or_else e) >> r) ≡ (if not t then e else refused_by r)
unfolding ◌or_else◌ ◌>>◌
by_next true e r = refl
by_next false e r = refl

-- the areas fit, and then one test more
by_all : (programs : List (List ℕ)) (log t : Bool) (e : ℕ) → refused_by (lent programs log >> (t or_else e)) ≡ first_of (all is_program programs) log t e
unfolding lent ◌or_else◌ ◌>>◌
by_all programs log t e = go (all is_program programs) log t
  where
    go : (a b c : Bool) → refused_by (((a or_else 30) >> (b or_else 31)) >> (c or_else e)) ≡ first_of a b c e
    go true true true = refl
    go true true false = refl
    go true false c = refl
    go false b c = refl

by_lent : (programs : List (List ℕ)) (log : Bool) → refused_by (lent programs log) ≡ first_of (all is_program programs) log true 0
unfolding lent
by_lent programs log = by_next (all is_program programs) 30 (log or_else 31) ∙ ap (λ n. if not (all is_program programs) then 30 else n) (by_test log 31)

-- a call is refused with the number of its checks
refusal_checked : (k : Call) (c : Controller) (a : Areas) → (call k c a).refusal ≡ refused_by (check k c a)
unfolding call
refusal_checked k c a = go (check k c a)
  where
    go : (r : Res (Unit {0})) → (settled r k c a).refusal ≡ refused_by r
    go (refused n) = refl
    go (passed ok) = refl

-- ---- what they ask

module _ (t : Told) (c : Controller) (a : Areas) (g : Agrees t c) where
  refused_by_lem : (k : Call) → refused_by (check k c a) ≡ refusal_of (held_bytes c.log) t k a
  unfolding check refusal_of
  refused_by_lem power_on = by_lent _ _ ∙ rw (and_true (is_program a.saved))
  refused_by_lem (byte x) = by_all _ _ _ 32 ∙ rw (and_true (is_program a.saved), g.log_length)
  refused_by_lem tick = by_all _ _ _ 33 ∙ rw (and_true (is_program a.program), g.log_length, g.ticks)
  refused_by_lem (press n) = by_all _ _ _ 34 ∙ rw (and_true (is_program a.program), g.log_length)
  refused_by_lem emptying = by_all _ _ _ 35 ∙ rw g.log_length

-- ---- the demand

-- After any calls, each call is refused with the first number of the table that applies to it, and is taken if none does.
pub refusals_as_told : (ms : List Made) (m : Made) → let t = told ms in
    (seen ms m).refusal ≡ refusal_of (held_after (places t.log_length) (changes ms)) t m.call m.areas
unfolding seen outcome
refusals_as_told ms m =
    let c = (after unpowered ms).state in
    refusal_checked m.call c m.areas ∙ refused_by_lem (told ms) c m.areas (held_as_told ms) m.call
    ∙ ap (λ n. refusal_of n (told ms) m.call m.areas) (held_as_counted ms)

-- ---- what is not taken

refused_number : (ms : List Made) (m : Made) → is_taken (seen ms m) ≡ false → (call m.call (after unpowered ms).state m.areas).refusal ≢ 0
unfolding seen outcome
refused_number ms m bad z = true≢false (sym (eq-eqb _ 0 z) ∙ bad)

refused_told : (ms : List Made) (m : Made) → is_taken (seen ms m) ≡ false → told (ms ++ (m ∷ [])) ≡ (if is_power_on m.call then powered 0 else told ms)
unfolding seen tell_all notes tell note
refused_told ms m bad = told_more ms (m ∷ []) ∙ rw bad

-- A refused call leaves every lent byte, its counts are 0, and the history says after it what it said before; but a refused power-on
-- leaves a box without a log, which by `refusals_as_told` takes no call until a power-on.
pub refused_seen : (ms : List Made) (m : Made) → is_taken (seen ms m) ≡ false
    → ((seen ms m).areas ≡ m.areas) × ((seen ms m).lines ≡ 0) × ((seen ms m).written ≡ 0)
    × (told (ms ++ (m ∷ [])) ≡ (if is_power_on m.call then powered 0 else told ms))
unfolding seen outcome
refused_seen ms m bad =
    let c = (after unpowered ms).state in
    let e = refused_call m.call c m.areas (refused_number ms m bad) in
    (ap (λ (r : After). r.areas) e, ap (λ (r : After). r.lines) e, ap (λ (r : After). r.written) e, refused_told ms m bad)
