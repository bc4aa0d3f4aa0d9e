-- Laws of refusals: a call is accepted or refused by the table, and what either leaves.
-- Assumes nothing.
use mathlib.Core.Path.{◌≡◌, refl, sym, ap, ◌∙◌}
use mathlib.Core.Logic.{◌≢◌}
use Prim.Native.Nat.{ℕ, ◌≤◌}
use native.Mathlib.Omega.{arith}
use mathlib.Core.Bool.{Bool, true, false, ◌&&◌, true≢false}
use mathlib.Core.List.{List, [], ◌∷◌}
use lib.ListN.{length}
use lib.Dec.{eqb}
use borrow.Author.Tests.{leb-true, eqb-true}
use Rattle.formats.specs.Checks.{Res, refused, passed, ◌>>◌, ◌or_else◌, all, Ok}
use Rattle.formats.proofs.Checks.{ok_at, ok_guard, both_true}
use Rattle.boxlog.specs.Record.{least_area, is_area}
use Rattle.boxlog.proofs.Held.{area_least}
use Rattle.controller.specs.declared.Controller.{Controller}
use Rattle.controller.specs.Controller.{Areas}
use Rattle.lines.specs.Program.{is_program}
use Rattle.controller.specs.Refusals.{Call, power_on, byte, tick, press, emptying, is_log, is_same_log}
use Rattle.controller.specs.Refusals.{is_reply, may_tick, is_button, is_destination, lent, check}
use Rattle.controller.specs.Effects.{is_power_on}
use Rattle.controller.specs.Calls.{After, refused_with, taken, settled, call}

-- ---- the numbers

-- what holds of the number, where the check refuses
abbrev pub Refuses : (ℕ → Type 0) → Res (Unit {0}) → Type 0
Refuses P (refused n) = P n
Refuses P (passed ok) = Unit

refuses_guard : (P : ℕ → Type 0) (t : Bool) (e : ℕ) (r : Res (Unit {0})) → P e → Refuses P r → Refuses P ((t or_else e) >> r)
unfolding ◌>>◌ ◌or_else◌
refuses_guard P true e r p q = q
refuses_guard P false e r p q = p

refuses_last : (P : ℕ → Type 0) (t : Bool) (e : ℕ) → P e → Refuses P (t or_else e)
unfolding ◌or_else◌
refuses_last P true e p = tt
refuses_last P false e p = p

abbrev pub Numbered : ℕ → Type 0
Numbered n = (30 ≤ n) × (n ≤ 35)

-- 030 and 031
pub lent_numbers : (programs : List (List ℕ)) (log : Bool) → Refuses Numbered (lent programs log)
unfolding lent
lent_numbers programs log =
    refuses_guard Numbered (all is_program programs) 30 _ (omega arith) (refuses_last Numbered log 31 (omega arith))

refuses_then : (P : ℕ → Type 0) (q r : Res (Unit {0})) → Refuses P q → Refuses P r → Refuses P (q >> r)
unfolding ◌>>◌
refuses_then P (refused n) r p h = p
refuses_then P (passed ok) r p h = h

pub numbers : (k : Call) (c : Controller) (a : Areas) → Refuses Numbered (check k c a)
unfolding check
numbers power_on c a = lent_numbers _ _
numbers (byte x) c a = refuses_then Numbered (lent _ _) _ (lent_numbers _ _) (refuses_last Numbered (is_reply a.out) 32 (omega arith))
numbers tick c a = refuses_then Numbered (lent _ _) _ (lent_numbers _ _) (refuses_last Numbered (may_tick c) 33 (omega arith))
numbers (press n) c a = refuses_then Numbered (lent _ _) _ (lent_numbers _ _) (refuses_last Numbered (is_button n) 34 (omega arith))
numbers emptying c a =
    refuses_then Numbered (lent _ _) _ (lent_numbers _ _) (refuses_last Numbered (is_destination c a.out) 35 (omega arith))

-- ---- an accepted call

-- the areas that a call is lent fit: 030 and 031
pub record Lent (areas : List (List ℕ)) (fits : Bool) : Type 0 where
  pub programs : all is_program areas ≡ true
  pub log : fits ≡ true

-- what the table asks of each call
abbrev pub Checks : Call → Controller → Areas → Type 0
Checks power_on c a = Lent (a.program ∷ a.saved ∷ []) (is_log a.log)
Checks (byte x) c a = Lent (a.program ∷ a.saved ∷ []) (is_same_log c a.log) × (is_reply a.out ≡ true)
Checks tick c a = Lent (a.program ∷ []) (is_same_log c a.log) × (may_tick c ≡ true)
Checks (press n) c a = Lent (a.program ∷ []) (is_same_log c a.log) × (is_button n ≡ true)
Checks emptying c a = Lent [] (is_same_log c a.log) × (is_destination c a.out ≡ true)

pub record Checked (k : Call) (c : Controller) (a : Areas) : Type 0 where
  pub checks : Checks k c a

ok_last : (P : Unit {0} → Type 0) (t : Bool) (e : ℕ) → (t ≡ true → P tt) → Ok P (t or_else e)
unfolding ◌or_else◌
ok_last P true e f = f refl
ok_last P false e f = tt

abbrev Pass : Call → Controller → Areas → Unit {0} → Type 0
Pass k c a ok = Checked k c a

ok_lent : (P : Unit {0} → Type 0) (programs : List (List ℕ)) (log : Bool) → (Lent programs log → P tt) → Ok P (lent programs log)
unfolding lent
ok_lent P programs log f =
    ok_guard P (all is_program programs) 30 _ λ e. ok_last P log 31 λ g. f (record { programs = e; log = g })

ok_then : (P : Unit {0} → Type 0) {Q : Type 0} (q r : Res (Unit {0})) → Ok (λ ok. Q) q → (Q → Ok P r) → Ok P (q >> r)
unfolding ◌>>◌
ok_then P (refused n) r h k = tt
ok_then P (passed ok) r h k = k h

-- the areas fit, and then one test more
ok_lent_then : (P : Unit {0} → Type 0) (programs : List (List ℕ)) (log t : Bool) (e : ℕ) → (Lent programs log → t ≡ true → P tt)
    → Ok P (lent programs log >> (t or_else e))
ok_lent_then P programs log t e f =
    ok_then P (lent programs log) (t or_else e) (ok_lent (λ ok. Lent programs log) programs log λ h. h) λ h. ok_last P t e (f h)

checked : (k : Call) (c : Controller) (a : Areas) → Ok (Pass k c a) (check k c a)
unfolding check
checked power_on c a = ok_lent (Pass power_on c a) _ _ λ e. record { checks = e }
checked (byte x) c a = ok_lent_then (Pass (byte x) c a) _ _ (is_reply a.out) 32 λ e f. record { checks = (e, f) }
checked tick c a = ok_lent_then (Pass tick c a) _ _ (may_tick c) 33 λ e f. record { checks = (e, f) }
checked (press n) c a = ok_lent_then (Pass (press n) c a) _ _ (is_button n) 34 λ e f. record { checks = (e, f) }
checked emptying c a = ok_lent_then (Pass emptying c a) _ _ (is_destination c a.out) 35 λ e f. record { checks = (e, f) }

-- a call whose checks pass has what the table asks
pub passed_checked : (k : Call) (c : Controller) (a : Areas) → check k c a ≡ passed tt → Checked k c a
passed_checked k c a e = ok_at (Pass k c a) (checked k c a) e

-- every call but power-on is held to the length of the log given at power-on
pub checked_log : (k : Call) (c : Controller) (a : Areas) → is_power_on k ≡ false → Checked k c a → is_same_log c a.log ≡ true
checked_log power_on c a e h = absurd (true≢false e)
checked_log (byte x) c a e h = h.checks.0.log
checked_log tick c a e h = h.checks.0.log
checked_log (press n) c a e h = h.checks.0.log
checked_log emptying c a e h = h.checks.0.log

-- such a program area has 200 lines, and so has the saved copy where it is lent
pub program_long : {program : List ℕ} {programs : List (List ℕ)} {log : Bool} → Lent (program ∷ programs) log → length program ≡ 1600
program_long {program} {programs} h = eqb-true (length program) 1600 (both_true (is_program program) (all is_program programs) h.programs).0

pub saved_long : {program saved : List ℕ} {programs : List (List ℕ)} {log : Bool} → Lent (program ∷ saved ∷ programs) log → length saved ≡ 1600
saved_long {program} {saved} {programs} h =
    program_long {program = saved} {programs = programs} (record {
      programs = (both_true (is_program program) (all is_program (saved ∷ programs)) h.programs).1;
      log = h.log;
    })

-- a log area is long enough, also one of the length given at power-on
pub area_long : (area : List ℕ) → is_log area ≡ true → least_area ≤ length area
area_long area e = area_least (length area) e

pub same_long : (n known : ℕ) → (is_area n && eqb n known) ≡ true → (least_area ≤ known) × (n ≡ known)
same_long n known e =
    let p = both_true (is_area n) (eqb n known) e in
    let same = eqb-true n known p.1 in
    (omega (arith, area_least n p.0), same)

pub log_long : (c : Controller) (area : List ℕ) → is_same_log c area ≡ true → (least_area ≤ c.log.length) × (length area ≡ c.log.length)
log_long c area e = same_long (length area) c.log.length e

-- a reply area that is accepted has room for the longest reply and its 13
pub reply_long : (area : List ℕ) → is_reply area ≡ true → 16 ≤ length area
reply_long area e = omega (arith, leb-true 16 (length area) e)

-- ---- accepted or refused

-- a call is one or the other
pub data Settled (k : Call) (c : Controller) (a : Areas) : Type 0 where
  acceptance : Checked k c a → call k c a ≡ taken k c a → Settled k c a
  refusal : (n : ℕ) → 30 ≤ n → n ≤ 35 → call k c a ≡ refused_with n k c a → Settled k c a

-- Every call, whatever it is lent, is accepted or refused with one of the numbers 030 to 035.
pub every_call_settled : (k : Call) (c : Controller) (a : Areas) → Settled k c a
unfolding call
every_call_settled k c a = go (check k c a) refl (numbers k c a) (checked k c a)
  where
    go : (r : Res (Unit {0})) → check k c a ≡ r → Refuses Numbered r → Ok (Pass k c a) r → Settled k c a
    go (refused n) e b h = refusal n b.0 b.1 (ap (λ r. settled r k c a) e)
    go (passed ok) e b h = acceptance h (ap (λ r. settled r k c a) e)

-- a call that returns no refusal was accepted
pub accepted_call : (k : Call) (c : Controller) (a : Areas) → (call k c a).refusal ≡ 0
    → Checked k c a × (call k c a ≡ taken k c a)
accepted_call k c a z = go (every_call_settled k c a)
  where
    go : Settled k c a → Checked k c a × (call k c a ≡ taken k c a)
    go (acceptance h e) = (h, e)
    go (refusal n lo hi e) = absurd (let r : n ≡ 0 = ap (λ (x : After). x.refusal) (sym e) ∙ z in omega arith)

-- a call that returns one was refused
pub refused_call : (k : Call) (c : Controller) (a : Areas) → (call k c a).refusal ≢ 0
    → call k c a ≡ refused_with (call k c a).refusal k c a
refused_call k c a ne = go (every_call_settled k c a)
  where
    go : Settled k c a → call k c a ≡ refused_with (call k c a).refusal k c a
    go (acceptance h e) = absurd (ne (ap (λ (x : After). x.refusal) e))
    go (refusal n lo hi e) = e ∙ ap (λ m. refused_with m k c a) (ap (λ (x : After). x.refusal) (sym e))

-- A refused power-on's state has a log length of 0, "so every later call on it is refused".
pub unpowered_refuses : (k : Call) (c : Controller) (a : Areas) → is_power_on k ≡ false → c.log.length ≡ 0 → (call k c a).refusal ≢ 0
unpowered_refuses k c a other none ok =
    let h = log_long c a.log (checked_log k c a other (accepted_call k c a ok).0) in
    omega (arith, h.0)
