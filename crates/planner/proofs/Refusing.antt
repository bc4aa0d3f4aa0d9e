-- The refusals: a plan is refused with a number exactly if that number's reason is the first that applies.
-- Assumes nothing.
use Prim.Native.Nat.{ℕ, zero, suc, ◌+◌, ◌*◌, ◌/◌, ◌≤◌, ◌<◌}
use native.Mathlib.Omega.{arith}
use mathlib.Core.Path.{◌≡◌, refl, sym, subst, ◌∙◌}
use mathlib.Core.Logic.{◌⊎◌, inl, inr}
use mathlib.Core.Bool.{Bool, true, false, ◌&&◌, true≢false}
use mathlib.Core.List.{List, [], ◌∷◌}
use lib.ListN.{length, get_or}
use borrow.Author.Tests.{eqb-false, ne_eqb, eq-eqb, le-leb}
use Rattle.formats.specs.Checks.{refused, passed, all}
use Rattle.formats.specs.Order.{First}
use Rattle.formats.proofs.Checks.{rule_refuses, rule_fails}
use Rattle.formats.proofs.Refusals.{Check, check_at, Worded, told_first, first_told, passed_none}
use Rattle.planner.specs.Plan.{moves_of, is_time, is_timed, InRange}
use Rattle.planner.specs.Lines.{program_of}
use Rattle.planner.specs.Planned.{is_counted, planned}
use Rattle.planner.specs.Reasons.{Whole, OutOfRange, settles, reads, Reason, e030, e070, e071, place}
use Rattle.planner.proofs.Moves.{counted_is, time_is, time_so}
use Rattle.planner.proofs.Order as Order
use Rattle.planner.proofs.Order.{by_checks}

-- a refusal is named by its number
abbrev itself : ℕ → ℕ
itself r = r

-- ---- how many moves

whole_counted : (ns : List ℕ) (count : ℕ) → Whole ns count → is_counted ns ≡ true
whole_counted ns count w =
    let l = w.numbers in
    let some = w.some in
    let few = w.few in
    let is : length ns / 4 ≡ count = omega arith in
    rw (eq-eqb (4 * (length ns / 4)) (length ns) (omega arith), le-leb 1 (length ns / 4) (omega arith), le-leb (length ns / 4) 16 (omega arith))

counted_whole : (ns : List ℕ) → is_counted ns ≡ true → Whole ns (length ns / 4)
counted_whole ns so = let a = counted_is ns so in record { numbers = sym a.0; some = a.1; few = a.2 }

-- ---- times

no_time : (t : ℕ) → is_time t ≡ false → InRange t → ⊥
no_time t fails so = true≢false (sym (time_so t so) ∙ fails)

time_no : (t : ℕ) → (InRange t → ⊥) → is_time t ≡ false
time_no t not = go (is_time t) refl
  where
    go : (b : Bool) → is_time t ≡ b → is_time t ≡ false
    go true e = absurd (not (time_is t e))
    go false e = e

-- a time of a later move
later : {a b c d : ℕ} {ns : List ℕ} → OutOfRange ns → OutOfRange (a ∷ b ∷ c ∷ d ∷ ns)
later {a} {b} {c} {d} {ns} (settles k room not) =
    let e : 4 * suc k + 1 ≡ suc (suc (suc (suc (4 * k + 1)))) = omega arith in
    settles (suc k) (omega arith) (λ so. not (subst (λ j. InRange (get_or (a ∷ b ∷ c ∷ d ∷ ns) j 0)) e so))
later {a} {b} {c} {d} {ns} (reads k room not) =
    let e : 4 * suc k + 3 ≡ suc (suc (suc (suc (4 * k + 3)))) = omega arith in
    reads (suc k) (omega arith) (λ so. not (subst (λ j. InRange (get_or (a ∷ b ∷ c ∷ d ∷ ns) j 0)) e so))

-- some time is outside its range, where the test says so
untimed_is : (ns : List ℕ) → all is_timed (moves_of ns) ≡ false → OutOfRange ns
unfolding moves_of
untimed_is [] e = absurd (true≢false e)
untimed_is (a ∷ []) e = absurd (true≢false e)
untimed_is (a ∷ b ∷ []) e = absurd (true≢false e)
untimed_is (a ∷ b ∷ c ∷ []) e = absurd (true≢false e)
untimed_is (a ∷ b ∷ c ∷ d ∷ ns) e = go (is_time b) refl (is_time d) refl (λ on. later (untimed_is ns on))
  where
    go : (x : Bool) → is_time b ≡ x → (y : Bool) → is_time d ≡ y → (all is_timed (moves_of ns) ≡ false → OutOfRange (a ∷ b ∷ c ∷ d ∷ ns))
        → OutOfRange (a ∷ b ∷ c ∷ d ∷ ns)
    go false x y f on = settles 0 (omega arith) (no_time b x)
    go true x false f on = reads 0 (omega arith) (no_time d f)
    go true x true f on = on (sym (rw (x, f)) ∙ e)

-- and the test says so where one is
first_untimed : (a b c d : ℕ) (ns : List ℕ) → is_time b && is_time d ≡ false → all is_timed (moves_of (a ∷ b ∷ c ∷ d ∷ ns)) ≡ false
unfolding moves_of
first_untimed a b c d ns e = rw e

rest_untimed : (a b c d : ℕ) (ns : List ℕ) → all is_timed (moves_of ns) ≡ false → all is_timed (moves_of (a ∷ b ∷ c ∷ d ∷ ns)) ≡ false
unfolding moves_of
rest_untimed a b c d ns e = go (is_time b && is_time d)
  where
    go : (x : Bool) → x && all is_timed (moves_of ns) ≡ false
    go true = e
    go false = refl

and_false : (x : Bool) → x && false ≡ false
and_false true = refl
and_false false = refl

untimed_at : (ns : List ℕ) (k i : ℕ) → 4 * k + 4 ≤ length ns → (i ≡ 1) ⊎ (i ≡ 3) → (InRange (get_or ns (4 * k + i) 0) → ⊥) → all is_timed (moves_of ns) ≡ false
untimed_at [] k i room which not = absurd (omega arith)
untimed_at (a ∷ []) k i room which not = absurd (omega arith)
untimed_at (a ∷ b ∷ []) k i room which not = absurd (omega arith)
untimed_at (a ∷ b ∷ c ∷ []) k i room which not = absurd (omega arith)
untimed_at (a ∷ b ∷ c ∷ d ∷ ns) zero i room (inl one) not =
    let e : 4 * 0 + i ≡ 1 = omega arith in
    first_untimed a b c d ns (rw (time_no b (subst (λ j. InRange (get_or (a ∷ b ∷ c ∷ d ∷ ns) j 0) → ⊥) e not)))
untimed_at (a ∷ b ∷ c ∷ d ∷ ns) zero i room (inr three) not =
    let e : 4 * 0 + i ≡ 3 = omega arith in
    first_untimed a b c d ns (rw (time_no d (subst (λ j. InRange (get_or (a ∷ b ∷ c ∷ d ∷ ns) j 0) → ⊥) e not)) (and_false (is_time b)))
untimed_at (a ∷ b ∷ c ∷ d ∷ ns) (suc k) i room which not =
    let e : 4 * suc k + i ≡ suc (suc (suc (suc (4 * k + i)))) = omega arith in
    rest_untimed a b c d ns (untimed_at ns k i (omega arith) which (subst (λ j. InRange (get_or (a ∷ b ∷ c ∷ d ∷ ns) j 0) → ⊥) e not))

untimed_so : (ns : List ℕ) → OutOfRange ns → all is_timed (moves_of ns) ≡ false
untimed_so ns (settles k room not) = untimed_at ns k 1 room (inl refl) not
untimed_so ns (reads k room not) = untimed_at ns k 3 room (inr refl) not

-- ---- the checks

module _ (ns area : List ℕ) where
  abbrev cs : List Check
  cs = Order.cs ns area

  reason_at : (i r : ℕ) → i < 3 → check_at cs i ≡ refused r → Reason ns area r
  reason_at zero r lt fails = let f = rule_fails _ 30 fails in e030 f.1 (eqb-false (length area) 1600 f.0)
  reason_at (suc zero) r lt fails =
      let f = rule_fails _ 70 fails in e070 f.1 (λ count w. true≢false (sym (whole_counted ns count w) ∙ f.0))
  reason_at (suc (suc zero)) r lt fails = let f = rule_fails _ 71 fails in e071 f.1 (untimed_is ns f.0)
  reason_at (suc (suc (suc i))) r lt fails = absurd (omega arith)

  not_counted : ((count : ℕ) → Whole ns count → ⊥) → is_counted ns ≡ false
  not_counted none = go (is_counted ns) refl
    where
      go : (b : Bool) → is_counted ns ≡ b → is_counted ns ≡ false
      go true e = absurd (none (length ns / 4) (counted_whole ns e))
      go false e = e

  reason_refuses_there : (r : ℕ) → Reason ns area r → check_at cs (place r) ≡ refused r
  unfolding place
  reason_refuses_there r (e030 is ne) = rw is (rule_refuses 30 (ne_eqb (length area) 1600 ne))
  reason_refuses_there r (e070 is none) = rw is (rule_refuses 70 (not_counted none))
  reason_refuses_there r (e071 is out) = rw is (rule_refuses 71 (untimed_so ns out))

  place_there : (i r : ℕ) → i < 3 → check_at cs i ≡ refused r → place r ≡ i
  unfolding place
  place_there zero r lt fails = rw (rule_fails _ 30 fails).1
  place_there (suc zero) r lt fails = rw (rule_fails _ 70 fails).1
  place_there (suc (suc zero)) r lt fails = rw (rule_fails _ 71 fails).1
  place_there (suc (suc (suc i))) r lt fails = absurd (omega arith)

  worded : Worded place itself (Reason ns area) cs
  worded =
      record {
        only = λ i r lt before fails. record { sentence = r; says = reason_at i r lt fails; there = place_there i r lt fails; numbered = refl };
        so = λ r why before. reason_refuses_there r why;
      }

  -- ---- the theorems

  -- "in order": a plan is refused with a number only if the reason of that number holds, and none before it does;
  pub refused_first : (r : ℕ) → planned ns area ≡ refused r → First place (Reason ns area) r
  refused_first r is =
      let f = told_first worded (program_of (moves_of ns)) r (sym (by_checks ns area) ∙ is) in subst (First place (Reason ns area)) f.numbered f.first

  -- and if so, it is refused with that number.
  pub first_refused : (r : ℕ) → First place (Reason ns area) r → planned ns area ≡ refused r
  first_refused r f = by_checks ns area ∙ first_told worded (program_of (moves_of ns)) r f

  -- Where a reason holds, no program is written.
  pub reason_refuses : (r : ℕ) (p : List ℕ) → Reason ns area r → planned ns area ≡ passed p → ⊥
  reason_refuses r p why is = passed_none worded (program_of (moves_of ns)) (sym (by_checks ns area) ∙ is) r why

  -- 0 is no refusal's number.
  pub zero_not_told : planned ns area ≡ refused 0 → ⊥
  zero_not_told is = go (refused_first 0 is).says
    where
      go : Reason ns area 0 → ⊥
      go (e030 z _) = omega arith
      go (e070 z _) = omega arith
      go (e071 z _) = omega arith
