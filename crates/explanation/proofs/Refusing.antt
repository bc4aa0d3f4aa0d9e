-- The refusals: something is refused with a number exactly if that number's reason is the first that applies.
-- Assumes nothing.
use Prim.Native.Nat.{ℕ, zero, suc, ◌<◌}
use native.Mathlib.Omega.{arith}
use mathlib.Core.Path.{◌≡◌, refl, sym, subst, ◌∙◌}
use mathlib.Core.List.{List}
use lib.ListN.{length}
use borrow.Author.Tests.{ltb-false, leb-false, eqb-false, ne_eqb, le-ltb, lt-leb}
use Rattle.formats.specs.Checks.{refused, passed}
use Rattle.formats.specs.Order.{First}
use Rattle.formats.proofs.Checks.{rule_refuses, rule_fails}
use Rattle.formats.proofs.Refusals.{Check, check_at, Worded, told_first, first_told, passed_none}
use Rattle.std.specs.Prelude.{Option}
use Rattle.explanation.specs.declared.Stop.{Stop}
use Rattle.explanation.specs.Report.{most_limit, report}
use Rattle.explanation.proofs.Order.{cs, value, by_checks}
use Rattle.explanation.specs.Reasons.{Reason, e030, e060, e061, place}

-- a refusal is named by its number
abbrev itself : ℕ → ℕ
itself r = r

module _ (p : List ℕ) (k limit : ℕ) where
  abbrev ours : List Check
  ours = cs p k limit

  -- ---- each check has its reason

  reason_at : (i r : ℕ) → i < 3 → check_at ours i ≡ refused r → Reason p k limit r
  reason_at zero r lt fails = let f = rule_fails _ 30 fails in e030 f.1 (eqb-false (length p) 1600 f.0)
  reason_at (suc zero) r lt fails = let f = rule_fails _ 60 fails in e060 f.1 (omega (arith, ltb-false k 200 f.0))
  reason_at (suc (suc zero)) r lt fails = let f = rule_fails _ 61 fails in e061 f.1 (leb-false limit most_limit f.0)
  reason_at (suc (suc (suc i))) r lt fails = absurd (omega arith)

  reason_refuses_there : (r : ℕ) → Reason p k limit r → check_at ours (place r) ≡ refused r
  unfolding place
  reason_refuses_there r (e030 is ne) = rw is (rule_refuses 30 (ne_eqb (length p) 1600 ne))
  reason_refuses_there r (e060 is above) = rw is (rule_refuses 60 (le-ltb k 200 (omega arith)))
  reason_refuses_there r (e061 is above) = rw is (rule_refuses 61 (lt-leb limit most_limit above))

  place_there : (i r : ℕ) → i < 3 → check_at ours i ≡ refused r → place r ≡ i
  unfolding place
  place_there zero r lt fails = rw (rule_fails _ 30 fails).1
  place_there (suc zero) r lt fails = rw (rule_fails _ 60 fails).1
  place_there (suc (suc zero)) r lt fails = rw (rule_fails _ 61 fails).1
  place_there (suc (suc (suc i))) r lt fails = absurd (omega arith)

  worded : Worded place itself (Reason p k limit) ours
  worded =
      record {
        only = λ i r lt all fails. record { sentence = r; says = reason_at i r lt fails; there = place_there i r lt fails; numbered = refl };
        so = λ r why all. reason_refuses_there r why;
      }

  -- ---- the theorems

  -- "in order": it is refused with a number only if the reason of that number holds, and none before it does;
  pub refused_first : (r : ℕ) → report p k limit ≡ refused r → First place (Reason p k limit) r
  refused_first r is =
      let f = told_first worded (value p k limit) r (sym (by_checks p k limit) ∙ is) in subst (First place (Reason p k limit)) f.numbered f.first

  -- and if so, it is refused with that number.
  pub first_refused : (r : ℕ) → First place (Reason p k limit) r → report p k limit ≡ refused r
  first_refused r f = by_checks p k limit ∙ first_told worded (value p k limit) r f

  -- Where a reason holds, nothing is told of the program.
  pub reason_refuses : (r : ℕ) (a : Option Stop) → Reason p k limit r → report p k limit ≡ passed a → ⊥
  reason_refuses r a why is = passed_none worded (value p k limit) (sym (by_checks p k limit) ∙ is) r why

  -- 0 is no refusal's number.
  pub zero_not_told : report p k limit ≡ refused 0 → ⊥
  zero_not_told is = go (refused_first 0 is).says
    where
      go : Reason p k limit 0 → ⊥
      go (e030 z _) = omega arith
      go (e060 z _) = omega arith
      go (e061 z _) = omega arith
