-- The refusals: a program is refused with a number exactly if that number's reason is the first that applies.
-- Assumes nothing.
use Prim.Native.Nat.{ℕ, zero, suc, ◌<◌}
use native.Mathlib.Omega.{arith}
use mathlib.Core.Path.{◌≡◌, refl, sym, ap, subst, ◌∙◌}
use mathlib.Core.Bool.{not}
use mathlib.Core.List.{List}
use lib.ListN.{length}
use borrow.Author.Tests.{ltb-false, leb-false, eqb-false, ne_eqb, le-ltb, lt-leb, not-false}
use Rattle.formats.specs.Checks.{refused, passed}
use Rattle.formats.specs.Order.{First}
use Rattle.formats.proofs.Checks.{rule_refuses, rule_fails}
use Rattle.formats.proofs.Refusals.{Check, check_at, Before, Worded, told_first, first_told, passed_none}
use Rattle.lines.specs.Loops.{End, end_line}
use Rattle.lines.proofs.FirstEnd.{none_before_lem, end_alone, end_beyond}
use Rattle.running.specs.Running.{start}
use Rattle.running.proofs.Reaching.{one_number}
use Rattle.duration.specs.Ticks.{run_ticks}
use Rattle.duration.specs.Report.{most_ticks, report}
use Rattle.duration.specs.Reasons.{Tangled, EndInside, Idle, BadBefore, Reason, e030, e042, e040, e041, e044, e014, e043, place}
use Rattle.duration.proofs.Order.{checks, by_checks, the_end, not_tangled, outside, takes_its_lines}
use Rattle.duration.proofs.Reasons.{tangled_only, tangled_so, inside_only, inside_so, idle_only, idle_so, bad_only, bad_so}

-- a refusal is named by its number
abbrev itself : ℕ → ℕ
itself r = r

module _ (p : List ℕ) where
  abbrev e : ℕ
  e = end_line p

  abbrev cs : List Check
  cs = checks p e

  -- ---- a check that is the first to refuse has its reason

  reason_at : (i r : ℕ) → i < 7 → Before cs i → check_at cs i ≡ refused r → Reason p r
  reason_at zero r lt all fails = let f = rule_fails _ 30 fails in e030 f.1 (eqb-false (length p) 1600 f.0)
  reason_at (suc zero) r lt all fails =
      let f = rule_fails _ 42 fails in e042 f.1 λ k o up. none_before_lem p k o (omega (arith, ltb-false e 200 f.0))
  reason_at (suc (suc zero)) r lt all fails =
      let f = rule_fails _ 40 fails in
      let end = the_end p all (omega arith) in
      e040 f.1 end (tangled_only p e end.in_program (not-false _ f.0))
  reason_at (suc (suc (suc zero))) r lt all fails =
      let f = rule_fails _ 41 fails in
      let end = the_end p all (omega arith) in
      e041 f.1 end (inside_only p e end.in_program (not_tangled p all (omega arith)) (not-false _ f.0))
  reason_at (suc (suc (suc (suc zero)))) r lt all fails =
      let f = rule_fails _ 44 fails in
      let end = the_end p all (omega arith) in
      e044 f.1 end (idle_only p e end.in_program (not_tangled p all (omega arith)) (outside p all (omega arith)) (not-false _ f.0))
  reason_at (suc (suc (suc (suc (suc zero))))) r lt all fails =
      let f = rule_fails _ 14 fails in
      let end = the_end p all (omega arith) in
      e014 f.1 end (bad_only p e end.in_program (not-false _ f.0))
  reason_at (suc (suc (suc (suc (suc (suc zero)))))) r lt all fails =
      let f = rule_fails _ 43 fails in
      e043 f.1 (leb-false (run_ticks p 0 e) most_ticks f.0) (takes_its_lines p all (omega arith))
  reason_at (suc (suc (suc (suc (suc (suc (suc i))))))) r lt all fails = absurd (omega arith)

  -- ---- a reason has its check, at its place, which refuses

  -- the end that a reason speaks of is the first such line
  module _ {k : ℕ} (end : End p k) where
    at_the_end : (P : ℕ → Type 0) → P k → P e
    at_the_end P so = subst P (end_alone p k end) so

    in_program_lem : e < 200
    in_program_lem = at_the_end (λ j. j < 200) end.in_program

  reason_refuses_there : (r : ℕ) → Reason p r → Before cs (place r) → check_at cs (place r) ≡ refused r
  unfolding place
  reason_refuses_there r (e030 is ne) all = rw is (rule_refuses 30 (ne_eqb (length p) 1600 ne))
  reason_refuses_there r (e042 is none) all = rw is (rule_refuses 42 (le-ltb e 200 (end_beyond p none)))
  reason_refuses_there r (e040 is end t) all = rw is (rule_refuses 40 (ap not (tangled_so p e (in_program_lem end) (at_the_end end (Tangled p) t))))
  reason_refuses_there r (e041 is end t) all = rw is (rule_refuses 41 (ap not (inside_so p e (in_program_lem end) (at_the_end end (EndInside p) t))))
  reason_refuses_there r (e044 is end t) all = rw is (rule_refuses 44 (ap not (idle_so p e (in_program_lem end) (at_the_end end (Idle p) t))))
  reason_refuses_there r (e014 is end t) all = rw is (rule_refuses 14 (ap not (bad_so p e (in_program_lem end) (at_the_end end (BadBefore p) t))))
  reason_refuses_there r (e043 {n = n} is more t) all =
      let six : Before cs 6 = rw is at all in
      let one : n ≡ run_ticks p 0 e = one_number p n (run_ticks p 0 e) (start p 0 0) (t 0) (takes_its_lines p six (omega arith) 0) in
      rw is (rule_refuses 43 (lt-leb (run_ticks p 0 e) most_ticks (omega arith)))

  place_there : (i r : ℕ) → i < 7 → check_at cs i ≡ refused r → place r ≡ i
  unfolding place
  place_there zero r lt fails = rw (rule_fails _ 30 fails).1
  place_there (suc zero) r lt fails = rw (rule_fails _ 42 fails).1
  place_there (suc (suc zero)) r lt fails = rw (rule_fails _ 40 fails).1
  place_there (suc (suc (suc zero))) r lt fails = rw (rule_fails _ 41 fails).1
  place_there (suc (suc (suc (suc zero)))) r lt fails = rw (rule_fails _ 44 fails).1
  place_there (suc (suc (suc (suc (suc zero))))) r lt fails = rw (rule_fails _ 14 fails).1
  place_there (suc (suc (suc (suc (suc (suc zero)))))) r lt fails = rw (rule_fails _ 43 fails).1
  place_there (suc (suc (suc (suc (suc (suc (suc i))))))) r lt fails = absurd (omega arith)

  worded : Worded place itself (Reason p) cs
  worded =
      record {
        only = λ i r lt all fails. record { sentence = r; says = reason_at i r lt all fails; there = place_there i r lt fails; numbered = refl };
        so = reason_refuses_there;
      }

  -- ---- the theorems

  -- "first that applies": a program is refused with a number only if the reason of that number holds of it, and none before it does;
  pub refused_first : (r : ℕ) → report p ≡ refused r → First place (Reason p) r
  refused_first r is =
      let f = told_first worded (run_ticks p 0 e) r (sym (by_checks p e refl) ∙ is) in subst (First place (Reason p)) f.numbered f.first

  -- and if so, it is refused with that number.
  pub first_refused : (r : ℕ) → First place (Reason p) r → report p ≡ refused r
  first_refused r f = by_checks p e refl ∙ first_told worded (run_ticks p 0 e) r f

  -- A program that has a reason is refused.
  pub reason_refuses : (r n : ℕ) → Reason p r → report p ≡ passed n → ⊥
  reason_refuses r n why is = passed_none worded (run_ticks p 0 e) (sym (by_checks p e refl) ∙ is) r why

  -- 0 is no refusal's number.
  pub zero_not_told : report p ≡ refused 0 → ⊥
  zero_not_told is = go (refused_first 0 is).says
    where
      go : Reason p 0 → ⊥
      go (e030 z _) = omega arith
      go (e042 z _) = omega arith
      go (e040 z _ _) = omega arith
      go (e041 z _ _) = omega arith
      go (e044 z _ _) = omega arith
      go (e014 z _ _) = omega arith
      go (e043 z _ _) = omega arith
