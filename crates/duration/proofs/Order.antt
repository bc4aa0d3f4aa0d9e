-- The report as seven checks in their order, and what each of them says.
-- Assumes nothing.
use Prim.Native.Nat.{ℕ, ◌<◌}
use native.Mathlib.Omega.{arith}
use mathlib.Core.Path.{◌≡◌, sym, ap, ◌∙◌}
use mathlib.Core.Bool.{false, not}
use mathlib.Core.List.{List, [], ◌∷◌}
use lib.Dec.{ltb, leb}
use borrow.Author.Tests.{ltb-true, not-true}
use Rattle.formats.specs.Checks.{refused, passed, ◌>>◌, ◌or_else◌, in_order}
use Rattle.formats.proofs.Checks.{rule_holds}
use Rattle.formats.proofs.Refusals as Refusals
use Rattle.formats.proofs.Refusals.{Check, check_at, Before}
use Rattle.lines.specs.Program.{is_program}
use Rattle.lines.specs.Loops.{End, end_line}
use Rattle.lines.proofs.FirstEnd.{end_is}
use Rattle.duration.specs.Loops.{is_tangled, ends_inside}
use Rattle.duration.specs.Ticks.{run_ticks, idles, has_bad}
use Rattle.duration.specs.Report.{most_ticks, report_to, report}
use Rattle.duration.specs.ByTheRule.{TakesTicks}
use Rattle.duration.proofs.Number.{takes_so}

module _ (p : List ℕ) (e : ℕ) where
  -- where e is the line of the end
  abbrev pub checks : List Check
  checks =
      (is_program p or_else 30)
      ∷ (ltb e 200 or_else 42)
      ∷ (not (is_tangled p e) or_else 40)
      ∷ (not (ends_inside p e) or_else 41)
      ∷ (not (idles p e) or_else 44)
      ∷ (not (has_bad p e) or_else 14)
      ∷ (leb (run_ticks p 0 e) most_ticks or_else 43)
      ∷ []

  module _ (end : e ≡ end_line p) where
    pub by_checks : report p ≡ in_order checks (passed (run_ticks p 0 e))
    unfolding report report_to in_order
    by_checks = ap (λ k. (is_program p or_else 30) >> report_to p k) (sym end)

    -- the first that refuses is told
    pub told_at : (i r : ℕ) → Before checks i → check_at checks i ≡ refused r → report p ≡ refused r
    told_at i r before fails = by_checks ∙ Refusals.told_at checks (passed (run_ticks p 0 e)) i r before fails

    pub told_well : Before checks 7 → report p ≡ passed (run_ticks p 0 e)
    told_well all = by_checks ∙ Refusals.told_well checks (passed (run_ticks p 0 e)) all

-- ---- what the checks say, each behind those before it

module _ (p : List ℕ) where
  abbrev e : ℕ
  e = end_line p

  pub the_end : {n : ℕ} → Before (checks p e) n → 1 < n → End p e
  the_end all lt = end_is p (ltb-true e 200 (rule_holds (ltb e 200) 42 (all 1 lt)))

  module _ {n : ℕ} (all : Before (checks p e) n) where
    pub not_tangled : 2 < n → is_tangled p e ≡ false
    not_tangled lt = not-true _ (rule_holds (not (is_tangled p e)) 40 (all 2 lt))

    pub outside : 3 < n → ends_inside p e ≡ false
    outside lt = not-true _ (rule_holds (not (ends_inside p e)) 41 (all 3 lt))

    pub moving : 4 < n → idles p e ≡ false
    moving lt = not-true _ (rule_holds (not (idles p e)) 44 (all 4 lt))

    pub well : 5 < n → has_bad p e ≡ false
    well lt = not-true _ (rule_holds (not (has_bad p e)) 14 (all 5 lt))

    -- where all before 043 pass, the program takes as many ticks as its lines do
    pub takes_its_lines : 5 < n → TakesTicks p (run_ticks p 0 e)
    takes_its_lines lt =
        takes_so p e (the_end all (omega arith)) (not_tangled (omega arith)) (outside (omega arith)) (moving (omega arith)) (well lt)
