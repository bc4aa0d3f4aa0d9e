-- The number that the report tells is the running rule's.
-- Assumes nothing.
use Prim.Native.Nat.{ℕ}
use native.Mathlib.Omega.{arith}
use mathlib.Core.Path.{◌≡◌, refl, sym, ◌∙◌}
use mathlib.Core.List.{List}
use Rattle.formats.specs.Checks.{passed, in_order}
use Rattle.formats.proofs.Checks.{not_passed, passed_same}
use Rattle.formats.proofs.Refusals.{Told, refuses, passes, told}
use Rattle.lines.specs.Loops.{end_line}
use Rattle.duration.specs.Ticks.{run_ticks}
use Rattle.duration.specs.Report.{report}
use Rattle.duration.specs.ByTheRule.{TakesTicks}
use Rattle.duration.proofs.Order.{checks, by_checks, takes_its_lines}

module _ (p : List ℕ) where
  abbrev e : ℕ
  e = end_line p

  -- A program that is not refused takes the ticks that are told: from a start at line 000 it runs until exactly that tick, and there it ends
  -- with event 011.
  pub takes : (n : ℕ) → report p ≡ passed n → TakesTicks p n
  takes n is = go (told (checks p e) (passed (run_ticks p 0 e)))
    where
      go : Told (checks p e) (passed (run_ticks p 0 e)) (in_order (checks p e) (passed (run_ticks p 0 e))) → TakesTicks p n
      go (refuses i r _ _ _ fails) = absurd (not_passed (sym (by_checks p e refl ∙ fails) ∙ is))
      go (passes all so) =
          let number : n ≡ run_ticks p 0 e = passed_same (sym is ∙ by_checks p e refl ∙ so) in
          rw number (takes_its_lines p all (omega arith))
