-- `duration::nesting::walked` meets its contract: up to line i every For is met, and no tangle (`Walking`).
-- Assumes nothing.
use mathlib.Core.Path.{◌∙◌}
use native.Mathlib.Omega.{arith}
use Rattle.duration.proofs.Walking.{walk_begins, walk_done, walk_found, walk_on}
use Rattle.duration.proofs.nesting.walked.Goals as goal

pub loop-i-init : goal.loop-i-init
loop-i-init c = walk_begins _

pub returns-in_err-nexts : goal.returns-in_err-nexts
returns-in_err-nexts c =
    record {
      walk = c.from_residual.ensures
          ∙ walk_found _ _ _ _ c.loop-i.invariant c.requires.1 _ c.loop-i-test.true c.walk_line.ensures.walk c.in_err-nexts.was;
    }

pub loop-i-preserved : goal.loop-i-preserved
loop-i-preserved c =
    walk_on _ _ _ _ c.loop-i.invariant c.requires.1 _ c.loop-i-test.true c.walk_line.ensures.walk _ c.in_ok-nexts.was

pub returns : goal.returns
returns c = record { walk = walk_done _ _ _ _ c.loop-i.invariant c.requires.1 (omega (arith, c.loop-i.auto.i-end, c.loop-i-test.false)) }
