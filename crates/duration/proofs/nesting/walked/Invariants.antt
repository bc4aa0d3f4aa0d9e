-- `duration::nesting::walked` meets its contract: up to line i every For is met, and no tangle (`Walking`).
-- Assumes nothing.
use Rattle.duration.proofs.Walking.{Walking}
use Rattle.duration.proofs.nesting.walked.Given as goal

abbrev pub invariant-loop-i : goal.invariant-loop-i
invariant-loop-i l = Walking l.p l.i l.nexts
