-- `trials::sum` is safe: a sum stays small.
-- Assumes nothing.
use Prim.Native.Nat.{◌<◌}
use Rattle.trials.proofs.sum.Given as goal

abbrev pub invariant-loop-b : goal.invariant-loop-b
invariant-loop-b l = l.h < 65521
