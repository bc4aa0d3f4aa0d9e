-- `explanation::followed` meets its contract: each turn follows the run to the next tick at which a line falls due.
-- Assumes nothing.
use Prim.Native.Nat.{◌-◌}
use Rattle.explanation.proofs.Following.{Followed}
use Rattle.explanation.proofs.followed.Given as goal

abbrev pub invariant-loop-ran : goal.invariant-loop-ran
invariant-loop-ran l = Followed l.p l.k l.limit l.held l.ran l.tick

abbrev pub decreases-loop-ran : goal.decreases-loop-ran
decreases-loop-ran l = l.limit - l.tick
