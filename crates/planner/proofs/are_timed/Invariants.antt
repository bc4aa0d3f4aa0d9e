-- `planner::are_timed` meets its contract: the moves before number k are in their range, so that those from it on decide.
-- Assumes nothing.
use Rattle.planner.proofs.Moves.{TimedFrom}
use Rattle.planner.proofs.are_timed.Given as goal

abbrev pub invariant-loop-k : goal.invariant-loop-k
invariant-loop-k l = TimedFrom l.plan l.k
