-- `channels::gains::walked` meets its contract: the outer loop keeps what the records so far bring, the inner one which bits are still to be gone through.
-- Assumes nothing.
use Rattle.channels.proofs.Walking.{Walks, Bits}
use Rattle.channels.proofs.gains.walked.Given as goal

abbrev pub invariant-loop-altered : goal.invariant-loop-altered
invariant-loop-altered l = Bits l.log l.k l.initial.gains l.word l.next l.gains l.altered

abbrev pub decreases-loop-altered : goal.decreases-loop-altered
decreases-loop-altered l = l.altered

abbrev pub invariant-loop-k : goal.invariant-loop-k
invariant-loop-k l = Walks l.log l.n l.initial.gains l.initial.word l.gains l.word l.k
