-- `duration::sums::sequence` and `duration::sums::looped`, which call each other: a call is for fewer lines than the call in which it stands. The loop of
-- `sequence` keeps what is summed up to line i, with the rest, equal to the whole sum (`Summed`).
use Prim.Native.Nat.{◌-◌}
use Rattle.duration.proofs.Summing.{Summed}
use Rattle.duration.proofs.sums.+looped_sequence.Given as goal

abbrev pub decreases-looped : goal.decreases-looped
decreases-looped l = l.n - l.at

abbrev pub decreases-sequence : goal.decreases-sequence
decreases-sequence l = l.end - l.at

abbrev pub invariant-sequence-loop-i : goal.invariant-sequence-loop-i
invariant-sequence-loop-i l = Summed l.p l.at l.end l.i l.sum

abbrev pub decreases-sequence-loop-i : goal.decreases-sequence-loop-i
decreases-sequence-loop-i l = l.end - l.i
