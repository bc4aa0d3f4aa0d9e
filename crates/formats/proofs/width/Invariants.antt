-- `formats::width` meets its contract. The invariant of its loop: n digits are counted, and `rest` is what stands before them. The measure is `rest`.
-- Assumes nothing.
use Rattle.formats.proofs.Decimals.{Counted}
use Rattle.formats.proofs.width.Given as goal

abbrev pub invariant-loop-rest : goal.invariant-loop-rest
invariant-loop-rest l = Counted l.v l.n l.rest

abbrev pub decreases-loop-rest : goal.decreases-loop-rest
decreases-loop-rest l = l.rest
