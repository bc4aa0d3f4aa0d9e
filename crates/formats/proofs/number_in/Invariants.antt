-- `formats::number_in` meets its contract: after i characters the number read so far is theirs.
-- Assumes nothing.
use Rattle.formats.proofs.Loops.{Read}
use Rattle.formats.proofs.number_in.Given as goal

abbrev pub invariant-loop-c : goal.invariant-loop-c
invariant-loop-c l = Read l.base l.cs l.c-index l.v
