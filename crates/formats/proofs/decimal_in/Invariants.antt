-- `formats::decimal_in` meets its contract: after i characters the number kept is theirs, or the largest.
-- Assumes nothing.
use Rattle.formats.proofs.Decimals.{Kept}
use Rattle.formats.proofs.decimal_in.Given as goal

abbrev pub invariant-loop-c : goal.invariant-loop-c
invariant-loop-c l = Kept l.cs l.c-index l.worth
