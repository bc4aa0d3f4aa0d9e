-- `lines::end_line` meets its contract: the loop keeps the search from line i on equal to the search asked for.
-- Assumes nothing.
use Rattle.lines.proofs.FirstEnd.{Searching}
use Rattle.lines.proofs.end_line.Given as goal

abbrev pub invariant-loop-i : goal.invariant-loop-i
invariant-loop-i l = Searching l.p l.i
