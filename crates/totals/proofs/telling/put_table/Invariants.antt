-- `totals::telling::put_table` meets its contract: the lines of the channels before place i are told.
-- Assumes nothing.
use Rattle.totals.proofs.Table.{Lines}
use Rattle.totals.proofs.telling.put_table.Given as goal

abbrev pub invariant-loop-i : goal.invariant-loop-i
invariant-loop-i l = Lines 4096 l.totals.channels l.totals.beside l.initial.output l.i l.output
