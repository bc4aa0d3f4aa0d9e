-- `totals::telling::put_table` meets its contract: the lines of the channels before place i are told.
-- Assumes nothing.
use Rattle.channels.specs.Totals.{unused}
use mathlib.Core.Path.{refl}
use native.Mathlib.Omega.{arith}
use Rattle.totals.proofs.Table.{table_on, table_over}
use Rattle.totals.proofs.telling.put_table.Goals as goal

pub loop-i-preserved : goal.loop-i-preserved
loop-i-preserved c = table_on c.loop-i.invariant _ unused (omega arith) refl c.put_channel.ensures.follows

pub returns : goal.returns
returns c = record { follows = table_over c.loop-i.invariant (omega arith) c.put_unknown.ensures.follows }
