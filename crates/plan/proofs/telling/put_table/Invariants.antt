-- `plan::telling::put_table` meets its contract: the lines of the moves before number k are told.
-- Assumes nothing.
use Prim.Native.Nat.{◌*◌, ◌≤◌}
use Rattle.plan.proofs.Table.{Tells}
use Rattle.plan.proofs.telling.put_table.Given as goal

abbrev pub invariant-loop-k : goal.invariant-loop-k
invariant-loop-k l = Tells 4096 l.plan l.initial.output l.k l.at l.output × (l.at ≤ 8589934592 * l.k)
