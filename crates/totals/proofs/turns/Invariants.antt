-- `totals::turns` meets its contract: the logs of the arguments below number i are brought forward.
-- Assumes nothing.
use Prim.Native.Nat.{◌-◌, ◌≤◌}
use Rattle.totals.proofs.Chains.{Going}
use Rattle.totals.proofs.turns.Given as goal

abbrev pub invariant-loop-i : goal.invariant-loop-i
invariant-loop-i l = Going l.i l.totals × (l.i - 1 ≤ l.count - 1)
