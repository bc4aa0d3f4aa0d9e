-- `totals::turns` meets its contract: the logs of the arguments below number i are brought forward.
-- Assumes nothing.
use Rattle.totals.proofs.Chains.{going_none, going_on}
use native.Mathlib.Omega.{arith}
use borrow.Author.Rules.{rules}
use Rattle.totals.proofs.turns.Goals as goal

pub loop-i-init : goal.loop-i-init
loop-i-init c = (rw c.requires going_none, omega arith)

pub loop-i-preserved : goal.loop-i-preserved
loop-i-preserved c = (going_on c.loop-i.invariant.0 c.turn.new.log (search rules), omega (arith, c.loop-i-test.true))
