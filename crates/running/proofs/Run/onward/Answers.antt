-- `running::Run::onward` meets its contract: by the test of the line.
-- Assumes nothing.
use borrow.Author.Tests.{lt-ltb, le-ltb}
use Rattle.running.specs.Running.{onward}
use Rattle.running.proofs.Run.onward.Goals as goal

pub returns-then-self-lt199 : goal.returns-then-self-lt199
unfolding onward
returns-then-self-lt199 c = record { step = simp (lt-ltb _ _ c.if-self-lt199.true) }

pub returns : goal.returns
unfolding onward
returns c = record { step = simp (le-ltb _ _ c.if-self-lt199.false) }
