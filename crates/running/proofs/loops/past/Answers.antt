-- `running::loops::past` meets its contract: by the test of the line.
-- Assumes nothing.
use borrow.Author.Tests.{lt-ltb, le-ltb}
use Rattle.running.specs.Running.{onward}
use Rattle.running.proofs.loops.past.Goals as goal

pub returns-then-k-lt199 : goal.returns-then-k-lt199
unfolding onward
returns-then-k-lt199 c = record { turn = λ _ _. simp (lt-ltb _ _ c.if-k-lt199.true) }

pub returns : goal.returns
unfolding onward
returns c = record { turn = λ _ _. simp (c.ended.ensures.turn, le-ltb _ _ c.if-k-lt199.false) }
