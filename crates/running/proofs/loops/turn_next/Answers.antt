-- `running::loops::turn_next` meets its contract: each way out by its tests.
-- Assumes nothing.
use mathlib.Core.Path.{ap, ◌∙◌}
use borrow.Author.Tests.{ne_eqb, lt-ltb, le-ltb}
use Rattle.running.specs.Running.{run_line}
use Rattle.running.specs.Turn.{turned}
use Rattle.running.proofs.Turns.{stays}
use Rattle.running.proofs.loops.turn_next.Goals as goal

pub returns-then-rounds-eq0 : goal.returns-then-rounds-eq0
unfolding run_line
returns-then-rounds-eq0 c = record { turn = λ d s at is. ap (λ t. turned d t s) c.ended.ensures.turn ∙ stays d s at is ∙ simp (is, c.if-rounds-eq0.true) }

pub returns-then-left-gt0 : goal.returns-then-left-gt0
unfolding run_line
returns-then-left-gt0 c = record { turn = λ _ s at is. simp (is, ne_eqb _ _ c.if-rounds-eq0.false, lt-ltb _ _ c.if-left-gt0.true) }

pub returns : goal.returns
unfolding run_line
returns c = record { turn = λ _ s at is. c.past.ensures.turn _ s ∙ simp (at, is, c.free.ensures.free, ne_eqb _ _ c.if-rounds-eq0.false, le-ltb _ _ c.if-left-gt0.false) }
