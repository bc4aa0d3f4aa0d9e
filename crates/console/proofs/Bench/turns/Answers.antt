-- `console::Bench::turns` meets its contract: so many turns were made, in each of which a byte came.
-- Assumes nothing.
use Rattle.console.proofs.Inputs.{none_turned, turn_more, turn_ends}
use borrow.Author.Rules.{rules}
use Rattle.console.proofs.Bench.turns.Goals as goal

pub loop-turn-init : goal.loop-turn-init
loop-turn-init c = none_turned c.requires.0 c.requires.1

pub returns-then-not-turn : goal.returns-then-not-turn
returns-then-not-turn c = record { ends = turn_ends c.loop-turn.invariant c.turn.ensures.turns (search rules) }

pub loop-turn-preserved : goal.loop-turn-preserved
loop-turn-preserved c = turn_more c.loop-turn.invariant c.turn.ensures.turns (search rules)
