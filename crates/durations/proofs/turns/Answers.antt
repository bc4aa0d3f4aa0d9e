-- `durations::turns` meets its contract: so many turns were made, each of which told a piece.
-- Assumes nothing.
use Rattle.durations.proofs.Going.{going_none, going_on}
use borrow.Author.Rules.{rules}
use Rattle.durations.proofs.turns.Goals as goal

pub loop-turn-init : goal.loop-turn-init
loop-turn-init c = going_none c.requires.0 c.requires.1

pub loop-turn-preserved : goal.loop-turn-preserved
loop-turn-preserved c = going_on c.loop-turn.invariant c.turn.ensures.turns (search rules)
