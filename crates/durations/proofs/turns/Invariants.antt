-- `durations::turns` meets its contract: so many turns were made, each of which told a piece.
-- Assumes nothing.
use Rattle.durations.proofs.Going.{Going}
use Rattle.durations.proofs.turns.Given as goal

abbrev pub invariant-loop-turn : goal.invariant-loop-turn
invariant-loop-turn l = Going 4096 l._turn l.output l.total
