-- `console::Bench::turns` meets its contract: so many turns were made, in each of which a byte came.
-- Assumes nothing.
use Rattle.console.proofs.Inputs.{Turned}
use Rattle.console.proofs.Bench.turns.Given as goal

abbrev pub invariant-loop-turn : goal.invariant-loop-turn
invariant-loop-turn l = Turned 4096 l._turn l.self l.output
