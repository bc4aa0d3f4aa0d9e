-- `console::Bench::feed` meets its contract: the bytes so far have done what they do.
-- Assumes nothing.
use lib.ListN.{take}
use Rattle.console.specs.Inputs.{calls_of, Does}
use Rattle.console.proofs.Bench.feed.Given as goal

abbrev pub invariant-loop-x : goal.invariant-loop-x
invariant-loop-x l = Does 4096 (calls_of (take l.x-index l.input)) l.initial.self l.initial.output l.self l.output
