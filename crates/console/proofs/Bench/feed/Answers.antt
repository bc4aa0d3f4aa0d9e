-- `console::Bench::feed` meets its contract: the bytes so far have done what they do.
-- Assumes nothing.
use Rattle.console.proofs.Inputs.{does_nothing, one_more, ends_there}
use borrow.Author.Rules.{rules}
use Rattle.console.proofs.Bench.feed.Goals as goal

pub loop-x-init : goal.loop-x-init
loop-x-init c = does_nothing _ _

pub returns-then-not-take : goal.returns-then-not-take
returns-then-not-take c = record { feeds = ends_there _ _ c.loop-x.invariant (search rules) c.take.ensures.takes (search rules) }

pub loop-x-preserved : goal.loop-x-preserved
loop-x-preserved c = one_more _ _ c.loop-x.invariant (search rules) c.take.ensures.takes.does
