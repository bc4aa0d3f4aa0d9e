-- `console::Bench::hear` meets its contract: what a read gave is fed, and none is the end.
-- Assumes nothing.
use Rattle.console.proofs.Inputs.{nothing_heard, some_heard}
use Rattle.console.proofs.Bench.hear.Goals as goal

pub returns-then-n-eq0 : goal.returns-then-n-eq0
returns-then-n-eq0 c = record { hears = nothing_heard c.if-n-eq0.true }

pub returns : goal.returns
returns c = record { hears = some_heard c.requires c.if-n-eq0.false c.feed.ensures.feeds }
