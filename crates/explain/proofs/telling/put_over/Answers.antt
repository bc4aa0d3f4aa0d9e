-- `explain::telling::put_over` meets its contract: piece by piece.
-- Assumes nothing.
use Rattle.formats.specs.Checks.{text}
use Rattle.explain.specs.Telling.{reason}
use Rattle.streams.proofs.Following.{follows_more}
use borrow.Author.Rules.{rules}
use Rattle.explain.proofs.telling.put_over.Goals as goal

pub returns : goal.returns
unfolding reason text
returns c = record { follows = search (rules, follows_more) }
