-- `streams::Output::put` meets its contract, in its three ways.
-- Assumes nothing.
use Rattle.streams.specs.Gathering.{waits_after}
use Rattle.streams.proofs.Gathering.{puts_behind, puts_alone, puts_out}
use borrow.Author.Rules.{rules}
use Rattle.streams.proofs.Output.put.Goals as goal

pub returns-then-bytes-self-clause-puts : goal.returns-then-bytes-self-clause-puts
returns-then-bytes-self-clause-puts g c = search (rules, puts_behind)

pub returns-then-bytes-clause-puts : goal.returns-then-bytes-clause-puts
returns-then-bytes-clause-puts g c = search (rules, puts_alone)

pub returns-then-self-clause-puts : goal.returns-then-self-clause-puts
unfolding waits_after
returns-then-self-clause-puts g c = search (rules, puts_out)

pub returns-else-self-clause-puts : goal.returns-else-self-clause-puts
returns-else-self-clause-puts g c = search (rules, puts_out)
