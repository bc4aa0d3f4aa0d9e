-- `streams::Output::append` meets its contract: behind what is gathered there are zeros again.
-- Assumes nothing.
use Rattle.streams.proofs.Behind.{behind_more}
use borrow.Author.Rules.{rules}
use Rattle.streams.proofs.Output.append.Goals as goal

pub invariant_of-self : goal.invariant_of-self
invariant_of-self g c = behind_more _ _ c.self.invariant (search rules) (search rules) (search rules)
