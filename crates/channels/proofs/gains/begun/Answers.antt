-- `channels::gains::begun` meets its contract.
-- Assumes nothing.
use Rattle.channels.proofs.Switching.{begins}
use Rattle.channels.proofs.gains.begun.Goals as goal

pub returns : goal.returns
returns c = record { begun = begins c.args.tick }
