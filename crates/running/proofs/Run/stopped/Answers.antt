-- `running::Run::stopped` meets its contract: the struct is the definition's record.
-- Assumes nothing.
use Rattle.running.specs.Running.{stopped}
use Rattle.running.proofs.Run.stopped.Goals as goal

pub returns : goal.returns
unfolding stopped
returns c = record { run = simp c.all_free.ensures.free }
