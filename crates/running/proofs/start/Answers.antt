-- `running::start` meets its contract: the run that a start begins with has the invariant.
-- Assumes nothing.
use mathlib.Core.Path.{◌∙◌}
use Rattle.running.specs.Running.{start}
use Rattle.running.proofs.start.Goals as goal

pub returns : goal.returns
unfolding start
returns c = record { ran = c.run_due.ensures.ran ∙ simp c.begun.ensures.run }
