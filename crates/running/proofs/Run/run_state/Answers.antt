-- `running::Run::run_state` meets its contract: by the test of the time.
-- Assumes nothing.
use borrow.Author.Tests.{eq-eqb, ne_eqb}
use Rattle.running.specs.Running.{run_line}
use Rattle.running.proofs.Run.run_state.Goals as goal

pub returns-then-time-eq0 : goal.returns-then-time-eq0
unfolding run_line
returns-then-time-eq0 c = record { step = simp (eq-eqb _ _ c.if-time-eq0.true) }

pub returns : goal.returns
unfolding run_line
returns c = record { step = simp (ne_eqb _ _ c.if-time-eq0.false) }
