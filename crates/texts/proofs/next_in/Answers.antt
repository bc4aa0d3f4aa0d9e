-- `texts::next_in` meets its contract.
-- Assumes nothing.
use Rattle.std.proofs.Common.{sym}
use Rattle.formats.specs.Checks.{◌>>=◌}
use Rattle.texts.specs.Text.{next_in}
use Rattle.texts.proofs.next_in.Goals as goal

pub returns-in_err-counter : goal.returns-in_err-counter
unfolding next_in ◌>>=◌
returns-in_err-counter c = record { line = rw c.from_residual.ensures (simp (sym c.in_err-counter.ensures.counter)) }

pub returns : goal.returns
unfolding next_in ◌>>=◌
returns c = record { line = simp (sym c.in_ok-counter.ensures.counter) }
