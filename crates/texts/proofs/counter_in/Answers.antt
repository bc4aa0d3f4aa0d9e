-- `texts::counter_in` meets its contract.
-- Assumes nothing.
use Rattle.std.proofs.Common.{sym}
use native.Mathlib.Omega.{arith}
use borrow.Author.Tests.{le-leb, lt-leb}
use Rattle.formats.specs.Checks.{◌>>=◌, ◌>>◌, ◌or_else◌}
use Rattle.texts.specs.Text.{counter_in}
use Rattle.texts.proofs.counter_in.Goals as goal

pub returns-in_err-c : goal.returns-in_err-c
unfolding counter_in ◌>>=◌ ◌>>◌ ◌or_else◌
returns-in_err-c c = record { counter = rw c.from_residual.ensures (simp (sym (c.in_err-c.ensures.number 3))) }

pub returns-in-1-to-4 : goal.returns-in-1-to-4
unfolding counter_in ◌>>=◌ ◌>>◌ ◌or_else◌
returns-in-1-to-4 c = record { counter = simp (sym (c.in_ok-c.ensures.number 3), le-leb 1 c.in_ok-c.c (omega arith), le-leb c.in_ok-c.c 4 (omega arith)) }

pub returns-in_default : goal.returns-in_default
unfolding counter_in ◌>>=◌ ◌>>◌ ◌or_else◌
returns-in_default c = record { counter = simp (sym (c.in_ok-c.ensures.number 3), lt-leb 1 c.in_ok-c.c (omega arith)) }

pub returns-in_default-2 : goal.returns-in_default-2
unfolding counter_in ◌>>=◌ ◌>>◌ ◌or_else◌
returns-in_default-2 c = record { counter = simp (sym (c.in_ok-c.ensures.number 3), le-leb 1 c.in_ok-c.c (omega arith), lt-leb c.in_ok-c.c 4 (omega arith)) }
