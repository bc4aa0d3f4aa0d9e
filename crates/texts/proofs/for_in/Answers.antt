-- `texts::for_in` meets its contract, part by part.
-- Assumes nothing.
use Rattle.std.proofs.Common.{sym}
use native.Mathlib.Omega.{arith}
use borrow.Author.Rules.{rules}
use Rattle.formats.specs.Checks.{◌>>=◌}
use Rattle.texts.specs.Text.{for_in}
use Rattle.texts.proofs.LinesRead.{time_fits}
use Rattle.texts.proofs.for_in.Goals as goal

pub returns-in_err-counter : goal.returns-in_err-counter
unfolding for_in ◌>>=◌
returns-in_err-counter c = record { line = rw c.from_residual.ensures (simp (sym c.in_err-counter.ensures.counter)) }

pub returns-in_err-count : goal.returns-in_err-count
unfolding for_in ◌>>=◌
returns-in_err-count c =
    record { line = rw c.from_residual-in_err-count.ensures (simp (sym c.in_ok-counter.ensures.counter, sym (c.in_err-count.ensures.number 3))) }

pub overflow_cast-count : goal.overflow_cast-count
overflow_cast-count c = omega (arith, time_fits 2 c.in_ok-count.field-0 c.args.cs.now (search rules) (sym (c.in_ok-count.ensures.number 3)))

pub returns : goal.returns
unfolding for_in ◌>>=◌
returns c = record { line = simp (sym c.in_ok-counter.ensures.counter, sym (c.in_ok-count.ensures.number 3)) }
