-- `texts::state_in` meets its contract, part by part.
-- Assumes nothing.
use Rattle.std.proofs.Common.{sym}
use borrow.Author.Tests.{eq-eqb, ne_eqb}
use native.Mathlib.Omega.{arith}
use borrow.Author.Rules.{rules}
use Rattle.formats.specs.Checks.{◌>>=◌, ◌>>◌, ◌or_else◌}
use Rattle.texts.specs.Text.{state_in}
use Rattle.texts.proofs.LinesRead.{time_fits}
use Rattle.texts.proofs.state_in.Goals as goal

pub returns-in_err-reserved : goal.returns-in_err-reserved
unfolding state_in ◌>>=◌ ◌>>◌ ◌or_else◌
returns-in_err-reserved c = record { line = rw c.from_residual.ensures (simp (sym (c.in_err-reserved.ensures.number 3))) }

pub returns-then-reserved-ne0 : goal.returns-then-reserved-ne0
unfolding state_in ◌>>=◌ ◌>>◌ ◌or_else◌
returns-then-reserved-ne0 c = record { line = simp (sym (c.in_ok-reserved.ensures.number 3), ne_eqb _ _ c.if-reserved-ne0.true) }

pub returns-in_err-outputs : goal.returns-in_err-outputs
unfolding state_in ◌>>=◌ ◌>>◌ ◌or_else◌
returns-in_err-outputs c =
    record {
      line =
          rw c.from_residual-in_err-outputs.ensures
          (simp (sym (c.in_ok-reserved.ensures.number 3), eq-eqb _ _ c.if-reserved-ne0.false, sym (c.in_err-outputs.ensures.number 3)));
    }

pub returns-in_err-time : goal.returns-in_err-time
unfolding state_in ◌>>=◌ ◌>>◌ ◌or_else◌
returns-in_err-time c =
    record {
      line =
          rw c.from_residual-in_err-time.ensures
          (simp (sym (c.in_ok-reserved.ensures.number 3), eq-eqb _ _ c.if-reserved-ne0.false, sym (c.in_ok-outputs.ensures.number 3), sym (c.in_err-time.ensures.number 3)));
    }

pub overflow_cast-time : goal.overflow_cast-time
overflow_cast-time c = omega (arith, time_fits 11 c.in_ok-time.field-0 c.args.cs.now (search rules) (sym (c.in_ok-time.ensures.number 3)))

pub returns : goal.returns
unfolding state_in ◌>>=◌ ◌>>◌ ◌or_else◌
returns c =
    record {
      line = simp (sym (c.in_ok-reserved.ensures.number 3), eq-eqb _ _ c.if-reserved-ne0.false, sym (c.in_ok-outputs.ensures.number 3), sym (c.in_ok-time.ensures.number 3));
    }
