-- `formats::number_in` meets its contract: after so many characters the number read so far is theirs.
-- Assumes nothing.
use Prim.Native.Nat.{◌+◌, ◌*◌, ◌<◌}
use native.Mathlib.Omega.{arith}
use borrow.Author.Rules.{rules}
use Rattle.formats.proofs.Loops.{read_none, read_bad, read_more, more_fits_u32, read_all}
use Rattle.formats.proofs.number_in.Goals as goal

-- the number with one digit more fits
fits : (c : goal.Else-base-d)
    → c.loop-c.v * c.args.base + c.in_ok-d.field-0 < 4294967296
fits c =
    more_fits_u32 _ _ _ _ _ c.requires.2 c.requires.1 c.requires.0 c.loop-c-test.true c.loop-c.invariant c.in_ok-d.ensures.value c.if-base-d.false

pub loop-c-init : goal.loop-c-init
loop-c-init c = read_none _ _

pub returns-then-base-d : goal.returns-then-base-d
returns-then-base-d c = record { number = read_bad _ _ _ _ _ c.loop-c-test.true c.loop-c.invariant c.in_ok-d.ensures.value c.if-base-d.true }

pub overflow_mul-v : goal.overflow_mul-v
overflow_mul-v c = omega (arith, fits c)

pub overflow_add-v : goal.overflow_add-v
overflow_add-v c = omega (arith, fits c)

pub loop-c-preserved : goal.loop-c-preserved
loop-c-preserved c = read_more _ _ _ _ _ c.loop-c-test.true c.loop-c.invariant c.in_ok-d.ensures.value c.if-base-d.false

pub returns : goal.returns
returns c = record { number = read_all _ _ _ _ (search rules) c.loop-c.invariant }

pub returns-in_err-d : goal.returns-in_err-d
returns-in_err-d c =
    record { number = λ e. rw c.from_residual.ensures (read_bad _ _ _ _ _ c.loop-c-test.true c.loop-c.invariant c.in_err-d.ensures.value c.requires.2 e) }
