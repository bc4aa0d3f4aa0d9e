-- `formats::decimal_in` meets its contract: after so many characters the number kept is theirs, or the largest.
-- Assumes nothing.
use native.Mathlib.Omega.{arith}
use borrow.Author.Rules.{rules}
use Rattle.formats.proofs.Decimals.{kept_none, kept_more, kept_bad, none_written, kept_all}
use Rattle.formats.proofs.decimal_in.Goals as goal

pub returns-then-is_empty : goal.returns-then-is_empty
returns-then-is_empty c = record { number = none_written _ (search rules) }

pub loop-c-init : goal.loop-c-init
loop-c-init c = kept_none _

pub returns-then-d-ge10 : goal.returns-then-d-ge10
returns-then-d-ge10 c = record { number = kept_bad _ _ _ _ c.loop-c-test.true c.loop-c.invariant c.in_ok-d.ensures.value c.if-d-ge10.true }

pub loop-c-preserved : goal.loop-c-preserved
loop-c-preserved c =
    kept_more _ _ _ _ c.loop-c-test.true c.loop-c.invariant c.in_ok-d.ensures.value c.if-d-ge10.false
    (omega (arith, c.saturating_add-worth.ensures, c.saturating_mul.ensures))

pub returns : goal.returns
returns c = record { number = kept_all _ _ _ (search rules) (search rules) c.loop-c.invariant }

pub returns-in_err-d : goal.returns-in_err-d
returns-in_err-d c =
    record { number = λ e. rw c.from_residual.ensures (kept_bad _ _ _ _ c.loop-c-test.true c.loop-c.invariant c.in_err-d.ensures.value (omega arith) e) }
