-- `formats::width` meets its contract. The invariant of its loop: n digits are counted, and `rest` is what stands before them. The measure is `rest`.
-- Assumes nothing.
use Rattle.formats.proofs.Decimals.{counted_on, counted_all}
use native.Mathlib.Omega.{arith}
use borrow.Author.Rules.{rules}
use Rattle.formats.proofs.width.Goals as goal

pub loop-rest-preserved : goal.loop-rest-preserved
loop-rest-preserved c = counted_on _ _ _ c.loop-rest.invariant (search rules)

pub returns : goal.returns
returns c = record { digits = (counted_all _ _ _ c.loop-rest.invariant (omega arith), c.loop-rest.invariant.few) }
