-- `formats::Text::digits` meets its contract. The invariant of its loop: the digits from number i on stand there, and `rest` has those before. The measure
-- is how many are left.
-- Assumes nothing.
use Rattle.formats.proofs.DigitsWritten.{left_all, left_less}
use borrow.Author.Rules.{rules}
use lib.ListN.{length-set}
use mathlib.Core.Path.{refl}
use Rattle.formats.proofs.Text.digits.Goals as goal

pub loop-i-init : goal.loop-i-init
loop-i-init c = (refl, refl, refl, left_all _ _ _ _ _)

pub loop-i-preserved : goal.loop-i-preserved
loop-i-preserved c = (
  c.loop-i.invariant.0,
  c.loop-i.invariant.1,
  simp length-set c.loop-i.invariant.2,
  rw c.loop-i.invariant.1
      (left_less _ _ _ _ _ c.loop-i.i c.loop-i.rest _ c.loop-i.self.area.now (search rules) (search rules) c.loop-i.invariant.3 c.digit_char.ensures.character),
)
