-- `formats::Text::decimal` meets its contract: as many digits as the number has.
-- Assumes nothing.
use native.Mathlib.Omega.{arith}
use Rattle.formats.specs.Digits.{width, most_digits}
use Rattle.formats.proofs.Characters.{length_shown}
use Rattle.formats.proofs.Text.decimal.Goals as goal

pub digits-requires : goal.digits-requires
digits-requires c =
    (omega (arith, length_shown 10 (width most_digits c.args.v) c.args.v, c.width-n.ensures.digits.0, c.requires), omega arith, omega arith)
