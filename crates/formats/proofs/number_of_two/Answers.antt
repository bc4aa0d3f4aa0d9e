-- `formats::number_of_two` meets its contract.
-- Assumes nothing.
use native.Mathlib.Omega.{arith}
use Rattle.formats.specs.Digits.{number_after}
use Rattle.formats.proofs.number_of_two.Goals as goal

pub returns : goal.returns
unfolding number_after
returns c = record { number = omega arith }
