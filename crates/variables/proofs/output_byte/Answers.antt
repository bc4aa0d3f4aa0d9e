-- `variables::output_byte` meets its contract.
-- Assumes nothing.
use Rattle.variables.proofs.Bits.{shifted_down}
use Rattle.variables.proofs.output_byte.Goals as goal

pub returns : goal.returns
returns c = record { byte = shifted_down c.args.word c.args.k _ c.requires.0 c.requires.1 c.bits_below-s.ensures.bits }
