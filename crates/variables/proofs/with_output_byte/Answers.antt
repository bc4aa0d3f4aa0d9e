-- `variables::with_output_byte` meets its contract.
-- Assumes nothing.
use Rattle.variables.proofs.Bits.{masked_in}
use Rattle.variables.proofs.with_output_byte.Goals as goal

pub returns : goal.returns
returns c = record { word = masked_in c.args.word c.args.k _ c.requires.0 c.requires.1 c.bits_below-s.ensures.bits c.args.x c.ranges.word.fits c.ranges.x.fits }
