-- `formats::two_bytes` meets its contract.
-- Assumes nothing.
use Rattle.formats.specs.Digits.{digits}
use Rattle.formats.proofs.two_bytes.Goals as goal

pub returns : goal.returns
unfolding digits
returns c = record { bytes = c.to_be_bytes.ensures }
