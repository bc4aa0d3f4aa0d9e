-- `formats::four_bytes` meets its contract.
-- Assumes nothing.
use Rattle.std.proofs.Common.{◌≡◌, ◌/◌, arith}
use Rattle.formats.specs.Digits.{digits}
use Rattle.formats.proofs.four_bytes.Goals as goal

pub returns : goal.returns
unfolding digits
returns c =
    let high : c.args.v / 16777216 ≡ c.args.v / 256 / 256 / 256 = omega arith in
    let second : c.args.v / 65536 ≡ c.args.v / 256 / 256 = omega arith in
    record { bytes = rw (high, second) at c.to_be_bytes.ensures }
