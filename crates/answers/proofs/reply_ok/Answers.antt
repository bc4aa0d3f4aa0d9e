-- `answers::reply_ok` meets its contract.
-- Assumes nothing.
use Rattle.std.proofs.Common.{refl}
use Rattle.formats.specs.Checks.{text}
use Rattle.answers.proofs.reply_ok.Goals as goal

pub returns : goal.returns
unfolding text
returns c = record { wrote = rw c.copy_from_slice.ensures.after (record { behind = refl; there = refl }) }
