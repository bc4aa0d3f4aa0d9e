-- `totals::telling::put_message` meets its contract: piece by piece.
-- Assumes nothing.
use Rattle.formats.specs.Digits.{error_text}
use Rattle.totals.specs.Telling.{message_of}
use Rattle.formats.specs.Checks.{text}
use Rattle.streams.proofs.Following.{follows_more}
use Rattle.totals.proofs.telling.put_message.Goals as goal

pub returns : goal.returns
unfolding message_of error_text text
returns c =
    record {
      follows =
          follows_more c.put_name.ensures.follows
          (follows_more c.put.ensures.follows (follows_more (rw c.number.ensures at c.put_digits.ensures.follows) (follows_more c.put_reason.ensures.follows c.put-2.ensures.follows)));
    }
