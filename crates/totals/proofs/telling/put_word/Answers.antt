-- `totals::telling::put_word` meets its contract: piece by piece.
-- Assumes nothing.
use Rattle.totals.specs.Telling.{word_text}
use Rattle.formats.specs.Checks.{text}
use Rattle.streams.proofs.Following.{follows_more}
use Rattle.totals.proofs.telling.put_word.Goals as goal

pub returns : goal.returns
unfolding word_text text
returns c = record { follows = follows_more c.put.ensures.follows (follows_more c.put_digits.ensures.follows (follows_more c.put-2.ensures.follows c.put_digits-2.ensures.follows)) }
