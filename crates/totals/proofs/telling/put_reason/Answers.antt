-- `totals::telling::put_reason` meets its contract: refusal by refusal; the log has the record that is told of.
-- Assumes nothing.
use Rattle.totals.proofs.telling.put_reason.Goals as goal
use Rattle.totals.specs.Telling.{reason_text}
use borrow.Author.Rules.{rules}
use Rattle.totals.proofs.Reasons.{no_reason}

pub returns-in-Earlier : goal.returns-in-Earlier
unfolding reason_text
returns-in-Earlier c = record { follows = rw (c.in-Earlier.is, ← c.record_at-first.ensures.«record») c.put_tick.ensures.follows }

pub returns-in-OtherWord : goal.returns-in-OtherWord
unfolding reason_text
returns-in-OtherWord c = record { follows = rw (c.in-OtherWord.is, ← c.record_at-first-in-OtherWord.ensures.«record») c.put_word.ensures.follows }

pub returns-in_default : goal.returns-in_default
returns-in_default c = record { follows = rw (no_reason c.args.why c.args.beside c.args.log.now c.in_default.not-Earlier c.in_default.not-OtherWord) (search rules) }
