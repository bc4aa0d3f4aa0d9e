-- `channels::read_for` meets its contract.
-- Assumes nothing.
use Rattle.std.proofs.lemmas.Result.{err_from_is_err_and}
use Rattle.channels.proofs.Counting.{other_count, log_refused, log_older, log_new}
use Rattle.channels.proofs.read_for.Goals as goal

pub returns-then-n-ne32 : goal.returns-then-n-ne32
returns-then-n-ne32 c = record { answer = other_count _ _ c.if-n-ne32.true }

pub returns-in_err-told : goal.returns-in_err-told
returns-in_err-told c =
    let p = err_from_is_err_and c.from_residual.result c.from_residual.ensures.1 in
    record { answer = rw (p.1, p.2) (log_refused _ _ c.if-n-ne32.false c.in_err-told.ensures.answer) }

pub returns-in-Twelve : goal.returns-in-Twelve
returns-in-Twelve c = record { answer = log_older _ _ c.if-n-ne32.false c.in_ok-told.ensures.answer c.in-Twelve.is }

pub returns-in-Sixteen : goal.returns-in-Sixteen
returns-in-Sixteen c = record { answer = log_new _ _ c.if-n-ne32.false c.in_ok-told.ensures.answer c.in-Sixteen.is }
