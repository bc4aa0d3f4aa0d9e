-- `explain::telling::put_told` meets its contract: what is answered can be read.
-- Assumes nothing.
use Rattle.explain.proofs.Reading.{readable}
use Rattle.explain.proofs.telling.put_told.Goals as goal

pub put_sentence-requires : goal.put_sentence-requires
put_sentence-requires c = readable c.args.p.now c.args.start c.args.limit _ c.report-answer.ensures.answer
