-- `lines::is_next_at` meets its contract: by the first two bytes, and where those are the ones sought by the line.
-- Assumes nothing.
use mathlib.Core.Path.{sym, ◌∙◌}
use borrow.Author.Tests.{eqb-false}
use Rattle.lines.proofs.Search.{by_the_first, by_the_second}
use Rattle.lines.proofs.is_next_at.Goals as goal
use Rattle.lines.proofs.is_next_at.Goals.{then-p-i, else-p-i}

pub returns-else-p-i-eq78 : goal.returns-else-p-i-eq78
returns-else-p-i-eq78 c =
    record {
      test = c.if-p-i-eq78.false ∙ sym (elim c.if-p-i.branch [
        | then-p-i w ↦ by_the_first c.args.c c.args.p.now c.args.i (eqb-false _ _ (sym w.value-is ∙ c.if-p-i-eq78.false))
        | else-p-i w ↦ by_the_second c.args.c c.args.p.now c.args.i w.if-p-i.false
      ]);
    }
