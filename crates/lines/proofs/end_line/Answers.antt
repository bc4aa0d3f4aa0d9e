-- `lines::end_line` meets its contract: the loop keeps the search from line i on equal to the search asked for.
-- Assumes nothing.
use borrow.Author.Rules.{rules}
use Rattle.lines.proofs.FirstEnd.{end_begins, end_here, end_on, end_none}
use Rattle.lines.proofs.end_line.Goals as goal

pub loop-i-init : goal.loop-i-init
loop-i-init c = end_begins _

pub returns-then-is_end-clause-line : goal.returns-then-is_end-clause-line
returns-then-is_end-clause-line c =
    end_here _ _ c.loop-i.invariant (search rules) c.line_at.ensures.line c.is_end.ensures.test c.if-is_end.true

pub loop-i-preserved : goal.loop-i-preserved
loop-i-preserved c = end_on _ _ c.loop-i.invariant (search rules) c.line_at.ensures.line c.is_end.ensures.test c.if-is_end.false

pub returns-clause-line : goal.returns-clause-line
returns-clause-line c = end_none _ _ c.loop-i.invariant (search rules)
