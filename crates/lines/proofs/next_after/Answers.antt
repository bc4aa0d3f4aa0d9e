-- `lines::next_after` meets its contract: the loop keeps the search from line i on equal to the search asked for.
-- Assumes nothing.
use mathlib.Core.Path.{sym, ◌∙◌}
use borrow.Author.Rules.{rules}
use Rattle.lines.proofs.Search.{search_begins, search_found, search_on, search_ends}
use Rattle.lines.proofs.next_after.Goals as goal

pub loop-i-init : goal.loop-i-init
loop-i-init c = search_begins _ _ _ c.requires.1

pub returns-then-is_next_at-clause-line : goal.returns-then-is_next_at-clause-line
returns-then-is_next_at-clause-line c = sym (c.loop-i.invariant ∙ search_found _ _ _ (search rules) (sym c.is_next_at.ensures.test ∙ c.if-is_next_at.true))

pub loop-i-preserved : goal.loop-i-preserved
loop-i-preserved c = c.loop-i.invariant ∙ search_on _ _ _ (search rules) (sym c.is_next_at.ensures.test ∙ c.if-is_next_at.false)

pub returns-clause-line : goal.returns-clause-line
returns-clause-line c = sym (c.loop-i.invariant ∙ search_ends _ _ _ (search rules))
