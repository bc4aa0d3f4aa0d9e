-- `lines::read_line` meets its contract: by the first byte, with the laws of Fields.antt.
-- Assumes nothing.
use mathlib.Core.Path.{◌∙◌}
use borrow.Author.Rules.{rules}
use Rattle.lines.proofs.Fields.{state_bytes, for_bytes, next_bytes, none_bytes}
use Rattle.lines.proofs.read_line.Goals as goal

pub returns-in-83 : goal.returns-in-83
returns-in-83 c = record { line = c.state_line.ensures.line ∙ state_bytes _ c.requires c.in-83.is c.number_of_four.ensures.number c.number_of_two.ensures.number }

pub returns-in-70 : goal.returns-in-70
returns-in-70 c = record { line = c.for_line.ensures.line ∙ for_bytes _ c.requires c.in-70.is c.number_of_two-in-70.ensures.number c.number_of_four-in-70.ensures.number }

pub returns-in-78 : goal.returns-in-78
returns-in-78 c = record { line = c.next_line.ensures.line ∙ next_bytes _ c.requires c.in-78.is c.number_of_two-in-78.ensures.number c.number_of_four-in-78.ensures.number }

pub returns-in_default : goal.returns-in_default
returns-in_default c = record { line = none_bytes _ (search rules) (search rules) (search rules) }
