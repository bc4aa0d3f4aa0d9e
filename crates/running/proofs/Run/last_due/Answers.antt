-- `running::Run::last_due` meets its contract: by the kind of line, and by what a State line led to.
-- Assumes nothing.
use mathlib.Core.Path.{◌∙◌}
use borrow.Author.Rules.{rules}
use Rattle.running.proofs.Turns.{last_bad, last_stops, last_ends, last_rests}
use Rattle.running.proofs.Run.last_due.Goals as goal

pub returns-in-Ends : goal.returns-in-Ends
returns-in-Ends c = record { ran = c.ended.ensures.ran ∙ last_ends _ _ _ _ c.line_at.ensures.line c.in-State.is _ c.run_state-s.ensures.step c.in-Ends.is }

pub returns-in_default-how : goal.returns-in_default-how
returns-in_default-how c = record { ran = last_rests _ _ _ _ c.line_at.ensures.line c.in-State.is _ c.run_state-s.ensures.step c.in_default-how.not-Ends }

pub returns-in-Bad : goal.returns-in-Bad
returns-in-Bad c = record { ran = c.ended-in-Bad.ensures.ran ∙ last_bad _ _ _ _ c.line_at.ensures.line c.in-Bad.is }

pub returns-in_default : goal.returns-in_default
returns-in_default c = record { ran = c.ended-in_default.ensures.ran ∙ last_stops _ _ _ _ c.line_at.ensures.line (λ _ _ is. search rules) (λ is. search rules) }
