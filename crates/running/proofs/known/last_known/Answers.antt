-- `running::known::last_known` meets its contract: a line that names a counter is one too many; any other ends the call.
-- Assumes nothing.
use mathlib.Core.Path.{◌∙◌}
use borrow.Author.Rules.{rules}
use Rattle.running.proofs.Knowing.{last_over, last_other}
use Rattle.running.proofs.known.last_known.Goals as goal

pub returns-then-is_some : goal.returns-then-is_some
returns-then-is_some c = record { ran = c.ended.ensures.ran ∙ last_over _ _ _ c.requires.3 (search rules) }

pub returns : goal.returns
returns c = record { ran = last_other _ _ _ c.requires.3 (search rules) c.run_due-ran.ensures.ran }
