-- `running::loops::turn_known` meets its contract: by the kind of line.
-- Assumes nothing.
use borrow.Author.Rules.{rules}
use Rattle.running.proofs.Turns.{other_next}
use Rattle.running.proofs.loops.turn_known.Goals as goal

pub returns-in_default : goal.returns-in_default
returns-in_default c = record { turn = λ p known counts. other_next _ _ counts (λ _ _ is. search rules) c.turn_next.ensures.turn }
