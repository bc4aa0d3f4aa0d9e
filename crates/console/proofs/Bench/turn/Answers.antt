-- `console::Bench::turn` meets its contract: what was gathered goes out, and what came is fed.
-- Assumes nothing.
use Rattle.console.proofs.Inputs.{nothing_came}
use Rattle.console.proofs.Bench.turn.Goals as goal

pub returns-then-not-is_open : goal.returns-then-not-is_open
returns-then-not-is_open c = record { turns = nothing_came c.flush.ensures.empty }

pub returns-in-Err : goal.returns-in-Err
returns-in-Err c = record { turns = nothing_came c.flush.ensures.empty }
