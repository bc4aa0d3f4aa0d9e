-- `planner::Writer::move_of` meets its contract: the lines of both times.
-- Assumes nothing.
use native.Mathlib.Omega.{arith}
use Rattle.planner.specs.Lines.{move_lines}
use Rattle.planner.proofs.Laying.{laid_more}
use Rattle.planner.proofs.Writer.move_of.Goals as goal

pub returns-clause-lays : goal.returns-clause-lays
unfolding move_lines
returns-clause-lays c =
    laid_more c.stretch.ensures.lays (omega (arith, c.stretch.ensures.near, c.requires.0, c.requires.1)) c.stretch-2.ensures.lays
