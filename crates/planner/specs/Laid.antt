-- Nobody has to believe this: it says how the code goes, and no theorem speaks of it.
-- Lines that are written into a program, one behind the other.
use Rattle.std.specs.Prelude.{List, ◌≡◌, length}
use Rattle.lines.specs.declared.Line.{Line}
use Rattle.planner.specs.declared.Writer.{Writer}
use Rattle.planner.specs.Lines.{Lays}

-- lines were written from the next line on, and every other byte of the program stays
pub record LaysOn (ls : List Line) (before after : Writer) : Type 0 where
  pub size : length after.program.now ≡ length before.program.now
  pub lays : Lays before.at ls before.program.now after.at after.program.now
