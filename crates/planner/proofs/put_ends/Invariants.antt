-- `planner::put_ends` meets its contract: the end marks up to line i are laid.
-- Assumes nothing.
use Prim.Native.Nat.{◌-◌}
use mathlib.Core.Path.{◌≡◌}
use lib.ListN.{length, replicate}
use Rattle.lines.specs.Line.{end_mark}
use Rattle.planner.specs.Lines.{Lays}
use Rattle.planner.proofs.put_ends.Given as goal

abbrev pub invariant-loop-i : goal.invariant-loop-i
invariant-loop-i l = (Lays l.at (replicate (l.i - l.at) end_mark) l.initial.program l.i l.program) × (length l.program ≡ length l.initial.program)
