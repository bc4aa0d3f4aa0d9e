-- `planner::put_moves` meets its contract: the lines of the moves before number k are laid.
-- Assumes nothing.
use Prim.Native.Nat.{◌*◌, ◌≤◌}
use mathlib.Core.Path.{◌≡◌}
use lib.ListN.{length}
use Rattle.planner.proofs.Moves.{Planned}
use Rattle.planner.proofs.put_moves.Given as goal

abbrev pub invariant-loop-k : goal.invariant-loop-k
invariant-loop-k l =
    (Planned l.plan l.k l.initial.writer.program.now l.writer.at l.writer.program.now) × (l.writer.at ≤ 8 * l.k) × (length l.writer.program.now ≡ length l.initial.writer.program.now)
    × (l.writer.program.ghost_name ≡ l.initial.writer.program.ghost_name)
