-- `lines::next_after` meets its contract: the loop keeps the search from line i on equal to the search asked for.
-- Assumes nothing.
use mathlib.Core.Path.{◌≡◌}
use Rattle.lines.proofs.Search.{next_from}
use Rattle.lines.specs.Program.{next_after}
use Rattle.lines.proofs.next_after.Given as goal

abbrev pub invariant-loop-i : goal.invariant-loop-i
invariant-loop-i l = next_after l.p l.c l.k ≡ next_from l.p l.c l.i
