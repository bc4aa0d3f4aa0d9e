-- `formats::copy` meets its contract: the first i bytes are copied, and the rest of `to` is as it was.
-- Assumes nothing.
use mathlib.Core.List.{◌++◌}
use mathlib.Core.Path.{◌≡◌}
use lib.ListN.{length, take, drop}
use Rattle.formats.proofs.copy.Given as goal

abbrev pub invariant-loop-i : goal.invariant-loop-i
invariant-loop-i l = (l.to ≡ take l.i l.from ++ drop l.i l.initial.to) × (length l.to ≡ length l.initial.to)
