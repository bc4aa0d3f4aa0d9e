-- `explanation::causes::is_for_above` meets its contract: no line before the one that is looked at is such a For.
-- Assumes nothing.
use mathlib.Core.Path.{◌≡◌}
use mathlib.Core.Bool.{false}
use Rattle.lines.specs.Searches.{some_before}
use Rattle.explanation.proofs.Above.{is_for_of}
use Rattle.explanation.proofs.causes.is_for_above.Given as goal

abbrev pub invariant-loop-j : goal.invariant-loop-j
invariant-loop-j l = some_before (is_for_of l.p l.c) l.j ≡ false
