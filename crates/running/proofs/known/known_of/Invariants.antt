-- `running::known::known_of` meets its contract: line by line.
-- Assumes nothing.
use mathlib.Core.Path.{◌≡◌}
use lib.ListN.{length}
use Rattle.running.specs.Known.{Below}
use Rattle.running.proofs.known.known_of.Given as goal

abbrev pub invariant-loop-k : goal.invariant-loop-k
invariant-loop-k l = Below l.p l.k l.table × (length l.table ≡ 200)
