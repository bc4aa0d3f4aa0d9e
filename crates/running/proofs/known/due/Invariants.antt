-- `running::known::due` meets its contract: as the box runs lines, by what is known of them; the last moment from here is that from the start.
-- Assumes nothing.
use Prim.Native.Nat.{◌-◌}
use mathlib.Core.Path.{◌≡◌}
use Rattle.running.specs.Running.{run_due}
use Rattle.running.specs.Moments.{last_due}
use Rattle.running.proofs.Invariant.{Going}
use Rattle.running.proofs.known.due.Given as goal

abbrev pub invariant-loop-n : goal.invariant-loop-n
invariant-loop-n l =
    Going l.run × (run_due l.p 400 0 l.initial.run ≡ run_due l.p (400 - l.n) l.n l.run) × (last_due l.p 400 l.initial.run ≡ last_due l.p (400 - l.n) l.run)
