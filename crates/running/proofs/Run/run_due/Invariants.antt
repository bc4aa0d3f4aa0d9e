-- `running::Run::run_due` meets its contract: the loop keeps what is left to run equal to what was to run; each turn counts one line, and
-- by both ways out what is left is what the last line leads to.
-- Assumes nothing.
use Prim.Native.Nat.{◌-◌}
use mathlib.Core.Path.{◌≡◌}
use Rattle.running.proofs.Invariant.{Going}
use Rattle.running.specs.Running.{run_due}
use Rattle.running.proofs.Run.run_due.Given as goal

abbrev pub invariant-loop-n : goal.invariant-loop-n
invariant-loop-n l = Going l.run × (run_due l.p 400 0 l.initial.run ≡ run_due l.p (400 - l.n) l.n l.run)
