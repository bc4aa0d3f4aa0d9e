-- Nobody has to believe this: it says how the code goes, and no theorem speaks of it.
-- The tick on which the line behind a held State falls due.
use Rattle.std.specs.Prelude.{ℕ, ◌≡◌, List}
use Rattle.running.specs.declared.Run.{Run}
use Rattle.running.specs.declared.Ran.{Ran}
use Rattle.running.specs.Running.{onward, most, tick}
use Rattle.running.specs.Moments.{last_due}
use Rattle.running.specs.Due.{freed}

-- It leaves x; and if it ends with 006, x has the run of its last moment.
pub record NextDue (p : List ℕ) (held : Run) (x : Ran) : Type 0 where
  pub ran : freed x ≡ tick p held
  pub last : x.event ≡ 6 → x.run ≡ last_due p most (onward held).run
