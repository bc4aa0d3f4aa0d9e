-- Nobody has to believe this: it says how the code goes, and no theorem speaks of it.
-- What a call leaves before its loops are freed. Who wants to know why a program stopped finds in it what the counters held.
use Rattle.std.specs.Prelude.{ℕ, ◌≡◌, List, eqb}
use Rattle.std.specs.Prelude.{if◌then◌else◌}
use Rattle.running.specs.declared.Run.{Run}
use Rattle.running.specs.declared.Ran.{Ran}
use Rattle.running.specs.Running.{stops, run_due, most}
use Rattle.running.specs.Moments.{last_due}

-- the loops are freed, where the program has ended
unfoldable pub freed : Ran → Ran
freed x = if eqb x.event 0 then x else stops x.event x.lines x.run

-- The call in which r falls due leaves x; and if it ends with 006, x has the run of its last moment.
pub record Due (p : List ℕ) (r : Run) (x : Ran) : Type 0 where
  pub ran : freed x ≡ run_due p most 0 r
  pub last : x.event ≡ 6 → x.run ≡ last_due p most r
