-- What an end says of the line at which it came. Nobody has to believe this: `demands/Started.ShowsEnd` says it of what is read.
-- 02, item 4: "A bad stored line must not look like an end."
use Rattle.std.specs.Prelude.{ℕ, ◌≤◌, ◌≡◌, List}
use Rattle.lines.specs.declared.Line.TheVariants.{State, Bad}
use Rattle.lines.specs.Program.{line_at}
use Rattle.running.specs.declared.Run.{Run}

-- The program p ended with this event and left the run r. 011: a State with time 0 stands at the line where it stopped, and its outputs
-- stand. 014: a Bad line stands there.
pub record Ended (p : List ℕ) (event : ℕ) (r : Run) : Type 0 where
  -- the events are 001 to 014
  pub known : event ≤ 14
  pub well : event ≡ 11 → line_at p r.line ≡ State r.outputs 0
  pub badly : event ≡ 14 → line_at p r.line ≡ Bad
