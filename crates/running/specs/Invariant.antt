-- What holds of the run after power-on and is kept by every call.
use Rattle.std.specs.Prelude.{ℕ, ◌≤◌, ◌<◌, ◌≡◌, false, get_or}
use Rattle.running.specs.declared.Run.{Run}
use Rattle.running.specs.Running.{free, stopped}

pub record RunInvariant (r : Run) : Type 0 where
  pub line_in_program : r.line < 200
  -- a For that holds a counter has a later line
  pub for_line : (i : ℕ) → (get_or r.counters i free).line < 199
  pub count : (i : ℕ) → (get_or r.counters i free).count ≤ 9999
  pub time : r.wait ≤ 9999
  -- a program that does not run holds no counter and waits for nothing
  pub idle : r.on ≡ false → stopped r ≡ r
