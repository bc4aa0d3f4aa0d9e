-- A run with one part altered, a stop, and the run that a start begins with, each written out: no part but the one named changes.
-- Assumes nothing.
use mathlib.Core.Path.{◌≡◌, refl}
use Prim.Native.Nat.{ℕ, ◌-◌}
use mathlib.Core.Bool.{true, false}
use mathlib.Core.List.{List, [], ◌∷◌}
use lib.ListN.{set}
use Rattle.running.specs.declared.Counter.{Counter}
use Rattle.running.specs.declared.Run.{Run}
use Rattle.running.specs.declared.How.TheVariants.{Holds, Ends, GoesOn}
use Rattle.running.specs.Running.{at_line, with_outputs, waiting, with_counter, fresh_run, stopped, holds, ends, goes_to, stops, rests, run_due, start, tick}

-- a counter that is free; "loop counters, 0 when free"
abbrev none : Counter
none = record { count = 0; line = 0 }

abbrev four : List Counter
four = none ∷ none ∷ none ∷ none ∷ []

-- "Power-on: outputs 0, stopped, line 000"
pub fresh_is : fresh_run ≡ record { on = false; line = 0; outputs = 0; wait = 0; counters = four }
fresh_is = refl

-- "A start frees all loops", and leaves the outputs; at most 400 lines of a call
pub start_is : (p : List ℕ) (k outputs : ℕ)
    → start p k outputs ≡ run_due p 400 0 (record { on = true; line = k; outputs = outputs; wait = 0; counters = four })
unfolding start
start_is p k outputs = refl

module _ (r : Run) where
  -- "Stop frees the loops and keeps outputs and line."
  pub stop_is : stopped r ≡ record { on = false; line = r.line; outputs = r.outputs; wait = 0; counters = four }
  unfolding stopped
  stop_is = refl

  -- "An event stop keeps the outputs, frees the loops"
  pub event_stop_is : (event n : ℕ) → stops event n r
      ≡ record { run = record { on = false; line = r.line; outputs = r.outputs; wait = 0; counters = four }; event = event; lines = n }
  unfolding stopped
  event_stop_is event n = refl

  -- a tick of a stopped program: nothing runs, and no event comes
  pub off_is : (p : List ℕ) → r.on ≡ false → tick p r ≡ record { run = r; event = 0; lines = 0 }
  unfolding tick
  off_is p off = rw off

  -- to a line, which is not run yet; held at one; at an end
  pub goes_is : (k : ℕ) → goes_to k r
      ≡ record { run = record { on = r.on; line = k; outputs = r.outputs; wait = r.wait; counters = r.counters }; how = GoesOn }
  goes_is k = refl

  pub holds_is : holds r ≡ record { run = r; how = Holds }
  holds_is = refl

  pub ends_is : (event : ℕ) → ends event r ≡ record { run = r; how = Ends event }
  ends_is event = refl

  pub rest_is : (n : ℕ) → rests n r ≡ record { run = r; event = 0; lines = n }
  rest_is n = refl

  pub outputs_are : (o : ℕ) → with_outputs o r ≡ record { on = r.on; line = r.line; outputs = o; wait = r.wait; counters = r.counters }
  outputs_are o = refl

  pub line_is : (k : ℕ) → at_line k r ≡ record { on = r.on; line = k; outputs = r.outputs; wait = r.wait; counters = r.counters }
  line_is k = refl

  pub wait_is : (t : ℕ) → waiting t r ≡ record { on = r.on; line = r.line; outputs = r.outputs; wait = t; counters = r.counters }
  wait_is t = refl

  pub counter_is : (c : ℕ) (v : Counter) → with_counter c v r
      ≡ record { on = r.on; line = r.line; outputs = r.outputs; wait = r.wait; counters = set r.counters (c - 1) v }
  counter_is c v = refl
