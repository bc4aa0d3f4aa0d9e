-- Nobody has to believe this: it says how the code goes, and no theorem speaks of it.
-- What a For or a Next takes of a run, its line and the counter that it names, and what it changes of it: these two, and no other part.
use Rattle.std.specs.Prelude.{ℕ, ◌≡◌, List}
use Rattle.lines.specs.declared.Line.{Line}
use Rattle.lines.specs.Line.{counter_of}
use Rattle.running.specs.declared.Counter.{Counter}
use Rattle.running.specs.declared.Run.{Run}
use Rattle.running.specs.declared.Step.{Step}
use Rattle.running.specs.declared.Turn.{Turn}
use Rattle.running.specs.declared.How.TheVariants.{Ends}
use Rattle.running.specs.Running.{counter, at_line, with_counter, run_line}

-- a turn of counter c, put back into its run
abbrev pub turned : ℕ → Turn → Run → Step
turned c t r = record { run = at_line t.line (with_counter c t.held r); how = t.how }

-- on line k the program ends with that event, and the counter stays as it is
abbrev pub stopping : ℕ → ℕ → Counter → Turn
stopping event k held = record { held = held; line = k; how = Ends event }

-- On line k, with its counter as `held`, line l, a For or a Next, leads to the turn t, whatever else the run is.
abbrev pub Leads : List ℕ → Line → ℕ → Counter → Turn → Type 0
Leads p l k held t = (r : Run) → r.line ≡ k → counter r (counter_of l) ≡ held → turned (counter_of l) t r ≡ run_line p l r
