-- What the program of a plan does by the running rules.
-- 02, item 10: "Prove by the running rules that the outputs at every tick are the plan's and that event 011 comes at the sum of the times."
use Rattle.std.specs.Prelude.{ℕ, ◌<◌, ◌≤◌, ◌≡◌, List, length}
use Rattle.running.specs.Running.{start}
use Rattle.running.specs.Ticking.{after, EndsAfter}
use Rattle.planner.specs.declared.Move.{Move}
use Rattle.planner.specs.Plan.{total, word_at}
use Rattle.planner.specs.Lines.{plan_lines}

-- From a start at line 000, whatever the outputs were, program p carries out the plan.
pub record CarriesOut (ms : List Move) (p : List ℕ) (outputs : ℕ) : Type 0 where
  -- at every tick before the sum of the times the outputs are the plan's,
  pub words : (n : ℕ) → n < total ms → (after p n (start p 0 outputs)).run.outputs ≡ word_at ms n
  -- the program runs until then, without an event, and ends with 011 at the sum,
  pub ends : EndsAfter p (total ms) 11 (start p 0 outputs)
  -- at the line behind those of the moves, with all outputs off.
  pub there : (after p (total ms) (start p 0 outputs)).run.line ≡ length (plan_lines ms)
  pub off : (after p (total ms) (start p 0 outputs)).run.outputs ≡ 0
  -- No call comes near the 400 lines that it may run: it runs two For and Next lines at most.
  pub few : (n : ℕ) → (after p n (start p 0 outputs)).lines ≤ 2
