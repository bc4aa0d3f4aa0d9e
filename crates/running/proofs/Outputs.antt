-- What holds of the outputs and of all that the lines of the program set them to holds of them after a start and after a tick.
-- Assumes nothing.
use Prim.Native.Nat.{ℕ, zero, suc}
use mathlib.Core.Bool.{not}
use mathlib.Core.List.{List}
use Rattle.formats.proofs.Checks.{if_case}
use Rattle.lines.specs.declared.Line.{Line}
use Rattle.lines.specs.declared.Line.TheVariants.{State, For, Next, Bad}
use Rattle.lines.specs.Program.{line_at}
use Rattle.lines.proofs.Lines.{Sets}
use Rattle.running.specs.declared.Run.{Run}
use Rattle.running.specs.declared.How.{How}
use Rattle.running.specs.declared.How.TheVariants.{Holds, Ends, GoesOn}
use Rattle.running.specs.declared.Step.{Step}
use Rattle.running.specs.declared.Ran.{Ran}
use Rattle.running.specs.Running.{begun, stopped, onward, run_line, is_for_or_next, is_held, follow, step, run_due, most, start, tick}
use Rattle.running.proofs.Ways.{onward_ways, state_ways, for_ways, next_ways, bad_way}

-- P is what holds of the outputs
module _ (P : ℕ → Type 0) where
  abbrev OfStep : Step → Type 0
  OfStep s = P s.run.outputs

  abbrev OfRan : Ran → Type 0
  OfRan x = P x.run.outputs

  onward_outputs : (r : Run) → P r.outputs → OfStep (onward r)
  onward_outputs r h = onward_ways OfStep r (λ _. h) (λ _. h)

  line_outputs : (p : List ℕ) (l : Line) (r : Run) → Sets P l → P r.outputs → OfStep (run_line p l r)
  line_outputs p (State o t) r s h = state_ways OfStep p r o t (λ _. s) (λ _. s)
  line_outputs p (For c n) r s h = for_ways OfStep p r c n (λ _. h) (λ _ _. h) (λ _ _ _. onward_outputs _ h) (λ _ _ _. onward_outputs _ h)
  line_outputs p (Next c) r s h = next_ways OfStep p r c (λ _. h) (λ _. h) (λ _. onward_outputs _ h)
  line_outputs p Bad r s h = bad_way OfStep p r h

  follow_outputs : (h : How) (n : ℕ) (r : Run) (go : Run → Ran) → P r.outputs → ((s : Run) → P s.outputs → OfRan (go s)) → OfRan (follow h n r go)
  unfolding stopped
  follow_outputs Holds n r go h k = h
  follow_outputs (Ends e) n r go h k = h
  follow_outputs GoesOn n r go h k = k r h

  -- in a program all whose lines set the outputs so
  module _ (p : List ℕ) (sets : (k : ℕ) → Sets P (line_at p k)) where
    step_outputs : (r : Run) → P r.outputs → OfStep (step p r)
    unfolding step
    step_outputs r h = line_outputs p (line_at p r.line) r (sets r.line) h

    due_outputs : (left n : ℕ) (r : Run) → P r.outputs → OfRan (run_due p left n r)
    unfolding run_due stopped
    due_outputs zero n r h =
        if_case OfRan (is_for_or_next (line_at p r.line)) (λ _. h)
        (λ _. follow_outputs (step p r).how n (step p r).run _ (step_outputs r h) (λ s k. k))
    due_outputs (suc left) n r h = follow_outputs (step p r).how _ (step p r).run _ (step_outputs r h) (λ s k. due_outputs left _ s k)

    -- So it is after a start,
    pub start_outputs : (k o : ℕ) → P o → OfRan (start p k o)
    unfolding start
    start_outputs k o h = due_outputs most 0 (begun k o) h

    -- and after a tick.
    pub tick_outputs : (r : Run) → P r.outputs → OfRan (tick p r)
    unfolding tick
    tick_outputs r h =
        if_case OfRan (not r.on) (λ _. h) λ _.
        if_case OfRan (is_held r) (λ _. h) λ _.
        follow_outputs (onward r).how 0 (onward r).run _ (onward_outputs r h) (λ s k. due_outputs most 0 s k)
