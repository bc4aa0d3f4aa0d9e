-- The outputs after any calls are those that the history of the calls says by itself.
-- Assumes nothing.
use mathlib.Core.Path.{◌≡◌, sym, ap, ◌∙◌}
use mathlib.Core.Bool.{true}
use mathlib.Core.List.{List, [], ◌∷◌, ◌++◌}
use Rattle.running.specs.declared.Run.{Run}
use Rattle.demands.specs.Histories.{Made, Held, next, after}
use Rattle.demands.specs.Seen.{seen, outputs}
use Rattle.demands.specs.Told.{told}
use Rattle.demands.proofs.Calls.Answered.{invariant_always}
use Rattle.demands.proofs.History.Telling.{after_more, held_as_told}

-- The 32 outputs.
pub outputs_as_told : (ms : List Made) → outputs ms ≡ (told ms).run.outputs
unfolding outputs
outputs_as_told ms = ap (λ (r : Run). r.outputs) (held_as_told ms).run

-- what is seen of them with the last call
pub seen_outputs : (ms : List Made) (m : Made) → (seen ms m).outputs ≡ outputs (ms ++ (m ∷ []))
unfolding seen outputs after next
seen_outputs ms m = sym (ap (λ (h : Held). h.state.run.outputs) (after_more ms (m ∷ [])))

-- Only a running program is paused.
pub only_running_paused : (ms : List Made) → (told ms).paused ≡ true → (told ms).run.on ≡ true
only_running_paused ms e = sym (ap (λ (r : Run). r.on) (held_as_told ms).run) ∙ (invariant_always ms).paused_runs ((held_as_told ms).paused ∙ e)
