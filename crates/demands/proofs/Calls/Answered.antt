-- Demand 1: "Every byte, tick, button number and lent area, of every length and content, gets a defined reply or refusal and the
-- call ends. The box checks its callers itself. A refused call changes only what document 01 says it changes."
-- Every call has an outcome because `call` is a function; here is what the outcome is where something is refused.
-- Assumes nothing.
use mathlib.Core.Path.{◌≡◌, refl, sym, ap, subst, ◌∙◌}
use Prim.Native.Nat.{ℕ}
use mathlib.Core.Logic.{◌≢◌}
use mathlib.Core.Bool.{false}
use mathlib.Core.List.{List, [], ◌∷◌}
use Rattle.boxlog.specs.Log.{emptied}
use Rattle.controller.specs.declared.Controller.{Controller}
use Rattle.controller.specs.Controller.{Areas, fresh}
use Rattle.controller.specs.Refusals.{Call, power_on}
use Rattle.controller.specs.Effects.{is_power_on}
use Rattle.controller.specs.Calls.{After, call}
use Rattle.controller.specs.Invariant.{Invariant}
use Rattle.controller.proofs.Invariant.{fresh_invariant, call_invariant}
use Rattle.controller.proofs.Refusals.{refused_call, unpowered_refuses}
use Rattle.demands.specs.Histories.{Made, Held, unpowered, outcome, next, after}
use Rattle.demands.proofs.History.Steps.{starts_from_same}

-- ---- the invariant

pub next_invariant : (h : Held) (m : Made) → Invariant h.state → Invariant (next h m).state
unfolding next outcome
next_invariant h m i = call_invariant m.call h.state m.areas i

invariant_from : (h : Held) (ms : List Made) → Invariant h.state → Invariant (after h ms).state
unfolding after
invariant_from h [] i = i
invariant_from h (m ∷ ms) i = invariant_from (next h m) ms (next_invariant h m i)

-- The invariant holds after every sequence of calls, whatever is lent to them.
pub invariant_always : (ms : List Made) → Invariant (after unpowered ms).state
invariant_always ms = invariant_from unpowered ms (fresh_invariant 0)

-- ---- refusals

-- A refused call leaves the state and every lent byte as they were, and its counts and lengths are 0.
pub refused_leaves : (k : Call) (c : Controller) (a : Areas) → is_power_on k ≡ false → (call k c a).refusal ≢ 0
    → call k c a ≡ record { state = c; refusal = (call k c a).refusal; lines = 0; written = 0; areas = a }
refused_leaves k c a other ne =
    refused_call k c a ne
    ∙ ap (λ (s : Controller). record { state = s; refusal = (call k c a).refusal; lines = 0; written = 0; areas = a })
    (starts_from_same k c other)

fresh_length : (n : ℕ) → (fresh n).log.length ≡ n
unfolding fresh emptied
fresh_length n = refl

-- A refused power-on loads nothing, and every later call on the state that it returns is refused, until a power-on.
pub refused_power_on : (c : Controller) (a : Areas) → (call power_on c a).refusal ≢ 0 → let r = call power_on c a in
    (r.lines ≡ 0) × (r.written ≡ 0) × (r.areas ≡ a) × ((k : Call) (b : Areas) → is_power_on k ≡ false → (call k r.state b).refusal ≢ 0)
refused_power_on c a ne =
    let is = refused_call power_on c a ne in (
      ap (λ (r : After). r.lines) is,
      ap (λ (r : After). r.written) is,
      ap (λ (r : After). r.areas) is,
      λ k b other.
          subst (λ s. (call k s b).refusal ≢ 0) (sym (ap (λ (r : After). r.state) is)) (unpowered_refuses k (fresh 0) b other (fresh_length 0)),
    )
