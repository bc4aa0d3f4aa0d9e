-- Laws of one call: the change that it makes, by the history and by what the box logs.
-- Assumes nothing.
use mathlib.Core.Path.{◌≡◌, refl, sym, ap, ap₂, subst, ◌∙◌}
use Prim.Native.Nat.{ℕ}
use mathlib.Core.Bool.{true, false}
use mathlib.Core.List.{List, [], ◌∷◌}
use lib.Dec.{eqb}
use borrow.Author.Tests.{eq-eqb}
use Rattle.std.specs.Prelude.{if◌then◌else◌}
use Rattle.formats.specs.Checks.{Res}
use Rattle.running.specs.declared.Run.{Run}
use Rattle.wire.specs.declared.Asked.{Asked}
use Rattle.boxlog.specs.declared.Change.{Change}
use Rattle.controller.specs.Effects.{finished, is_power_on}
use Rattle.controller.specs.Invariant.{Invariant}
use Rattle.controller.specs.Calls.{After, cause}
use Rattle.controller.proofs.Refusals.{Checked}
use Rattle.demands.specs.Histories.{Made, Held, outcome, is_accepted, next}
use Rattle.demands.specs.Seen.{note}
use Rattle.demands.specs.Said.{Said}
use Rattle.demands.specs.Told.{Told, said, tell}
use Rattle.demands.specs.Changes.{cause_of, change}
use Rattle.demands.proofs.History.Agrees.{Agrees, Hears, an_error, a_read, a_line, an_output, a_parameter, a_special}
use Rattle.demands.proofs.History.Agreement.{does_agrees}
use Rattle.demands.proofs.History.Heard.{hears}
use Rattle.demands.proofs.History.Telling.{tell_taken}
use Rattle.demands.proofs.History.Steps.{deed, left}

-- ---- the change that a call makes

-- the change from one word to another, if they differ
abbrev pub changing : ℕ → ℕ → ℕ → ℕ → List Change
changing before word by at = if eqb before word then [] else record { cause = by; tick = at; word = word; before = before } ∷ []

-- the history's cause is the box's
pub cause_as_told : {r : Res Asked} {s : Said} (line : ℕ) → Hears r s → cause_of s line ≡ cause r line
cause_as_told line (an_error e) = refl
cause_as_told line (a_read k le) = refl
cause_as_told line (a_line k l le fits) = refl
cause_as_told line (an_output k x lo hi) = refl
cause_as_told line (a_parameter v) = refl
cause_as_told line (a_special x) = refl

module _ (t : Told) (h : Held) (m : Made) (g : Agrees t h.state) (i : Invariant h.state) (other : is_power_on m.call ≡ false) where
  -- the change of an accepted call is the one that the box logs
  pub change_as_told : is_accepted h m ≡ true → Checked m.call h.state m.areas → outcome h m ≡ left h m → let x = (deed h m).state in
      change t (note h m) ≡ changing h.state.run.outputs x.run.outputs (cause (finished m.call h.state m.areas) x.run.line) x.ticks
  unfolding change note
  change_as_told ok ch e =
      let x = (deed h m).state in
      let hear = hears h m t g i ok in
      let gone : Agrees (tell t (note h m)) x =
      subst (λ y. Agrees y x) (sym (tell_taken t h m other ok))
      (does_agrees t h.state m.areas g i (said t (note h m)) m.call ch other hear) in
      let line : (tell t (note h m)).run.line ≡ x.run.line = sym (ap (λ (r : Run). r.line) gone.run) in
      let word : (outcome h m).state.run.outputs ≡ x.run.outputs = ap (λ (r : After). r.state.run.outputs) e in
      ap₂ (λ b w. changing b w (cause_of (said t (note h m)) (tell t (note h m)).run.line) (tell t (note h m)).ticks)
      (sym (ap (λ (r : Run). r.outputs) g.run)) word
      ∙ ap₂ (changing h.state.run.outputs x.run.outputs)
      (ap (cause_of (said t (note h m))) line ∙ cause_as_told x.run.line hear) (sym gone.ticks)

  -- a refused call makes none
  pub no_change : next h m ≡ h → change t (note h m) ≡ []
  unfolding change note next
  no_change stays =
      let word : (outcome h m).state.run.outputs ≡ t.run.outputs = ap (λ (x : Held). x.state.run.outputs) stays ∙ ap (λ (r : Run). r.outputs) g.run in
      rw (word, eq-eqb t.run.outputs t.run.outputs refl)
