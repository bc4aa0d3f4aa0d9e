-- One call more: what the caller then holds, where it is accepted and where it is refused.
-- Assumes nothing.
use mathlib.Core.Path.{◌≡◌, refl, ap, ◌∙◌}
use Prim.Native.Nat.{ℕ}
use native.Mathlib.Omega.{arith}
use mathlib.Core.Bool.{Bool, true, false, ◌&&◌, true≢false}
use lib.Dec.{eqb}
use borrow.Author.Tests.{ne_eqb}
use Rattle.std.specs.Prelude.{if◌then◌else◌}
use Rattle.controller.specs.declared.Controller.{Controller}
use Rattle.controller.specs.Deeds.{Deed}
use Rattle.controller.specs.Refusals.{Call, power_on, byte, tick, press, emptying}
use Rattle.controller.specs.Effects.{is_power_on}
use Rattle.controller.specs.Calls.{After, does, starts_from, refused_with, taken}
use Rattle.controller.proofs.Refusals.{Checked, Settled, acceptance, refusal, every_call_settled}
use Rattle.demands.specs.Histories.{Made, Held, outcome, is_accepted, is_lent_program, next, HandsOn}

-- what an accepted call did
abbrev pub deed : Held → Made → Deed
deed h m = does m.call h.state m.areas

-- and all that it left
abbrev pub left : Held → Made → After
left h m = taken m.call h.state m.areas

-- what is held after an accepted call: the program only where the call is lent it
abbrev pub held_then : Held → Made → Held
held_then h m = record {
  state = (left h m).state;
  program = if is_lent_program m.call then (left h m).areas.program else h.program;
  log = (left h m).areas.log;
}

pub data Step (h : Held) (m : Made) : Type 0 where
  passes : is_accepted h m ≡ true → Checked m.call h.state m.areas → outcome h m ≡ left h m → next h m ≡ held_then h m → Step h m
  fails : is_accepted h m ≡ false → (n : ℕ) → outcome h m ≡ refused_with n m.call h.state m.areas
      → next h m ≡ record { state = starts_from m.call h.state; program = h.program; log = h.log } → Step h m

-- what is held after a call, by its outcome
held_after : Held → Bool → After → Held
held_after h lent r = record {
  state = r.state;
  program = if eqb r.refusal 0 && lent then r.areas.program else h.program;
  log = if eqb r.refusal 0 then r.areas.log else h.log;
}

pub stepped : (h : Held) (m : Made) → Step h m
unfolding outcome next held_after
stepped h m = go (every_call_settled m.call h.state m.areas)
  where
    go : Settled m.call h.state m.areas → Step h m
    go (acceptance c e) = passes (ap (λ (r : After). eqb r.refusal 0) e) c e (ap (held_after h (is_lent_program m.call)) e)
    go (refusal n lo hi e) =
        let ne : eqb n 0 ≡ false = ne_eqb n 0 (λ z. omega arith) in
        fails (ap (λ (r : After). eqb r.refusal 0) e ∙ ne) n e (ap (held_after h (is_lent_program m.call)) e ∙ rw ne)

-- a call other than power-on starts from the state
pub starts_from_same : (k : Call) (c : Controller) → is_power_on k ≡ false → starts_from k c ≡ c
starts_from_same power_on c e = absurd (true≢false e)
starts_from_same (byte x) c e = refl
starts_from_same tick c e = refl
starts_from_same (press n) c e = refl
starts_from_same emptying c e = refl

-- a refused call other than power-on leaves all that is held
pub refused_held : (h : Held) (m : Made) → is_power_on m.call ≡ false
    → next h m ≡ record { state = starts_from m.call h.state; program = h.program; log = h.log } → next h m ≡ h
refused_held h m other f = f ∙ ap (λ c. record { state = c; program = h.program; log = h.log }) (starts_from_same m.call h.state other)

-- a call that leaves the program area it was lent leaves the program that is held
pub program_held : (h : Held) (m : Made) → is_power_on m.call ≡ false → is_accepted h m ≡ true → HandsOn h m → next h m ≡ held_then h m
    → (deed h m).areas.program ≡ m.areas.program → (next h m).program ≡ h.program
program_held h m other ok hands f e = ap (λ (g : Held). g.program) f ∙ go (is_lent_program m.call) refl
  where
    go : (t : Bool) → is_lent_program m.call ≡ t → (if is_lent_program m.call then (deed h m).areas.program else h.program) ≡ h.program
    go true lent = rw lent (e ∙ hands.program other lent ok)
    go false unlent = rw unlent
