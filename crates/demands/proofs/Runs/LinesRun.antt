-- "The number run in a call is returned with it and equals the definition's": the For and Next lines that each call returns.
-- Assumes nothing.
use mathlib.Core.Path.{◌≡◌, refl, sym, ap, ap₂, ◌∙◌}
use Prim.Native.Nat.{ℕ}
use mathlib.Core.Bool.{Bool, true, false, true≢false}
use mathlib.Core.List.{List}
use lib.Dec.{eqb}
use borrow.Author.Tests.{eqb-true}
use Rattle.std.specs.Prelude.{if◌then◌else◌}
use Rattle.formats.specs.Checks.{Res, passed}
use Rattle.formats.proofs.Checks.{if_case, either_true}
use Rattle.running.specs.declared.Run.{Run}
use Rattle.running.specs.Running.{start, tick}
use Rattle.special.specs.declared.Special.{Special}
use Rattle.special.specs.declared.Special.TheVariants.{Stop, Pause, Start, Continue, StartAt, Execute, Load, Save}
use Rattle.special.specs.Special.{code_of}
use Rattle.wire.specs.declared.Asked.{Asked}
use Rattle.wire.specs.declared.Asked.TheVariants.{Write}
use Rattle.wire.specs.declared.Data.TheVariants.{WriteSpecial}
use Rattle.controller.specs.declared.Controller.{Controller}
use Rattle.controller.specs.Controller.{Areas}
use Rattle.controller.specs.Deeds.{Deed, moved, start_at, special, write, writing, answer, ticked, pressed, empty_log, power_up, asked}
use Rattle.controller.specs.Deeds as Deeds
use Rattle.controller.specs.Refusals.{Call, power_on, byte, tick as tick_call, press, emptying, is_button}
use Rattle.controller.specs.Effects.{finished, is_power_on}
use Rattle.controller.specs.Calls.{After, does}
use Rattle.controller.proofs.Refusals.{Checked}
use Rattle.demands.specs.Histories.{Made, Held, unpowered, outcome, is_accepted, after}
use Rattle.demands.specs.Seen.{is_taken, seen, note}
use Rattle.demands.specs.Said.{Said, silence, gives}
use Rattle.demands.specs.Told.{Told, said, ran, told}
use Rattle.demands.proofs.History.Steps.{Step, passes, fails, stepped}
use Rattle.demands.proofs.Calls.Answered.{invariant_always}
use Rattle.demands.proofs.History.Agrees.{Agrees, Hears, an_error, a_read, a_line, an_output, a_parameter, a_special}
use Rattle.demands.proofs.History.Agreement.{silent}
use Rattle.demands.proofs.History.Heard.{hears}
use Rattle.demands.proofs.History.Telling.{held_as_told}

module _ (t : Told) (c : Controller) (a : Areas) (g : Agrees t c) where
  special_lines : (s : Special) → (answer (passed (Write 210 (WriteSpecial s))) c a).lines ≡ (ran (byte 13) (gives (code_of s)) a t).lines
  unfolding answer writing write special start_at moved
  special_lines Stop = refl
  special_lines Pause = refl
  special_lines Start = ap (λ (r : Run). (start a.program 0 r.outputs).lines) g.run
  special_lines Continue = refl
  special_lines StartAt = ap₂ (λ k (r : Run). (start a.program k r.outputs).lines) g.panel.parameter g.run
  special_lines Execute = refl
  special_lines Load = refl
  special_lines Save = refl

  command_lines : (r : Res Asked) (s : Said) → Hears r s → (answer r c a).lines ≡ (ran (byte 13) s a t).lines
  unfolding answer writing write
  command_lines r s (an_error e) = refl
  command_lines r s (a_read k le) = refl
  command_lines r s (a_line k l le fits) = if_case (λ (x : Deed). x.lines ≡ 0) (eqb k 200) (λ _. refl) (λ _. refl)
  command_lines r s (an_output k x lo hi) = refl
  command_lines r s (a_parameter v) = refl
  command_lines r s (a_special x) = special_lines x

  tick_lines : (ticked c a).lines ≡ (ran tick_call silence a t).lines
  unfolding ticked moved
  tick_lines =
      if_case (λ (x : Deed). x.lines ≡ (ran tick_call silence a t).lines) c.paused (λ e. rw (sym g.paused ∙ e))
      (λ e. rw (sym g.paused ∙ e) (ap (λ r. (tick a.program r).lines) g.run))

  start_stop_lines : (pressed 1 c a).lines ≡ (ran (press 1) silence a t).lines
  unfolding pressed start_at moved
  start_stop_lines =
      let same : t.run.on ≡ c.run.on = sym (ap (λ (r : Run). r.on) g.run) in
      if_case (λ (x : Deed). x.lines ≡ (ran (press 1) silence a t).lines) c.run.on (λ e. rw (same ∙ e))
      (λ e. rw (same ∙ e) (ap (λ (r : Run). (start a.program 0 r.outputs).lines) g.run))

  pause_lines : (pressed 2 c a).lines ≡ (ran (press 2) silence a t).lines
  unfolding pressed
  pause_lines = if_case (λ (x : Deed). x.lines ≡ 0) c.run.on (λ _. refl) (λ _. refl)

  press_lines : (n : ℕ) → is_button n ≡ true → (pressed n c a).lines ≡ (ran (press n) silence a t).lines
  press_lines n b = either_true (eqb n 1) (eqb n 2) b (λ e. rw (eqb-true n 1 e) start_stop_lines) (λ e. rw (eqb-true n 2 e) pause_lines)

  module _ (s : Said) where
    byte_lines : (x : ℕ) → Hears (finished (byte x) c a) s → (Deeds.byte x c a).lines ≡ (ran (byte x) s a t).lines
    unfolding Deeds.byte finished
    byte_lines x h = go (eqb x 13) refl
      where
        go : (b : Bool) → eqb x 13 ≡ b → (Deeds.byte x c a).lines ≡ (ran (byte x) s a t).lines
        go true e = let is : x ≡ 13 = eqb-true x 13 e in rw is (command_lines (asked c a.program) s (rw is at h))
        go false e = rw (silent 0 h (rw e), e)

    does_lines : (k : Call) → Checked k c a → is_power_on k ≡ false → Hears (finished k c a) s → (does k c a).lines ≡ (ran k s a t).lines
    unfolding does finished empty_log writing
    does_lines power_on ch other h = absurd (true≢false other)
    does_lines (byte x) ch other h = byte_lines x h
    does_lines tick_call ch other h = rw (silent 0 h refl) tick_lines
    does_lines (press n) ch other h = rw (silent 0 h refl) (press_lines n ch.checks.1)
    does_lines emptying ch other h = rw (silent 0 h refl)

-- Each call that is taken returns the number of lines that the running rules say of it, by the history, what is lent and the reply; power-on
-- runs none.
pub lines_as_told : (ms : List Made) (m : Made) → is_taken (seen ms m) ≡ true
    → let t = told ms in (seen ms m).lines ≡ (if is_power_on m.call then 0 else (ran m.call (said t (note (after unpowered ms) m)) m.areas t).lines)
unfolding seen does power_up
lines_as_told ms m ok = go m.call m.areas ok (is_power_on m.call) refl
  where
    h : Held
    h = after unpowered ms

    t : Told
    t = told ms

    Lines : Call → Areas → Type 0
    Lines k a = let n : Made = record { call = k; areas = a } in
        (outcome h n).lines ≡ (if is_power_on k then 0 else (ran k (said t (note h n)) a t).lines)

    by_rules : (k : Call) (a : Areas) → let n : Made = record { call = k; areas = a } in is_accepted h n ≡ true → is_power_on k ≡ false → Step h n → Lines k a
    by_rules k a ok other (fails bad n e f) = absurd (true≢false (sym ok ∙ bad))
    by_rules k a ok other (passes _ ch e f) =
        let n : Made = record { call = k; areas = a } in
        rw other
        (ap (λ (x : After). x.lines) e
        ∙ does_lines t h.state a (held_as_told ms) (said t (note h n)) k ch other
        (hears h n t (held_as_told ms) (invariant_always ms) ok))

    none_run : (a : Areas) → let n : Made = record { call = power_on; areas = a } in is_accepted h n ≡ true → Step h n → Lines power_on a
    none_run a ok (fails bad n e f) = absurd (true≢false (sym ok ∙ bad))
    none_run a ok (passes _ ch e f) = ap (λ (x : After). x.lines) e

    go : (k : Call) (a : Areas) → is_accepted h (record { call = k; areas = a }) ≡ true → (b : Bool) → is_power_on k ≡ b → Lines k a
    go k a ok false other = by_rules k a ok other (stepped h _)
    go power_on a ok true is = none_run a ok (stepped h _)
    go (byte x) a ok true is = absurd (true≢false (sym is))
    go tick_call a ok true is = absurd (true≢false (sym is))
    go (press n) a ok true is = absurd (true≢false (sym is))
    go emptying a ok true is = absurd (true≢false (sym is))
