-- Every accepted call does to the box what the history says of it.
-- Assumes nothing.
use mathlib.Core.Path.{◌≡◌, refl, sym, ap, ap₂, ◌∙◌}
use Prim.Native.Nat.{ℕ, ◌+◌, ◌≤◌}
use native.Mathlib.Omega.{arith}
use mathlib.Core.Bool.{Bool, true, false, not, true≢false}
use mathlib.Core.List.{[]}
use lib.Dec.{eqb}
use borrow.Author.Tests.{eqb-true}
use Rattle.formats.specs.Checks.{Res, refused, passed}
use Rattle.formats.proofs.Checks.{if_case, either_true}
use Rattle.lines.specs.declared.Line.{Line}
use Rattle.lines.specs.Line.{bytes_of, Fits}
use Rattle.running.specs.declared.Run.{Run}
use Rattle.running.specs.Running.{stopped, with_outputs, start, tick}
use Rattle.variables.specs.Variables as Variables
use Rattle.variables.specs.Variables.{with_output_byte}
use Rattle.special.specs.declared.Special.{Special}
use Rattle.special.specs.declared.Special.TheVariants.{Stop, Pause, Start, Continue, StartAt, Execute, Load, Save}
use Rattle.special.specs.Special.{code_of}
use Rattle.wire.specs.declared.Data.TheVariants.{WriteLine, WriteOutputs, WriteParameter, WriteSpecial}
use Rattle.wire.specs.declared.Asked.{Asked}
use Rattle.wire.specs.declared.Asked.TheVariants.{Read, Write}
use Rattle.controller.specs.declared.Controller.{Controller}
use Rattle.wire.specs.declared.Wire.{Wire}
use Rattle.wire.specs.Collecting.{collect, cleared}
use Rattle.wire.specs.Invariant.{WireInvariant}
use Rattle.wire.specs.Collecting as Collecting
use Rattle.controller.specs.Controller.{Areas, with_ticks, with_wire, with_special}
use Rattle.controller.specs.Deeds.{Deed, start_at, stop, special, write, writing, wrote_to, empty_collection}
use Rattle.controller.specs.Deeds.{answer, ticked, pressed, empty_log, asked}
use Rattle.controller.specs.Deeds as Deeds
use Rattle.controller.specs.Refusals.{Call, power_on, byte, tick as tick_call, press, emptying, is_button}
use Rattle.controller.specs.Effects.{finished, is_power_on}
use Rattle.controller.specs.Invariant.{Invariant}
use Rattle.boxlog.specs.Log.{emptied}
use Rattle.controller.specs.Calls.{does}
use Rattle.controller.proofs.Alterations.{collect_is}
use Rattle.controller.proofs.Refusals.{Checked}
use Rattle.demands.specs.Said.{Said, silence, reads, writes_line, writes_outputs, writes_parameter, gives}
use Rattle.demands.specs.Told.{Told, afterwards}
use Rattle.demands.proofs.History.Shown.{with_byte_lem}
use Rattle.demands.proofs.History.Collects.{nothing_collected, byte_collects}
use Rattle.demands.proofs.History.Agrees.{Agrees, Hears, an_error, a_read, a_line, an_output, a_parameter, a_special, as_told}
use Rattle.demands.proofs.History.Agrees.{told_event, told_run, told_wire, told_panel, told_moved, told_ticks}
use Rattle.demands.proofs.History.Agrees.{event_agrees, raise_agrees, run_agrees, wire_agrees}
use Rattle.demands.proofs.History.Agrees.{panel_agrees, ticks_agrees, log_agrees, moved_agrees, execute_agrees, named_line}

-- ---- a finished command

module _ (t : Told) (c : Controller) (a : Areas) (g : Agrees t c) where
  error_agrees : (e : ℕ) → Agrees (afterwards (byte 13) silence a t) (answer (refused e) c a).state
  unfolding afterwards answer writing told_wire
  error_agrees e =
      wire_agrees t c g (cleared c.wire) t.next_read t.next_write [] g.wire.next_read g.wire.next_write
      (nothing_collected _ (record { none = refl; short = refl }))

  read_agrees : (k : ℕ) → Agrees (afterwards (byte 13) (reads k) a t) (answer (passed (Read k)) c a).state
  unfolding afterwards answer writing told_wire told_event
  read_agrees k = go (eqb k 212) refl
    where
      done : Agrees (told_wire (k + 1) t.next_write [] t) (with_wire (Collecting.read_to k (cleared c.wire)) c)
      done = wire_agrees t c g _ (k + 1) t.next_write [] refl g.wire.next_write (nothing_collected _ (record { none = refl; short = refl }))

      go : (b : Bool) → eqb k 212 ≡ b → Agrees (afterwards (byte 13) (reads k) a t) (answer (passed (Read k)) c a).state
      go true e = rw e (event_agrees _ _ done 0 false refl)
      go false e = rw e done

  -- a write moves its direction's address, and leaves the rest to its data
  wrote_agrees : (k : ℕ) → Agrees (told_wire t.next_read (k + 1) [] t) (wrote_to k (empty_collection c))
  wrote_agrees k =
      wire_agrees t c g (Collecting.wrote_to k (cleared c.wire)) t.next_read (k + 1) [] g.wire.next_read refl
      (nothing_collected _ (record { none = refl; short = refl }))

  line_agrees : (k : ℕ) (l : Line) → Fits l → Agrees (afterwards (byte 13) (writes_line k l) a t) (answer (passed (Write k (WriteLine l))) c a).state
  unfolding afterwards answer writing write told_wire told_panel
  line_agrees k l fits = go (eqb k 200) refl
    where
      go : (b : Bool) → eqb k 200 ≡ b → Agrees (afterwards (byte 13) (writes_line k l) a t) (answer (passed (Write k (WriteLine l))) c a).state
      go true e = rw (e, write) (panel_agrees _ _ (wrote_agrees k) (bytes_of l) l _ _ _ _ refl fits g.panel.parameter g.panel.special)
      go false e = rw (e, write) (wrote_agrees k)

  outputs_agrees : (k x : ℕ) → 203 ≤ k → k ≤ 206 → Agrees (afterwards (byte 13) (writes_outputs k x) a t) (answer (passed (Write k (WriteOutputs x))) c a).state
  unfolding afterwards answer writing write told_wire told_run
  outputs_agrees k x lo hi =
      run_agrees _ _ (wrote_agrees k) _ _ _ _
      (ap (λ (r : Run). with_outputs (with_output_byte k x r.outputs) r) g.run ∙ ap (λ w. with_outputs w t.run) (with_byte_lem k x t.run.outputs lo hi))
      g.paused

  parameter_agrees : (v : ℕ) → Agrees (afterwards (byte 13) (writes_parameter v) a t) (answer (passed (Write 209 (WriteParameter v))) c a).state
  unfolding afterwards answer writing write told_wire told_panel
  parameter_agrees v = panel_agrees _ _ (wrote_agrees 209) _ t.single v v _ _ g.panel.single g.panel.fits refl g.panel.special

  -- the special command s, with all done that is common to the eight
  given_agrees : (s : Special)
      → Agrees (told_panel t.single t.parameter (code_of s) (told_wire t.next_read 211 [] t)) (with_special (code_of s) (wrote_to 210 (empty_collection c)))
  given_agrees s =
      panel_agrees _ _ (wrote_agrees 210) _ t.single _ t.parameter (code_of s) (code_of s) g.panel.single g.panel.fits g.panel.parameter refl

  special_agrees : (s : Special) → Agrees (afterwards (byte 13) (gives (code_of s)) a t) (answer (passed (Write 210 (WriteSpecial s))) c a).state
  unfolding afterwards answer writing write special stop start_at told_wire told_panel told_run told_event Variables.line_of
  special_agrees Stop = run_agrees _ _ (given_agrees Stop) _ _ false false (ap stopped g.run) refl
  special_agrees Pause = run_agrees _ _ (given_agrees Pause) _ _ true true g.run refl
  special_agrees Start = moved_agrees _ _ (given_agrees Start) _ _ a (ap (λ (r : Run). start a.program 0 r.outputs) g.run)
  special_agrees Continue = run_agrees _ _ (given_agrees Continue) _ _ false false g.run refl
  special_agrees StartAt = moved_agrees _ _ (given_agrees StartAt) _ _ a (ap₂ (λ k (r : Run). start a.program k r.outputs) g.panel.parameter g.run)
  special_agrees Execute = execute_agrees _ _ (given_agrees Execute) _ _ (byte 13) (gives 6) a (named_line t c g (byte 13) (gives 6) a)
  special_agrees Load = given_agrees Load
  special_agrees Save = given_agrees Save

  -- what the command asks for, the box does as the history says
  command_agrees : (r : Res Asked) (s : Said) → Hears r s → Agrees (afterwards (byte 13) s a t) (answer r c a).state
  command_agrees r s (an_error e) = error_agrees e
  command_agrees r s (a_read k le) = read_agrees k
  command_agrees r s (a_line k l le fits) = line_agrees k l fits
  command_agrees r s (an_output k x lo hi) = outputs_agrees k x lo hi
  command_agrees r s (a_parameter v) = parameter_agrees v
  command_agrees r s (a_special x) = special_agrees x

-- ---- the other calls

-- what the history says of each
module _ (a : Areas) (t : Told) where
  tick_paused : t.paused ≡ true → afterwards tick_call silence a t ≡ told_ticks (t.ticks + 1) t
  unfolding afterwards told_ticks
  tick_paused e = rw e

  tick_unpaused : t.paused ≡ false → afterwards tick_call silence a t
      ≡ told_moved (tick a.program t.run) (told_ticks (t.ticks + 1) t)
  unfolding afterwards told_ticks told_run told_event
  tick_unpaused e = rw e

  press_stops : t.run.on ≡ true → afterwards (press 1) silence a t ≡ told_event 10 (told_run (stopped t.run) false t)
  unfolding afterwards told_run told_event
  press_stops e = rw e

  press_starts : t.run.on ≡ false → afterwards (press 1) silence a t ≡ told_moved (start a.program 0 t.run.outputs) t
  unfolding afterwards told_run told_event
  press_starts e = rw e

  press_turns : t.run.on ≡ true → afterwards (press 2) silence a t ≡ told_run t.run (not t.paused) t
  unfolding afterwards told_run
  press_turns e = rw e

  press_stays : t.run.on ≡ false → afterwards (press 2) silence a t ≡ t
  unfolding afterwards
  press_stays e = rw e

module _ (t : Told) (c : Controller) (a : Areas) (g : Agrees t c) where
  -- a byte other than 13
  byte_agrees : (x : ℕ) → WireInvariant c.wire → eqb x 13 ≡ false → Agrees (afterwards (byte x) silence a t) (Deeds.byte x c a).state
  unfolding afterwards Deeds.byte told_wire
  byte_agrees x i e =
      rw (e, Deeds.byte)
      (wire_agrees t c g (collect x c.wire) t.next_read t.next_write _
      (ap (λ (w : Wire). w.nextread) (collect_is x c.wire) ∙ g.wire.next_read)
      (ap (λ (w : Wire). w.nextwrite) (collect_is x c.wire) ∙ g.wire.next_write)
      (byte_collects t.received c.wire i g.wire.received x))

  -- a tick is counted; while paused it does nothing more
  tick_agrees : Agrees (afterwards tick_call silence a t) (ticked c a).state
  unfolding ticked
  tick_agrees =
      if_case (λ (x : Deed). Agrees (afterwards tick_call silence a t) x.state) c.paused
      (λ e. as_told (tick_paused a t (sym g.paused ∙ e)) counted)
      (λ e. as_told (tick_unpaused a t (sym g.paused ∙ e)) (moved_agrees _ _ counted _ _ a (ap (tick a.program) g.run)))
    where
      counted : Agrees (told_ticks (t.ticks + 1) t) (with_ticks (c.ticks + 1) c)
      counted = ticks_agrees t c g _ _ (ap (λ n. n + 1) g.ticks)

  -- Start/Stop stops a program that runs, and starts one else
  start_stop_agrees : Agrees (afterwards (press 1) silence a t) (pressed 1 c a).state
  unfolding pressed stop start_at
  start_stop_agrees =
      if_case (λ (x : Deed). Agrees (afterwards (press 1) silence a t) x.state) c.run.on
      (λ e. as_told (press_stops a t (sym same ∙ e)) (raise_agrees _ _ (run_agrees t c g _ _ false false (ap stopped g.run) refl) 10))
      (λ e. as_told (press_starts a t (sym same ∙ e))
      (moved_agrees t c g _ _ a (ap (λ (r : Run). start a.program 0 r.outputs) g.run)))
    where
      same : c.run.on ≡ t.run.on
      same = ap (λ (r : Run). r.on) g.run

  -- Pause pauses or continues a program that runs
  pause_agrees : Agrees (afterwards (press 2) silence a t) (pressed 2 c a).state
  unfolding pressed
  pause_agrees =
      if_case (λ (x : Deed). Agrees (afterwards (press 2) silence a t) x.state) c.run.on
      (λ e. as_told (press_turns a t (sym same ∙ e)) (run_agrees t c g _ _ _ _ g.run (ap not g.paused)))
      (λ e. as_told (press_stays a t (sym same ∙ e)) g)
    where
      same : c.run.on ≡ t.run.on
      same = ap (λ (r : Run). r.on) g.run

  press_agrees : (n : ℕ) → is_button n ≡ true → Agrees (afterwards (press n) silence a t) (pressed n c a).state
  press_agrees n b =
      either_true (eqb n 1) (eqb n 2) b (λ e. rw (eqb-true n 1 e) start_stop_agrees) (λ e. rw (eqb-true n 2 e) pause_agrees)

  emptying_agrees : Agrees (afterwards emptying silence a t) (empty_log c a).state
  unfolding afterwards empty_log writing emptied
  emptying_agrees = log_agrees t c g (emptied c.log.length) refl

-- what was refused is not said
not_refused : {q : Asked} {e : ℕ} → passed q ≡ refused e → ⊥
not_refused z = let n : ◌≡◌ {A = ℕ} 0 1 = cc in omega arith

pub silent : {r : Res Asked} {s : Said} (e : ℕ) → Hears r s → r ≡ refused e → s ≡ silence
silent e (an_error n) z = refl
silent e (a_read k le) z = absurd (not_refused z)
silent e (a_line k l le fits) z = absurd (not_refused z)
silent e (an_output k x lo hi) z = absurd (not_refused z)
silent e (a_parameter v) z = absurd (not_refused z)
silent e (a_special x) z = absurd (not_refused z)

module _ (t : Told) (c : Controller) (a : Areas) (g : Agrees t c) (i : Invariant c) (s : Said) where
  byte_done : (x : ℕ) → Hears (finished (byte x) c a) s → Agrees (afterwards (byte x) s a t) (Deeds.byte x c a).state
  unfolding Deeds.byte finished
  byte_done x h = go (eqb x 13) refl
    where
      go : (b : Bool) → eqb x 13 ≡ b → Agrees (afterwards (byte x) s a t) (Deeds.byte x c a).state
      go true e = let is : x ≡ 13 = eqb-true x 13 e in rw is (command_agrees t c a g (asked c a.program) s (rw is at h))
      go false e = rw (silent 0 h (rw e)) (byte_agrees t c a g x i.wire e)

  -- An accepted call does as the history says.
  pub does_agrees : (k : Call) → Checked k c a → is_power_on k ≡ false → Hears (finished k c a) s → Agrees (afterwards k s a t) (does k c a).state
  unfolding does finished
  does_agrees power_on ch other h = absurd (true≢false other)
  does_agrees (byte x) ch other h = byte_done x h
  does_agrees tick_call ch other h = rw (silent 0 h refl) (tick_agrees t c a g)
  does_agrees (press n) ch other h = rw (silent 0 h refl) (press_agrees t c a g n ch.checks.1)
  does_agrees emptying ch other h = rw (silent 0 h refl) (emptying_agrees t c a g)
