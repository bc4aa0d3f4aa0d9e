-- Demand 3: "From an accepted start until the program ends, is stopped or power-on is called, outputs, line number and loop
-- counters depend only on the program, its start line, the outputs at the start and the number of ticks taken while not paused. No
-- traffic makes a step early or late, and pausing neither gains nor loses a tick."
-- Assumes nothing.
use mathlib.Core.Path.{◌≡◌, refl, sym, ap, ap₂, subst, ◌∙◌}
use Prim.Native.Nat.{ℕ, ◌≤◌}
use mathlib.Core.Logic.{◌≢◌}
use mathlib.Core.Bool.{Bool, true, false, not, ◌&&◌, ◌||◌, true≢false}
use mathlib.Core.List.{List, [], ◌∷◌, ◌++◌}
use mathlib.Core.Option.{some}
use lib.Dec.{eqb}
use Rattle.std.specs.Prelude.{if◌then◌else◌}
use Rattle.formats.proofs.Checks.{not_so, not_some, neither, both_false}
use Rattle.lines.specs.declared.Line.TheVariants.{Bad}
use Rattle.lines.specs.Program.{line_at}
use Rattle.running.specs.declared.Run.{Run}
use Rattle.running.specs.declared.Ran.{Ran}
use Rattle.running.specs.Running.{start, tick, ticks}
use Rattle.running.proofs.Parts.{off_is}
use Rattle.controller.specs.declared.Controller.{Controller}
use Rattle.controller.specs.Controller.{Areas}
use Rattle.controller.specs.Refusals.{Call, power_on, byte, tick as tick_call, press, emptying}
use Rattle.controller.specs.Effects.{finished, is_press, is_power_on, start_by, start_line}
use Rattle.controller.specs.Invariant.{Invariant}
use Rattle.controller.proofs.Moving.{does_start}
use Rattle.demands.specs.Histories.{ending, ticking, Made, Held, unpowered, is_accepted, is_lent_program, next, after, HandsOn, AllHandOn}
use Rattle.demands.specs.Seen.{is_taken, reply, seen, outputs, Note, note, notes}
use Rattle.demands.specs.Said.{Said, silence, reads, writes_line, writes_outputs, writes_parameter, gives, given, reads_event}
use Rattle.demands.specs.Told.{Told, said, paused_then, starts, ran, afterwards, tell, tell_all, told}
use Rattle.demands.specs.ReadBack.{ReadOf}
use Rattle.demands.specs.Shown.{shown_of}
use Rattle.demands.specs.Replies.{ended}
use Rattle.demands.specs.Started.{Course, begun, now, Started, program_of, start_of, count, ruled, Ticks, ticked}
use Rattle.demands.specs.Undisturbed.{is_broken, is_pausing, SameOrNone}
use Rattle.demands.proofs.Calls.Answered.{invariant_always}
use Rattle.demands.proofs.History.Steps.{Step, passes, fails, stepped, program_held}
use Rattle.demands.proofs.History.Agrees.{Agrees}
use Rattle.demands.proofs.History.Heard.{hears}
use Rattle.demands.proofs.History.Telling.{tell_taken, after_more, told_more, held_as_told}
use Rattle.demands.proofs.History.AsTold.{outputs_as_told, only_running_paused}
use Rattle.demands.proofs.Calls.Replies.{reads_as_told}
use Rattle.demands.proofs.Runs.LinesRun.{lines_as_told}
use Rattle.demands.proofs.Runs.Undisturbed.{given_as_told, undisturbed, no_event_meanwhile}

-- ---- the start

not_power_on : (k : Call) (j : ℕ) (c : Controller) (a : Areas) → start_line k c a ≡ some j → is_power_on k ≡ false
unfolding start_line finished
not_power_on power_on j c a e = absurd (not_some e)
not_power_on (byte x) j c a e = refl
not_power_on tick_call j c a e = refl
not_power_on (press n) j c a e = refl
not_power_on emptying j c a e = refl

start_lent : (k : Call) (j : ℕ) (c : Controller) (a : Areas) → start_line k c a ≡ some j → is_lent_program k ≡ true
unfolding start_line finished
start_lent power_on j c a e = refl
start_lent (byte x) j c a e = refl
start_lent tick_call j c a e = refl
start_lent (press n) j c a e = refl
start_lent emptying j c a e = absurd (not_some e)

-- the history's start is the box's
starts_as_told : (t : Told) (h : Held) (m : Made) → Agrees t h.state → Invariant h.state → is_accepted h m ≡ true
    → start_line m.call h.state m.areas ≡ starts m.call (said t (note h m)) m.areas t
unfolding start_line
starts_as_told t h m g i ok =
    ap₂ (λ (on : Bool) (x : ℕ × ℕ). if is_press 1 m.call && not on then some 0 else start_by x.0 x.1) (ap (λ (r : Run). r.on) g.run)
    (ap₂ (λ code parameter. (code, parameter)) (given_as_told (hears h m t g i ok)) g.panel.parameter)

-- an accepted start moves the run as the rules' start does, and leaves the program
start_moves : (h : Held) (m : Made) (k : ℕ) → is_accepted h m ≡ true → HandsOn h m → start_line m.call h.state m.areas ≡ some k
    → ((next h m).state.run ≡ (start h.program k h.state.run.outputs).run) × ((next h m).program ≡ h.program)
start_moves h m k ok hands e = go (stepped h m)
  where
    other : is_power_on m.call ≡ false
    other = not_power_on m.call k h.state m.areas e

    same : m.areas.program ≡ h.program
    same = hands.program other (start_lent m.call k h.state m.areas e) ok

    go : Step h m → ((next h m).state.run ≡ (start h.program k h.state.run.outputs).run) × ((next h m).program ≡ h.program)
    go (fails bad n _ f) = absurd (true≢false (sym ok ∙ bad))
    go (passes _ ch _ f) =
        let d = does_start m.call k h.state m.areas e in (
          ap (λ (g : Held). g.state.run) f ∙ d.run ∙ ap (λ p. (start p k h.state.run.outputs).run) same,
          program_held h m other ok hands f d.program,
        )

-- ---- one tick

-- a tick that is taken unpaused, by the history
module _ (ms : List Made) (a : Areas) (taken : is_taken (seen ms (ticking a)) ≡ true) (unpaused : (told ms).paused ≡ false) where
  told_tick : told (ms ++ (ticking a ∷ [])) ≡ afterwards tick_call silence a (told ms)
  unfolding seen tell_all notes said note
  told_tick = told_more ms (ticking a ∷ []) ∙ tell_taken (told ms) (after unpowered ms) (ticking a) refl taken

  tick_run : (told (ms ++ (ticking a ∷ []))).run ≡ (tick a.program (told ms).run).run
  unfolding afterwards
  tick_run = ap (λ (t : Told). t.run) told_tick ∙ rw unpaused

  tick_event : let r = tick a.program (told ms).run in (told (ms ++ (ticking a ∷ []))).event ≡ (if eqb r.event 0 then (told ms).event else r.event)
  unfolding afterwards
  tick_event = ap (λ (t : Told). t.event) told_tick ∙ rw unpaused

  tick_lines : (seen ms (ticking a)).lines ≡ (tick a.program (told ms).run).lines
  unfolding said note
  tick_lines = lines_as_told ms (ticking a) taken ∙ rw unpaused

-- A tick that is taken while no program runs moves nothing of it: run and event stay, and no line is run.
pub idle_tick : (ms : List Made) (a : Areas) → is_taken (seen ms (ticking a)) ≡ true → (told ms).run.on ≡ false
    → let gone = told (ms ++ (ticking a ∷ [])) in (gone.run ≡ (told ms).run) × (gone.event ≡ (told ms).event) × ((seen ms (ticking a)).lines ≡ 0)
idle_tick ms a taken off =
    let still : (told ms).paused ≡ false = not_so (told ms).paused (λ p. true≢false (sym (only_running_paused ms p) ∙ off)) in
    let r = off_is (told ms).run a.program off in (
      tick_run ms a taken still ∙ ap (λ (x : Ran). x.run) r,
      tick_event ms a taken still ∙ ap (λ (x : Ran). if eqb x.event 0 then (told ms).event else x.event) r,
      tick_lines ms a taken still ∙ ap (λ (x : Ran). x.lines) r,
    )

-- ---- one start, by the history

-- a press finishes no command
press_silent : (t : Told) (h : Held) (k : Call) (a : Areas) → is_press 1 k ≡ true → said t (note h (record { call = k; areas = a })) ≡ silence
unfolding said note
press_silent t h power_on a e = absurd (true≢false (sym e))
press_silent t h (byte x) a e = absurd (true≢false (sym e))
press_silent t h tick_call a e = absurd (true≢false (sym e))
press_silent t h (press n) a e = refl
press_silent t h emptying a e = absurd (true≢false (sym e))

-- what starts a program neither stops one nor reads the event
start_only : (k : Call) (s : Said) (a : Areas) (t : Told) (j : ℕ) → starts k s a t ≡ some j → (is_press 1 k ≡ true → s ≡ silence)
    → ((is_press 1 k && t.run.on) ≡ false) × (reads_event s ≡ false)
start_only k s a t j e quiet = go (is_press 1 k) refl t.run.on refl
  where
    by_command : (r : Said) → is_press 1 k ≡ false → starts k r a t ≡ some j → reads_event r ≡ false
    by_command silence f b = refl
    by_command (reads i) f b = absurd (not_some (rw f at b))
    by_command (writes_line i l) f b = refl
    by_command (writes_outputs i x) f b = refl
    by_command (writes_parameter v) f b = refl
    by_command (gives n) f b = refl

    go : (b : Bool) → is_press 1 k ≡ b → (c : Bool) → t.run.on ≡ c → ((is_press 1 k && t.run.on) ≡ false) × (reads_event s ≡ false)
    go true f true g = absurd (not_some (rw (f, g, quiet f) at e))
    go true f false g = (rw (f, g), rw (quiet f))
    go false f c g = (rw f, by_command s f e)

module _ (before : List Made) (m : Made) (k : ℕ) (taken : is_taken (seen before m) ≡ true)
    (begins : starts m.call (said (told before) (note (after unpowered before) m)) m.areas (told before) ≡ some k) where
  start_at : start_line m.call (after unpowered before).state m.areas ≡ some k
  unfolding seen
  start_at = starts_as_told (told before) (after unpowered before) m (held_as_told before) (invariant_always before) taken ∙ begins

  start_other : is_power_on m.call ≡ false
  start_other = not_power_on m.call k (after unpowered before).state m.areas start_at

  -- the rules' start is what the history says of it
  ran_start : HandsOn (after unpowered before) m
      → ran m.call (said (told before) (note (after unpowered before) m)) m.areas (told before)
      ≡ start (after unpowered before).program k (outputs before)
  unfolding seen
  ran_start hands =
      rw (begins, ran)
      (ap₂ (λ p o. start p k o) (hands.program start_other (start_lent m.call k (after unpowered before).state m.areas start_at) taken)
      (sym (outputs_as_told before)))

  start_event : let r = ran m.call (said (told before) (note (after unpowered before) m)) m.areas (told before) in
      (told (before ++ (m ∷ []))).event ≡ (if eqb r.event 0 then (told before).event else r.event)
  unfolding seen tell_all notes afterwards
  start_event =
      let h = after unpowered before in
      let s = said (told before) (note h m) in
      let only = start_only m.call s m.areas (told before) k begins (press_silent (told before) h m.call m.areas) in
      ap (λ (t : Told). t.event) (told_more before (m ∷ []) ∙ tell_taken (told before) h m start_other taken)
      ∙ rw (only.0, only.1)

-- ---- the demand

module _ (c : Course) (so : Started c) where
  started : ((after unpowered (begun c)).state.run ≡ (start_of c).run) × ((after unpowered (begun c)).program ≡ program_of c)
  unfolding seen after outputs
  started =
      let h = after unpowered c.before in
      let gone : after unpowered (begun c) ≡ next h c.starting = after_more c.before (c.starting ∷ []) in
      let at = starts_as_told (told c.before) h c.starting (held_as_told c.before) (invariant_always c.before) so.taken ∙ so.begins in
      let s = start_moves h c.starting c.line so.taken so.hands.0 at in
      (ap (λ (x : Held). x.state.run) gone ∙ s.0, ap (λ (x : Held). x.program) gone ∙ s.1)

  -- The start itself does what the rules' start does, also where it ends the program at once: run, event, and the number of lines it returns.
  pub starts_by_the_rules : let r = start_of c in
      ((told (begun c)).run ≡ r.run) × ((told (begun c)).event ≡ (if eqb r.event 0 then (told c.before).event else r.event))
      × ((seen c.before c.starting).lines ≡ r.lines)
  unfolding seen outputs
  starts_by_the_rules =
      let r = ran_start c.before c.starting c.line so.taken so.begins so.hands.0 in (
        sym (held_as_told (begun c)).run ∙ started.0,
        start_event c.before c.starting c.line so.taken so.begins
            ∙ ap (λ (y : Ran). if eqb y.event 0 then (told c.before).event else y.event) r,
        lines_as_told c.before c.starting so.taken
            ∙ rw (start_other c.before c.starting c.line so.taken so.begins) (ap (λ (y : Ran). y.lines) r),
      )

  -- Outputs, line number and loop counters, and whether the program runs, are those of the rules, until by the rules it has ended.
  pub runs_by_the_rules : (ruled c).on ≡ true → ((told (now c)).run ≡ ruled c) × ((after unpowered (now c)).program ≡ program_of c)
  unfolding after
  runs_by_the_rules on =
      let h = after unpowered (begun c) in
      let s = started in
      let e : ticks h.program (count c) h.state.run ≡ ruled c = ap₂ (λ p r. ticks p (count c) r) s.1 s.0 in
      let go = undisturbed c.later (told (begun c)) h (held_as_told (begun c)) (invariant_always (begun c))
      (subst (λ (x : Held). AllHandOn x c.later) (sym (after_more c.before (c.starting ∷ []))) so.hands.1) so.unbroken
      (ap (λ (r : Run). r.on) e ∙ on) in
      let gone : after unpowered (now c) ≡ after h c.later = after_more (begun c) c.later in (
        sym (held_as_told (now c)).run ∙ ap (λ (x : Held). x.state.run) gone ∙ go.run ∙ e,
        ap (λ (x : Held). x.program) gone ∙ go.program ∙ s.1,
      )

  -- Until then no call raises an event: 212 has what it had after the start, or 0, where that was read.
  pub events_by_the_rules : (ruled c).on ≡ true → SameOrNone (told (now c)).event (told (begun c)).event
  unfolding after
  events_by_the_rules on =
      let h = after unpowered (begun c) in
      let s = started in
      let e : ticks h.program (count c) h.state.run ≡ ruled c = ap₂ (λ p r. ticks p (count c) r) s.1 s.0 in
      let quiet = no_event_meanwhile c.later (told (begun c)) h (held_as_told (begun c)) (invariant_always (begun c))
      (subst (λ (x : Held). AllHandOn x c.later) (sym (after_more c.before (c.starting ∷ []))) so.hands.1) so.unbroken
      (ap (λ (r : Run). r.on) e ∙ on) in
      subst (λ (t : Told). SameOrNone t.event (told (begun c)).event) (sym (told_more (begun c) c.later)) quiet

  -- So the 32 outputs are the rules'.
  pub outputs_by_the_rules : (ruled c).on ≡ true → outputs (now c) ≡ (ruled c).outputs
  outputs_by_the_rules on = outputs_as_told (now c) ∙ ap (λ (r : Run). r.outputs) (runs_by_the_rules on).0

  -- And so is what a read of any address is answered at which no Bad line stands: of 201, 203-206, 211 and 213-216 what the rules' run has there.
  pub reads_by_the_rules : (ruled c).on ≡ true → (a : Areas) (j : ℕ) → j ≤ 216 → ReadOf (now c) j a → (j ≤ 199 → line_at a.program j ≢ Bad)
      → reply (seen (now c) (ending a)) ≡ ended (shown_of (ruled c) (told (now c)) a.program j)
  reads_by_the_rules on a j inside read good =
      (reads_as_told (now c) a j inside read).0 good ∙ ap (λ r. ended (shown_of r (told (now c)) a.program j)) (runs_by_the_rules on).0

  -- The next tick that is taken unpaused does what the rules' next tick does: the program goes on, or it ends, with its event, exactly as they
  -- say (`running/Ending.tick_told`: a tick of the rules has an event exactly if it ends the program). It returns the number of lines they say.
  pub ends_by_the_rules : (ruled c).on ≡ true → (a : Areas) → Ticks c a → let r = tick (program_of c) (ruled c) in let gone = told (ticked c a) in
      (gone.run ≡ r.run) × (gone.event ≡ (if eqb r.event 0 then (told (now c)).event else r.event)) × ((seen (now c) (ticking a)).lines ≡ r.lines)
  unfolding seen
  ends_by_the_rules on a x =
      let by = runs_by_the_rules on in
      let same : a.program ≡ program_of c = x.hands.program refl refl x.taken ∙ by.1 in
      let r : tick a.program (told (now c)).run ≡ tick (program_of c) (ruled c) = ap₂ (λ p y. tick p y) same by.0 in (
        tick_run (now c) a x.taken x.unpaused ∙ ap (λ (y : Ran). y.run) r,
        tick_event (now c) a x.taken x.unpaused ∙ ap (λ (y : Ran). if eqb y.event 0 then (told (now c)).event else y.event) r,
        tick_lines (now c) a x.taken x.unpaused ∙ ap (λ (y : Ran). y.lines) r,
      )

paused_stays : (k : Call) (s : Said) (a : Areas) (t : Told) → eqb (given s) 1 ≡ false → is_press 1 k ≡ false
    → (eqb (given s) 2 || eqb (given s) 4 || is_press 2 k) ≡ false → paused_then k s a t ≡ t.paused
paused_stays k s a t one first others =
    let p = neither (eqb (given s) 2 || eqb (given s) 4) (is_press 2 k) others in
    let q = neither (eqb (given s) 2) (eqb (given s) 4) p.0 in
    rw (one, first, q.0, q.1, p.1)

-- Between the start and the end nothing but 002, 004 and the button Pause changes whether the program is paused. This is said of the
-- history, whatever the notes are; that the box does as it says is `held_as_told`, and D0 of 201 shows it (`reads_as_told`).
pub pauses_only : (t : Told) (n : Note) → is_broken t n ≡ false → is_pausing t n ≡ false → (tell t n).paused ≡ t.paused
unfolding is_broken is_pausing tell afterwards
pauses_only t n unbroken still = go (is_taken n.seen) refl
  where
    other : is_power_on n.call ≡ false
    other = (neither (is_power_on n.call) _ unbroken).0

    go : (b : Bool) → is_taken n.seen ≡ b → (tell t n).paused ≡ t.paused
    go true e =
        let s = neither (eqb (given (said t n)) 1) (is_press 1 n.call) (both_false _ _ e (neither (is_power_on n.call) _ unbroken).1) in
        rw (other, e) (paused_stays n.call (said t n) n.lent t s.0 s.1 (both_false _ _ e still))
    go false e = rw (other, e)
