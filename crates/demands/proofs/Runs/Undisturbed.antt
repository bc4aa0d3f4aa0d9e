-- Demand 3, the calls between the ticks: "No traffic makes a step early or late, and pausing neither gains nor loses a tick."
-- Assumes nothing.
use mathlib.Core.Path.{◌≡◌, refl, sym, ap, ap₂, ◌∙◌}
use Prim.Native.Nat.{ℕ, ◌+◌}
use mathlib.Core.Logic.{inl, inr}
use mathlib.Core.Bool.{Bool, true, false, not, ◌&&◌, true≢false}
use mathlib.Core.List.{List, [], ◌∷◌}
use mathlib.Core.Option.{Option, none, some}
use lib.Dec.{eqb}
use borrow.Author.Tests.{eqb-true, eqb-false}
use Rattle.std.specs.Prelude.{if◌then◌else◌}
use Rattle.formats.specs.Checks.{Res}
use Rattle.formats.proofs.Checks.{both_false, neither, if_case, not_so}
use Rattle.wire.specs.declared.Asked.{Asked}
use Rattle.running.specs.declared.Run.{Run}
use Rattle.running.specs.declared.Ran.{Ran}
use Rattle.running.specs.Running.{rests, start, tick, ticks}
use Rattle.running.proofs.Ending as Ending
use Rattle.running.proofs.Ending.{start_told, tick_told}
use Rattle.running.proofs.Waiting.{ticks_add, was_on}
use Rattle.controller.specs.Controller.{Areas}
use Rattle.controller.specs.Refusals.{Call, power_on, byte, tick as tick_call, press, emptying}
use Rattle.controller.specs.Calls.{does}
use Rattle.controller.specs.Effects.{finished, special_code, is_power_on, is_press, is_tick}
use Rattle.controller.specs.Invariant.{Invariant}
use Rattle.controller.proofs.Moving.{Same, call_same, byte_same, MovedAs, tick_as}
use Rattle.demands.specs.Histories.{Made, Held, is_accepted, next, after, HandsOn, AllHandOn}
use Rattle.demands.specs.Seen.{is_taken, Note, note, notes}
use Rattle.demands.specs.Said.{Said, silence, reads, writes_line, writes_outputs, writes_parameter, gives, given, reads_event}
use Rattle.demands.specs.Told.{Told, said, starts, ran, afterwards, tell, tell_all}
use Rattle.demands.specs.Undisturbed.{is_broken, Unbroken, counts, unpaused, SameOrNone}
use Rattle.demands.proofs.Calls.Answered.{next_invariant}
use Rattle.demands.proofs.History.Agrees.{Agrees, Hears, an_error, a_read, a_line, an_output, a_parameter, a_special}
use Rattle.demands.proofs.History.Heard.{hears}
use Rattle.demands.proofs.History.Telling.{agrees_next}
use Rattle.demands.proofs.History.Steps.{deed, held_then, Step, passes, fails, stepped, refused_held, program_held}

-- what is held moves on by n ticks, and by nothing else
pub record Goes (h : Held) (n : ℕ) (h' : Held) : Type 0 where
  pub run : h'.state.run ≡ ticks h.program n h.state.run
  pub program : h'.program ≡ h.program

no_ticks : (p : List ℕ) (r : Run) → ticks p 0 r ≡ r
unfolding ticks
no_ticks p r = refl

one_tick : (p : List ℕ) (r : Run) → ticks p 1 r ≡ (tick p r).run
unfolding ticks
one_tick p r = refl

module _ (h : Held) (m : Made) (other : is_power_on m.call ≡ false) (hands : HandsOn h m) where
  -- a refused call
  stays : next h m ≡ h → Goes h 0 (next h m)
  stays e = record { run = ap (λ (g : Held). g.state.run) e ∙ sym (no_ticks h.program h.state.run); program = ap (λ (g : Held). g.program) e }

  -- an accepted call that leaves the run
  same_goes : is_accepted h m ≡ true → next h m ≡ held_then h m → Same h.state m.areas (deed h m) → Goes h 0 (next h m)
  same_goes ok f s =
      record {
        run = ap (λ (g : Held). g.state.run) f ∙ s.run ∙ sym (no_ticks h.program h.state.run);
        program = program_held h m other ok hands f s.program;
      }

module _ (h : Held) (a : Areas) (hands : HandsOn h (record { call = tick_call; areas = a })) where
  -- an accepted tick that is not taken while paused
  tick_goes : let m : Made = record { call = tick_call; areas = a } in is_accepted h m ≡ true → next h m ≡ held_then h m
      → MovedAs (tick a.program h.state.run) h.state a.program (deed h m) → Goes h 1 (next h m)
  tick_goes ok f d =
      record {
        run = ap (λ (g : Held). g.state.run) f ∙ d.run ∙ sym (one_tick a.program h.state.run)
            ∙ ap (λ p. ticks p 1 h.state.run) (hands.program refl refl ok);
        program = program_held h (record { call = tick_call; areas = a }) refl ok hands f d.program;
      }

-- the special command that the history hears is the one that the box does
pub given_as_told : {r : Res Asked} {s : Said} → Hears r s → special_code r ≡ given s
given_as_told (an_error e) = refl
given_as_told (a_read k le) = refl
given_as_told (a_line k l le fits) = refl
given_as_told (an_output k x lo hi) = refl
given_as_told (a_parameter v) = refl
given_as_told (a_special x) = refl

-- One call that breaks nothing off moves the run by as many ticks as it counts, and by nothing else.
module _ (t : Told) (h : Held) (g : Agrees t h.state) (i : Invariant h.state) (on : h.state.run.on ≡ true) where
  tick_counted : (a : Areas) → let m : Made = record { call = tick_call; areas = a } in HandsOn h m → is_accepted h m ≡ true → next h m ≡ held_then h m
      → Goes h (counts t (note h m)) (next h m)
  unfolding counts note does finished
  tick_counted a hands ok f = rw ok (go t.paused refl)
    where
      m : Made
      m = record { call = tick_call; areas = a }

      go : (b : Bool) → t.paused ≡ b → Goes h (if not t.paused then 1 else 0) (next h m)
      go true p = rw p (same_goes h m refl hands ok f (call_same tick_call h.state a (rw (g.paused ∙ p)) refl))
      go false p = rw p (tick_goes h a hands ok f (tick_as h.state a (g.paused ∙ p)))

  goes : (k : Call) (a : Areas) → let m : Made = record { call = k; areas = a } in
      HandsOn h m → is_broken t (note h m) ≡ false → Step h m → Goes h (counts t (note h m)) (next h m)
  unfolding counts note is_broken does finished
  goes power_on a hands u s = absurd (true≢false u)
  goes (byte x) a hands u (fails ok n e f) = stays h _ refl hands (refused_held h _ refl f)
  goes tick_call a hands u (fails ok n e f) = rw ok (stays h _ refl hands (refused_held h _ refl f))
  goes (press n) a hands u (fails ok _ e f) = stays h _ refl hands (refused_held h _ refl f)
  goes emptying a hands u (fails ok n e f) = stays h _ refl hands (refused_held h _ refl f)
  goes (byte x) a hands u (passes ok ch e f) =
      let m : Made = record { call = byte x; areas = a } in
      let code = given_as_told (hears h m t g i ok) in
      let b = neither (eqb (given (said t (note h m))) 1) false (both_false _ _ ok u) in
      same_goes h m refl hands ok f (byte_same x h.state a on (eqb-false _ _ (ap (λ n. eqb n 1) code ∙ b.0)))
  goes tick_call a hands u (passes ok ch e f) = tick_counted a hands ok f
  goes (press n) a hands u (passes ok ch e f) =
      let m : Made = record { call = press n; areas = a } in
      let b = neither (eqb (given (said t (note h m))) 1) (eqb n 1) (both_false _ _ ok u) in
      same_goes h m refl hands ok f (call_same (press n) h.state a (rw b.1) refl)
  goes emptying a hands u (passes ok ch e f) = same_goes h _ refl hands ok f (call_same emptying h.state a refl refl)

-- While no stop and no power-on comes and the program has not ended by the rules, the run is the one that the rules give.
pub undisturbed : (ms : List Made) (t : Told) (h : Held) → Agrees t h.state → Invariant h.state → AllHandOn h ms → Unbroken t (notes h ms)
    → (ticks h.program (unpaused t (notes h ms)) h.state.run).on ≡ true → Goes h (unpaused t (notes h ms)) (after h ms)
unfolding after unpaused notes
undisturbed [] t h g i hands u on = record { run = sym (no_ticks h.program h.state.run); program = refl }
undisturbed (m ∷ ms) t h g i hands u on =
    let n = unpaused (tell t (note h m)) (notes (next h m) ms) in
    let one = counts t (note h m) in
    let go = goes t h g i (was_on h.program (one + n) h.state.run on) m.call m.areas hands.0 u.0 (stepped h m) in
    let e : ticks (next h m).program n (next h m).state.run ≡ ticks h.program (one + n) h.state.run =
    ap₂ (λ q r. ticks q n r) go.program go.run ∙ sym (ticks_add h.program one n h.state.run) in
    let rest = undisturbed ms (tell t (note h m)) (next h m) (agrees_next t h m i g) (next_invariant h m i) hands.1 u.1
    (ap (λ (r : Run). r.on) e ∙ on) in
    record { run = rest.run ∙ e; program = rest.program ∙ go.program }

-- ---- the event

-- what a start or a tick did that left the program running raised no event
no_event : (x : Ran) → Ending.Told x → x.run.on ≡ true → x.event ≡ 0
no_event x (Ending.goes_on _ quiet) on = quiet
no_event x (Ending.has_ended off _) on = absurd (true≢false (sym on ∙ off))

is_silent : Said → Bool
is_silent silence = true
is_silent (reads j) = false
is_silent (writes_line j l) = false
is_silent (writes_outputs j x) = false
is_silent (writes_parameter v) = false
is_silent (gives n) = false

-- One call that is taken and breaks nothing off: where the program runs before and after it, it has raised no event.
module _ (k : Call) (l : Areas) (t : Told) (on : t.run.on ≡ true) (unpressed : is_press 1 k ≡ false) where
  -- a tick, or a call that runs nothing
  ticked_quiet : let x = if is_tick k && not t.paused then tick l.program t.run else rests 0 t.run in x.run.on ≡ true → x.event ≡ 0
  ticked_quiet =
      if_case (λ (x : Ran). x.run.on ≡ true → x.event ≡ 0) (is_tick k && not t.paused)
      (λ _ runs. no_event _ (tick_told l.program t.run on) runs) (λ _ runs. refl)

  rest_quiet : is_tick k ≡ false → (if is_tick k && not t.paused then tick l.program t.run else rests 0 t.run).event ≡ 0
  rest_quiet no-tick = rw no-tick

  -- where nothing is started, and where the call starts something
  none_quiet : (s : Said) → starts k s l t ≡ none → ran k s l t ≡ (if is_tick k && not t.paused then tick l.program t.run else rests 0 t.run)
  none_quiet s e = rw (e, ran)

  some_quiet : (s : Said) (j : ℕ) → starts k s l t ≡ some j → ran k s l t ≡ start l.program j t.run.outputs
  some_quiet s j e = rw (e, ran)

  -- the run is what was run, or the call runs nothing
  data Way (s : Said) : Type 0 where
    as_run : (afterwards k s l t).run ≡ (ran k s l t).run → Way s
    runs_none : starts k s l t ≡ none → is_tick k ≡ false → Way s

  way : (s : Said) → eqb (given s) 1 ≡ false → (is_tick k ≡ true → is_silent s ≡ true) → Way s
  unfolding afterwards is_silent
  way silence one quiet = as_run (rw unpressed)
  way (reads j) one quiet = as_run (rw unpressed)
  way (writes_line j x) one quiet = as_run (rw unpressed)
  way (writes_parameter v) one quiet = as_run (rw unpressed)
  way (writes_outputs j x) one quiet = runs_none (rw unpressed) (not_so (is_tick k) (λ e. true≢false (sym (quiet e))))
  way (gives n) one quiet = go (eqb n 6) refl
    where
      go : (a : Bool) → eqb n 6 ≡ a → Way (gives n)
      go true a =
          let is = eqb-true n 6 a in
          runs_none (rw (unpressed, is)) (not_so (is_tick k) (λ e. true≢false (sym (quiet e))))
      go false a = as_run (rw (unpressed, one, a))

  ran_quiet : (s : Said) → Way s → (afterwards k s l t).run.on ≡ true → (ran k s l t).event ≡ 0
  ran_quiet s (runs_none e no-tick) runs = ap (λ (x : Ran). x.event) (none_quiet s e) ∙ rest_quiet no-tick
  ran_quiet s (as_run is) runs = go (starts k s l t) refl
    where
      go : (j : Option ℕ) → starts k s l t ≡ j → (ran k s l t).event ≡ 0
      go none e =
          ap (λ (x : Ran). x.event) (none_quiet s e)
          ∙ ticked_quiet (ap (λ (x : Ran). x.run.on) (sym (none_quiet s e)) ∙ ap (λ (r : Run). r.on) (sym is) ∙ runs)
      go (some j) e =
          ap (λ (x : Ran). x.event) (some_quiet s j e)
          ∙ no_event _ (start_told l.program j t.run.outputs)
          (ap (λ (x : Ran). x.run.on) (sym (some_quiet s j e)) ∙ ap (λ (r : Run). r.on) (sym is) ∙ runs)

  -- so the event is as it was, or was read
  event_quiet : (s : Said) → Way s → (afterwards k s l t).run.on ≡ true → SameOrNone (afterwards k s l t).event t.event
  unfolding afterwards
  event_quiet s w runs = rw (unpressed, ran_quiet s w runs) (if_case (λ e. SameOrNone e t.event) (reads_event s) (λ _. inr refl) (λ _. inl refl))

-- a tick finishes no command
tick_silent : (t : Told) (n : Note) (k : Call) → n.call ≡ k → is_tick k ≡ true → is_silent (said t n) ≡ true
unfolding said is_silent
tick_silent t n power_on is e = absurd (true≢false (sym e))
tick_silent t n (byte x) is e = absurd (true≢false (sym e))
tick_silent t n tick_call is e = rw is
tick_silent t n (press b) is e = absurd (true≢false (sym e))
tick_silent t n emptying is e = absurd (true≢false (sym e))

tell_quiet : (t : Told) (n : Note) → is_broken t n ≡ false → t.run.on ≡ true → (tell t n).run.on ≡ true → SameOrNone (tell t n).event t.event
unfolding is_broken tell
tell_quiet t n u on then-on = go (is_taken n.seen) refl then-on
  where
    other : is_power_on n.call ≡ false
    other = (neither (is_power_on n.call) _ u).0

    go : (b : Bool) → is_taken n.seen ≡ b → (tell t n).run.on ≡ true → SameOrNone (tell t n).event t.event
    go false e runs = rw (other, e) (inl refl)
    go true e runs =
        let b = neither (eqb (given (said t n)) 1) (is_press 1 n.call) (both_false _ _ e (neither (is_power_on n.call) _ u).1) in
        let w = way n.call n.lent t on b.1 (said t n) b.0 (tick_silent t n n.call refl) in
        rw (other, e) (event_quiet n.call n.lent t on b.1 (said t n) w (rw (other, e) at runs))

then_none : {e f g : ℕ} → SameOrNone f g → SameOrNone e f → SameOrNone e g
then_none (inl a) (inl b) = inl (b ∙ a)
then_none (inr a) (inl b) = inr (b ∙ a)
then_none a (inr b) = inr b

-- While no stop and no power-on comes and the program has not ended by the rules, no call raises an event: it is as it was, or was read.
pub no_event_meanwhile : (ms : List Made) (t : Told) (h : Held) → Agrees t h.state → Invariant h.state → AllHandOn h ms → Unbroken t (notes h ms)
    → (ticks h.program (unpaused t (notes h ms)) h.state.run).on ≡ true → SameOrNone (tell_all t (notes h ms)).event t.event
unfolding after unpaused notes tell_all
no_event_meanwhile [] t h g i hands u on = inl refl
no_event_meanwhile (m ∷ ms) t h g i hands u on =
    let n = unpaused (tell t (note h m)) (notes (next h m) ms) in
    let one = counts t (note h m) in
    let Now-on = was_on h.program (one + n) h.state.run on in
    let go = goes t h g i Now-on m.call m.areas hands.0 u.0 (stepped h m) in
    let e : ticks (next h m).program n (next h m).state.run ≡ ticks h.program (one + n) h.state.run =
    ap₂ (λ q r. ticks q n r) go.program go.run ∙ sym (ticks_add h.program one n h.state.run) in
    let later-on = ap (λ (r : Run). r.on) e ∙ on in
    let agrees = agrees_next t h m i g in
    let next_on : (tell t (note h m)).run.on ≡ true =
    ap (λ (r : Run). r.on) (sym agrees.run) ∙ was_on (next h m).program n (next h m).state.run later-on in
    then_none (tell_quiet t (note h m) u.0 (ap (λ (r : Run). r.on) (sym g.run) ∙ Now-on) next_on)
    (no_event_meanwhile ms (tell t (note h m)) (next h m) agrees (next_invariant h m i) hands.1 u.1 later-on)
