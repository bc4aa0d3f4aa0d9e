-- How a program ends, and how long it takes: what is seen of it.
-- Assumes nothing.
use mathlib.Core.Path.{◌≡◌, refl, sym, ap, subst, ◌∙◌}
use Prim.Native.Nat.{ℕ, ◌+◌, ◌≤◌, ◌<◌}
use native.Mathlib.Omega.{arith}
use mathlib.Core.Bool.{Bool, true, false, not, ◌&&◌, true≢false}
use mathlib.Core.List.{List, [], ◌∷◌, ◌++◌}
use mathlib.Core.Option.{none}
use lib.Dec.{eqb, leb}
use borrow.Author.Tests.{ne_eqb, le-leb}
use Rattle.std.specs.Prelude.{if◌then◌else◌}
use Rattle.formats.specs.Checks.{passed, text}
use Rattle.formats.specs.Digits as Digits
use Rattle.formats.specs.Digits.{digits, d}
use Rattle.formats.proofs.Checks.{if_case, neither, both_false}
use Rattle.lines.specs.declared.Line.TheVariants.{State, Bad}
use Rattle.lines.specs.Program.{line_at}
use Rattle.running.specs.declared.Run.{Run}
use Rattle.running.specs.declared.Ran.{Ran}
use Rattle.running.specs.Running.{with_outputs, at_line, stopped, most, rests, start, tick}
use Rattle.running.specs.Running as Running
use Rattle.running.specs.Ended.{Ended}
use Rattle.running.proofs.Ending.{start_told, tick_told, start_ends, tick_ends_so}
use Rattle.running.proofs.Ending as Ending
use Rattle.running.proofs.Steps.{bad_line, bad_due}
use Rattle.duration.specs.Report.{report}
use Rattle.running.specs.Ticking as Ticking
use Rattle.running.specs.Ticking.{EndsAfter}
use Rattle.running.proofs.Reaching.{after_ticks, tick_after}
use Rattle.duration.proofs.Taking.{takes}
use Rattle.controller.specs.Controller.{Areas}
use Rattle.controller.specs.Refusals.{Call}
use Rattle.controller.specs.Effects.{is_tick, is_press, is_power_on}
use Rattle.demands.specs.Histories.{ticking, Made, unpowered, after}
use Rattle.demands.specs.Seen.{is_taken, seen, outputs, Note, notes}
use Rattle.demands.specs.Said.{Said, silence, reads, writes_line, writes_outputs, writes_parameter, gives, given, is_outputs, reads_event}
use Rattle.demands.specs.Told.{Told, with_byte, said, starts, ran, afterwards, tell, tell_all, told}
use Rattle.demands.specs.Shown.{shown_of}
use Rattle.demands.specs.Replies.{ended}
use Rattle.demands.specs.Undisturbed.{is_touched, Untouched}
use Rattle.demands.specs.Started.{Course, begun, now, Started, program_of, start_of, count, ruled, Ticks, ticked, Answers, ShowsStop, ShowsEnd}
use Rattle.demands.proofs.Calls.Formats.{shown_same}
use Rattle.demands.proofs.Calls.Answered.{invariant_always}
use Rattle.demands.proofs.History.Telling.{told_more, held_as_told}
use Rattle.demands.proofs.History.AsTold.{outputs_as_told}
use Rattle.demands.proofs.Calls.Replies.{reads_as_told}
use Rattle.demands.proofs.Runs.ByTheRules.{starts_by_the_rules, runs_by_the_rules, ends_by_the_rules}

-- ---- what is read when a program has ended

-- what is no code of 001 to 006 is none of them
no_such_code : (g i : ℕ) → 1 ≤ i → i ≤ 6 → (leb 1 g && leb g 6) ≡ false → eqb g i ≡ false
no_such_code g i lo hi e =
    ne_eqb g i (λ z. true≢false (sym (both_so (le-leb 1 g (omega arith)) (le-leb g 6 (omega arith))) ∙ e))
  where
    both_so : leb 1 g ≡ true → leb g 6 ≡ true → (leb 1 g && leb g 6) ≡ true
    both_so a b = rw (a, b)

module _ (k : Call) (s : Said) (l : Areas) (t : Told) (off : t.run.on ≡ false) (press-none : is_press 1 k ≡ false)
    (code-none : (leb 1 (given s) && leb (given s) 6) ≡ false) where
  -- nothing is run
  ran_none : ran k s l t ≡ rests 0 t.run
  unfolding tick
  ran_none =
      let three = no_such_code (given s) 3 (omega arith) (omega arith) code-none in
      let five = no_such_code (given s) 5 (omega arith) (omega arith) code-none in
      let still : starts k s l t ≡ none = rw (press-none, three, five) in
      rw (still, ran) (if_case (λ (x : Ran). x ≡ rests 0 t.run) (is_tick k && not t.paused) (λ _. rw off) (λ _. refl))

  -- and the run and the event stay
  run_rests : is_outputs s ≡ false → (afterwards k s l t).run ≡ t.run
  unfolding afterwards
  run_rests o =
      let one = no_such_code (given s) 1 (omega arith) (omega arith) code-none in
      let six = no_such_code (given s) 6 (omega arith) (omega arith) code-none in
      rw (one, press-none, six) (go s o ran_none)
    where
      go : (u : Said) → is_outputs u ≡ false → ran k s l t ≡ rests 0 t.run
          → (elim u [
            | silence ↦ (ran k s l t).run
            | reads j ↦ (ran k s l t).run
            | writes_line j x ↦ (ran k s l t).run
            | writes_outputs j x ↦ with_outputs (with_byte j x t.run.outputs) t.run
            | writes_parameter v ↦ (ran k s l t).run
            | gives n ↦ (ran k s l t).run
          ]) ≡ t.run
      go silence o e = ap (λ (x : Ran). x.run) e
      go (reads j) o e = ap (λ (x : Ran). x.run) e
      go (writes_line j x) o e = ap (λ (x : Ran). x.run) e
      go (writes_outputs j x) o e = absurd (true≢false o)
      go (writes_parameter v) o e = ap (λ (x : Ran). x.run) e
      go (gives n) o e = ap (λ (x : Ran). x.run) e

  event_rests : reads_event s ≡ false → (afterwards k s l t).event ≡ t.event
  unfolding afterwards
  event_rests r = rw (press-none, ap (λ (x : Ran). x.event) ran_none, r)

-- a call that touches nothing of it
untouched_kept : (t : Told) (n : Note) → is_touched t n ≡ false → t.run.on ≡ false → ((tell t n).run ≡ t.run) × ((tell t n).event ≡ t.event)
unfolding is_touched tell
untouched_kept t n u off = go (is_taken n.seen) refl
  where
    other : is_power_on n.call ≡ false
    other = (neither (is_power_on n.call) _ u).0

    go : (b : Bool) → is_taken n.seen ≡ b → ((tell t n).run ≡ t.run) × ((tell t n).event ≡ t.event)
    go false e = rw (other, e) (refl, refl)
    go true e =
        let a = neither _ (reads_event (said t n)) (both_false _ _ e (neither (is_power_on n.call) _ u).1) in
        let b = neither _ (is_outputs (said t n)) a.0 in
        let x = neither (is_press 1 n.call) _ b.0 in
        rw (other, e)
        (run_rests n.call (said t n) n.lent t off x.0 x.1 b.1, event_rests n.call (said t n) n.lent t off x.0 x.1 a.1)

all_kept : (ns : List Note) (t : Told) → Untouched t ns → t.run.on ≡ false → ((tell_all t ns).run ≡ t.run) × ((tell_all t ns).event ≡ t.event)
unfolding tell_all
all_kept [] t u off = (refl, refl)
all_kept (n ∷ ns) t u off =
    let one = untouched_kept t n u.0 off in
    let others = all_kept ns (tell t n) u.1 (ap (λ (r : Run). r.on) one.0 ∙ off) in
    (others.0 ∙ one.0, others.1 ∙ one.1)

module _ (gone : List Made) (off : (told gone).run.on ≡ false) where
  -- what a read shows of the end, whatever touches nothing of it
  kept : (later : List Made) → Untouched (told gone) (notes (after unpowered gone) later)
      → ((told (gone ++ later)).run ≡ (told gone).run) × ((told (gone ++ later)).event ≡ (told gone).event)
  kept later u =
      let x = all_kept (notes (after unpowered gone) later) (told gone) u off in
      (ap (λ (t : Told). t.run) (told_more gone later) ∙ x.0, ap (λ (t : Told). t.event) (told_more gone later) ∙ x.1)

  -- 212 is answered with the event, and 211 with the line
  pub shows_stop : (e k : ℕ) → (told gone).event ≡ e → (told gone).run.line ≡ k → ShowsStop gone e k
  unfolding shown_of
  shows_stop e k event line =
      record {
        event = λ later u lent read.
            (reads_as_told (gone ++ later) lent 212 (omega arith) read).0 (λ le. absurd (omega arith))
            ∙ ap (λ x. ended (d x)) ((kept later u).1 ∙ event);
        line = λ later u lent read.
            (reads_as_told (gone ++ later) lent 211 (omega arith) read).0 (λ le. absurd (omega arith))
            ∙ ap (λ x. ended (d x)) (ap (λ (q : Run). q.line) (kept later u).0 ∙ line);
      }

  shown : ShowsStop gone (told gone).event (told gone).run.line
  shown = shows_stop _ _ refl refl

  event_read : {r : List ℕ} → Answers gone 212 r → ended (d (told gone).event) ≡ ended r
  event_read x = sym (shown.event x.later x.untouched x.lent x.read) ∙ x.is

  line_read_lem : {r : List ℕ} → Answers gone 211 r → ended (d (told gone).run.line) ≡ ended r
  line_read_lem x = sym (shown.line x.later x.untouched x.lent x.read) ∙ x.is

  in_program_lem : (told gone).run.line < 200
  in_program_lem = subst (λ (r : Run). r.line < 200) (held_as_told gone).run (invariant_always gone).run.line_in_program

  at_line_lem : (k : ℕ) → k ≤ 199 → Answers gone 211 (d k) → (told gone).run.line ≡ k
  at_line_lem k le x = let lt = in_program_lem in shown_same (told gone).run.line k (omega arith) (omega arith) (line_read_lem x)

  shows_end : (program : List ℕ) → Ended program (told gone).event (told gone).run → ShowsEnd program gone
  unfolding text Digits.shown digits
  shows_end program end =
      let known = end.known in
      record {
        well = λ k le e x.
            subst (λ j. line_at program j ≡ State (outputs gone) 0) (at_line_lem k le x)
            (end.well (shown_same (told gone).event 11 (omega arith) (omega arith) (event_read e)) ∙ ap (λ o. State o 0) (sym (outputs_as_told gone)));
        badly = λ k le e x.
            subst (λ j. line_at program j ≡ Bad) (at_line_lem k le x)
            (end.badly (shown_same (told gone).event 14 (omega arith) (omega arith) (event_read e)));
      }

-- what the history says of a start or a tick that ended the program is what the rules say of it
told_end : (p : List ℕ) (x : Ran) (before : ℕ) → Ending.Told x → Ended p x.event x.run → {r : Run} {e : ℕ} → r ≡ x.run
    → e ≡ (if eqb x.event 0 then before else x.event) → r.on ≡ false → Ended p e r
told_end p x before (Ending.goes_on on _) so f g off = absurd (true≢false (sym on ∙ sym (ap (λ (r : Run). r.on) f) ∙ off))
told_end p x before (Ending.has_ended _ ne) so {r} f g off =
    subst (λ e. Ended p e r) (sym (g ∙ rw (ne_eqb x.event 0 ne))) (subst (Ended p x.event) (sym f) so)

-- the event of a start or a tick that ended the program
ended_event : (x : Ran) (before : ℕ) → x.run.on ≡ false → Ending.Told x → (if eqb x.event 0 then before else x.event) ≡ x.event
ended_event x before off (Ending.goes_on on _) = absurd (true≢false (sym on ∙ off))
ended_event x before off (Ending.has_ended _ ne) = rw (ne_eqb x.event 0 ne)

module _ (c : Course) (so : Started c) where
  -- 02, item 4: a Bad line does not look like an end: where that tick ends the program,
  pub ends_where_it_says : (ruled c).on ≡ true → (a : Areas) → Ticks c a → (told (ticked c a)).run.on ≡ false → ShowsEnd (program_of c) (ticked c a)
  ends_where_it_says on a x off =
      let by = ends_by_the_rules c so on a x in
      shows_end (ticked c a) off (program_of c)
      (told_end (program_of c) (tick (program_of c) (ruled c)) (told (now c)).event (tick_told (program_of c) (ruled c) on) (tick_ends_so (program_of c) (ruled c))
      by.0 by.1 off)

  -- and where the start ends it at once.
  pub start_ends_where_it_says : (told (begun c)).run.on ≡ false → ShowsEnd (program_of c) (begun c)
  start_ends_where_it_says off =
      let by = starts_by_the_rules c so in
      let o = outputs c.before in
      shows_end (begun c) off (program_of c)
      (told_end (program_of c) (start_of c) (told c.before).event (start_told (program_of c) c.line o)
      (start_ends (program_of c) c.line o) by.0 by.1 off)

  -- And a Bad line does end it so: 014, with 211 on it, the outputs as they stood, every loop free and no line counted. At a start,
  pub bad_start : line_at (program_of c) c.line ≡ Bad
      → ((told (begun c)).event ≡ 14) × ((told (begun c)).run ≡ stopped (Running.begun c.line (outputs c.before)))
      × ((seen c.before c.starting).lines ≡ 0)
  unfolding start
  bad_start bad =
      let r = bad_line (program_of c) (Running.begun c.line (outputs c.before)) bad most 0 in
      let s = starts_by_the_rules c so in (
        s.1 ∙ ap (λ (y : Ran). if eqb y.event 0 then (told c.before).event else y.event) r,
        s.0 ∙ ap (λ (y : Ran). y.run) r,
        s.2 ∙ ap (λ (y : Ran). y.lines) r,
      )

  -- and at the tick on which it falls due.
  pub bad_tick : (on : (ruled c).on ≡ true) → (a : Areas) → Ticks c a → (ruled c).wait ≤ 1 → (ruled c).line < 199 → line_at (program_of c) ((ruled c).line + 1) ≡ Bad
      → let gone = told (ticked c a) in
      (gone.event ≡ 14) × (gone.run ≡ stopped (at_line ((ruled c).line + 1) (ruled c))) × ((seen (now c) (ticking a)).lines ≡ 0)
  bad_tick on a x due before_last bad =
      let r = bad_due (program_of c) (ruled c) on due before_last bad in
      let s = ends_by_the_rules c so on a x in (
        s.1 ∙ ap (λ (y : Ran). if eqb y.event 0 then (told (now c)).event else y.event) r,
        s.0 ∙ ap (λ (y : Ran). y.run) r,
        s.2 ∙ ap (λ (y : Ran). y.lines) r,
      )

  -- A program that by the rules ends at tick n with event e: as long as fewer than n ticks were taken unpaused it runs, whatever the traffic and the
  -- pauses,
  module _ (n e : ℕ) (lasts : EndsAfter (program_of c) n e (start_of c)) where
    on_until : count c < n → (ruled c).on ≡ true
    on_until lt = ap (λ (r : Run). r.on) (sym (after_ticks (program_of c) (count c) (start_of c))) ∙ (lasts.before (count c) lt).on

    pub runs_so_long : count c < n → (told (now c)).run.on ≡ true
    runs_so_long lt = ap (λ (r : Run). r.on) (runs_by_the_rules c so (on_until lt)).0 ∙ on_until lt

    -- with the n-th it ends, with that event and on the line of the rules,
    pub ends_there : count c + 1 ≡ n → (a : Areas) → Ticks c a
        → let gone = told (ticked c a) in (gone.event ≡ e) × (gone.run.on ≡ false) × (gone.run.line ≡ (Ticking.after (program_of c) n (start_of c)).run.line)
    ends_there last a t =
        let x = start_of c in
        let on = on_until (omega arith) in
        let by = ends_by_the_rules c so on a t in
        let next_is : tick (program_of c) (ruled c)
        ≡ Ticking.after (program_of c) n x =
        tick_after (program_of c) (count c) x ∙ ap (λ j. Ticking.after (program_of c) j x) last in
        let off = ap (λ (r : Ran). r.run.on) next_is ∙ lasts.off in (
          by.1
              ∙ ended_event (tick (program_of c) (ruled c)) (told (now c)).event off (tick_told (program_of c) (ruled c) on)
              ∙ ap (λ (r : Ran). r.event) next_is ∙ lasts.event,
          ap (λ (r : Run). r.on) by.0 ∙ off,
          ap (λ (r : Run). r.line) by.0 ∙ ap (λ (r : Ran). r.run.line) next_is,
        )

    -- and where there are none to take, at the start.
    pub ends_in_start : n ≡ 0 → let gone = told (begun c) in (gone.event ≡ e) × (gone.run.on ≡ false) × (gone.run.line ≡ (start_of c).run.line)
    unfolding Ticking.after
    ends_in_start no_ticks =
        let x = start_of c in
        let end : EndsAfter (program_of c) 0 e x = rw no_ticks at lasts in
        let by = starts_by_the_rules c so in (
          by.1 ∙ ended_event x (told c.before).event end.off (start_told (program_of c) c.line (outputs c.before)) ∙ end.event,
          ap (λ (r : Run). r.on) by.0 ∙ end.off,
          ap (λ (r : Run). r.line) by.0,
        )

  -- 02, item 6: how long it takes. For a program that the report gives n ticks, started at line 000: as long as fewer than n ticks were taken
  -- unpaused it runs,
  module _ (first : c.line ≡ 0) (n : ℕ) (is : report (program_of c) ≡ passed n) where
    lasts : EndsAfter (program_of c) n 11 (start_of c)
    lasts = rw first (takes (program_of c) n is (outputs c.before))

    pub runs_as_long : count c < n → (told (now c)).run.on ≡ true
    runs_as_long = runs_so_long n 11 lasts

    -- with the n-th it ends, with event 011,
    pub ends_on_time : count c + 1 ≡ n → (a : Areas) → Ticks c a → let gone = told (ticked c a) in (gone.event ≡ 11) × (gone.run.on ≡ false)
    ends_on_time last a t = let end = ends_there n 11 lasts last a t in (end.0, end.1)

    -- and where there are none to take, at the start.
    pub ends_at_once : n ≡ 0 → ((told (begun c)).event ≡ 11) × ((told (begun c)).run.on ≡ false)
    ends_at_once no_ticks = let end = ends_in_start n 11 lasts no_ticks in (end.0, end.1)
