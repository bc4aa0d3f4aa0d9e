-- Promises that apply, demand 3: a script that passes its tests meets the premises of `ByTheRules`.
-- Assumes nothing.
use mathlib.Core.Path.{◌≡◌, refl, sym, ap, ap₂, subst, ◌∙◌}
use mathlib.Core.Bool.{Bool, true, false}
use mathlib.Core.List.{List, [], ◌∷◌, ◌++◌}
use mathlib.Core.Option.{some}
use Prim.Native.Nat.{ℕ, ◌+◌, ◌≤◌}
use native.Mathlib.Omega.{arith}
use lib.ListN.{length}
use lib.Dec.{eqb}
use borrow.Author.Tests.{eqb-true, leb-true, ltb-true, not-true}
use Rattle.std.specs.Prelude.{if◌then◌else◌}
use Rattle.formats.specs.Checks.{text, passed, all}
use Rattle.formats.proofs.Checks.{both_true}
use Rattle.lines.specs.Line.{is_bad}
use Rattle.lines.specs.Program.{line_at}
use Rattle.lines.proofs.Lines.{is_bad_lem}
use Rattle.running.specs.declared.Run.{Run}
use Rattle.running.specs.Running.{ticks, tick}
use Rattle.running.specs.Running as Running
use Rattle.duration.specs.Report.{report}
use Rattle.std.specs.Prelude.{Some}
use Rattle.explanation.specs.Report.{report as stop_report}
use Rattle.planner.specs.Plan.{moves_of, total, word_at}
use Rattle.planner.specs.Lines.{plan_lines}
use Rattle.planner.specs.Planned.{planned}
use Rattle.controller.specs.Controller.{Areas}
use Rattle.controller.specs.Refusals.{tick as tick_call}
use Rattle.demands.specs.Histories.{Made, ticking, Held, unpowered, after, HandsOn, AllHandOn}
use Rattle.demands.specs.Seen.{is_taken, seen, outputs, Note, note, notes}
use Rattle.demands.specs.Told.{Told, said, starts, tell, tell_all, told, Never}
use Rattle.demands.specs.ReadBack.{ReadOf}
use Rattle.demands.specs.Started.{Course, Started, program_of, start_of, count, ruled, Ticks, ticked, ShowsStop}
use Rattle.demands.specs.Undisturbed.{Unbroken, is_broken, is_pausing, SameOrNone}
use Rattle.demands.specs.Walks.{Ask, asking, asks_of, set_out, made_of, note_by, Trail, trail}
use Rattle.demands.specs.Premises.{copy, goes, ◌behind◌, one_more, end, hands_on, never, ruled_at, is_given, is_program_of}
use Rattle.demands.specs.Applying.{Begins, begins, Runs, runs, on_time, on_bad, goes_on, as_planned, mid_plan, Ends, ends_so, AtOnce, at_once, pauses_not}
use Rattle.demands.proofs.History.Telling.{after_more, told_more}
use Rattle.demands.proofs.Applies.Walked.{
  calls,
  Reached,
  reached_none,
  reached_more,
  never_reached,
  hands_reached,
  count_reached,
  hand_reached,
  arrives_reached,
  taken_so,
  one_reached,
  read_named,
  given_so,
  stop_so,
  still_so,
  program_so,
  some_so,
  AllTrue,
  nth,
  holds_at,
}
use Rattle.demands.proofs.Runs.ByTheRules.{runs_by_the_rules, outputs_by_the_rules, ends_by_the_rules, pauses_only}
use Rattle.demands.proofs.Runs.Stops.{runs_until_then, stops_as_explained, stops_in_the_start, runs_as_explained}
use Rattle.demands.proofs.Runs.Planned.{outputs_as_planned, no_event_before, ends_as_planned, tick_runs_few}
use Rattle.demands.proofs.Runs.Ends.{bad_start, bad_tick, runs_as_long, ends_on_time, ends_at_once}

-- ---- the start

module _ (x : Begins) where
  -- the calls before the start, and the start
  abbrev pub before : List Made
  before = calls (set_out copy) (asks_of x.before)

  abbrev pub start_call : Made
  start_call = made_of (asking x.start) (goes x.before).last

  abbrev pub started_by : List Made
  started_by = before ++ (start_call ∷ [])

  abbrev pub started : Trail
  started = one_more (goes x.before) (asking x.start)

  pub at_start : Reached before (goes x.before).last
  at_start = reached_more (reached_none copy) (asks_of x.before)

  pub at_started : Reached started_by started.last
  at_started = one_reached at_start (asking x.start)

  start_taken : nth 0 (begins x (goes x.before)) ≡ true → is_taken (seen before start_call) ≡ true
  unfolding begins note_by
  start_taken e = taken_so at_start (asking x.start) e

  starts_so : nth 1 (begins x (goes x.before)) ≡ true
      → starts x.start (said (told before) (note (after unpowered before) start_call)) start_call.areas (told before) ≡ some x.line
  unfolding begins note_by note
  starts_so e =
      let a = start_call.areas in
      let k = x.start in
      let t = (goes x.before).last.told in
      subst (λ t. starts k (said t (note (after unpowered before) start_call)) a t ≡ some x.line) (sym at_start.told)
      (subst (λ h. starts k (said t (note h start_call)) a t ≡ some x.line) (sym at_start.held) (some_so _ x.line e))

  -- the calls after it
  module _ (qs : List Ask) where
    abbrev pub later_calls : List Made
    later_calls = calls started.last qs

    hands_all : all hands_on (trail started.last qs).moments ≡ true → AllHandOn (after unpowered before) (start_call ∷ later_calls)
    unfolding after
    hands_all e =
        (hand_reached at_start x.start 16, subst (λ h. AllHandOn h later_calls) (after_more before (start_call ∷ [])) (hands_reached at_started qs e))

    unbroken_so : never is_broken (trail started.last qs).moments ≡ true → Unbroken (told started_by) (notes (after unpowered started_by) later_calls)
    unbroken_so e = never_reached at_started qs is_broken e

-- ---- while it runs

module _ (x : Runs) where
  abbrev s : Begins
  s = x.begins

  abbrev l : Trail
  l = started s behind x.later

  abbrev p : List Made
  p = before s

  abbrev q : Made
  q = start_call s

  abbrev ms : List Made
  ms = later_calls s (asks_of x.later)

  abbrev pub now : List Made
  now = started_by s ++ ms

  pub at_now : Reached now l.last
  at_now = reached_more (at_started s) (asks_of x.later)

  -- the tick after it
  abbrev pub t : Areas
  t = (made_of (asking tick_call) l.last).areas

  abbrev ruled_now : Run
  ruled_now = ruled_at (goes s.before) s.line x.count

  -- what `runs_by_the_rules`, `outputs_by_the_rules` and `ends_by_the_rules` say of these calls, and what `reads_by_the_rules` asks of a read
  abbrev pub RunsSo : Type 0
  RunsSo =
      ((told now).run ≡ ruled_now) × (outputs now ≡ ruled_now.outputs)
      × ((told (now ++ (ticking t ∷ []))).run ≡ (tick (after unpowered p).program ruled_now).run)
      × ReadOf now x.j (made_of end l.last).areas

  -- what `runs_as_long` and `ends_on_time` say, `bad_tick` with `runs_until_then` and `stops_as_explained`, `runs_as_explained`, and
  -- those of `Planned`
  abbrev pub EndsSo : Ends → Type 0
  EndsSo on_time = let gone = told (now ++ (ticking t ∷ [])) in ((told now).run.on ≡ true) × (gone.event ≡ 11) × (gone.run.on ≡ false)
  EndsSo on_bad = let gone = now ++ (ticking t ∷ []) in ((told gone).event ≡ 14) × ((told now).run.on ≡ true) × ShowsStop gone 14 (ruled_now.line + 1)
  EndsSo goes_on = (told now).run.on ≡ true
  EndsSo (as_planned ns) =
      let gone = now ++ (ticking t ∷ []) in
      (outputs now ≡ word_at (moves_of ns) x.count) × (outputs gone ≡ 0) × ShowsStop gone 11 (length (plan_lines (moves_of ns)))
  EndsSo (mid_plan ns) =
      (outputs now ≡ word_at (moves_of ns) x.count) × SameOrNone (told now).event (told p).event × ((seen now (ticking t)).lines ≤ 2)

  module _ (ok : AllTrue (runs x)) where
    at : (i : ℕ) → nth i (runs x) ≡ true
    at = holds_at (runs x) ok

    taken : is_taken (seen p q) ≡ true
    unfolding runs begins
    taken = start_taken s (at 0)

    start_at : starts s.start (said (told p) (note (after unpowered p) q)) q.areas (told p) ≡ some s.line
    unfolding runs begins
    start_at = starts_so s (at 1)

    hands : AllHandOn (after unpowered p) (q ∷ ms)
    unfolding runs begins
    hands = hands_all s (asks_of x.later) (at 3)

    unbroken : Unbroken (told (started_by s)) (notes (after unpowered (started_by s)) ms)
    unfolding runs begins
    unbroken = unbroken_so s (asks_of x.later) (at 4)

    -- the theorems' course of calls
    abbrev pub c : Course
    c = record { before = p; starting = q; line = s.line; later = ms }

    pub so : Started c
    so = record { taken = taken; begins = start_at; hands = hands; unbroken = unbroken }

    -- the count of the theorem is the script's, and its run the one that was tested
    count_is : count c ≡ x.count
    unfolding runs begins
    count_is = count_reached (at_started s) (asks_of x.later) ∙ eqb-true _ _ (at 8)

    ruled_is : (n : ℕ) → ticks (program_of c) n (start_of c).run ≡ ruled_at (goes s.before) s.line n
    unfolding outputs
    ruled_is n = ap (λ (h : Held). ticks h.program n (Running.start h.program s.line h.state.run.outputs).run) (at_start s).held

    tested : ruled c ≡ ruled_now
    tested = ap (λ n. ticks (program_of c) n (start_of c).run) count_is ∙ ruled_is x.count

    pub on : (ruled c).on ≡ true
    unfolding runs begins
    on =
        ap (λ (r : Run). r.on) (ap (λ n. ticks (program_of c) n (start_of c).run) (count_reached (at_started s) (asks_of x.later)) ∙ ruled_is _) ∙ at 5

    -- the tick
    tick_taken : is_taken (seen now (ticking t)) ≡ true
    unfolding runs begins
    tick_taken = taken_so at_now (asking tick_call) (at 7)

    tick_hand : HandsOn (after unpowered now) (ticking t)
    tick_hand = hand_reached at_now tick_call 16

    tick_unpaused : (told now).paused ≡ false
    unfolding runs begins
    tick_unpaused = ap (λ (y : Told). y.paused) at_now.told ∙ not-true _ (at 6)

    pub next : Ticks c t
    next = record { taken = tick_taken; hands = tick_hand; unpaused = tick_unpaused }

    pub runs_apply : RunsSo
    unfolding runs begins
    runs_apply = (
      (runs_by_the_rules c so on).0 ∙ tested,
      outputs_by_the_rules c so on ∙ ap (λ (r : Run). r.outputs) tested,
      (ends_by_the_rules c so on t next).0 ∙ ap (λ r. (tick (program_of c) r).run) tested,
      record {
        address = text x.address;
        arrived = arrives_reached at_now _ (at 10);
        named = read_named at_now x.j _ (at 11);
        taken = taken_so at_now end (at 12);
      },
    )

    -- the program that is started is the plan's
    planned_so : (ns : List ℕ) → let held = (goes s.before).last.held.program in is_program_of (planned ns held) held ≡ true
        → planned ns held ≡ passed (program_of c)
    planned_so ns e =
        let held = (goes s.before).last.held.program in
        program_so (planned ns held) held e ∙ ap passed (sym (ap (λ (h : Held). h.program) (at_start s).held))

    pub ends_apply : (kind : Ends) → AllTrue (ends_so kind x) → EndsSo kind
    unfolding ends_so
    ends_apply on_time e =
        let first = eqb-true s.line 0 e.0 in
        let is : report (program_of c) ≡ passed (x.count + 1) = ap (λ (h : Held). report h.program) (at_start s).held ∙ given_so _ _ e.1.0 in
        let ends = ends_on_time c so first (x.count + 1) is (ap (λ n. n + 1) count_is) t next in
        (runs_as_long c so first (x.count + 1) is (omega (arith, count_is)), ends.0, ends.1)
    ends_apply on_bad e =
        stop_so _ 14 (x.count + 1) (ruled_now.line + 1) e.1.1.1.0 λ stop is event at_tick line.
        let told_so : stop_report (program_of c) s.line (x.count + 1) ≡ passed (Some stop) =
        ap (λ (h : Held). stop_report h.program s.line (x.count + 1)) (at_start s).held ∙ is in
        let shows = (stops_as_explained c so (x.count + 1) stop told_so (ap (λ n. n + 1) count_is ∙ sym at_tick) t next).1 in (
          (bad_tick c so on t next (rw tested (leb-true _ _ e.0)) (rw tested (ltb-true _ _ e.1.0))
              (ap₂ (λ (h : Held) (r : Run). line_at h.program (r.line + 1)) (at_start s).held tested ∙ is_bad_lem _ e.1.1.0)).0,
          runs_until_then c so (x.count + 1) stop told_so (omega (arith, count_is)),
          subst (λ v. ShowsStop (ticked c t) v (ruled_now.line + 1)) event (subst (ShowsStop (ticked c t) stop.event) line shows),
        )
    ends_apply goes_on e =
        runs_as_explained c so x.count
        (ap (λ (h : Held). stop_report h.program s.line x.count) (at_start s).held ∙ still_so _ e.0) (omega (arith, count_is))
    ends_apply (mid_plan ns) e =
        let first = eqb-true s.line 0 e.0 in
        let held = (goes s.before).last.held.program in
        let is = planned_so ns e.1.1.0 in
        let less = ltb-true (x.count + 1) (total (moves_of ns)) e.1.1.1.0 in (
          outputs_as_planned c so first ns held e.1.0 is (omega (arith, count_is)) ∙ ap (word_at (moves_of ns)) count_is,
          no_event_before c so first ns held e.1.0 is (omega (arith, count_is)),
          tick_runs_few c so first ns held e.1.0 is (omega (arith, count_is)) t next,
        )
    ends_apply (as_planned ns) e =
        let first = eqb-true s.line 0 e.0 in
        let held = (goes s.before).last.held.program in
        let is = planned_so ns e.1.1.0 in
        let sum = eqb-true (x.count + 1) (total (moves_of ns)) e.1.1.1.0 in
        let end = ends_as_planned c so first ns held e.1.0 is (ap (λ n. n + 1) count_is ∙ sum) t next in
        (outputs_as_planned c so first ns held e.1.0 is (omega (arith, count_is)) ∙ ap (word_at (moves_of ns)) count_is, end.1, end.2)

-- ---- a start that ends the program at once

-- what `bad_start` and `ends_at_once` say of it, and `stops_in_the_start`
abbrev pub OnceSo : AtOnce → Type 0
OnceSo x =
    let event : ℕ = if x.is_on_bad then 14 else 11 in
    ((told (started_by x.begins)).event ≡ event) × ShowsStop (started_by x.begins) event x.begins.line

module _ (x : AtOnce) (ok : AllTrue (at_once x)) where
  abbrev r : Begins
  r = x.begins

  tests : (i : ℕ) → nth i (at_once x) ≡ true
  tests = holds_at (at_once x) ok

  once_taken : is_taken (seen (before r) (start_call r)) ≡ true
  unfolding at_once begins
  once_taken = start_taken r (tests 0)

  once_starts :
      starts r.start (said (told (before r)) (note (after unpowered (before r)) (start_call r))) (start_call r).areas (told (before r)) ≡ some r.line
  unfolding at_once begins
  once_starts = starts_so r (tests 1)

  once_hands : AllHandOn (after unpowered (before r)) (start_call r ∷ [])
  once_hands = (hand_reached (at_start r) r.start 16, tt)

  abbrev pub once : Course
  once = record { before = before r; starting = start_call r; line = r.line; later = [] }

  pub once_so : Started once
  unfolding notes
  once_so = record { taken = once_taken; begins = once_starts; hands = once_hands; unbroken = tt }

  pub once_applies : OnceSo x
  unfolding at_once begins
  once_applies = (go x.is_on_bad refl, shows)
    where
      shows : ShowsStop (started_by r) (if x.is_on_bad then 14 else 11) r.line
      shows =
          stop_so _ (if x.is_on_bad then 14 else 11) 0 r.line (tests 5) λ stop is ends at_tick line.
          let told_so : stop_report (program_of once) r.line 0 ≡ passed (Some stop) =
          ap (λ (h : Held). stop_report h.program r.line 0) (at_start r).held ∙ is in
          let shown = (stops_in_the_start once once_so 0 stop told_so at_tick).1 in
          subst (λ v. ShowsStop (started_by r) v r.line) ends (subst (ShowsStop (started_by r) stop.event) line shown)

      program : (after unpowered (before r)).program ≡ (goes r.before).last.held.program
      program = ap (λ (h : Held). h.program) (at_start r).held

      go : (c : Bool) → x.is_on_bad ≡ c → (told (started_by r)).event ≡ (if c then 14 else 11)
      go true e =
          let is : is_bad (line_at (goes r.before).last.held.program r.line) ≡ true = rw e at (tests 3) in
          (bad_start once once_so (ap (λ y. line_at y r.line) program ∙ is_bad_lem _ is)).0
      go false e =
          let two = both_true (eqb r.line 0) (is_given (report (goes r.before).last.held.program) 0) (rw e at (tests 3)) in
          (ends_at_once once once_so (eqb-true r.line 0 two.0) 0 (ap report program ∙ given_so _ 0 two.1) refl).0

-- ---- pauses

paused_kept : (ns : List Note) (y : Told) → Never is_broken y ns → Never is_pausing y ns → (tell_all y ns).paused ≡ y.paused
unfolding tell_all
paused_kept [] y u v = refl
paused_kept (n ∷ ns) y u v = paused_kept ns (tell y n) u.1 v.1 ∙ pauses_only y n u.0 v.0

-- what `pauses_only` says of every call after the start
abbrev pub PausesSo : Runs → Type 0
PausesSo x = (told (now x)).paused ≡ (told (started_by x.begins)).paused

pub pauses_apply : (x : Runs) → AllTrue (pauses_not x) → PausesSo x
unfolding pauses_not
pauses_apply x ok =
    let qs = asks_of x.later in
    let y = x.begins in
    ap (λ (z : Told). z.paused) (told_more (started_by y) (later_calls y qs))
    ∙ paused_kept (notes (after unpowered (started_by y)) (later_calls y qs)) (told (started_by y)) (never_reached (at_started y) qs is_broken ok.0)
    (never_reached (at_started y) qs is_pausing ok.1.0)
