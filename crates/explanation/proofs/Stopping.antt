-- The cause is a fact of the run: a program that stops within the limit stops so.
-- Assumes nothing.
use Prim.Native.Nat.{ℕ, zero, suc, ◌+◌, ◌≤◌, ◌<◌}
use native.Mathlib.Omega.{arith}
use mathlib.Core.Path.{◌≡◌, refl, sym, ap, subst, ◌∙◌}
use mathlib.Core.Logic.{◌≢◌, inl, inr}
use mathlib.Core.Bool.{Bool, true, false}
use mathlib.Core.List.{List, [], ◌∷◌, ◌++◌, append-nil}
use borrow.Author.Tests.{ne_eqb, lt-ltb}
use Rattle.lines.specs.declared.Line.{Line}
use Rattle.lines.specs.declared.Line.TheVariants.{Next}
use Rattle.lines.specs.Program.{line_at, NoneFrom}
use Rattle.lines.specs.Searches.{some_before}
use Rattle.lines.proofs.Pairs.{counter_ranged, next_ranged}
use Rattle.running.specs.declared.Run.{Run}
use Rattle.running.specs.declared.Ran.{Ran}
use Rattle.running.specs.declared.How.TheVariants.{Ends}
use Rattle.running.specs.declared.Step.{Step}
use Rattle.running.specs.Running.{counter, begun, stopped, onward, is_for_or_next, step, start}
use Rattle.running.specs.Ticking.{EndsAfter}
use Rattle.running.specs.Gone.{behind, waits, Gone, begins, further, LoopLines}
use Rattle.running.specs.Moments.{LineEnds, busy, alone, loose, past, done, bad, Cause, by_line, over, Stops, Holding, StopsAfter, past199, behind_it, last_due}
use Rattle.running.proofs.Gone.{busy_held, GoneOn, gone_within}
use Rattle.running.proofs.LastDue.{stops_last}
use Rattle.running.proofs.OneStop.{holding_line}
use Rattle.running.proofs.Coming.{stops_at_once, stops_later}
use Rattle.std.specs.Prelude.{Some}
use Rattle.explanation.specs.declared.Cause.TheVariants.{ForLine, ForAbove}
use Rattle.explanation.specs.declared.Stop.{Stop}
use Rattle.explanation.specs.Report.{did, held_at, first_due, stop_of, stop_at}
use Rattle.explanation.specs.Facts.{Fact, in_use, no_next, for_above, no_for, state_held, in_the_start, other}
use Rattle.explanation.proofs.Ticks.{did_start, did_kept}
use Rattle.explanation.proofs.Above.{is_for_of, some_above, none_above}
use Rattle.explanation.proofs.ByEvent as ByEvent

-- ---- the stop of a call

module _ (p : List ℕ) (k o : ℕ) (lt : k < 200) where
  abbrev b : Run
  b = begun k o

  in_program_lem : (n : ℕ) → (did p k o n).run.line < 200
  in_program_lem n = (did_kept p k o lt n).line_in_program

  -- the call of tick n, whose first line falls due at r, stops the program
  module _ (n e : ℕ) (event : (did p k o n).event ≡ e) (r : Run) (gone : List ℕ) (way : Gone p b 0 gone r) (due : first_due n (held_at p k o n) ≡ r)
      (stop : Stops p r e (did p k o n).run) where
    abbrev s : Stop
    s = stop_at p k o n

    abbrev last : Run
    last = stop.last

    last_is : last_due p 400 (first_due n (held_at p k o n)) ≡ last
    last_is = ap (last_due p 400) due ∙ stops_last p r stop

    on : GoneOn p b stop.lines gone last
    on = gone_within p b r last gone stop.few way stop.within

    -- the line where it stopped, if the last line left the run as it was
    line_is : stop.left.line ≡ last.line → last.line ≡ (did p k o n).run.line
    unfolding stopped
    line_is same = sym (ap (λ (x : Run). x.line) stop.freed ∙ same)

    -- what the line at which it stopped says
    at_line_lem : stop.left ≡ last → {l : Line} → line_at p last.line ≡ l → line_at p (did p k o n).run.line ≡ l
    at_line_lem same is = ap (line_at p) (sym (line_is (ap (λ (x : Run). x.line) same))) ∙ is

    by_line_lem : LineEnds p last e stop.left → (step p last).how ≡ Ends e → Fact p k o s
    unfolding stop_of
    by_line_lem (busy {c = c} {x = x} is line above same) how =
        let here = at_line_lem same line in
        let held = busy_held p k o (on.since ++ gone) last on.way c (counter_ranged p last.line c x line) above in
        in_use (event ∙ is) (ByEvent.cause_006 p _ n _ _ (event ∙ is) here ∙ ap (λ (v : Run). Some (ForLine (counter v c).line)) last_is)
        here on.way (line_is (ap (λ (v : Run). v.line) same)) (how ∙ ap Ends is) held
    by_line_lem (alone {c = c} is line idle none same) how =
        let here = at_line_lem same line in
        let below : last.line < 200 = omega (arith, in_program_lem n, line_is (ap (λ (v : Run). v.line) same)) in
        no_next (event ∙ is) (ByEvent.cause_007 p _ n _ _ (event ∙ is) here) here
        (subst (λ j. NoneFrom p c (j + 1)) (line_is (ap (λ (v : Run). v.line) same)) (none below))
    by_line_lem (loose {c = c} is line none same) how =
        let here = at_line_lem same line in
        let le = (next_ranged p last.line c line).0 in
        let told = ByEvent.cause_008 p _ n _ (held_at p k o n) (event ∙ is) here in
        go le here told (some_before (is_for_of p c) (did p k o n).run.line) refl
      where
        go : (le : 1 ≤ c) → line_at p (did p k o n).run.line ≡ Next c
            → s.cause ≡ Some (ForAbove (some_before (is_for_of p c) (did p k o n).run.line))
            → (t : Bool) → some_before (is_for_of p c) (did p k o n).run.line ≡ t → Fact p k o s
        go le here told true so = some_above p c _ le so λ j x up line. for_above (event ∙ is) (told ∙ ap (λ t. Some (ForAbove t)) so) here up line
        go le here told false so = no_for (event ∙ is) (told ∙ ap (λ t. Some (ForAbove t)) so) here (none_above p c _ so)
    by_line_lem (past is loop le) how = other (inl (event ∙ is)) (ByEvent.cause_other p _ n _ _ (inl (event ∙ is)))
    by_line_lem (done is line same) how = other (inr (inl (event ∙ is))) (ByEvent.cause_other p _ n _ _ (inr (inl (event ∙ is))))
    by_line_lem (bad is line same) how = other (inr (inr (event ∙ is))) (ByEvent.cause_other p _ n _ _ (inr (inr (event ∙ is))))

    -- 013 is left to those who know what was held
    call_fact : (e ≡ 13 → stop.lines ≡ 400 → last.line ≡ s.line → is_for_or_next (line_at p s.line) ≡ true → Fact p k o s) → Fact p k o s
    unfolding stop_of
    call_fact otherwise = go stop.cause
      where
        go : Cause p last stop.lines e stop.left → Fact p k o s
        go (by_line why is few) = by_line_lem why (ap (λ (x : Step). x.how) is)
        go (over is all loop same) =
            otherwise is all (line_is (ap (λ (v : Run). v.line) same))
            (ap (λ j. is_for_or_next (line_at p j)) (sym (line_is (ap (λ (v : Run). v.line) same))) ∙ loop)

  -- ---- in the start, and at a later tick

  -- behind the State line that is held the run has gone through that line too, and there the next line falls due
  way_behind : (n : ℕ) (h : Holding p b (did p k o n).run) → h.at.line < 199 → Gone p b 0 (h.at.line ∷ h.moment.gone) (behind h.outputs h.at)
  way_behind n h before = further h.moment.way (waits refl h.line (omega (arith, h.above, h.most)) before refl)

  due_behind : (n : ℕ) (h : Holding p b (did p k o n).run) → h.at.line < 199 → h.wait ≡ 1
      → first_due (suc n) (did p k o n).run ≡ behind h.outputs h.at
  unfolding first_due onward
  due_behind n h before one = rw (ne_eqb (suc n) 0 (λ z. omega arith), h.is, lt-ltb h.at.line 199 before, one)

  start_fact : (e : ℕ) → EndsAfter p 0 e (start p k o) → Fact p k o (stop_at p k o 0)
  unfolding first_due stop_of
  start_fact e ends =
      let stop = subst (λ (x : Ran). Stops p b e x.run) (sym (did_start p k o)) (stops_at_once p k o e ends) in
      let on = gone_within p b b stop.last [] stop.few (begins refl) stop.within in
      let loops : LoopLines p (on.since ++ []) = rw (append-nil on.since) on.loops in
      call_fact 0 e ends.event b [] (begins refl) refl stop λ is all there loop.
      in_the_start (ends.event ∙ is) (ByEvent.cause_013_start p _ 0 _ _ (ends.event ∙ is) refl) refl
      (subst (λ i. Gone p b i (on.since ++ []) stop.last) all on.way) there loop loops

  later_fact : (n e : ℕ) → EndsAfter p (suc n) e (start p k o) → Fact p k o (stop_at p k o (suc n))
  unfolding stop_of
  later_fact n e ends = let found = stops_later p k o n e ends in go found.0 found.1
    where
      go : (h : Holding p b (did p k o n).run) → StopsAfter p b (did p k o n).run h e (did p k o (suc n)).run → Fact p k o (stop_at p k o (suc n))
      go h (past199 is _ _) = other (inl (ends.event ∙ is)) (ByEvent.cause_other p _ (suc n) _ _ (inl (ends.event ∙ is)))
      go h (behind_it before one stop) =
          let at = h.moment.gone in
          let way = way_behind n h before in
          let due = due_behind n h before one in
          let on = gone_within p b (behind h.outputs h.at) stop.last (h.at.line ∷ at) stop.few way stop.within in
          call_fact (suc n) e ends.event (behind h.outputs h.at) (h.at.line ∷ at) way due stop λ is all there loop.
          state_held (ends.event ∙ is) (ByEvent.cause_013_later p _ (suc n) _ _ (ends.event ∙ is) refl) refl refl
          (subst (λ i. Gone p b i (on.since ++ (h.at.line ∷ at)) stop.last) all on.way) there loop
          (record {
            since = on.since;
            before = at;
            ran = ap (λ j. on.since ++ (j ∷ at)) (holding_line h);
            outputs = h.outputs;
            time = h.time;
            line = ap (line_at p) (sym (holding_line h)) ∙ h.line;
            loops = on.loops;
            many = on.many ∙ all;
          })

  -- A program that ends at tick n with 006 does so at the last moment of its call.
  pub record LastMoment (n e : ℕ) : Type 0 where
    pub lines : ℕ
    pub gone : List ℕ
    pub way : Gone p b lines gone (last_due p 400 (first_due n (held_at p k o n)))
    pub ends : (step p (last_due p 400 (first_due n (held_at p k o n)))).how ≡ Ends e

  call_last : (n e : ℕ) → e ≢ 13 → (r : Run) (gone : List ℕ) → Gone p b 0 gone r → first_due n (held_at p k o n) ≡ r → {v : Run} → Stops p r e v → LastMoment n e
  call_last n e ne r gone way due stop =
      let on = gone_within p b r stop.last gone stop.few way stop.within in
      let is : last_due p 400 (first_due n (held_at p k o n)) ≡ stop.last = ap (last_due p 400) due ∙ stops_last p r stop in
      record {
        lines = stop.lines;
        gone = on.since ++ gone;
        way = subst (Gone p b stop.lines (on.since ++ gone)) (sym is) on.way;
        ends = ap (λ (x : Run). (step p x).how) is ∙ go stop.cause;
      }
    where
      go : Cause p stop.last stop.lines e stop.left → (step p stop.last).how ≡ Ends e
      go (by_line _ so _) = ap (λ (x : Step). x.how) so
      go (over so _ _ _) = absurd (ne so)

  -- What is told of a program that ends at tick n is a fact of its run.
  pub stop_fact : (n e : ℕ) → EndsAfter p n e (start p k o) → Fact p k o (stop_at p k o n)
  stop_fact zero e ends = start_fact e ends
  stop_fact (suc n) e ends = later_fact n e ends

  pub last_moment : (n : ℕ) → EndsAfter p n 6 (start p k o) → LastMoment n 6
  unfolding first_due
  last_moment zero ends = call_last 0 6 (λ z. omega arith) b [] (begins refl) refl (stops_at_once p k o 6 ends)
  last_moment (suc n) ends = let found = stops_later p k o n 6 ends in go found.0 found.1
    where
      go : (h : Holding p b (did p k o n).run) → StopsAfter p b (did p k o n).run h 6 (did p k o (suc n)).run → LastMoment (suc n) 6
      go h (past199 z _ _) = absurd (omega arith)
      go h (behind_it before one stop) = call_last (suc n) 6 (λ z. omega arith) _ _ (way_behind n h before) (due_behind n h before one) stop
