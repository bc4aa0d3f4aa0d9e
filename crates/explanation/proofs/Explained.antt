-- The theorems: what is told is how the run by the rules stops, and how it stops is told; the cause is a fact of it, and no other is.
-- Assumes nothing.
use Prim.Native.Nat.{ℕ, ◌≤◌, ◌<◌}
use native.Mathlib.Omega.{arith}
use mathlib.Core.Path.{◌≡◌, refl, sym, ap, subst, ◌∙◌}
use mathlib.Core.Bool.{true, false}
use mathlib.Core.List.{List}
use lib.ListN.{length}
use Rattle.formats.specs.Checks.{passed}
use Rattle.formats.proofs.Checks.{not_so}
use Rattle.lines.specs.Searches.{some_before}
use Rattle.lines.proofs.Pairs.{counter_ranged, next_ranged}
use Rattle.running.specs.declared.Run.{Run}
use Rattle.running.specs.Running.{counter, begun, is_for_or_next, start}
use Rattle.running.specs.Gone.{Gone, LoopLines, LastState}
use Rattle.lines.specs.Program.{line_at}
use Rattle.running.specs.Ticking.{EndsAfter}
use Rattle.running.specs.Moments.{last_due}
use Rattle.running.proofs.Reaching.{one_number}
use Rattle.running.proofs.Gone.{held_line}
use Rattle.running.proofs.OneWay.{one_way, ends_last, over_last, no_state, last_state_one}
use Rattle.std.specs.Prelude.{Option, None, Some}
use Rattle.explanation.specs.declared.Cause.{Cause}
use Rattle.explanation.specs.declared.Cause.TheVariants.{ForLine, ForAbove, StateLine}
use Rattle.explanation.specs.declared.Stop.{Stop}
use Rattle.explanation.specs.Report.{did, stop_tick, held_at, first_due, cause_of, stop_of, stop_at, outcome, report}
use Rattle.explanation.specs.Facts.{Fact, in_use, no_next, for_above, no_for, state_held, in_the_start, other, StopsSo, StillRuns}
use Rattle.explanation.proofs.Ticks.{did_kept, did_runs}
use Rattle.explanation.proofs.Searched.{runs_before, off_there, stops_there, still_there, outcome_stops, outcome_runs, stopped_found, running_found}
use Rattle.explanation.proofs.Above.{is_for_of, some_above, above_some}
use Rattle.explanation.proofs.ByEvent as ByEvent
use Rattle.explanation.proofs.Stopping.{stop_fact, last_moment}
use Rattle.explanation.proofs.Whatever.{same_outcome}
use Rattle.explanation.proofs.Order.{Fit, fit_told, told_fit, told_outcome}

-- ---- there is one cause

module _ (p : List ℕ) (k o : ℕ) (s : Stop) where
  -- what the definition tells at that tick
  abbrev told : Option Cause
  told = cause_of p s.event s.tick s.line (held_at p k o s.tick)

  -- a cause that is a fact of the run is the one that is told
  fact_told : k < 200 → EndsAfter p s.tick s.event (start p k o) → Fact p k o s → s.cause ≡ told
  fact_told lt ends (in_use {c = c} {x = x} {j = j} {gone = gone} {last = last} event is line way there how held) =
      let m = last_moment p k o lt s.tick (rw event at ends) in
      let same : last ≡ last_due p 400 (first_due s.tick (held_at p k o s.tick)) =
      (one_way p (begun k o) gone m.gone last _ way m.way (ends_last p _ last how) (ends_last p _ _ m.ends)).1 in
      let holder : j ≡ (counter last c).line = (held_line p k o gone last way c (counter_ranged p s.line c x line) j held).0 in
      is ∙ ap (λ i. Some (ForLine i)) (holder ∙ ap (λ (r : Run). (counter r c).line) same) ∙ sym (ByEvent.cause_006 p _ s.tick s.line _ event line)
  fact_told lt ends (no_next event is line none) = is ∙ sym (ByEvent.cause_007 p _ s.tick s.line _ event line)
  fact_told lt ends (for_above {c = c} {j = j} event is line above for) =
      is ∙ ap (λ t. Some (ForAbove t)) (sym some) ∙ sym (ByEvent.cause_008 p _ s.tick s.line _ event line)
    where
      some : some_before (is_for_of p c) s.line ≡ true
      some = above_some p c s.line j above for
  fact_told lt ends (no_for {c = c} event is line none) =
      is ∙ ap (λ t. Some (ForAbove t)) (sym no) ∙ sym (ByEvent.cause_008 p _ s.tick s.line _ event line)
    where
      no : some_before (is_for_of p c) s.line ≡ false
      no = not_so _ (λ so. some_above p c s.line (next_ranged p s.line c line).0 so (λ i x up for. none i x up for))
  fact_told lt ends (state_held {j = j} {n = n} event is later there _ _ _ _) =
      let held : (held_at p k o s.tick).line ≡ j = ap (λ i. (held_at p k o i).line) later ∙ there in
      is ∙ ap (λ i. Some (StateLine i)) (sym held) ∙ sym (ByEvent.cause_013_later p _ s.tick s.line _ event later)
  fact_told lt ends (in_the_start event is first _ _ _ _) = is ∙ sym (ByEvent.cause_013_start p _ s.tick s.line _ event first)
  fact_told lt ends (other event is) = is ∙ sym (ByEvent.cause_other p _ s.tick s.line _ event)

-- Where a 401st For or Next is due, the lines gone through say by themselves which State line was held last: no two are,
pub one_last_state : (p : List ℕ) (b : Run) {g h : List ℕ} {s t : Run} {j i : ℕ} → Gone p b 400 g s → Gone p b 400 h t
    → is_for_or_next (line_at p s.line) ≡ true → is_for_or_next (line_at p t.line) ≡ true → LastState p j 400 g → LastState p i 400 h → j ≡ i
one_last_state p b {g} {h} {s} {t} {j} v w loop also held too =
    last_state_one p h (subst (LastState p j 400) (one_way p b g h s t v w (over_last p s loop) (over_last p t also)).0 held) too

-- and none is, where all of them are For and Next lines.
pub no_last_state : (p : List ℕ) (b : Run) {g h : List ℕ} {s t : Run} {j : ℕ} → Gone p b 400 g s → Gone p b 400 h t
    → is_for_or_next (line_at p s.line) ≡ true → is_for_or_next (line_at p t.line) ≡ true → LoopLines p g → LastState p j 400 h → ⊥
no_last_state p b {g} {h} {s} {t} v w loop also loops held =
    no_state p h (subst (LoopLines p) (one_way p b g h s t v w (over_last p s loop) (over_last p t also)).0 loops) held

-- a stop by its parts
stop_of_parts : {s t : Stop} → s.event ≡ t.event → s.tick ≡ t.tick → s.line ≡ t.line → s.cause ≡ t.cause → s ≡ t
stop_of_parts {s} {t} a b c d =
    ap (λ e. parts e s.tick s.line s.cause) a ∙ ap (λ n. parts t.event n s.line s.cause) b
    ∙ ap (λ l. parts t.event t.tick l s.cause) c ∙ ap (parts t.event t.tick t.line) d
  where
    parts : ℕ → ℕ → ℕ → Option Cause → Stop
    parts e n l w = record { event = e; tick = n; line = l; cause = w }

module _ (p : List ℕ) (k o limit : ℕ) (lt : k < 200) where
  -- How a run stops is what the definition tells at that tick.
  stop_is : (s : Stop) → StopsSo p k o limit s → s ≡ stop_at p k o s.tick
  unfolding stop_of
  stop_is s so =
      let event = so.ends.event in
      let line = so.there in
      stop_of_parts (sym event) refl (sym line)
      (fact_told p k o s lt so.ends so.fact ∙ rw (sym event, sym line))

  -- A run stops in one way: no second event, tick, line or cause fits.
  pub one_stop : (s t : Stop) → StopsSo p k o limit s → StopsSo p k o limit t → s ≡ t
  one_stop s t so also =
      let same = one_number p s.tick t.tick (start p k o) so.ends also.ends in
      stop_is s so ∙ ap (stop_at p k o) same ∙ sym (stop_is t also)

  found_tick : (s : Stop) → StopsSo p k o limit s → stop_tick p k o limit ≡ s.tick
  found_tick s so = stops_there p k o limit s.tick so.within so.ends.off (λ m up. (so.ends.before m up).on)

  -- the definition's stop, if it is within the limit, is such a one
  tells_so : stop_tick p k o limit ≤ limit → StopsSo p k o limit (stop_at p k o (stop_tick p k o limit))
  unfolding stop_of
  tells_so le =
      let n = stop_tick p k o limit in
      let ends : EndsAfter p n (did p k o n).event (start p k o) =
      record { before = λ m up. did_runs p k o m (runs_before p k o limit m up); event = refl; off = off_there p k o limit le } in
      record { within = le; ends = ends; there = refl; fact = stop_fact p k o lt n (did p k o n).event ends }

-- ---- what is told, and what is so

module _ (p : List ℕ) (k limit : ℕ) where
  -- "It answers [...] the event, its tick from the start, its line and the cause": the run by the rules stops so, whatever the outputs at the start;
  pub stops_as_told : (s : Stop) → report p k limit ≡ passed (Some s) → (o : ℕ) → StopsSo p k o limit s
  stops_as_told s is o =
      let fit = told_fit p k limit (Some s) is in
      let found = stopped_found p k o limit s (same_outcome p k o 0 limit ∙ told_outcome p k limit (Some s) is) in
      subst (StopsSo p k o limit) (sym found.is) (tells_so p k o limit fit.line found.within)

  -- "still running": it has not ended after that many ticks.
  pub runs_as_told : report p k limit ≡ passed None → (o : ℕ) → StillRuns p k o limit
  runs_as_told is o n le =
      did_runs p k o n (running_found p k o limit (same_outcome p k o 0 limit ∙ told_outcome p k limit None is) n le)

  -- The line that is told is one of the program.
  pub told_in_program : (s : Stop) → report p k limit ≡ passed (Some s) → (length p ≡ 1600) × (s.line < 200)
  told_in_program s is =
      let fit = told_fit p k limit (Some s) is in
      (fit.program, subst (λ j. j < 200) (stops_as_told s is 0).there (did_kept p k 0 fit.line s.tick).line_in_program)

  -- And the other way round: of a stored program, a start line and a limit that are not refused, what is so is told.
  module _ (program : length p ≡ 1600) (line : k ≤ 199) (few : limit ≤ 100000) (o : ℕ) where
    fit : Fit p k limit
    fit = record { program = program; line = omega arith; few = few }

    tells : {a : Option Stop} → outcome p k o limit ≡ a → report p k limit ≡ passed a
    tells is = fit_told p k limit fit ∙ ap passed (same_outcome p k 0 o limit ∙ is)

    pub told_as_stops : (s : Stop) → StopsSo p k o limit s → report p k limit ≡ passed (Some s)
    told_as_stops s so =
        let lt : k < 200 = omega arith in
        tells (outcome_stops p k o limit s.tick (found_tick p k o limit lt s so) so.within ∙ ap Some (sym (stop_is p k o limit lt s so)))

    pub told_as_runs : StillRuns p k o limit → report p k limit ≡ passed None
    told_as_runs so = tells (outcome_runs p k o limit (still_there p k o limit (λ m le. (so m le).on)))
