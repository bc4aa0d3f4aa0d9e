-- How and why a program stops: what the report of a stop tells is what is seen of the box.
-- Assumes nothing.
use mathlib.Core.Path.{◌≡◌, sym, ap, ◌∙◌}
use Prim.Native.Nat.{ℕ, ◌+◌, ◌≤◌, ◌<◌}
use mathlib.Core.Bool.{true, false}
use Rattle.formats.specs.Checks.{passed}
use Rattle.running.specs.declared.Run.{Run}
use Rattle.running.specs.Ticking as Ticking
use Rattle.running.proofs.Reaching.{after_ticks}
use Rattle.explanation.specs.declared.Stop.{Stop}
use Rattle.std.specs.Prelude.{None, Some}
use Rattle.explanation.specs.Report.{report}
use Rattle.explanation.specs.Facts.{StopsSo}
use Rattle.explanation.proofs.Explained.{stops_as_told, runs_as_told}
use Rattle.controller.specs.Controller.{Areas}
use Rattle.demands.specs.Seen.{outputs}
use Rattle.demands.specs.Told.{told}
use Rattle.demands.specs.Started.{Course, begun, now, Started, program_of, start_of, count, ruled, Ticks, ticked, ShowsStop}
use Rattle.demands.proofs.Runs.ByTheRules.{runs_by_the_rules}
use Rattle.demands.proofs.Runs.Ends.{shows_stop, runs_so_long, ends_there, ends_in_start}

module _ (c : Course) (so : Started c) (limit : ℕ) where
  -- 02, item 9: for a program that the report tells to stop so, started at that line, whatever the outputs were: as long as fewer ticks were taken
  -- unpaused it runs, whatever the traffic and the pauses,
  module _ (s : Stop) (is : report (program_of c) c.line limit ≡ passed (Some s)) where
    stops : StopsSo (program_of c) c.line (outputs c.before) limit s
    stops = stops_as_told (program_of c) c.line limit s is (outputs c.before)

    pub runs_until_then : count c < s.tick → (told (now c)).run.on ≡ true
    runs_until_then = runs_so_long c so s.tick s.event stops.ends

    -- at exactly that tick it stops, and 212 and 211 then show the event and the line,
    pub stops_as_explained : count c + 1 ≡ s.tick → (a : Areas) → Ticks c a
        → ((told (ticked c a)).run.on ≡ false) × ShowsStop (ticked c a) s.event s.line
    stops_as_explained last a t =
        let end = ends_there c so s.tick s.event stops.ends last a t in
        (end.1, shows_stop (ticked c a) end.1 s.event s.line end.0 (end.2 ∙ stops.there))

    -- and where that is the start itself, at the start.
    pub stops_in_the_start : s.tick ≡ 0 → ((told (begun c)).run.on ≡ false) × ShowsStop (begun c) s.event s.line
    unfolding Ticking.after
    stops_in_the_start at_once =
        let end = ends_in_start c so s.tick s.event stops.ends at_once in
        let line = ap (λ n. (Ticking.after (program_of c) n (start_of c)).run.line) at_once in
        (end.1, shows_stop (begun c) end.1 s.event s.line end.0 (end.2 ∙ (rw at_once at stops.there)))

  -- A program that is told to run still does so, as long as no more ticks than the limit were taken unpaused.
  pub runs_as_explained : report (program_of c) c.line limit ≡ passed None → count c ≤ limit → (told (now c)).run.on ≡ true
  runs_as_explained is le =
      let on = ap (λ (r : Run). r.on) (after_ticks (program_of c) (count c) (start_of c)) in
      let runs = (runs_as_told (program_of c) c.line limit is (outputs c.before) (count c) le).on in
      let so_long : (ruled c).on ≡ true = sym on ∙ runs in
      ap (λ (r : Run). r.on) (runs_by_the_rules c so so_long).0 ∙ so_long
