-- Promises that apply: what is read when a program has ended. A script that passes its tests meets the premises of `Ends.ends_where_it_says` and
-- `start_ends_where_it_says`.
-- Assumes nothing.
use mathlib.Core.Path.{◌≡◌, refl, ap, ◌∙◌}
use mathlib.Core.Bool.{Bool, true, false}
use mathlib.Core.List.{List, [], ◌∷◌, ◌++◌}
use Prim.Native.Nat.{ℕ, ◌≤◌}
use borrow.Author.Tests.{leb-true, not-true}
use Rattle.std.specs.Prelude.{if◌then◌else◌}
use Rattle.formats.specs.Checks.{text}
use Rattle.formats.specs.Digits.{digits, shown, d}
use Rattle.lines.specs.declared.Line.TheVariants.{State, Bad}
use Rattle.lines.specs.Program.{line_at}
use Rattle.wire.specs.Naming.{by_digits}
use Rattle.controller.specs.Refusals.{tick as tick_call}
use Rattle.demands.specs.Histories.{Made, ticking, unpowered, after}
use Rattle.demands.specs.Seen.{outputs}
use Rattle.demands.specs.Told.{Told, told}
use Rattle.demands.specs.Started.{Answers, ShowsEnd}
use Rattle.demands.specs.Undisturbed.{is_touched}
use Rattle.demands.specs.Walks.{asking, asks_of, made_of, Trail}
use Rattle.demands.specs.Premises.{◌behind◌, end}
use Rattle.demands.specs.Applying.{Runs, runs, AtOnce, at_once, EndRead, reads_end, at_start, at_tick}
use Rattle.demands.proofs.Applies.Walked.{calls, Reached, reached_more, never_reached, arrives_reached, taken_so}
use Rattle.demands.proofs.Applies.Walked.{reply_so, one_reached, AllTrue, nth, holds_at}
use Rattle.demands.proofs.Applies.RunsApply.{before, started_by, at_started, now, at_now, t, so, on, next, once_so}
use Rattle.demands.proofs.Runs.Ends.{ends_where_it_says, start_ends_where_it_says}

-- what the theorems say of a line at which 211 stands: a Bad line, or the end mark of the outputs
abbrev pub LineSo : Bool → List ℕ → ℕ → ℕ → Type 0
LineSo true program word k = line_at program k ≡ Bad
LineSo false program word k = line_at program k ≡ State word 0

-- the calls `gone` end the program, and lead to g
module _ (gone : List Made) (g : Trail) (r : Reached gone g.last) (x : EndRead) (ok : AllTrue (reads_end g x)) where
  at : (i : ℕ) → nth i (reads_end g x) ≡ true
  at = holds_at (reads_end g x) ok

  line_answers : Answers gone 211 (d x.line)
  unfolding reads_end text shown digits
  line_answers =
      let here = reached_more r (asks_of x.at_line) in
      record {
        later = calls g.last (asks_of x.at_line);
        untouched = never_reached r (asks_of x.at_line) is_touched (at 2);
        lent = (made_of end (g behind x.at_line).last).areas;
        read = record { address = text "211"; arrived = arrives_reached here _ (at 3); named = by_digits refl; taken = taken_so here end (at 4) };
        is = reply_so here end _ (at 5);
      }

  event_answers : Answers gone 212 (text (if x.is_on_bad then "014" else "011"))
  unfolding reads_end text shown digits
  event_answers =
      let here = reached_more r (asks_of x.at_event) in
      record {
        later = calls g.last (asks_of x.at_event);
        untouched = never_reached r (asks_of x.at_event) is_touched (at 6);
        lent = (made_of end (g behind x.at_event).last).areas;
        read = record { address = text "212"; arrived = arrives_reached here _ (at 7); named = by_digits refl; taken = taken_so here end (at 8) };
        is = reply_so here end _ (at 9);
      }

  has_ended : (told gone).run.on ≡ false
  unfolding reads_end
  has_ended = ap (λ (y : Told). y.run.on) r.told ∙ not-true _ (at 0)

  line_so : (program : List ℕ) → ShowsEnd program gone → LineSo x.is_on_bad program (outputs gone) x.line
  unfolding reads_end
  line_so program shows = go x.is_on_bad event_answers
    where
      inside : x.line ≤ 199
      inside = leb-true x.line 199 (at 1)

      go : (b : Bool) → Answers gone 212 (text (if b then "014" else "011")) → LineSo b program (outputs gone) x.line
      go true e = shows.badly x.line inside e line_answers
      go false e = shows.well x.line inside e line_answers

-- the start ends it
abbrev pub StartShown : AtOnce → EndRead → Type 0
StartShown x e = LineSo e.is_on_bad (after unpowered (before x.begins)).program (outputs (started_by x.begins)) e.line

pub start_shown_lem : (x : AtOnce) (e : EndRead) → AllTrue (at_once x) → AllTrue (reads_end (at_start x) e) → StartShown x e
start_shown_lem x e ok tests =
    let r = at_started x.begins in
    let gone = started_by x.begins in
    line_so gone (at_start x) r e tests _ (start_ends_where_it_says _ (once_so x ok) (has_ended gone (at_start x) r e tests))

-- the tick ends it
abbrev pub TickShown : Runs → EndRead → Type 0
TickShown x e = LineSo e.is_on_bad (after unpowered (before x.begins)).program (outputs (now x ++ (ticking (t x) ∷ []))) e.line

pub tick_shown_lem : (x : Runs) (e : EndRead) → AllTrue (runs x) → AllTrue (reads_end (at_tick x) e) → TickShown x e
tick_shown_lem x e ok tests =
    let r = one_reached (at_now x) (asking tick_call) in
    let gone = now x ++ (ticking (t x) ∷ []) in
    line_so gone (at_tick x) r e tests _ (ends_where_it_says _ (so x ok) (on x ok) (t x) (next x ok) (has_ended gone (at_tick x) r e tests))
