-- What the numbers that C is given say: refused for the first reason, still running, or how and why the run by the rules stops.
-- Assumes nothing.
use Prim.Native.Nat.{ℕ, ◌+◌}
use native.Mathlib.Omega.{arith}
use mathlib.Core.Path.{◌≡◌, refl, sym, ap, subst, ◌∙◌}
use mathlib.Core.Logic.{◌≢◌, inl, inr}
use mathlib.Core.List.{List}
use Rattle.std.specs.Prelude.{Option, None, Some}
use Rattle.formats.specs.Checks.{Res, refused, passed}
use Rattle.formats.specs.Order.{First}
use Rattle.lines.specs.declared.Line.TheVariants.{For}
use Rattle.lines.specs.Program.{NoneFrom}
use Rattle.running.specs.Gone.{HeldBy, LastState}
use Rattle.explanation.specs.declared.Stop.{Stop}
use Rattle.explanation.specs.Report.{report, cause_number}
use Rattle.explanation.specs.Reasons.{Reason, place}
use Rattle.explanation.specs.Facts.{Fact, in_use, no_next, for_above, no_for, state_held, in_the_start, other, StillRuns}
use Rattle.explanation.proofs.Explained.{stops_as_told, runs_as_told}
use Rattle.explanation.proofs.Refusing.{refused_first, zero_not_told}
use Rattle.nizhalepu.specs.declared.Explained.{Explained}
use Rattle.nizhalepu.specs.Stops.{explained_of, SaidFact, said006, said007, said008yes, said008no, said013, said013start, said_none, SaysSo}

-- ---- the cause of a stop, in numbers

module _ (p : List ℕ) (k o : ℕ) (s : Stop) where
  abbrev x : Explained
  x = explained_of (passed (Some s))

  in_numbers : Fact p k o s → SaidFact p k o x
  in_numbers (in_use {c = c} {gone = gone} event is line way there how held) =
      said006 event line way there how (subst (λ j. HeldBy p c j gone) (sym (ap cause_number is)) held)
  in_numbers (no_next {c = c} {x = y} event is line none) =
      let n : cause_number s.cause ≡ c = ap cause_number is in
      said007 event (line ∙ ap (λ d. For d y) (sym n)) (subst (λ d. NoneFrom p d (s.line + 1)) (sym n) none)
  in_numbers (for_above event is line above for) = said008yes event (ap cause_number is) line above for
  in_numbers (no_for event is line none) = said008no event (ap cause_number is) line none
  in_numbers (state_held {gone = gone} event is later _ way there loop last) =
      said013 event later way there loop (subst (λ j. LastState p j 400 gone) (sym (ap cause_number is)) last)
  in_numbers (in_the_start event is first way there loop all) = said013start event first (ap cause_number is) way there loop all
  in_numbers (other event is) = said_none event (ap cause_number is)

  -- no stop has event 0
  some_event : Fact p k o s → s.event ≢ 0
  some_event (in_use e _ _ _ _ _ _) z = omega arith
  some_event (no_next e _ _ _) z = omega arith
  some_event (for_above e _ _ _ _) z = omega arith
  some_event (no_for e _ _ _) z = omega arith
  some_event (state_held e _ _ _ _ _ _ _) z = omega arith
  some_event (in_the_start e _ _ _ _ _ _) z = omega arith
  some_event (other (inl e) _) z = omega arith
  some_event (other (inr (inl e)) _) z = omega arith
  some_event (other (inr (inr e)) _) z = omega arith

-- ---- what C is given

module _ (p : List ℕ) (k limit : ℕ) where
  -- A refusal other than 0 is the first reason that holds.
  pub refusal_so : (explained_of (report p k limit)).refusal ≢ 0 → First place (Reason p k limit) (explained_of (report p k limit)).refusal
  refusal_so some = go (report p k limit) refl some
    where
      go : (r : Res (Option Stop)) → report p k limit ≡ r → (explained_of r).refusal ≢ 0 → First place (Reason p k limit) (explained_of r).refusal
      go (refused e) is some = refused_first p k limit e is
      go (passed None) is some = absurd (some refl)
      go (passed (Some s)) is some = absurd (some refl)

  -- An event other than 0 stops the run by the rules so, at that tick, on that line, and for that cause, whatever the outputs at the start.
  pub said_so : (explained_of (report p k limit)).event ≢ 0 → (o : ℕ) → SaysSo p k o (explained_of (report p k limit))
  said_so some o = go (report p k limit) refl some
    where
      go : (r : Res (Option Stop)) → report p k limit ≡ r → (explained_of r).event ≢ 0 → SaysSo p k o (explained_of r)
      go (refused e) is some = absurd (some refl)
      go (passed None) is some = absurd (some refl)
      go (passed (Some s)) is some =
          let so = stops_as_told p k limit s is o in record { ends = so.ends; there = so.there; fact = in_numbers p k o s so.fact }

  -- With neither the program still runs, up to the limit.
  pub still_so : (explained_of (report p k limit)).refusal ≡ 0 → (explained_of (report p k limit)).event ≡ 0 → (o : ℕ) → StillRuns p k o limit
  still_so none no_event o = go (report p k limit) refl none no_event
    where
      go : (r : Res (Option Stop)) → report p k limit ≡ r → (explained_of r).refusal ≡ 0 → (explained_of r).event ≡ 0 → StillRuns p k o limit
      go (refused e) is none no_event = absurd (zero_not_told p k limit (is ∙ ap refused none))
      go (passed None) is none no_event = runs_as_told p k limit is o
      go (passed (Some s)) is none no_event = absurd (some_event p k o s (stops_as_told p k limit s is o).fact no_event)
