-- To what a line leads: it is held, it ends the program for a cause, or it goes on. And what the cause says of the line where the program stopped.
-- Assumes nothing.
use Prim.Native.Nat.{ℕ, ◌<◌}
use native.Mathlib.Omega.{arith}
use mathlib.Core.Path.{◌≡◌, refl, ap, ◌∙◌}
use mathlib.Core.Logic.{◌≢◌}
use mathlib.Core.Bool.{true}
use mathlib.Core.List.{List}
use Rattle.lines.specs.declared.Line.{Line}
use Rattle.lines.specs.declared.Line.TheVariants.{State, For, Next, Bad}
use Rattle.lines.specs.Program.{line_at}
use Rattle.lines.proofs.Search.{next_none}
use Rattle.running.specs.declared.Run.{Run}
use Rattle.running.specs.declared.How.TheVariants.{GoesOn}
use Rattle.running.specs.declared.Step.{Step}
use Rattle.running.specs.Running.{with_outputs, waiting, holds, ends, onward, run_line, is_for_or_next, step}
use Rattle.running.specs.Ended.{Ended}
use Rattle.running.specs.Moments.{LineEnds, busy, alone, loose, past, done, bad, Cause, by_line, over}
use Rattle.running.proofs.Ways.{onward_ways, state_ways, for_ways, next_ways, bad_way}

pub data Way (p : List ℕ) (r : Run) (s : Step) : Type 0 where
  is_held : {o t : ℕ} → line_at p r.line ≡ State o t → 0 < t → s ≡ holds (waiting t (with_outputs o r)) → Way p r s
  has_ended : (e : ℕ) (u : Run) → LineEnds p r e u → s ≡ ends e u → Way p r s
  goes_on : is_for_or_next (line_at p r.line) ≡ true → s.how ≡ GoesOn → Way p r s

module _ (p : List ℕ) (r : Run) where
  onward_way : is_for_or_next (line_at p r.line) ≡ true → (v : Run) → Way p r (onward v)
  onward_way loop v = onward_ways (Way p r) v (λ _. goes_on loop refl) (λ le. has_ended 9 v (past refl loop le) refl)

  line_way : (l : Line) → line_at p r.line ≡ l → Way p r (run_line p l r)
  line_way (State o t) is =
      state_ways (Way p r) p r o t (λ above. is_held is above refl)
      (λ none. has_ended 11 (with_outputs o r) (done refl (is ∙ ap (State o) none) refl) refl)
  line_way (For c x) is =
      for_ways (Way p r) p r c x
      (λ above. has_ended 6 r (busy refl is above refl) refl)
      (λ idle none. has_ended 7 r (alone refl is idle (λ lt. next_none p c r.line lt none) refl) refl)
      (λ _ _ _. onward_way (ap is_for_or_next is) _)
      (λ _ _ _. onward_way (ap is_for_or_next is) _)
  line_way (Next c) is =
      next_ways (Way p r) p r c (λ none. has_ended 8 r (loose refl is none refl) refl) (λ _. goes_on (ap is_for_or_next is) refl)
      (λ _. onward_way (ap is_for_or_next is) _)
  line_way Bad is = bad_way (Way p r) p r (has_ended 14 r (bad refl is refl) refl)

  pub step_way : Way p r (step p r)
  unfolding step
  step_way = line_way (line_at p r.line) refl

  -- what it says of the line at which the program stopped: 011 of an end mark, 014 of a Bad line
  pub other_end : {e : ℕ} (u : Run) → e < 15 → e ≢ 11 → e ≢ 14 → Ended p e u
  other_end u lt a b = record { known = omega arith; well = λ z. absurd (a z); badly = λ z. absurd (b z) }

  pub line_says : {e : ℕ} {u : Run} → LineEnds p r e u → Ended p e u
  line_says (busy e _ _ _) = other_end _ (omega arith) (λ z. omega arith) (λ z. omega arith)
  line_says (alone e _ _ _ _) = other_end _ (omega arith) (λ z. omega arith) (λ z. omega arith)
  line_says (loose e _ _ _) = other_end _ (omega arith) (λ z. omega arith) (λ z. omega arith)
  line_says (past e _ _) = other_end _ (omega arith) (λ z. omega arith) (λ z. omega arith)
  line_says (done e is u) = rw u (record { known = omega arith; well = λ z. is; badly = λ z. absurd (omega arith) })
  line_says (bad e is u) = rw u (record { known = omega arith; well = λ z. absurd (omega arith); badly = λ z. is })

  -- no line ends the program with 013 by itself
  never_over : {e : ℕ} {u : Run} → LineEnds p r e u → e ≢ 13
  never_over (busy e _ _ _) z = omega arith
  never_over (alone e _ _ _ _) z = omega arith
  never_over (loose e _ _ _) z = omega arith
  never_over (past e _ _) z = omega arith
  never_over (done e _ _) z = omega arith
  never_over (bad e _ _) z = omega arith

  -- 013 comes behind 400 lines of its call, at a For or a Next, and nowhere else
  pub over_so : {n : ℕ} {u : Run} → Cause p r n 13 u → (n ≡ 400) × (is_for_or_next (line_at p r.line) ≡ true)
  over_so (by_line why _ _) = absurd (never_over why refl)
  over_so (over _ all loop _) = (all, loop)
