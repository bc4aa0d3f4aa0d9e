-- What a call leaves before its loops are freed.
-- Assumes nothing.
use Prim.Native.Nat.{ℕ, zero, suc}
use native.Mathlib.Omega.{arith}
use mathlib.Core.Path.{◌≡◌, refl, sym, ap, ◌∙◌}
use mathlib.Core.Logic.{◌≢◌}
use mathlib.Core.Bool.{false, true≢false}
use mathlib.Core.List.{List}
use lib.Dec.{eqb}
use borrow.Author.Tests.{eq-eqb, ne_eqb}
use Rattle.formats.proofs.Checks.{if_case}
use Rattle.lines.specs.declared.Line.{Line}
use Rattle.lines.specs.declared.Line.TheVariants.{State, For, Next, Bad}
use Rattle.lines.specs.Program.{line_at}
use Rattle.running.specs.declared.Run.{Run}
use Rattle.running.specs.declared.Ran.{Ran}
use Rattle.running.specs.declared.How.{How}
use Rattle.running.specs.declared.How.TheVariants.{Holds, Ends, GoesOn}
use Rattle.running.specs.declared.Step.{Step}
use Rattle.running.specs.Running.{stopped, is_for_or_next, stops, rests, follow, step, run_line, run_due}
use Rattle.running.specs.Moments.{LineEnds, busy, alone, loose, past, done, bad}
use Rattle.running.specs.Due.{freed}
use Rattle.running.proofs.Ways.{state_ways, bad_way}
use Rattle.running.proofs.Causes.{Way, is_held, has_ended, goes_on, step_way}

-- ---- freeing

pub freed_rests : (x : Ran) → x.event ≡ 0 → freed x ≡ x
unfolding freed
freed_rests x none = rw (eq-eqb x.event 0 none)

pub freed_ends : (x : Ran) → x.event ≢ 0 → freed x ≡ stops x.event x.lines x.run
unfolding freed
freed_ends x some = rw (ne_eqb x.event 0 some)

-- event and line stay
pub freed_event : (x : Ran) → x.event ≡ (freed x).event
unfolding freed
freed_event x = if_case (λ (y : Ran). x.event ≡ y.event) (eqb x.event 0) (λ _. refl) (λ _. refl)

pub freed_line : (x : Ran) → x.run.line ≡ (freed x).run.line
unfolding freed stopped
freed_line x = if_case (λ (y : Ran). x.run.line ≡ y.run.line) (eqb x.event 0) (λ _. refl) (λ _. refl)

-- what is freed already stays
freed_stop : (e n : ℕ) (r : Run) → freed (stops e n r) ≡ stops e n r
unfolding freed stopped
freed_stop e n r = if_case (λ (x : Ran). x ≡ stops e n r) (eqb e 0) (λ _. refl) (λ _. refl)

follow_freed : (h : How) (n : ℕ) (r : Run) (go : Run → Ran) → ((s : Run) → freed (go s) ≡ go s) → freed (follow h n r go) ≡ follow h n r go
follow_freed Holds n r go k = freed_rests (rests n r) refl
follow_freed (Ends e) n r go k = freed_stop e n r
follow_freed GoesOn n r go k = k r

pub due_freed : (p : List ℕ) (left n : ℕ) (r : Run) → freed (run_due p left n r) ≡ run_due p left n r
unfolding run_due
due_freed p zero n r =
    if_case (λ (x : Ran). freed x ≡ x) (is_for_or_next (line_at p r.line)) (λ _. freed_stop 13 n r)
    (λ _. follow_freed (step p r).how n (step p r).run _ (λ s. freed_rests (rests n s) refl))
due_freed p (suc left) n r = follow_freed (step p r).how _ (step p r).run _ (λ s. due_freed p left _ s)

-- ---- 006

-- a call does not end with it at a line that is not counted, nor at a 401st
pub last_never : (p : List ℕ) (n : ℕ) (r : Run) → (run_due p 0 n r).event ≢ 6
unfolding run_due step
last_never p n r =
    if_case (λ (x : Ran). x.event ≢ 6) (is_for_or_next (line_at p r.line)) (λ _ z. omega arith) (λ plain. go (line_at p r.line) plain)
  where
    Never : Step → Type 0
    Never s = (follow s.how n s.run (λ x. rests n x)).event ≢ 6

    go : (l : Line) → is_for_or_next l ≡ false → Never (run_line p l r)
    go (State o t) plain = state_ways Never p r o t (λ _ z. omega arith) (λ _ z. omega arith)
    go (For c x) plain = absurd (true≢false plain)
    go (Next c) plain = absurd (true≢false plain)
    go Bad plain = bad_way Never p r (λ z. omega arith)

module _ (p : List ℕ) (r : Run) {e : ℕ} (how : (step p r).how ≡ Ends e) where
  -- what the line that ends the program says
  by_way : {X : Type 0} → ((u : Run) → LineEnds p r e u → (step p r).run ≡ u → X) → X
  by_way {X} so = go (step_way p r)
    where
      same : {f : ℕ} → Ends f ≡ Ends e → f ≡ e
      same q = cc

      no_end : {f : ℕ} → Holds ≡ Ends f → X
      no_end q = let z : ◌≡◌ {A = ℕ} 0 1 = cc in absurd (omega arith)

      not_on : {f : ℕ} → GoesOn ≡ Ends f → X
      not_on q = let z : ◌≡◌ {A = ℕ} 0 1 = cc in absurd (omega arith)

      go : Way p r (step p r) → X
      go (is_held _ _ is) = no_end (sym (ap (λ (s : Step). s.how) is) ∙ how)
      go (has_ended f u why is) =
          let event = same (sym (ap (λ (s : Step). s.how) is) ∙ how) in so u (rw event at why) (ap (λ (s : Step). s.run) is)
      go (goes_on _ on) = not_on (sym on ∙ how)

  -- no line ends a program without an event
  pub some_event : e ≢ 0
  some_event z = by_way (λ u why is. go u why)
    where
      go : (u : Run) → LineEnds p r e u → ⊥
      go u (busy is _ _ _) = omega arith
      go u (alone is _ _ _ _) = omega arith
      go u (loose is _ _ _) = omega arith
      go u (past is _ _) = omega arith
      go u (done is _ _) = omega arith
      go u (bad is _ _) = omega arith

  -- 006 leaves the run as it was
  pub busy_stays : e ≡ 6 → (step p r).run ≡ r
  busy_stays six = by_way (λ u why is. is ∙ go u why)
    where
      go : (u : Run) → LineEnds p r e u → u ≡ r
      go u (busy _ _ _ same) = same
      go u (alone is _ _ _ _) = absurd (omega arith)
      go u (loose is _ _ _) = absurd (omega arith)
      go u (past is _ _) = absurd (omega arith)
      go u (done is _ _) = absurd (omega arith)
      go u (bad is _ _) = absurd (omega arith)
