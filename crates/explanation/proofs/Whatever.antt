-- What the outputs stand at before a start makes no difference to the outcome.
-- Assumes nothing.
use Prim.Native.Nat.{ℕ, zero, suc, ◌+◌}
use native.Mathlib.Omega.{arith}
use mathlib.Core.Path.{◌≡◌, refl, ap, ◌∙◌}
use mathlib.Core.Bool.{Bool, true, false, not}
use mathlib.Core.List.{List}
use borrow.Author.Tests.{ne_eqb}
use Rattle.lines.specs.declared.Line.{Line}
use Rattle.lines.specs.declared.Line.TheVariants.{State, For, Next, Bad}
use Rattle.lines.specs.Program.{line_at}
use Rattle.lines.specs.Searches.{first_of}
use Rattle.running.specs.declared.Run.{Run}
use Rattle.running.specs.Running.{with_outputs, most}
use Rattle.running.specs.Moments.{last_due}
use Rattle.running.proofs.Aside.{SameButOutputs, same, outputs_aside, SameRun, same_run, onward_aside, last_aside}
use Rattle.explanation.specs.Report.{did, stop_tick, held_at, first_due, holder_in, cause_of, stop_of, stop_at, outcome}

-- two tests that say the same of each number find the same first one
first_same : (f g : ℕ → Bool) → ((i : ℕ) → f i ≡ g i) → (n k : ℕ) → first_of f n k ≡ first_of g n k
unfolding first_of
first_same f g alike zero k = refl
first_same f g alike (suc n) k =
    ap (λ (t : Bool). elim t [ true ↦ k | false ↦ first_of f n (k + 1) ]) (alike k)
    ∙ ap (λ m. elim (g k) [ true ↦ k | false ↦ m ]) (first_same f g alike n (k + 1))

module _ (p : List ℕ) where
  -- ---- the cause, where the run before the tick has other outputs

  due_aside : (n v : ℕ) (h : Run) → first_due n (with_outputs v h) ≡ with_outputs v (first_due n h)
  unfolding first_due
  due_aside zero v h = refl
  due_aside (suc n) v h = rw (ne_eqb (suc n) 0 (λ z. omega arith)) (onward_aside p v h)

  holder_aside : (q : ℕ) (last : Run) (l : Line) → holder_in (with_outputs q last) l ≡ holder_in last l
  holder_aside q last (State o t) = refl
  holder_aside q last (For c x) = refl
  holder_aside q last (Next c) = refl
  holder_aside q last Bad = refl

  -- at the last moment of the call
  last_holder : (n v : ℕ) (h : Run) (l : Line) → holder_in (last_due p most (first_due n (with_outputs v h))) l ≡ holder_in (last_due p most (first_due n h)) l
  last_holder n v h l = ap (λ (r : Run). holder_in (last_due p most r) l) (due_aside n v h) ∙ go (last_aside p most v (first_due n h))
    where
      go : SameRun p (last_due p most (with_outputs v (first_due n h))) (last_due p most (first_due n h))
          → holder_in (last_due p most (with_outputs v (first_due n h))) l ≡ holder_in (last_due p most (first_due n h)) l
      go (same_run q is) = ap (λ (r : Run). holder_in r l) is ∙ holder_aside q (last_due p most (first_due n h)) l

  cause_aside : (e n line v : ℕ) (h : Run) → cause_of p e n line (with_outputs v h) ≡ cause_of p e n line h
  unfolding cause_of
  cause_aside e n line v h = rw (last_holder n v h (line_at p line))

  -- ---- from a start on

  module _ (k o q : ℕ) where
    did_on : (n : ℕ) → (did p k o n).run.on ≡ (did p k q n).run.on
    did_on n = go (outputs_aside p k o q n)
      where
        go : SameButOutputs (did p k o n) (did p k q n) → (did p k o n).run.on ≡ (did p k q n).run.on
        go (same v _ _ is) = ap (λ (r : Run). r.on) is

    tick_same : (limit : ℕ) → stop_tick p k o limit ≡ stop_tick p k q limit
    unfolding stop_tick
    tick_same limit = first_same _ _ (λ n. ap not (did_on n)) (limit + 1) 0

    -- the run before tick n
    held_same : (n : ℕ) → SameRun p (held_at p k o n) (held_at p k q n)
    held_same zero = same_run o refl
    held_same (suc n) = go (outputs_aside p k o q n)
      where
        go : SameButOutputs (did p k o n) (did p k q n) → SameRun p (did p k o n).run (did p k q n).run
        go (same v _ _ is) = same_run v is

    stop_same : (n : ℕ) → stop_at p k o n ≡ stop_at p k q n
    unfolding stop_of
    stop_same n = go (outputs_aside p k o q n) (held_same n)
      where
        go : SameButOutputs (did p k o n) (did p k q n) → SameRun p (held_at p k o n) (held_at p k q n) → stop_at p k o n ≡ stop_at p k q n
        go (same v event _ is) (same_run w held) =
            let line = ap (λ (r : Run). r.line) is in rw (event, line, held, cause_aside (did p k q n).event n (did p k q n).run.line w (held_at p k q n))

    -- The outcome is the same, whatever the outputs at the start.
    pub same_outcome : (limit : ℕ) → outcome p k o limit ≡ outcome p k q limit
    unfolding outcome
    same_outcome limit = rw (tick_same limit, stop_same (stop_tick p k q limit))
