-- Laws of the ticks that lines take: a run of lines is its first line, or loop, and the run after it.
-- Assumes nothing.
use Prim.Native.Nat.{ℕ, zero, suc, ◌+◌, ◌*◌, ◌≤◌, ◌<◌}
use native.Mathlib.Omega.{arith}
use mathlib.Core.Path.{◌≡◌, refl, sym, ap, ap₂, ◌∙◌}
use mathlib.Core.Bool.{Bool, true, false}
use mathlib.Core.List.{List}
use lib.Dec.{ltb}
use borrow.Author.Tests.{ltb-true, ltb-false, lt-ltb, le-ltb}
use Rattle.lines.specs.declared.Line.{Line}
use Rattle.lines.specs.declared.Line.TheVariants.{State, For, Next, Bad}
use Rattle.lines.specs.Program.{line_at}
use Rattle.lines.specs.Loops.{next_for, next_of}
use Rattle.duration.specs.Ticks.{line_ticks, line_after, past, summed, run_ticks}
use Rattle.lines.proofs.Pairs.{next_after_lem, of_within}

module _ (p : List ℕ) where
  -- a run of lines goes on to a later line
  past_later : (k : ℕ) → k < 200 → k < past p k
  unfolding past next_of
  past_later k lt = go (line_at p k)
    where
      go : (l : Line) → k < line_after l k (next_for p k l)
      go (State o t) = omega arith
      go (For c x) = let later = next_after_lem p k lt c in omega arith
      go (Next c) = omega arith
      go Bad = omega arith

  abbrev step : ℕ → ℕ → ℕ → ℕ
  step s i j = line_ticks (line_at p i) (summed s p (i + 1) (next_of p i)) + summed s p (past p i) j

  turn : (s i j : ℕ) {t : Bool} → ltb i j ≡ t → summed (suc s) p i j ≡ elim t [ true ↦ step s i j | false ↦ 0 ]
  unfolding summed
  turn s i j e = ap (λ (t : Bool). elim t [ true ↦ step s i j | false ↦ 0 ]) e

  none : (s i j : ℕ) → j ≤ i → summed s p i j ≡ 0
  unfolding summed
  none zero i j le = refl
  none (suc s) i j le = turn s i j (le-ltb i j le)

  one_more : (s i j : ℕ) → i < j → summed (suc s) p i j ≡ step s i j
  one_more s i j lt = turn s i j (lt-ltb i j lt)

  -- as many steps as there are lines left are enough
  pub run_enough : (s t i j : ℕ) → 200 ≤ i + s → 200 ≤ i + t → j ≤ 200 → summed s p i j ≡ summed t p i j
  run_enough zero t i j a b le = none zero i j (omega arith) ∙ sym (none t i j (omega arith))
  run_enough (suc s) zero i j a b le = none (suc s) i j (omega arith) ∙ sym (none zero i j (omega arith))
  run_enough (suc s) (suc t) i j a b le =
      go (ltb i j) refl (λ k x. run_enough s t k x)
    where
      go : (u : Bool) → ltb i j ≡ u → ((k x : ℕ) → 200 ≤ k + s → 200 ≤ k + t → x ≤ 200 → summed s p k x ≡ summed t p k x)
          → summed (suc s) p i j ≡ summed (suc t) p i j
      go true e enough =
          let lt = ltb-true i j e in
          let later = past_later i (omega arith) in
          let body = enough (i + 1) (next_of p i) (omega arith) (omega arith) (of_within p i (omega arith)) in
          let rest = enough (past p i) j (omega arith) (omega arith) le in
          one_more s i j lt ∙ ap₂ (λ x y. line_ticks (line_at p i) x + y) body rest ∙ sym (one_more t i j lt)
      go false e enough = none (suc s) i j (ltb-false i j e) ∙ sym (none (suc t) i j (ltb-false i j e))

  module _ (i j : ℕ) where
    pub run_none : j ≤ i → run_ticks p i j ≡ 0
    unfolding run_ticks
    run_none = none 200 i j

    module _ (lt : i < j) (le : j ≤ 200) where
      run_step : run_ticks p i j ≡ line_ticks (line_at p i) (run_ticks p (i + 1) (next_of p i)) + run_ticks p (past p i) j
      unfolding run_ticks
      run_step =
          run_enough 200 201 i j (omega arith) (omega arith) le ∙ one_more 200 i j lt

      -- "A run of lines is summed";
      pub run_state : {o t : ℕ} → line_at p i ≡ State o t → run_ticks p i j ≡ t + run_ticks p (i + 1) j
      unfolding past
      run_state e = rw e at run_step

      -- "a loop is its count times the run of lines inside it";
      pub run_loop : {c x : ℕ} → line_at p i ≡ For c x → run_ticks p i j ≡ x * run_ticks p (i + 1) (next_of p i) + run_ticks p (next_of p i + 1) j
      unfolding past
      run_loop e = rw e at run_step

      -- and the other lines take nothing.
      pub run_next : {c : ℕ} → line_at p i ≡ Next c → run_ticks p i j ≡ run_ticks p (i + 1) j
      unfolding past
      run_next e = let s : run_ticks p i j ≡ 0 + run_ticks p (i + 1) j = rw e at run_step in omega (arith, s)

      pub run_bad : line_at p i ≡ Bad → run_ticks p i j ≡ run_ticks p (i + 1) j
      unfolding past
      run_bad e = let s : run_ticks p i j ≡ 0 + run_ticks p (i + 1) j = rw e at run_step in omega (arith, s)
