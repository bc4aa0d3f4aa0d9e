-- Laws of numbers that are summed up to one more than the most that is told.
-- Assumes nothing.
use Prim.Native.Nat.{ℕ, zero, suc, ◌+◌, ◌*◌, ◌≤◌, min}
use native.Mathlib.Omega.{arith}
use native.Mathlib.Nat.{zero-mul, suc-mul}
use mathlib.Core.Path.{◌≡◌, refl, sym, ap, ◌∙◌}
use mathlib.Core.Bool.{Bool, true, false}
use lib.Dec.{leb, eqb}
use borrow.Author.Tests.{leb-true, leb-false, eqb-true, eq-eqb}
use Rattle.duration.specs.Report.{capped_at}
use Rattle.formats.proofs.Checks.{by_both}

module _ (most : ℕ) where
  pub capped_le : (n : ℕ) → capped_at most n ≤ most + 1
  unfolding capped_at
  capped_le n = omega arith

  pub capped_small : (n : ℕ) → n ≤ most + 1 → capped_at most n ≡ n
  unfolding capped_at
  capped_small n le = omega arith

  pub capped_large : (n : ℕ) → most + 1 ≤ n → capped_at most n ≡ most + 1
  unfolding capped_at
  capped_large n le = omega arith

  -- over a sum
  pub capped_left : (a b : ℕ) → capped_at most (capped_at most a + b) ≡ capped_at most (a + b)
  unfolding capped_at
  capped_left a b = omega arith

  pub capped_right : (a b : ℕ) → capped_at most (a + capped_at most b) ≡ capped_at most (a + b)
  unfolding capped_at
  capped_right a b = omega arith

  -- over a product
  pub capped_times : (x n : ℕ) → capped_at most (x * capped_at most n) ≡ capped_at most (x * n)
  capped_times zero n = ap (capped_at most) (zero-mul (capped_at most n) ∙ sym (zero-mul n))
  capped_times (suc x) n = go (leb n (most + 1)) refl
    where
      go : (t : Bool) → leb n (most + 1) ≡ t → capped_at most (suc x * capped_at most n) ≡ capped_at most (suc x * n)
      go true e = ap (λ m. capped_at most (suc x * m)) (capped_small n (leb-true n (most + 1) e))
      go false e =
          let large = leb-false n (most + 1) e in
          let is = capped_large n (omega arith) in
          let a : most + 1 ≤ suc x * (most + 1) = simp suc-mul (omega arith) in
          let b : most + 1 ≤ suc x * n = simp suc-mul (omega arith) in
          ap (λ m. capped_at most (suc x * m)) is ∙ capped_large (suc x * (most + 1)) a ∙ sym (capped_large (suc x * n) b)

  -- it is 0 where the number is
  pub capped_zero : (n : ℕ) → eqb (capped_at most n) 0 ≡ eqb n 0
  unfolding capped_at
  capped_zero n = by_both _ _ (λ e. eq-eqb n 0 (only (eqb-true (capped_at most n) 0 e))) (λ e. eq-eqb (capped_at most n) 0 (so (eqb-true n 0 e)))
    where
      only : min n (most + 1) ≡ 0 → n ≡ 0
      only z = omega arith

      so : n ≡ 0 → min n (most + 1) ≡ 0
      so z = omega arith
