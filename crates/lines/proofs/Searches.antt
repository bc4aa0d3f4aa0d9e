-- Laws of tests over the lines of a program.
-- Assumes nothing.
use Prim.Native.Nat.{ℕ, zero, suc, ◌+◌, ◌-◌, ◌≤◌, ◌<◌}
use native.Mathlib.Omega.{arith}
use mathlib.Core.Path.{◌≡◌, refl, sym, ap, ◌∙◌}
use mathlib.Core.Logic.{◌≢◌}
use mathlib.Core.Bool.{Bool, true, false, false≢true, true≢false}
use lib.Dec.{eqb}
use borrow.Author.Tests.{eqb-true, eqb-false}
use Rattle.formats.proofs.Checks.{either_true, or_true, by_both, not_so}
use Rattle.formats.proofs.Order.{last_or_before}
use Rattle.lines.specs.Searches.{some_before, first_of}

-- ---- some line

pub some_line : {X : Type 0} (f : ℕ → Bool) (n : ℕ) → some_before f n ≡ true → ((k : ℕ) → k < n → f k ≡ true → X) → X
unfolding some_before
some_line f zero e h = absurd (false≢true e)
some_line f (suc n) e h =
    either_true (some_before f n) (f n) e (λ t. some_line f n t (λ k lt u. h k (omega arith) u)) (λ t. h n (omega arith) t)

pub line_some : (f : ℕ → Bool) (n k : ℕ) → k < n → f k ≡ true → some_before f n ≡ true
unfolding some_before
line_some f zero k lt e = absurd (omega arith)
line_some f (suc n) k lt e =
    last_or_before k n lt (λ is. let here : f n ≡ true = ap f (sym is) ∙ e in rw here (or_true (some_before f n)))
    (λ before. let there = line_some f n k before e in rw there)

pub no_line : (f : ℕ → Bool) (n : ℕ) → some_before f n ≡ false → (k : ℕ) → k < n → f k ≡ false
no_line f n e k lt = not_so (f k) (λ t. true≢false (sym (line_some f n k lt t) ∙ e))

-- two tests that say the same of each line
pub some_same : (f g : ℕ → Bool) (n : ℕ) → ((k : ℕ) → k < n → f k ≡ g k) → some_before f n ≡ some_before g n
some_same f g n same =
    by_both _ _ (λ e. some_line f n e (λ k lt t. line_some g n k lt (sym (same k lt) ∙ t)))
    (λ e. some_line g n e (λ k lt t. line_some f n k lt (same k lt ∙ t)))

-- ---- the first line

-- line m is the first from k on, and before n, that passes the test; or it is n, and none does
pub record First (f : ℕ → Bool) (k n m : ℕ) : Type 0 where
  pub not_before : k ≤ m
  pub within : m ≤ n
  pub passes : m < n → f m ≡ true
  pub none_before : (i : ℕ) → k ≤ i → i < m → f i ≡ false

first_here : (f : ℕ → Bool) (n k : ℕ) → f k ≡ true → first_of f (suc n) k ≡ k
unfolding first_of
first_here f n k e = ap (λ (t : Bool). elim t [ true ↦ k | false ↦ first_of f n (k + 1) ]) e

first_on : (f : ℕ → Bool) (n k : ℕ) → f k ≡ false → first_of f (suc n) k ≡ first_of f n (k + 1)
unfolding first_of
first_on f n k e = ap (λ (t : Bool). elim t [ true ↦ k | false ↦ first_of f n (k + 1) ]) e

first_none : (f : ℕ → Bool) (k : ℕ) → first_of f 0 k ≡ k
unfolding first_of
first_none f k = refl

first_at : (f : ℕ → Bool) (n k : ℕ) → f k ≡ true → First f k (k + suc n) (first_of f (suc n) k)
first_at f n k e =
    rw (first_here f n k e) (record { not_before = omega arith; within = omega arith; passes = λ _. e; none_before = λ i le lt. absurd (omega arith) })

first_past : (f : ℕ → Bool) (n k m : ℕ) → f k ≡ false → First f (k + 1) (k + 1 + n) m → First f k (k + suc n) m
first_past f n k m e q =
    record {
      not_before = omega (arith, q.not_before);
      within = omega (arith, q.within);
      passes = λ lt. q.passes (omega (arith, lt));
      none_before = λ i le lt. here i le lt (eqb k i) refl;
    }
  where
    here : (i : ℕ) → k ≤ i → i < m → (t : Bool) → eqb k i ≡ t → f i ≡ false
    here i le lt true is = let same : k ≡ i = eqb-true k i is in ap f (sym same) ∙ e
    here i le lt false is = let ne : k ≢ i = eqb-false k i is in q.none_before i (omega arith) lt

pub first_is_lem : (f : ℕ → Bool) (n k : ℕ) → First f k (k + n) (first_of f n k)
first_is_lem f zero k =
    rw (first_none f k) (record {
      not_before = omega arith;
      within = omega arith;
      passes = λ lt. absurd (omega arith);
      none_before = λ i le lt. absurd (omega arith);
    })
first_is_lem f (suc n) k = go (f k) refl (first_is_lem f n (k + 1))
  where
    go : (t : Bool) → f k ≡ t → First f (k + 1) (k + 1 + n) (first_of f n (k + 1)) → First f k (k + suc n) (first_of f (suc n) k)
    go true e q = first_at f n k e
    go false e q = rw (first_on f n k e) (first_past f n k (first_of f n (k + 1)) e q)

-- the search for the first of 200 lines, from line i on
module _ (f : ℕ → Bool) (i : ℕ) where
  pub found_here : i < 200 → f i ≡ true → first_of f (200 - i) i ≡ i
  found_here lt e = let z : 200 - i ≡ suc (200 - (i + 1)) = omega arith in ap (λ n. first_of f n i) z ∙ first_here f (200 - (i + 1)) i e

  pub found_on : i < 200 → f i ≡ false → first_of f (200 - i) i ≡ first_of f (200 - (i + 1)) (i + 1)
  found_on lt e = let z : 200 - i ≡ suc (200 - (i + 1)) = omega arith in ap (λ n. first_of f n i) z ∙ first_on f (200 - (i + 1)) i e

  pub found_none : i ≡ 200 → first_of f (200 - i) i ≡ 200
  found_none is = let z : 200 - i ≡ 0 = omega arith in ap (λ n. first_of f n i) z ∙ first_none f i ∙ is
