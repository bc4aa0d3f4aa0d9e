-- Law of capitals: a letter that the box keeps as its capital is the one that it counts as.
-- Assumes nothing.
use mathlib.Core.Path.{◌≡◌, refl, ap₂}
use Prim.Native.Nat.{ℕ, ◌≤◌, ◌<◌}
use native.Mathlib.Omega.{arith}
use mathlib.Core.Bool.{Bool, true, false}
use mathlib.Core.List.{List, [], ◌∷◌, map}
use lib.Dec.{eqb, ltb, leb}
use borrow.Author.Tests.{eqb-true, ne_eqb, ltb-true, ltb-false, lt-leb}
use Rattle.formats.specs.Checks.{all, text}
use Rattle.formats.proofs.Checks.{both_true, and_false, below}
use Rattle.wire.specs.Collecting.{capital}
use Rattle.demands.specs.Capitals.{under, small, capitals, counts_as, in_capitals}

-- a character behind all of a row does not stand in it
beyond : (n c : ℕ) → n ≤ c → (xs ys : List ℕ) → all (λ x. ltb x n) xs ≡ true → under xs ys c ≡ c
beyond n c le [] ys e = refl
beyond n c le (x ∷ xs) [] e = refl
beyond n c le (x ∷ xs) (y ∷ ys) e =
    let p = both_true (ltb x n) (all (λ x. ltb x n) xs) e in
    let lt : x < n = ltb-true x n p.0 in
    let ne : (c ≡ x → ⊥) = λ z. omega arith in
    rw (ne_eqb c x ne) (beyond n c le xs ys p.1)

pub counts_as_lem : (c : ℕ) → capital c ≡ counts_as c
unfolding counts_as text
counts_as_lem c = go (ltb c 123) refl
  where
    go : (b : Bool) → ltb c 123 ≡ b → capital c ≡ counts_as c
    go true e = eqb-true (capital c) (counts_as c) (below (λ j. eqb (capital j) (counts_as j)) 123 refl c (ltb-true c 123 e))
    go false e =
        let le : 123 ≤ c = ltb-false c 123 e in
        rw (lt-leb c 122 (omega arith), and_false (leb 97 c), beyond 123 c le small capitals refl)

pub capitals_same : (cs : List ℕ) → map capital cs ≡ in_capitals cs
capitals_same [] = refl
capitals_same (c ∷ cs) = ap₂ (λ x xs. x ∷ xs) (counts_as_lem c) (capitals_same cs)
