-- Laws of sentences in an order: how a walk through them goes on, and that only one is the first.
-- Assumes nothing.
use mathlib.Core.Path.{◌≡◌, refl, subst}
use mathlib.Core.Bool.{Bool, true, false}
use Prim.Native.Nat.{ℕ, suc, ◌<◌}
use native.Mathlib.Omega.{arith}
use lib.Dec.{eqb, ltb}
use borrow.Author.Tests.{eqb-true, eqb-false, ltb-true, ltb-false}
use Rattle.formats.specs.Order.{NoneBefore, First}

-- a place, or an earlier one
pub last_or_before : {X : Type 0} (k n : ℕ) → k < suc n → (k ≡ n → X) → (k < n → X) → X
last_or_before {X} k n lt f g = go (eqb k n) refl
  where
    go : (t : Bool) → eqb k n ≡ t → X
    go true e = f (eqb-true k n e)
    go false e = let ne = eqb-false k n e in g (omega arith)

module _ {A : Type 0} (place : A → ℕ) (Says : A → Type 0) where
  -- before the first place there is none
  pub none_yet : NoneBefore place Says 0
  none_yet b lt s = omega arith

  -- the sentence at the next place does not hold either; one place has one sentence
  pub none_more : ((a b : A) → place a ≡ place b → a ≡ b) → (a : A) → NoneBefore place Says (place a) → (Says a → ⊥) → NoneBefore place Says (suc (place a))
  none_more one a none not_a b lt s =
      last_or_before (place b) (place a) lt (λ same. not_a (subst Says (one b a same) s)) (λ before. none b before s)

  -- Two that are the first have one place.
  pub one_first : (a b : A) → First place Says a → First place Says b → place a ≡ place b
  one_first a b f g = go (ltb (place a) (place b)) refl (ltb (place b) (place a)) refl
    where
      go : (t : Bool) → ltb (place a) (place b) ≡ t → (u : Bool) → ltb (place b) (place a) ≡ u → place a ≡ place b
      go true e u h = absurd (g.none_before a (ltb-true _ _ e) f.says)
      go false e true h = absurd (f.none_before b (ltb-true _ _ h) g.says)
      go false e false h = omega (arith, ltb-false (place a) (place b) e, ltb-false (place b) (place a) h)
