-- A list that is tested element by element; and a channel's totals in reach.
-- Assumes nothing.
use mathlib.Core.Path.{◌≡◌, refl, sym, ap, ◌∙◌}
use Prim.Native.Nat.{ℕ, zero, suc, ◌+◌, ◌≤◌, ◌<◌}
use native.Mathlib.Omega.{arith}
use mathlib.Core.Bool.{Bool, true, false, ◌&&◌, true≢false}
use mathlib.Core.List.{List, [], ◌∷◌}
use lib.ListN.{length, get_or}
use borrow.Author.Tests.{leb-true}
use Rattle.formats.proofs.Checks.{both_true}
use Rattle.channels.specs.declared.Channel.{Channel}
use Rattle.channels.specs.Totals.{all_from}
use Rattle.channels.specs.Bringing.{is_total, are_totals}

-- ---- one channel's totals

module _ (c : Channel) where
  pub totals_are : are_totals c ≡ true → (c.closings ≤ 18446744073709551615) × (c.openings ≤ 18446744073709551615) × (c.ticks ≤ 18446744073709551615)
  unfolding are_totals
  totals_are e =
      let x = both_true (is_total c.closings) (is_total c.openings && is_total c.ticks) e in
      let y = both_true (is_total c.openings) (is_total c.ticks) x.1 in (
        leb-true c.closings 18446744073709551615 x.0,
        leb-true c.openings 18446744073709551615 y.0,
        leb-true c.ticks 18446744073709551615 y.1,
      )

-- ---- a list tested and replaced element by element

module _ {A : Type 0} (d : A) where
  pub all_at : (g : A → ℕ → Bool) (cs : List A) (j : ℕ) → ((i : ℕ) → i < length cs → g (get_or cs i d) (j + i) ≡ true) → all_from g cs j ≡ true
  all_at g [] j each = refl
  all_at g (c ∷ cs) j each =
      let first : g c j ≡ true = ap (g c) (sym (add_none j)) ∙ each 0 (omega arith) in
      rw first (all_at g cs (j + 1) (λ i lt. ap (g (get_or cs i d)) (one_on j i) ∙ each (suc i) (omega arith)))
    where
      add_none : (j : ℕ) → j + 0 ≡ j
      add_none j = omega arith

      one_on : (j i : ℕ) → j + 1 + i ≡ j + suc i
      one_on j i = omega arith

  pub not_at : (g : A → ℕ → Bool) (cs : List A) (j i : ℕ) → i < length cs → g (get_or cs i d) (j + i) ≡ false → all_from g cs j ≡ false
  not_at g [] j i lt e = absurd (omega arith)
  not_at g (c ∷ cs) j zero lt e = rw (ap (g c) (sym (add_none j)) ∙ e)
    where
      add_none : (j : ℕ) → j + 0 ≡ j
      add_none j = omega arith
  not_at g (c ∷ cs) j (suc i) lt e = both (g c j) (not_at g cs (j + 1) i (omega arith) (ap (g (get_or cs i d)) (one_on j i) ∙ e))
    where
      one_on : (j i : ℕ) → j + 1 + i ≡ j + suc i
      one_on j i = omega arith

      both : (x : Bool) {y : Bool} → y ≡ false → (x && y) ≡ false
      both true f = f
      both false f = refl

  pub first_not : (g : A → ℕ → Bool) (cs : List A) (j : ℕ) → all_from g cs j ≡ false → (i : ℕ) × ((i < length cs) × (g (get_or cs i d) (j + i) ≡ false))
  first_not g [] j e = absurd (true≢false e)
  first_not g (c ∷ cs) j e = go (g c j) refl (λ f. first_not g cs (j + 1) f)
    where
      add_none : (j : ℕ) → j + 0 ≡ j
      add_none j = omega arith

      one_on : (j i : ℕ) → j + 1 + i ≡ j + suc i
      one_on j i = omega arith

      go : (x : Bool) → g c j ≡ x → (all_from g cs (j + 1) ≡ false → (i : ℕ) × ((i < length cs) × (g (get_or cs i d) (j + 1 + i) ≡ false)))
          → (i : ℕ) × ((i < length (c ∷ cs)) × (g (get_or (c ∷ cs) i d) (j + i) ≡ false))
      go false f rest = (0, (omega arith, ap (g c) (add_none j) ∙ f))
      go true f rest =
          let x = rest (ap (λ y. y && all_from g cs (j + 1)) (sym f) ∙ e) in
          let lt = x.1.0 in (suc x.0, (omega arith, ap (g (get_or cs x.0 d)) (sym (one_on j x.0)) ∙ x.1.1))
