-- A channel's bit in other words: a word is the sum of the closed channels' places.
-- Assumes nothing.
use mathlib.Core.Path.{◌≡◌, refl, sym, ap, ◌∙◌}
use Prim.Native.Nat.{ℕ, zero, suc, ◌+◌, ◌*◌, ◌/◌, ◌%◌, ◌^◌, ◌<◌}
use native.Mathlib.Nat.{mod-lt, mod-eq_of_lt}
use native.Mathlib.Numerals.{one-add}
use native.Mathlib.Omega.{arith}
use mathlib.Core.Bool.{Bool, true, false}
use lib.Dec.{eqb}
use lib.Pow.{mod-pow-add}
use borrow.Author.Tests.{eqb-true, eqb-false}
use Rattle.channels.specs.Totals.{is_closed, one_if, places_of}

bit_is : (i w : ℕ) → one_if (is_closed i w) ≡ w / 2 ^ i % 2
unfolding is_closed
bit_is i w = go (w / 2 ^ i % 2) (mod-lt (w / 2 ^ i) (omega arith)) (eqb (w / 2 ^ i % 2) 1) refl
  where
    go : (v : ℕ) → v < 2 → (x : Bool) → eqb v 1 ≡ x → one_if x ≡ v
    go v lt true e = sym (eqb-true v 1 e)
    go v lt false e = let ne = eqb-false v 1 e in omega arith

places_low : (n w : ℕ) → places_of n w ≡ w % 2 ^ n
places_low zero w = omega arith
places_low (suc n) w =
    ap (λ x. x * 2 ^ n + places_of n w) (bit_is n w) ∙ ap (λ x. w / 2 ^ n % 2 * 2 ^ n + x) (places_low n w) ∙ sym (mod-pow-add w 1 n)
    ∙ ap (λ m. w % 2 ^ m) (one-add n)

-- No two words of 32 bits have the same channels closed, and bit n - 1 of a word is worth two to the power of n - 1.
pub word_is : (w : ℕ) → w < 4294967296 → places_of 32 w ≡ w
word_is w lt = places_low 32 w ∙ mod-eq_of_lt lt
