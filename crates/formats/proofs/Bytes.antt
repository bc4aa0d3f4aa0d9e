-- A number in bytes and back, and the numbers that bytes of a list are.
-- Assumes nothing.
use mathlib.Core.Path.{◌≡◌, refl, ap₂}
use Prim.Native.Nat.{ℕ, suc, ◌+◌, ◌*◌, ◌/◌, ◌%◌, ◌^◌, ◌≤◌, ◌<◌}
use mathlib.Core.Bool.{true}
use mathlib.Core.List.{List, [], ◌∷◌}
use lib.ListN.{length, drop, get_or, length-take}
use lib.Seq.{drop-cons}
use native.Mathlib.Omega.{arith}
use native.Mathlib.Nat.{lt_of_lt_of_le, pow-le-pow_right}
use Rattle.formats.specs.Checks.{all}
use Rattle.formats.specs.Digits.{digits, number_after, number}
use Rattle.formats.specs.Bytes.{part, field, bytes}
use Rattle.formats.proofs.Checks.{all_take, all_drop}
use Rattle.formats.proofs.Parts.{length_part}
use Rattle.formats.proofs.Digits.{is_below, number_below, number_digits, digits_number}

-- a number that fits n bytes is what they stand for
pub number_bytes : (n v : ℕ) → v < 256 ^ n → number 256 (bytes n v) ≡ v
number_bytes n v lt = number_digits 256 (omega arith) n v lt

-- the two and the four bytes of a number, "high byte first", and the number that they are
pub two_are : (v : ℕ) → bytes 2 v ≡ v / 256 % 256 ∷ v % 256 ∷ []
unfolding digits
two_are v = refl

pub number_two : (a b : ℕ) → number 256 (a ∷ b ∷ []) ≡ a * 256 + b
unfolding number_after
number_two a b = omega arith

pub number_four : (a b c d : ℕ) → number 256 (a ∷ b ∷ c ∷ d ∷ []) ≡ a * 16777216 + b * 65536 + c * 256 + d
unfolding number_after
number_four a b c d = omega arith

pub four_are : (v : ℕ) → bytes 4 v ≡ v / 16777216 % 256 ∷ v / 65536 % 256 ∷ v / 256 % 256 ∷ v % 256 ∷ []
unfolding digits
four_are v =
    let a : v / 256 / 256 / 256 % 256 ≡ v / 16777216 % 256 = omega arith in
    let b : v / 256 / 256 % 256 ≡ v / 65536 % 256 = omega arith in
    ap₂ (λ x y. x ∷ y ∷ v / 256 % 256 ∷ v % 256 ∷ []) a b

-- bytes in a row are a number that fits them
pub field_below : (i n : ℕ) (bs : List ℕ) → all (is_below 256) bs ≡ true → field i n bs < 256 ^ n
field_below i n bs are =
    let short : length (part i n bs) ≤ n = omega (arith, length-take n (drop i bs)) in
    lt_of_lt_of_le (number_below 256 (part i n bs) (all_take (is_below 256) n (drop i bs) (all_drop (is_below 256) i bs are)))
    (pow-le-pow_right (omega arith) short)

-- and that number in bytes is those bytes
pub field_back : (i n : ℕ) (bs : List ℕ) → all (is_below 256) bs ≡ true → i + n ≤ length bs → bytes n (field i n bs) ≡ part i n bs
field_back i n bs are inside =
    digits_number 256 (omega arith) n (part i n bs) (length_part i n bs inside)
    (all_take (is_below 256) n (drop i bs) (all_drop (is_below 256) i bs are))

module _ (bs : List ℕ) (i : ℕ) where
  pub two_at : suc (suc i) ≤ length bs → field i 2 bs ≡ number 256 (get_or bs i 0 ∷ get_or bs (suc i) 0 ∷ [])
  two_at le = rw (drop-cons bs i 0 (omega arith), drop-cons bs (suc i) 0 (omega arith))

  pub four_at : suc (suc (suc (suc i))) ≤ length bs
      → field i 4 bs ≡ number 256 (get_or bs i 0 ∷ get_or bs (suc i) 0 ∷ get_or bs (suc (suc i)) 0 ∷ get_or bs (suc (suc (suc i))) 0 ∷ [])
  four_at le =
      rw (
        drop-cons bs i 0 (omega arith),
        drop-cons bs (suc i) 0 (omega arith),
        drop-cons bs (suc (suc i)) 0 (omega arith),
        drop-cons bs (suc (suc (suc i))) 0 (omega arith),
      )
