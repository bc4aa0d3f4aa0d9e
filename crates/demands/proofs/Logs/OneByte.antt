-- Words that differ in one of their four bytes: a write to 203-206 leads from one to the other.
-- Assumes nothing.
use mathlib.Core.Path.{◌≡◌, refl, sym, ap, ap₂, ◌∙◌}
use Prim.Native.Nat.{ℕ, suc, ◌+◌, ◌-◌, ◌≤◌, ◌<◌}
use native.Mathlib.Omega.{arith}
use mathlib.Core.Bool.{Bool, true, false}
use mathlib.Core.List.{List, [], ◌∷◌}
use lib.ListN.{length, get_or, set}
use lib.Dec.{eqb}
use borrow.Author.Tests.{eqb-true, ltb-true}
use Rattle.formats.specs.Digits.{number}
use Rattle.formats.specs.Bytes.{bytes}
use Rattle.formats.proofs.Digits.{is_below, all_get_d, length_digits, digits_below, number_digits}
use Rattle.variables.specs.Variables.{with_output_byte}
use Rattle.reader.proofs.OneByte.{differing_none}
use Rattle.reader.specs.Possible.{differing, in_one_byte, most_number}

-- the one place in which they differ
record Place (xs ys : List ℕ) : Type 0 where
  place : ℕ
  inside : place < length ys
  is : set xs place (get_or ys place 0) ≡ ys

one_place : (xs ys : List ℕ) → length xs ≡ length ys → differing xs ys ≡ 1 → Place xs ys
one_place [] ys l e = absurd (omega arith)
one_place (x ∷ xs) [] l e = absurd (omega arith)
one_place (x ∷ xs) (y ∷ ys) l e = go (eqb x y) refl (one_place xs ys (omega arith))
  where
    further : Place xs ys → x ≡ y → Place (x ∷ xs) (y ∷ ys)
    further p s = let lt = p.inside in record { place = suc p.place; inside = omega arith; is = ap₂ (λ z zs. z ∷ zs) s p.is }

    go : (b : Bool) → eqb x y ≡ b → (differing xs ys ≡ 1 → Place xs ys) → Place (x ∷ xs) (y ∷ ys)
    go true s rest = let f : 0 + differing xs ys ≡ 1 = rw s at e in further (rest (omega arith)) (eqb-true x y s)
    go false s rest =
        let f : 1 + differing xs ys ≡ 1 = rw s at e in
        record { place = 0; inside = omega arith; is = ap (λ zs. y ∷ zs) (differing_none xs ys (omega arith) (omega arith)) }

-- a write of the byte x to k makes v of w
pub record ByteWrite (w v : ℕ) : Type 0 where
  pub k : ℕ
  pub x : ℕ
  pub low : 203 ≤ k
  pub high : k ≤ 206
  pub fits : x < 256
  pub is : with_output_byte k x w ≡ v

-- Where they differ in one byte, such a write does it.
pub byte_write : (w v : ℕ) → v ≤ most_number → in_one_byte w v ≡ true → ByteWrite w v
unfolding in_one_byte with_output_byte
byte_write w v le e =
    let l = length_digits 256 4 v in
    let p = one_place (bytes 4 w) (bytes 4 v) (length_digits 256 4 w ∙ sym l) (eqb-true (differing (bytes 4 w) (bytes 4 v)) 1 e) in
    let i = p.place in
    let lt : i < 4 = omega (arith, p.inside) in
    let at : 203 + i - 203 ≡ i = omega arith in
    record {
      k = 203 + i;
      x = get_or (bytes 4 v) i 0;
      low = omega arith;
      high = omega arith;
      fits = ltb-true _ 256 (all_get_d (is_below 256) i (bytes 4 v) p.inside (digits_below 256 (omega arith) 4 v));
      is = ap (λ j. number 256 (set (bytes 4 w) j (get_or (bytes 4 v) i 0))) at ∙ ap (number 256) p.is ∙ number_digits 256 (omega arith) 4 v (omega arith);
    }
