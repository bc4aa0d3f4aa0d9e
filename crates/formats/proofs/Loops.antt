-- Laws for the loop that reads a number.
-- Assumes nothing.
use mathlib.Core.Path.{◌≡◌, refl, sym, ap, ap₂, ◌∙◌}
use Prim.Native.Nat.{ℕ, zero, suc, ◌+◌, ◌*◌, ◌^◌, ◌≤◌, ◌<◌}
use native.Mathlib.Omega.{arith}
use native.Mathlib.Numerals.{add-one}
use native.Mathlib.Nat.{not-suc-le-zero, le_trans, pow-le-pow_left, pow-le-pow_right}
use mathlib.Core.Bool.{Bool, true, false, ◌&&◌}
use mathlib.Core.List.{List, [], ◌∷◌, ◌++◌, map}
use lib.ListN.{length, take, get_or, length-map}
use lib.Seq.{take-suc, take_all, length-take-le}
use borrow.Author.Tests.{lt-ltb, le-ltb}
use Rattle.formats.specs.Checks.{◌>>◌, ◌or_else◌, all}
use Rattle.formats.specs.Digits.{number_after, number, digit_value, is_digit, number_in}
use Rattle.std.specs.Prelude.{Some, None}
use Rattle.formats.specs.Numbers.{res_or}
use Rattle.formats.proofs.Checks.{all_snoc}
use Rattle.formats.proofs.Digits.{number_snoc, number_below}
use Rattle.formats.proofs.Characters.{all_values}

pub map_snoc : {A B : Type 0} (f : A → B) (xs : List A) (x : A) → map f (xs ++ (x ∷ [])) ≡ map f xs ++ (f x ∷ [])
map_snoc f [] x = refl
map_snoc f (y ∷ xs) x = ap (λ l. f y ∷ l) (map_snoc f xs x)

not_all : (f : ℕ → Bool) (xs : List ℕ) (i : ℕ) → i < length xs → f (get_or xs i 0) ≡ false → all f xs ≡ false
not_all f [] i lt e = absurd (not-suc-le-zero lt)
not_all f (x ∷ xs) zero lt e = rw e
not_all f (x ∷ xs) (suc i) lt e = rw (not_all f xs i (omega arith) e) (and_false (f x))
  where
    and_false : (b : Bool) → (b && false) ≡ false
    and_false true = refl
    and_false false = refl

-- ---- reading a number: what holds after i characters

pub record Read (base : ℕ) (cs : List ℕ) (i v : ℕ) : Type 0 where
  pub digits : all (is_digit base) (take i cs) ≡ true
  pub value : v ≡ number base (map digit_value (take i cs))

pub read_none : (base : ℕ) (cs : List ℕ) → Read base cs 0 0
unfolding number_after
read_none base cs = record { digits = refl; value = refl }

-- the next character has the value d
module _ (base : ℕ) (cs : List ℕ) (i v d : ℕ) (lt : i < length cs) (r : Read base cs i v) (is : d ≡ digit_value (get_or cs i 0)) where
  -- it is no digit
  pub read_bad : base ≤ d → (e : ℕ) → res_or e None ≡ number_in base e cs
  unfolding number_in ◌>>◌ ◌or_else◌
  read_bad le e = rw (not_all (is_digit base) cs i lt (le-ltb (digit_value (get_or cs i 0)) base (rw is at le)))

  -- it is one digit more
  pub read_more : d < base → Read base cs (i + 1) (v * base + d)
  unfolding number_after
  read_more below =
      let e : take (i + 1) cs ≡ take i cs ++ (get_or cs i 0 ∷ []) = ap (λ n. take n cs) (add-one i) ∙ take-suc cs i 0 lt in
      record {
        digits = ap (all (is_digit base)) e
            ∙ all_snoc (is_digit base) (take i cs) (get_or cs i 0) r.digits (lt-ltb (digit_value (get_or cs i 0)) base (rw is at below));
        value =
            ap₂ (λ w x. w * base + x) r.value is
            ∙ sym (ap (λ l. number base (map digit_value l)) e ∙ ap (number base) (map_snoc digit_value (take i cs) (get_or cs i 0))
            ∙ number_snoc base 0 (map digit_value (take i cs)) (digit_value (get_or cs i 0)));
      }

-- at most eight digits to a base of at most 16 fit 32 bits
pub read_fits_u32 : (base : ℕ) (cs : List ℕ) (i v : ℕ) → base ≤ 16 → 2 ≤ base → i ≤ 8 → i ≤ length cs → Read base cs i v → v < 4294967296
read_fits_u32 base cs i v le two eight inside r =
    let below : number base (map digit_value (take i cs)) < base ^ length (map digit_value (take i cs)) =
    number_below base (map digit_value (take i cs)) (all_values base (take i cs) ∙ r.digits) in
    let len : length (map digit_value (take i cs)) ≡ i = length-map (take i cs) digit_value ∙ length-take-le i cs inside in
    let wide : base ^ i ≤ 16 ^ 8 = le_trans (pow-le-pow_left le i) (pow-le-pow_right (omega arith) eight) in
    let fits : number base (map digit_value (take i cs)) < base ^ i = rw len at below in
    omega (arith, r.value)

pub read_all : (base : ℕ) (cs : List ℕ) (i v : ℕ) → length cs ≤ i → Read base cs i v → (e : ℕ) → res_or e (Some v) ≡ number_in base e cs
unfolding number_in ◌>>◌ ◌or_else◌
read_all base cs i v le r e =
    let whole : take i cs ≡ cs = take_all i cs le in
    let d : all (is_digit base) cs ≡ true = rw whole at r.digits in
    let w : v ≡ number base (map digit_value cs) = rw whole at r.value in
    rw (d, w)

-- one digit more still fits
pub more_fits_u32 : (base : ℕ) (cs : List ℕ) (i v d : ℕ) → base ≤ 16 → 2 ≤ base → length cs ≤ 8 → i < length cs → Read base cs i v
    → d ≡ digit_value (get_or cs i 0)
    → d < base → v * base + d < 4294967296
more_fits_u32 base cs i v d le two eight lt r is below =
    read_fits_u32 base cs (i + 1) (v * base + d) le two (omega arith) (omega arith) (read_more base cs i v d lt r is below)
