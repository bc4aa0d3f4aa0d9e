-- Digits and the number that they stand for, to any base.
-- Assumes nothing.
use mathlib.Core.Path.{◌≡◌, refl, sym, ap, ◌∙◌}
use Prim.Native.Nat.{ℕ, zero, suc, ◌+◌, ◌*◌, ◌/◌, ◌%◌, ◌^◌, ◌≤◌, ◌<◌}
use mathlib.Core.Bool.{Bool, true}
use mathlib.Core.List.{List, [], ◌∷◌, ◌++◌}
use lib.ListN.{length, take, get_or, length-append}
use lib.Seq.{take-suc, take_all, length-take-le}
use lib.Dec.{ltb}
use native.Mathlib.Omega.{arith}
use native.Mathlib.Nat.{not-suc-le-zero, div-add-mod', div-lt_iff_lt-mul, mod-lt, mod-eq_of_lt, div-eq_of_lt, pow-suc}
use native.Mathlib.Nat.{pow-zero, mul-le-mul_right, mul-add-div_right, mul-add-mod_self_right}
use borrow.Author.Tests.{lt-ltb, ltb-true}
use Rattle.formats.specs.Checks.{all}
use Rattle.formats.specs.Digits.{digits, number_after, number}
use Rattle.formats.proofs.Checks.{both_true, all_snoc, all_take}

pub length_digits : (base n v : ℕ) → length (digits base n v) ≡ n
unfolding digits
length_digits base zero v = refl
length_digits base (suc n) v = rw (length-append, length_digits base n (v / base)) (omega arith)

-- one digit more at the end
pub number_snoc : (base v : ℕ) (ds : List ℕ) (d : ℕ) → number_after base v (ds ++ (d ∷ [])) ≡ number_after base v ds * base + d
unfolding number_after
number_snoc base v [] d = refl
number_snoc base v (x ∷ ds) d = number_snoc base (v * base + x) ds d

abbrev pub is_below : ℕ → ℕ → Bool
is_below base d = ltb d base

pub all_get_d : (f : ℕ → Bool) (n : ℕ) (ds : List ℕ) → n < length ds → all f ds ≡ true → f (get_or ds n 0) ≡ true
all_get_d f n [] lt e = absurd (not-suc-le-zero lt)
all_get_d f zero (d ∷ ds) lt e = (both_true (f d) (all f ds) e).0
all_get_d f (suc n) (d ∷ ds) lt e = all_get_d f n ds (omega arith) (both_true (f d) (all f ds) e).1

-- digits below the base, after v, stand for less than v + 1 followed by zeros
number_after_below : (base v : ℕ) (ds : List ℕ) → all (is_below base) ds ≡ true → number_after base v ds < (v + 1) * base ^ length ds
unfolding number_after
number_after_below base v [] e = rw pow-zero (omega arith)
number_after_below base v (d ∷ ds) e =
    let p = both_true (ltb d base) (all (is_below base) ds) e in
    let lt : d < base = ltb-true d base p.0 in
    let b = base ^ length ds in
    let ih : number_after base (v * base + d) ds < (v * base + d + 1) * b = number_after_below base (v * base + d) ds p.1 in
    let up : (v * base + d + 1) * b ≤ (v * base + base) * b = mul-le-mul_right b (omega arith) in
    rw pow-suc (omega arith)

-- and so less than 1 followed by as many zeros
pub number_below : (base : ℕ) (ds : List ℕ) → all (is_below base) ds ≡ true → number base ds < base ^ length ds
number_below base ds e = omega (arith, number_after_below base 0 ds e)

module _ (base : ℕ) (pos : 0 < base) where
  -- every digit is below the base
  pub digits_below : (n v : ℕ) → all (is_below base) (digits base n v) ≡ true
  unfolding digits
  digits_below zero v = refl
  digits_below (suc n) v =
      all_snoc (is_below base) (digits base n (v / base)) _ (digits_below n (v / base)) (lt-ltb _ _ (mod-lt v pos))

  -- A number that fits n digits is what its digits stand for.
  pub number_digits : (n v : ℕ) → v < base ^ n → number base (digits base n v) ≡ v
  unfolding digits number_after
  number_digits zero v lt = omega (arith, pow-zero base)
  number_digits (suc n) v lt =
      let q : v / base < base ^ n = (div-lt_iff_lt-mul pos).1 (rw pow-suc at lt) in
      number_snoc base 0 (digits base n (v / base)) (v % base) ∙ rw (number_digits n (v / base) q) (div-add-mod' v base)

  -- Digits below the base are those of the number that they stand for.
  pub digits_number : (n : ℕ) (ds : List ℕ) → length ds ≡ n → all (is_below base) ds ≡ true → digits base n (number base ds) ≡ ds
  unfolding digits
  digits_number zero [] l e = refl
  digits_number zero (d ∷ ds) l e = absurd (omega arith)
  digits_number (suc n) ds l e =
      let d = get_or ds n 0 in
      let x = number base (take n ds) in
      let lt : d < base = ltb-true d base (all_get_d (is_below base) n ds (omega arith) e) in
      let split : ds ≡ take n ds ++ (d ∷ []) = sym (take_all (suc n) ds (omega arith)) ∙ take-suc ds n 0 (omega arith) in
      let v : number base ds ≡ x * base + d = ap (λ l. number base l) split ∙ number_snoc base 0 (take n ds) d in
      let q : (x * base + d) / base ≡ x = mul-add-div_right pos x d ∙ rw (div-eq_of_lt lt) (omega arith) in
      let r : (x * base + d) % base ≡ d = mul-add-mod_self_right x base d ∙ mod-eq_of_lt lt in
      rw (v, q, r, digits_number n (take n ds) (length-take-le n ds (omega arith)) (all_take (is_below base) n ds e)) (sym split)
