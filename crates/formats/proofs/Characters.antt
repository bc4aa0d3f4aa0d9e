-- A number is read back from the characters that show it, and characters that are read as a number show it.
-- Assumes nothing.
use mathlib.Core.Path.{◌≡◌, refl, ap, ap₂, ◌∙◌}
use Prim.Native.Nat.{ℕ, ◌+◌, ◌-◌, ◌^◌, ◌≤◌, ◌<◌}
use mathlib.Core.Bool.{true, ◌&&◌}
use mathlib.Core.List.{List, [], ◌∷◌, map}
use lib.ListN.{length, length-map}
use lib.Dec.{leb, ltb, eqb}
use native.Mathlib.Omega.{arith}
use borrow.Author.Tests.{lt-ltb, le-ltb, ltb-true, leb-true, le-leb, eqb-true}
use Rattle.formats.specs.Checks.{passed, ◌>>=◌, ◌>>◌, ◌or_else◌, all, Ok}
use Rattle.formats.specs.Digits.{digits, digit_char, digit_value, is_digit, shown, number_in, h, h_in, d, d_in}
use Rattle.formats.proofs.Checks.{if_case, both_true, below, ok_guard, Err, err_guard}
use Rattle.formats.proofs.Digits.{is_below, length_digits, number_below, digits_below, number_digits, digits_number}

-- ---- one character

-- a digit's character has its value
value_of_char : (v : ℕ) → v < 16 → digit_value (digit_char v) ≡ v
value_of_char v lt = eqb-true _ _ (below (λ v. eqb (digit_value (digit_char v)) v) 16 refl v lt)

-- a character that has a digit's value is that digit's
char_of_value : (c : ℕ) → digit_value c < 16 → digit_char (digit_value c) ≡ c
char_of_value c =
    if_case Fits (leb 48 c && leb c 57)
    (λ e lt.
    let p = both_true (leb 48 c) (leb c 57) e in
    let lo : 48 ≤ c = leb-true 48 c p.0 in
    let hi : c ≤ 57 = leb-true c 57 p.1 in
    rw (lt-ltb (c - 48) 10 (omega arith)) (omega arith))
    (λ _. if_case Fits (leb 65 c && leb c 70)
    (λ e lt.
    let p = both_true (leb 65 c) (leb c 70) e in
    let lo : 65 ≤ c = leb-true 65 c p.0 in
    let hi : c ≤ 70 = leb-true c 70 p.1 in
    rw (le-ltb (c - 65 + 10) 10 (omega arith)) (omega arith))
    (λ _ lt. absurd (omega arith)))
  where
    Fits : ℕ → Type 0
    Fits v = v < 16 → digit_char v ≡ c

-- ---- many

pub all_values : (base : ℕ) (cs : List ℕ) → all (is_below base) (map digit_value cs) ≡ all (is_digit base) cs
all_values base [] = refl
all_values base (c ∷ cs) = ap (λ b. is_digit base c && b) (all_values base cs)

all_chars : (base : ℕ) → base ≤ 16 → (ds : List ℕ) → all (is_below base) ds ≡ true → all (is_digit base) (map digit_char ds) ≡ true
all_chars base le [] e = refl
all_chars base le (d ∷ ds) e =
    let p = both_true (ltb d base) (all (is_below base) ds) e in
    let lt : d < base = ltb-true d base p.0 in
    rw (value_of_char d (omega arith), p.0) (all_chars base le ds p.1)

values_chars : (base : ℕ) → base ≤ 16 → (ds : List ℕ) → all (is_below base) ds ≡ true → map digit_value (map digit_char ds) ≡ ds
values_chars base le [] e = refl
values_chars base le (d ∷ ds) e =
    let p = both_true (ltb d base) (all (is_below base) ds) e in
    let lt : d < base = ltb-true d base p.0 in
    ap₂ (λ x xs. x ∷ xs) (value_of_char d (omega arith)) (values_chars base le ds p.1)

chars_values : (base : ℕ) → base ≤ 16 → (cs : List ℕ) → all (is_digit base) cs ≡ true → map digit_char (map digit_value cs) ≡ cs
chars_values base le [] e = refl
chars_values base le (c ∷ cs) e =
    let p = both_true (is_digit base c) (all (is_digit base) cs) e in
    let lt : digit_value c < base = ltb-true (digit_value c) base p.0 in
    ap₂ (λ x xs. x ∷ xs) (char_of_value c (omega arith)) (chars_values base le cs p.1)

pub length_shown : (base n v : ℕ) → length (shown base n v) ≡ n
unfolding shown
length_shown base n v = length-map (digits base n v) digit_char ∙ length_digits base n v

module _ (base : ℕ) (pos : 0 < base) (le : base ≤ 16) where
  -- A number is shown in digits.
  pub shown_digits : (n v : ℕ) → all (is_digit base) (shown base n v) ≡ true
  unfolding shown
  shown_digits n v = all_chars base le (digits base n v) (digits_below base pos n v)

  -- A number shown in n characters is read as that number.
  pub shown_back : (e n v : ℕ) → v < base ^ n → number_in base e (shown base n v) ≡ passed v
  unfolding number_in shown ◌>>◌ ◌or_else◌
  shown_back e n v lt =
      let b = digits_below base pos n v in
      rw (all_chars base le (digits base n v) b, values_chars base le (digits base n v) b) (ap passed (number_digits base pos n v lt))

  -- Characters that are read as a number show it.
  pub read_shows : (e : ℕ) (cs : List ℕ) → Ok (λ v. shown base (length cs) v ≡ cs) (number_in base e cs)
  unfolding number_in shown
  read_shows e cs =
      ok_guard (λ v. shown base (length cs) v ≡ cs) (all (is_digit base) cs) e _ λ t.
      rw (digits_number base pos (length cs) (map digit_value cs) (length-map cs digit_value) (all_values base cs ∙ t)) (chars_values base le cs t)

-- A number that is read fits its characters.
pub read_fits : (base e : ℕ) (cs : List ℕ) → Ok (λ v. v < base ^ length cs) (number_in base e cs)
unfolding number_in
read_fits base e cs =
    ok_guard (λ v. v < base ^ length cs) (all (is_digit base) cs) e _ λ t.
    rw length-map at (number_below base (map digit_value cs) (all_values base cs ∙ t))

-- Two hex digits are a byte.
pub h_byte : (cs : List ℕ) → Ok (λ v. v < 256) (h_in cs)
unfolding h_in
h_byte cs =
    ok_guard (λ v. v < 256) (eqb (length cs) 2) 2 (number_in 16 3 cs) λ e.
    rw (eqb-true (length cs) 2 e) at (read_fits 16 3 cs)

-- What the formats show is read back.
pub h_back : (v : ℕ) → v < 256 → h_in (h v) ≡ passed v
unfolding h_in ◌>>◌ ◌or_else◌
h_back v lt = rw (length_shown 16 2 v) (shown_back 16 (omega arith) (omega arith) 3 2 v (omega arith))

pub d_back : (v : ℕ) → v ≤ 255 → d_in (d v) ≡ passed v
unfolding d_in ◌>>=◌ ◌>>◌ ◌or_else◌
d_back v le = rw (length_shown 10 3 v, shown_back 10 (omega arith) (omega arith) 3 3 v (omega arith), le-leb v 255 le)

-- ---- the errors of characters that are no number

pub number_err : (P : ℕ → Type 0) (base e : ℕ) → P e → (cs : List ℕ) → Err P (number_in base e cs)
unfolding number_in
number_err P base e h cs = err_guard P (all (is_digit base) cs) e _ (λ _. h) λ _. tt
