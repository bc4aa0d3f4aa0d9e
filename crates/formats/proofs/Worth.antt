-- Laws of formats in a reader's words: what each shows is digits of that number, and worth the value that it shows; and texts, character by character.
-- Assumes nothing.
use mathlib.Core.Path.{◌≡◌, refl, sym, ap, ap₂, ◌∙◌}
use Prim.Native.Nat.{ℕ, suc, ◌+◌, ◌*◌, ◌^◌, ◌≤◌, ◌<◌}
use Prim.Native.Char.{Char, code}
use Prim.Native.String.{String, [] as []ᵗ, ◌∷◌ as ◌∷ᵗ◌}
use native.Mathlib.Omega.{arith}
use native.Mathlib.Nat.{pow-suc, pow-zero}
use mathlib.Core.Bool.{Bool, true, false, ◌&&◌}
use mathlib.Core.List.{List, [], ◌∷◌, map}
use lib.ListN.{length, length-map}
use lib.Dec.{eqb, ltb, leb}
use borrow.Author.Tests.{eqb-true, ne_eqb, ltb-true, ltb-false, lt-leb}
use Rattle.formats.specs.Checks.{passed, ◌>>◌, ◌or_else◌, all, text}
use Rattle.formats.specs.Digits.{number_after, number, digit_value, is_digit, shown, number_in, h, d, 2d, error_text}
use Rattle.formats.specs.Worth.{place_in, all_digits, digit_worth, worth, are_digits, ReadAs}
use Rattle.formats.proofs.Checks.{both_true, and_false, below, passed_same}
use Rattle.formats.proofs.Digits.{number_below}
use Rattle.formats.proofs.Characters.{all_values, length_shown, shown_digits, shown_back}

-- ---- one digit

-- a character behind all of a row does not stand in it
beyond : (n c : ℕ) → n ≤ c → (xs : List ℕ) → all (λ x. ltb x n) xs ≡ true → place_in xs c ≡ length xs
beyond n c le [] e = refl
beyond n c le (x ∷ xs) e =
    let p = both_true (ltb x n) (all (λ x. ltb x n) xs) e in
    let lt : x < n = ltb-true x n p.0 in
    let ne : (c ≡ x → ⊥) = λ z. omega arith in
    rw (ne_eqb c x ne) (ap suc (beyond n c le xs p.1))

-- The value that the box takes a character for is its place in the row.
pub digit_worth_lem : (c : ℕ) → digit_worth c ≡ digit_value c
unfolding digit_worth text
digit_worth_lem c = go (ltb c 71) refl
  where
    go : (b : Bool) → ltb c 71 ≡ b → digit_worth c ≡ digit_value c
    go true e = eqb-true (digit_worth c) (digit_value c) (below (λ j. eqb (digit_worth j) (digit_value j)) 71 refl c (ltb-true c 71 e))
    go false e =
        let le : 71 ≤ c = ltb-false c 71 e in
        beyond 71 c le all_digits refl ∙ sym (rw (lt-leb c 57 (omega arith), and_false (leb 48 c), lt-leb c 70 (omega arith), and_false (leb 65 c)))

-- ---- many

pub are_digits_lem : (base : ℕ) (cs : List ℕ) → are_digits base cs ≡ all (is_digit base) cs
are_digits_lem base [] = refl
are_digits_lem base (c ∷ cs) = ap₂ (λ v b. ltb v base && b) (digit_worth_lem c) (are_digits_lem base cs)

-- what digits are worth is the number that they stand for
worth_number : (base v : ℕ) (cs : List ℕ) → number_after base v (map digit_value cs) ≡ v * base ^ length cs + worth base cs
unfolding number_after worth
worth_number base v [] = rw pow-zero (omega arith)
worth_number base v (c ∷ cs) = worth_number base (v * base + digit_value c) cs ∙ rw (pow-suc, digit_worth_lem c) (omega arith)

pub is_worth : (base : ℕ) (cs : List ℕ) → number base (map digit_value cs) ≡ worth base cs
is_worth base cs = omega (arith, worth_number base 0 cs)

-- n digits are worth less than the base to the power n
pub worth_below : (base : ℕ) (cs : List ℕ) → are_digits base cs ≡ true → worth base cs < base ^ length cs
worth_below base cs e =
    let t : all (is_digit base) cs ≡ true = sym (are_digits_lem base cs) ∙ e in
    let lt : number base (map digit_value cs) < base ^ length cs = rw length-map at (number_below base (map digit_value cs) (all_values base cs ∙ t)) in
    omega (arith, lt, worth_number base 0 cs)

-- A number is shown in digits that are worth it.
pub shown_read : (base : ℕ) → 0 < base → base ≤ 16 → (n v : ℕ) → v < base ^ n → ReadAs base n v (shown base n v)
unfolding number_in ◌>>◌ ◌or_else◌
shown_read base pos le n v lt =
    let all_digits_lem = shown_digits base pos le n v in
    let back : passed (number base (map digit_value (shown base n v))) ≡ passed v = rw all_digits_lem at (shown_back base pos le 0 n v lt) in
    record {
      long = length_shown base n v;
      digits = are_digits_lem base (shown base n v) ∙ all_digits_lem;
      value = omega (arith, worth_number base 0 (shown base n v), passed_same back);
    }

-- ---- the formats: "h is two hex digits, d three decimal digits to 255, 2d four decimal digits to 9999", "Errors are E and three digits"

pub h_worth : (v : ℕ) → v ≤ 255 → ReadAs 16 2 v (h v)
h_worth v le = shown_read 16 (omega arith) (omega arith) 2 v (omega arith)

pub d_worth : (v : ℕ) → v ≤ 999 → ReadAs 10 3 v (d v)
d_worth v le = shown_read 10 (omega arith) (omega arith) 3 v (omega arith)

pub 2d_worth : (v : ℕ) → v ≤ 9999 → ReadAs 10 4 v (2d v)
2d_worth v le = shown_read 10 (omega arith) (omega arith) 4 v (omega arith)

pub error_worth : (e : ℕ) → e ≤ 999 → (cs : List ℕ) × (error_text e ≡ 0x45 ∷ cs) × ReadAs 10 3 e cs
unfolding error_text text
error_worth e le = (d e, refl, d_worth e le)

-- ---- texts

pub text_none : text []ᵗ ≡ []
unfolding text
text_none = refl

pub text_front : (c : Char) (s : String) → text (c ∷ᵗ s) ≡ code c ∷ text s
unfolding text
text_front c s = refl

-- the words of the wire, in ASCII: "Commands use Latin letters"
pub words : (text "CR" ≡ 0x43 ∷ 0x52 ∷ []) × (text "CW" ≡ 0x43 ∷ 0x57 ∷ []) × (text "I" ≡ 0x49 ∷ []) × (text "D" ≡ 0x44 ∷ [])
    × (text "S00" ≡ 0x53 ∷ 0x30 ∷ 0x30 ∷ []) × (text "F" ≡ 0x46 ∷ []) × (text "N" ≡ 0x4E ∷ []) × (text "OK" ≡ 0x4F ∷ 0x4B ∷ [])
unfolding text
words = (refl, refl, refl, refl, refl, refl, refl, refl)
