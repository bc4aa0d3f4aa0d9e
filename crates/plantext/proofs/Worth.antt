-- Words and times are what their digits are worth to a person, each by its place: what a digit and a number are is said once more, in the words of
-- formats/Worth, which the reader does not use.
-- Assumes nothing.
use mathlib.Core.Path.{◌≡◌, refl, sym, ap, ap₂, ◌∙◌}
use Prim.Native.Nat.{ℕ, ◌+◌, ◌-◌, ◌≤◌, ◌<◌}
use Prim.Native.Char.{code}
use native.Mathlib.Omega.{arith}
use mathlib.Core.Logic.{◌⊎◌, inl, inr}
use mathlib.Core.Bool.{Bool, true, false, ◌&&◌, false≢true}
use mathlib.Core.List.{List, [], ◌∷◌, map}
use lib.ListN.{length, length-map}
use lib.Dec.{leb, ltb, eqb}
use borrow.Author.Tests.{leb-true, le-leb, lt-leb, ltb-true, eqb-true}
use Rattle.std.specs.Prelude.{if◌then◌else◌}
use Rattle.formats.specs.Checks.{all}
use Rattle.formats.specs.Digits.{number, digit_value}
use Rattle.formats.specs.Worth.{digit_worth, worth, are_digits, ReadAs}
use Rattle.formats.proofs.Checks.{both_true, by_both}
use Rattle.formats.proofs.Worth.{digit_worth_lem, is_worth}
use Rattle.plantext.specs.Text.{is_blank, hex_value, is_digit_to, Word, Time}

-- "of either case": a to f count as A to F
abbrev pub capital : ℕ → ℕ
capital c = if leb (code "a") c && leb c (code "f") then c - 32 else c

capital_value : (c : ℕ) → digit_value (capital c) ≡ hex_value c
unfolding hex_value
capital_value c = go (leb 97 c && leb c 102) refl
  where
    go : (t : Bool) → (leb 97 c && leb c 102) ≡ t → digit_value (if t then c - 32 else c) ≡ (if t then c - 97 + 10 else digit_value c)
    go true e =
        let p = both_true (leb 97 c) (leb c 102) e in
        let lo : 97 ≤ c = leb-true 97 c p.0 in
        let hi : c ≤ 102 = leb-true c 102 p.1 in
        rw (
          le-leb 48 (c - 32) (omega arith),
          lt-leb (c - 32) 57 (omega arith),
          le-leb 65 (c - 32) (omega arith),
          le-leb (c - 32) 70 (omega arith),
        )
        (omega arith)
    go false e = refl

-- A digit is worth what its place among the sixteen says, of either case.
pub hex_worth : (c : ℕ) → hex_value c ≡ digit_worth (capital c)
hex_worth c = sym (digit_worth_lem (capital c) ∙ capital_value c)

values : (cs : List ℕ) → map digit_value (map capital cs) ≡ map hex_value cs
values [] = refl
values (c ∷ cs) = ap₂ (λ v vs. v ∷ vs) (capital_value c) (values cs)

are_digits_lem : (base : ℕ) (cs : List ℕ) → are_digits base (map capital cs) ≡ all (is_digit_to base) cs
are_digits_lem base [] = refl
are_digits_lem base (c ∷ cs) = ap₂ (λ v b. ltb v base && b) (sym (hex_worth c)) (are_digits_lem base cs)

is_number : (base : ℕ) (cs : List ℕ) → number base (map hex_value cs) ≡ worth base (map capital cs)
is_number base cs = ap (number base) (sym (values cs)) ∙ is_worth base (map capital cs)

-- A word is eight hex digits that are worth it.
pub word_worth : (cs : List ℕ) (w : ℕ) → Word cs w → ReadAs 16 8 w (map capital cs)
word_worth cs w is = record {
  long = length-map cs capital ∙ is.eight;
  digits = are_digits_lem 16 cs ∙ is.digits;
  value = sym (is.value ∙ is_number 16 cs);
}

pub worth_word : (cs : List ℕ) (w : ℕ) → ReadAs 16 8 w (map capital cs) → Word cs w
worth_word cs w is = record {
  eight = sym (length-map cs capital) ∙ is.long;
  digits = sym (are_digits_lem 16 cs) ∙ is.digits;
  value = sym (is_number 16 cs ∙ is.value);
}

-- ---- times

-- a decimal digit has no case
one_case : (c : ℕ) → ltb (hex_value c) 10 ≡ ltb (digit_worth c) 10
unfolding hex_value
one_case c = rw (digit_worth_lem c) (go (leb 97 c && leb c 102) refl)
  where
    go : (t : Bool) → (leb 97 c && leb c 102) ≡ t → ltb (if t then c - 97 + 10 else digit_value c) 10 ≡ ltb (digit_value c) 10
    go true e =
        let p = both_true (leb 97 c) (leb c 102) e in
        let lo : 97 ≤ c = leb-true 97 c p.0 in
        rw (
          le-leb 48 c (omega arith),
          lt-leb c 57 (omega arith),
          le-leb 65 c (omega arith),
          lt-leb c 70 (omega arith),
        )
        (by_both (ltb (c - 97 + 10) 10) false (λ h. absurd (let lt = ltb-true (c - 97 + 10) 10 h in omega (arith, lt))) (λ h. absurd (false≢true h)))
    go false e = refl

decimal_digits : (cs : List ℕ) → all (is_digit_to 10) cs ≡ are_digits 10 cs
decimal_digits [] = refl
decimal_digits (c ∷ cs) = ap₂ ◌&&◌ (one_case c) (decimal_digits cs)

decimal_value : (c : ℕ) → ltb (hex_value c) 10 ≡ true → hex_value c ≡ digit_value c
unfolding hex_value
decimal_value c e = go (leb 97 c && leb c 102) refl (ltb-true (hex_value c) 10 e)
  where
    go : (t : Bool) → (leb 97 c && leb c 102) ≡ t → (if t then c - 97 + 10 else digit_value c) < 10
        → (if t then c - 97 + 10 else digit_value c) ≡ digit_value c
    go true h lt = absurd (omega arith)
    go false h lt = refl

decimal_values : (cs : List ℕ) → all (is_digit_to 10) cs ≡ true → map hex_value cs ≡ map digit_value cs
decimal_values [] e = refl
decimal_values (c ∷ cs) e =
    let p = both_true (is_digit_to 10 c) (all (is_digit_to 10) cs) e in
    ap₂ (λ v vs. v ∷ vs) (decimal_value c p.0) (decimal_values cs p.1)

time_number : (cs : List ℕ) → all (is_digit_to 10) cs ≡ true → number 10 (map hex_value cs) ≡ worth 10 cs
time_number cs e = ap (number 10) (decimal_values cs e) ∙ is_worth 10 cs

-- A time is one decimal digit or more, which are worth it.
pub time_worth : (cs : List ℕ) (t : ℕ) → Time cs t → (0 < length cs) × ReadAs 10 (length cs) t cs
time_worth cs t is =
    (is.some, record { long = refl; digits = sym (decimal_digits cs) ∙ is.digits; value = sym (is.value ∙ time_number cs is.digits) })

pub worth_time : (cs : List ℕ) (t : ℕ) → 0 < length cs → ReadAs 10 (length cs) t cs → Time cs t
worth_time cs t some is =
    let are : all (is_digit_to 10) cs ≡ true = decimal_digits cs ∙ is.digits in
    record { some = some; digits = are; value = sym (time_number cs are ∙ is.value) }

-- ---- blanks

-- "blanks or tabs", and no other character
pub blank_only : (c : ℕ) → is_blank c ≡ true → (c ≡ 32) ⊎ (c ≡ 9)
blank_only c so = go (eqb c 32) refl
  where
    go : (t : Bool) → eqb c 32 ≡ t → (c ≡ 32) ⊎ (c ≡ 9)
    go true e = inl (eqb-true c 32 e)
    go false e = inr (eqb-true c 9 (sym (rw e) ∙ so))
