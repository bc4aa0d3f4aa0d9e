-- Numbers as digits, the highest first. Characters on the wire are digits to the base 10 or 16; the bytes of a line's time or
-- of a record's tick are digits to the base 256.
-- 01, 'The wire': "Formats: h is two hex digits, d three decimal digits to 255, 2d four decimal digits to 9999."
use Rattle.std.specs.Prelude.{ℕ, zero, suc, ◌+◌, ◌*◌, ◌-◌, ◌/◌, ◌%◌, min, Bool, ◌&&◌, not, List, [], ◌∷◌, ◌++◌, map, length, leb, ltb, eqb}
use Prim.Native.Char.{code}
use Rattle.std.specs.Prelude.{if◌then◌else◌}
use Rattle.formats.specs.Checks.{Res, passed, ◌>>=◌, ◌>>◌, ◌or_else◌, all, text}

-- the last n digits of v to a base
unfoldable pub digits : ℕ → ℕ → ℕ → List ℕ
digits base zero v = []
digits base (suc n) v = digits base n (v / base) ++ (v % base ∷ [])

-- the number that digits after v stand for
unfoldable pub number_after : ℕ → ℕ → List ℕ → ℕ
number_after base v [] = v
number_after base v (d ∷ ds) = number_after base (v * base + d) ds

abbrev pub number : ℕ → List ℕ → ℕ
number base ds = number_after base 0 ds

-- ---- characters

-- 0 to 9, then A to F
abbrev pub digit_char : ℕ → ℕ
digit_char v = if ltb v 10 then code "0" + v else code "A" + (v - 10)

-- the value of a digit's character; 16, which is no digit to any base here, for every other character
abbrev pub digit_value : ℕ → ℕ
digit_value c =
    if leb (code "0") c && leb c (code "9") then c - code "0"
    else if leb (code "A") c && leb c (code "F") then c - code "A" + 10
    else 16

abbrev pub is_digit : ℕ → ℕ → Bool
is_digit base c = ltb (digit_value c) base

-- v in n characters
unfoldable pub shown : ℕ → ℕ → ℕ → List ℕ
shown base n v = map digit_char (digits base n v)

-- the number that characters stand for, or the error e
unfoldable pub number_in : ℕ → ℕ → List ℕ → Res ℕ
number_in base e cs = do
  all (is_digit base) cs or_else e
  passed (number base (map digit_value cs))

-- ---- the paper's formats, shown and read; "Characters left over or missing: E002", "Data not in its format, d above 255, [...]: E003"

abbrev pub h : ℕ → List ℕ
h v = shown 16 2 v

unfoldable pub h_in : List ℕ → Res ℕ
h_in cs = do
  eqb (length cs) 2 or_else 2
  number_in 16 3 cs

abbrev pub d : ℕ → List ℕ
d v = shown 10 3 v

unfoldable pub d_in : List ℕ → Res ℕ
d_in cs = do
  eqb (length cs) 3 or_else 2
  v ← number_in 10 3 cs
  leb v 255 or_else 3
  passed v

abbrev pub 2d : ℕ → List ℕ
2d v = shown 10 4 v

-- ---- a number as a person writes and reads it

-- how many decimal digits it has, if at most n
unfoldable pub width : ℕ → ℕ → ℕ
width zero v = 0
width (suc n) v = if ltb v 10 then 1 else width n (v / 10) + 1

-- a number of eight bytes has at most twenty
abbrev pub most_digits : ℕ
most_digits = 20

-- in decimal, without leading zeros
abbrev pub decimal : ℕ → List ℕ
decimal v = shown 10 (width most_digits v) v

-- the number that a person wrote, in one digit or more, or the error e; `most` stands for every number from it on
unfoldable pub decimal_in : ℕ → ℕ → List ℕ → Res ℕ
decimal_in most e cs = do
  not (eqb (length cs) 0) or_else e
  v ← number_in 10 e cs
  passed (min v most)

-- "Errors are E and three digits."
unfoldable pub error_text : ℕ → List ℕ
error_text e = text "E" ++ d e
