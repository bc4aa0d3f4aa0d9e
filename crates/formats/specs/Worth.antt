-- What digits are worth to a person who reads them: each by its place in the row of digits, times the base for every place behind it. How the box shows
-- and reads a number is not known here: `proofs/Worth` holds the two together.
use Rattle.std.specs.Prelude.{ℕ, suc, ◌+◌, ◌*◌, ◌^◌, ◌≡◌, Bool, true, not, ◌&&◌, ◌||◌, List, [], ◌∷◌, length, get_or, ltb, eqb}
use Prim.Native.Char.{code}
use Rattle.std.proofs.Math.Option.{Option, none, some}
use Rattle.std.specs.Prelude.{if◌then◌else◌}
use Rattle.formats.specs.Checks.{all, text}

-- the place of c in a row, the first being 0; one behind the last, where it does not stand there
abbrev pub place_in : List ℕ → ℕ → ℕ
place_in [] c = 0
place_in (x ∷ xs) c = if eqb c x then 0 else suc (place_in xs c)

abbrev pub all_digits : List ℕ
all_digits = text "0123456789ABCDEF"

unfoldable pub digit_worth : ℕ → ℕ
digit_worth c = place_in all_digits c

unfoldable pub worth : ℕ → List ℕ → ℕ
worth base [] = 0
worth base (c ∷ cs) = digit_worth c * base ^ length cs + worth base cs

abbrev pub are_digits : ℕ → List ℕ → Bool
are_digits base cs = all (λ c. ltb (digit_worth c) base) cs

-- they are n digits to a base, and worth v
pub record ReadAs (base n v : ℕ) (cs : List ℕ) : Type 0 where
  pub long : length cs ≡ n
  pub digits : are_digits base cs ≡ true
  pub value : worth base cs ≡ v

-- ---- a number that stands alone

-- one digit, or more of which the first is no zero
abbrev pub is_plain : List ℕ → Bool
is_plain cs = eqb (length cs) 1 || (ltb 1 (length cs) && not (eqb (get_or cs 0 0) (code "0")))

-- "in decimal": digits from 0 to 9, without leading zeros, and nothing else
unfoldable pub in_decimal : List ℕ → Option ℕ
in_decimal cs = if is_plain cs && are_digits 10 cs then some (worth 10 cs) else none

-- "in eight capital hex digits", and nothing else
unfoldable pub in_hex : List ℕ → Option ℕ
in_hex cs = if eqb (length cs) 8 && are_digits 16 cs then some (worth 16 cs) else none
