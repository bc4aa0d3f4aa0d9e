-- Laws that turn the answers of the readers of a line's parts into what their definitions say.
-- Assumes nothing.
use mathlib.Core.Path.{◌≡◌, refl, sym, ap}
use Prim.Native.Nat.{ℕ, ◌+◌, ◌^◌, ◌≤◌, ◌<◌}
use Prim.Native.Char.{code}
use mathlib.Core.Logic.{◌≢◌}
use mathlib.Core.Bool.{true}
use native.Mathlib.Omega.{arith}
use mathlib.Core.List.{List, [], ◌∷◌}
use lib.ListN.{length, get_or}
use lib.Dec.{eqb, ltb}
use borrow.Author.Tests.{eq-eqb, ne_eqb, lt-ltb}
use Rattle.std.specs.Prelude.{Option, Some, None, Result, if◌then◌else◌}
use Rattle.std.specs.List.{slice_get}
use Rattle.std.specs.Option.{ok_or}
use Rattle.std.proofs.lemmas.Option.{get_or_from_slice_get, slice_get_within, none-some}
use Rattle.formats.specs.Checks.{refused, passed, ◌>>◌, ◌or_else◌}
use Rattle.formats.specs.Digits.{number_in}
use Rattle.formats.specs.Bytes.{part}
use Rattle.formats.specs.Numbers.{res_of, res_or}
use Rattle.formats.proofs.NumbersRead.{number_fits}
use Rattle.formats.proofs.Parts.{length_part}
use Rattle.texts.specs.Text.{line_length, state_in, for_in, next_in, line_in}

-- four decimal digits fit sixteen bits
pub time_fits : (from v : ℕ) (cs : List ℕ) → from + 4 ≤ length cs → number_in 10 3 (part from 4 cs) ≡ passed v → v < 2 ^ 16
time_fits from v cs le e =
    let lt : v < 10 ^ 4 = rw (length_part from 4 cs le) at (number_fits 10 3 (part from 4 cs) v e) in
    omega arith

-- no data
pub no_line : (cs : List ℕ) → slice_get cs 0 ≡ None → line_in cs ≡ refused 2
unfolding line_in ◌>>◌ ◌or_else◌
no_line [] e = refl
no_line (b ∷ cs) e = absurd (none-some b (sym e))

-- a first character
module _ (cs : List ℕ) (b : ℕ) (e : slice_get cs 0 ≡ Some b) where
  first_is : get_or cs 0 0 ≡ b
  first_is = get_or_from_slice_get cs 0 b 0 e

  some : ltb 0 (length cs) ≡ true
  some = lt-ltb 0 _ (slice_get_within cs 0 b e)

  pub wrong_length : 0 < line_length b → length cs ≢ line_length b → line_in cs ≡ refused 2
  unfolding line_in ◌>>◌ ◌or_else◌
  wrong_length known ne = simp (first_is, some, lt-ltb 0 _ known, ne_eqb _ _ ne)

  pub no_letter : b ≢ code "S" → b ≢ code "F" → b ≢ code "N" → line_in cs ≡ refused 3
  unfolding line_in ◌>>◌ ◌or_else◌
  no_letter s f n = simp (first_is, some, ne_eqb _ _ s, ne_eqb _ _ f, ne_eqb _ _ n)

  -- of the length that it sets
  pub right_length : 0 < line_length b → length cs ≡ line_length b
      → line_in cs ≡ (if eqb b (code "S") then state_in cs else if eqb b (code "F") then for_in cs else next_in cs)
  unfolding line_in ◌>>◌ ◌or_else◌
  right_length known l = simp (first_is, some, lt-ltb 0 _ known, eq-eqb _ _ l)

-- an answer that was none becomes an error
pub told_or : {A E : Type 0} (number : E → ℕ) (e : E) (o : Option A) {r : Result A E} → r ≡ ok_or o e → res_of number r ≡ res_or (number e) o
told_or number e None is = ap (res_of number) is
told_or number e (Some a) is = ap (res_of number) is
