-- The numbers in a line's eight bytes, byte by byte, and the line that they say, by the first byte.
-- Assumes nothing.
use mathlib.Core.Path.{◌≡◌, sym, ◌∙◌}
use Prim.Native.Nat.{ℕ, ◌+◌, ◌*◌, ◌≤◌}
use mathlib.Core.Bool.{◌&&◌}
use mathlib.Core.List.{List, [], ◌∷◌}
use lib.ListN.{length, get_or}
use lib.Seq.{drop-cons}
use lib.Dec.{leb, eqb}
use native.Mathlib.Omega.{arith}
use borrow.Author.Tests.{ne_eqb}
use Rattle.std.specs.Prelude.{if◌then◌else◌}
use Rattle.formats.specs.Digits.{number_after, number}
use Rattle.formats.specs.Bytes.{field}
use Rattle.formats.proofs.Bytes.{two_at, four_at}
use Rattle.lines.specs.declared.Line.TheVariants.{State, For, Next, Bad}
use Rattle.lines.specs.Line.{is_counter, read_line}

-- two bytes and four bytes as a number
abbrev pub pair : ℕ → ℕ → ℕ
pair a b = number 256 (a ∷ b ∷ [])

abbrev pub quad : ℕ → ℕ → ℕ → ℕ → ℕ
quad a b c d = number 256 (a ∷ b ∷ c ∷ d ∷ [])

module _ (bs : List ℕ) (le : 8 ≤ length bs) where
  six : field 2 6 bs ≡ pair (get_or bs 2 0) (get_or bs 3 0) * 4294967296 + quad (get_or bs 4 0) (get_or bs 5 0) (get_or bs 6 0) (get_or bs 7 0)
  unfolding number_after
  six =
      rw (
        drop-cons bs 2 0 (omega arith),
        drop-cons bs 3 0 (omega arith),
        drop-cons bs 4 0 (omega arith),
        drop-cons bs 5 0 (omega arith),
        drop-cons bs 6 0 (omega arith),
        drop-cons bs 7 0 (omega arith),
      ) (omega arith)

  pub state_bytes : {o t : ℕ} → get_or bs 0 0 ≡ 0x53 → o ≡ quad (get_or bs 2 0) (get_or bs 3 0) (get_or bs 4 0) (get_or bs 5 0) → t ≡ pair (get_or bs 6 0) (get_or bs 7 0)
      → (if eqb (get_or bs 1 0) 0 && leb t 9999 then State o t else Bad) ≡ read_line bs
  unfolding read_line
  state_bytes first o t = rw (first, o ∙ sym (four_at bs 2 (omega arith)), t ∙ sym (two_at bs 6 (omega arith)))

  pub for_bytes : {n z : ℕ} → get_or bs 0 0 ≡ 0x46 → n ≡ pair (get_or bs 2 0) (get_or bs 3 0) → z ≡ quad (get_or bs 4 0) (get_or bs 5 0) (get_or bs 6 0) (get_or bs 7 0)
      → (if is_counter (get_or bs 1 0) && leb n 9999 && eqb z 0 then For (get_or bs 1 0) n else Bad) ≡ read_line bs
  unfolding read_line
  for_bytes first n z = rw (first, n ∙ sym (two_at bs 2 (omega arith)), z ∙ sym (four_at bs 4 (omega arith)))

  pub next_bytes : {h l : ℕ} → get_or bs 0 0 ≡ 0x4E → h ≡ pair (get_or bs 2 0) (get_or bs 3 0) → l ≡ quad (get_or bs 4 0) (get_or bs 5 0) (get_or bs 6 0) (get_or bs 7 0)
      → (if is_counter (get_or bs 1 0) && eqb (h * 4294967296 + l) 0 then Next (get_or bs 1 0) else Bad) ≡ read_line bs
  unfolding read_line
  next_bytes first h l = rw (first, h, l, ← six)

-- bytes that begin with none of the three
pub none_bytes : (bs : List ℕ) → (get_or bs 0 0 ≡ 0x53 → ⊥) → (get_or bs 0 0 ≡ 0x46 → ⊥) → (get_or bs 0 0 ≡ 0x4E → ⊥) → Bad ≡ read_line bs
unfolding read_line
none_bytes bs s f n = rw (ne_eqb _ _ s, ne_eqb _ _ f, ne_eqb _ _ n)
