-- Laws of the program area: a line stored is found, and every other line stays.
-- Assumes nothing.
use mathlib.Core.Path.{◌≡◌, refl, sym, ap, ◌∙◌}
use mathlib.Core.Logic.{◌≢◌}
use Prim.Native.Nat.{ℕ, ◌+◌, ◌*◌, ◌≤◌}
use mathlib.Core.Bool.{true}
use mathlib.Core.List.{List, [], ◌∷◌, ◌++◌, append-nil}
use lib.ListN.{length, take, drop}
use Rattle.formats.specs.Checks.{all}
use Rattle.formats.specs.Bytes.{part, placed}
use Rattle.formats.proofs.Checks.{all_drop}
use Rattle.formats.proofs.Digits.{is_below}
use Rattle.formats.proofs.Places.{same_place, other_place}
use Rattle.lines.specs.declared.Line.{Line}
use Rattle.lines.specs.Line.{read_line, bytes_of, Fits}
use Rattle.lines.specs.Program.{line_at, put_line}
use Rattle.lines.proofs.Lines.{Ranged, read_ranged, bytes_back, length_bytes, Sets, Word, read_word}

-- ---- one line alone

-- A line is read from eight bytes, and what follows them does not matter.
pub eight : (bs : List ℕ) → read_line (take 8 bs) ≡ read_line bs
unfolding read_line
eight [] = refl
eight (a ∷ []) = refl
eight (a ∷ b ∷ []) = refl
eight (a ∷ b ∷ c ∷ []) = refl
eight (a ∷ b ∷ c ∷ d ∷ []) = refl
eight (a ∷ b ∷ c ∷ d ∷ e ∷ []) = refl
eight (a ∷ b ∷ c ∷ d ∷ e ∷ f ∷ []) = refl
eight (a ∷ b ∷ c ∷ d ∷ e ∷ f ∷ g ∷ []) = refl
eight (a ∷ b ∷ c ∷ d ∷ e ∷ f ∷ g ∷ i ∷ bs) = refl

-- Line k is what the eight bytes at 8 * k say, and is written into these alone.
pub line_is : (p : List ℕ) (k : ℕ) → line_at p k ≡ read_line (part (8 * k) 8 p)
unfolding line_at
line_is p k = sym (eight (drop (8 * k) p))

pub put_is : (k : ℕ) (l : Line) (p : List ℕ) → put_line k l p ≡ take (8 * k) p ++ (bytes_of l ++ drop (8 * k + 8) p)
unfolding placed
put_is k l p = refl

-- Every line of a program lies in the ranges.
pub line_ranged : (p : List ℕ) (k : ℕ) → Ranged (line_at p k)
unfolding line_at
line_ranged p k = read_ranged (drop (8 * k) p)

-- Every line of a program of bytes sets a word, if it sets any.
pub line_word : (p : List ℕ) → all (is_below 256) p ≡ true → (k : ℕ) → Sets Word (line_at p k)
unfolding line_at
line_word p are k = read_word (drop (8 * k) p) (all_drop (is_below 256) (8 * k) p are)

pub same_line : (p q : List ℕ) (k : ℕ) → part (8 * k) 8 p ≡ part (8 * k) 8 q → line_at p k ≡ line_at q k
unfolding line_at
same_line p q k e = sym (eight (drop (8 * k) p)) ∙ ap read_line e ∙ eight (drop (8 * k) q)

module _ (j : ℕ) (l : Line) (p : List ℕ) (inside : 8 * j + 8 ≤ length p) where
  -- The line that is stored is found.
  pub put_same : Fits l → line_at (put_line j l p) j ≡ l
  unfolding line_at
  put_same f =
      sym (eight (drop (8 * j) (put_line j l p)))
      ∙ ap read_line (same_place 8 j (bytes_of l) p (length_bytes l) inside ∙ sym (append-nil (bytes_of l))) ∙ bytes_back l [] f

  -- Every other line stays.
  pub put_other : (k : ℕ) → k ≢ j → line_at (put_line j l p) k ≡ line_at p k
  put_other k ne = same_line (put_line j l p) p k (other_place 8 j (bytes_of l) p (length_bytes l) inside k ne)
