-- What a plan is as text, and which numbers it says.
-- 02, item 10, asks for a plan. How it is written as text, for the program `plan`: "moves as text, one on a line: `WORD SETTLING WORD READING`, words in eight
-- hex digits of either case, times in decimal ticks,
-- blanks or tabs between; empty lines and what follows a `#` are passed over; LF or CR LF, the last may lack it."
use Rattle.std.specs.Prelude.{ℕ, ◌+◌, ◌-◌, ◌<◌, Bool, true, not, ◌&&◌, ◌||◌, List, [], ◌∷◌, ◌++◌, map, ◌≡◌, length, leb, ltb, eqb}
use Prim.Native.Char.{code}
use Rattle.std.specs.Prelude.{if◌then◌else◌}
use Rattle.formats.specs.Checks.{all}
use Rattle.formats.specs.Digits.{number, digit_value}

-- ---- characters

-- "blanks or tabs"
abbrev pub is_blank : ℕ → Bool
is_blank c = eqb c 32 || eqb c 9

abbrev pub is_hash : ℕ → Bool
is_hash c = eqb c (code "#")

-- the value of a hex digit "of either case": 0 to 9, A to F and a to f; 16 for every other character
unfoldable pub hex_value : ℕ → ℕ
hex_value c = if leb (code "a") c && leb c (code "f") then c - code "a" + 10 else digit_value c

abbrev pub is_digit_to : ℕ → ℕ → Bool
is_digit_to base c = ltb (hex_value c) base

-- ---- fields

-- "words in eight hex digits of either case": the characters of a word, and the word
pub record Word (cs : List ℕ) (w : ℕ) : Type 0 where
  pub eight : length cs ≡ 8
  pub digits : all (is_digit_to 16) cs ≡ true
  pub value : w ≡ number 16 (map hex_value cs)

-- "times in decimal ticks": one digit or more, and the time
pub record Time (cs : List ℕ) (t : ℕ) : Type 0 where
  pub some : 0 < length cs
  pub digits : all (is_digit_to 10) cs ≡ true
  pub value : t ≡ number 10 (map hex_value cs)

-- blanks or tabs, or none
abbrev pub Blanks : List ℕ → Type 0
Blanks cs = all is_blank cs ≡ true

-- "blanks or tabs between": one at least
pub record Between (cs : List ℕ) : Type 0 where
  pub some : 0 < length cs
  pub blanks : Blanks cs

-- "what follows a `#`": none, or a `#` and anything
pub data Comment : List ℕ → Type 0 where
  none : Comment []
  remark : (cs : List ℕ) → Comment (code "#" ∷ cs)

-- ---- lines

-- a line without its end, and the numbers that it says: none, or those of a move
pub data OnLine : List ℕ → List ℕ → Type 0 where
  -- "empty lines and what follows a `#` are passed over"
  nothing : (b c : List ℕ) → Blanks b → Comment c → OnLine (b ++ c) []
  -- "`WORD SETTLING WORD READING`"
  move : (b₀ w b₁ s b₂ v b₃ r b₄ c : List ℕ) (word settling reading_word reading : ℕ)
      → Blanks b₀ → Word w word → Between b₁ → Time s settling → Between b₂ → Word v reading_word → Between b₃ → Time r reading → Blanks b₄ → Comment c
      → OnLine (b₀ ++ w ++ b₁ ++ s ++ b₂ ++ v ++ b₃ ++ r ++ b₄ ++ c) (word ∷ settling ∷ reading_word ∷ reading ∷ [])

-- characters none of which is an LF
abbrev pub NoLF : List ℕ → Type 0
NoLF cs = all (λ c. not (eqb c 10)) cs ≡ true

-- "LF or CR LF": the line that ends with an LF, from what stands before the LF. A CR directly before it belongs to the end; every other CR is a
-- character of the line.
unfoldable pub line_of : List ℕ → List ℕ
line_of [] = []
line_of (c ∷ []) = if eqb c 13 then [] else c ∷ []
line_of (c ∷ d ∷ cs) = c ∷ line_of (d ∷ cs)

-- ---- texts

-- a text, and all the numbers that it says
pub data Says : List ℕ → List ℕ → Type 0 where
  -- the last line; "the last may lack it"
  last : (l ns : List ℕ) → NoLF l → OnLine l ns → Says l ns
  -- a line, its end, and what follows
  line : (l t ns ms : List ℕ) → NoLF l → OnLine (line_of l) ns → Says t ms → Says (l ++ 10 ∷ t) (ns ++ ms)
