-- What is wrong with a text that is no plan: its first line that is wrong, counted from 1, and the first fault of that line from the left.
-- docs/programs/plan.md, 'Refusals', has a message for each of the eight.
use Rattle.std.specs.Prelude.{ℕ, suc, ◌<◌, Bool, true, not, ◌&&◌, ◌||◌, List, [], ◌∷◌, ◌++◌, ◌≡◌, length}
use Rattle.formats.specs.Checks.{all}
use Rattle.plantext.specs.declared.Fault.{Fault}
use Rattle.plantext.specs.declared.Fault.TheVariants.{NoWord, NoSettling, NoReadingWord, NoReading, SettlingMissing, ReadingWordMissing, ReadingMissing, Behind}
use Rattle.plantext.specs.Text.{is_blank, is_hash, Word, Time, Blanks, Between, Comment, OnLine, NoLF, line_of}

-- ---- fields

-- a character that stands in a field, right or wrong: any but a blank, a tab and a `#`
abbrev pub is_plain : ℕ → Bool
is_plain c = not (is_blank c) && not (is_hash c)

-- a field is over: the line ends there, or a blank, a tab or a `#` follows
abbrev pub is_over : List ℕ → Bool
is_over [] = true
is_over (c ∷ cs) = is_blank c || is_hash c

-- a whole field, and what follows it on its line
pub record Field (f rest : List ℕ) : Type 0 where
  pub some : 0 < length f
  pub plain : all is_plain f ≡ true
  pub over : is_over rest ≡ true

-- how a line begins whose first fields are right: how many they are, and the characters up to the last one's end
pub data Right : ℕ → List ℕ → Type 0 where
  none : Right 0 []
  word : (b w : List ℕ) (x : ℕ) → Blanks b → Word w x → Right 1 (b ++ w)
  settling : (a b s : List ℕ) (x : ℕ) → Right 1 a → Between b → Time s x → Right 2 (a ++ b ++ s)
  reading_word : (a b v : List ℕ) (x : ℕ) → Right 2 a → Between b → Word v x → Right 3 (a ++ b ++ v)
  reading : (a b r : List ℕ) (x : ℕ) → Right 3 a → Between b → Time r x → Right 4 (a ++ b ++ r)

-- ---- lines

-- a line without its end, and its fault; what follows the fault on the line may be anything
pub data WrongLine : List ℕ → Fault → Type 0 where
  -- "the word of the move is not eight hex digits"
  no_word : (b f rest : List ℕ) → Blanks b → Field f rest → ((w : ℕ) → Word f w → ⊥) → WrongLine (b ++ f ++ rest) NoWord
  -- "the settling time is not a decimal number"
  no_settling : (a b f rest : List ℕ) → Right 1 a → Between b → Field f rest → ((t : ℕ) → Time f t → ⊥) → WrongLine (a ++ b ++ f ++ rest) NoSettling
  -- "the word of the reading is not eight hex digits"
  no_reading_word : (a b f rest : List ℕ) → Right 2 a → Between b → Field f rest → ((w : ℕ) → Word f w → ⊥) → WrongLine (a ++ b ++ f ++ rest) NoReadingWord
  -- "the reading time is not a decimal number"
  no_reading : (a b f rest : List ℕ) → Right 3 a → Between b → Field f rest → ((t : ℕ) → Time f t → ⊥) → WrongLine (a ++ b ++ f ++ rest) NoReading
  -- "the settling time is missing"
  settling_missing : (a b c : List ℕ) → Right 1 a → Blanks b → Comment c → WrongLine (a ++ b ++ c) SettlingMissing
  -- "the word of the reading is missing"
  reading_word_missing : (a b c : List ℕ) → Right 2 a → Blanks b → Comment c → WrongLine (a ++ b ++ c) ReadingWordMissing
  -- "the reading time is missing"
  reading_missing : (a b c : List ℕ) → Right 3 a → Blanks b → Comment c → WrongLine (a ++ b ++ c) ReadingMissing
  -- "something stands behind the reading time"
  behind : (a b f rest : List ℕ) → Right 4 a → Between b → Field f rest → WrongLine (a ++ b ++ f ++ rest) Behind

-- ---- texts

-- "Of a line that is wrong in several ways the first from the left is told, and of several lines the first."
pub data Wrong : List ℕ → ℕ → Fault → Type 0 where
  -- the first line is wrong, and is the last
  last : (l : List ℕ) (e : Fault) → NoLF l → WrongLine l e → Wrong l 1 e
  -- the first line is wrong, and others follow
  here : (l t : List ℕ) (e : Fault) → NoLF l → WrongLine (line_of l) e → Wrong (l ++ 10 ∷ t) 1 e
  -- the first line is right
  later : (l t ns : List ℕ) (n : ℕ) (e : Fault) → NoLF l → OnLine (line_of l) ns → Wrong t n e → Wrong (l ++ 10 ∷ t) (suc n) e
