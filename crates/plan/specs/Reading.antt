-- What was read: some text. Which one, and that it is all that the file has, is in no contract, since what a read gives is in none.
use Rattle.std.specs.Prelude.{ℕ, List, [], ◌∷◌, ◌≡◌}
use Rattle.planner.specs.Plan.{IsWord}
use Rattle.plantext.specs.declared.Reader.{Reader}
use Rattle.plantext.specs.Reading.{fed, reader_of}

-- some bytes were read, behind those that q had read
pub record ReadOn (q r : Reader) : Type 0 where
  pub bytes : List ℕ
  pub read : r ≡ fed q bytes

-- a text was read, to its end or to a fault
pub record ReadFrom (r : Reader) : Type 0 where
  pub text : List ℕ
  pub read : r ≡ reader_of text

-- the numbers that a reader has of its moves
abbrev pub numbers_of : Reader → List ℕ
numbers_of r = r.numbers.items

-- Numbers that a text says: those of whole moves, of which each word is of 32 bits, as eight hex digits are. A time may be any number.
pub data Worded : List ℕ → Type 0 where
  none : Worded []
  more : (word settling reading_word reading : ℕ) (ns : List ℕ) → IsWord word → IsWord reading_word → Worded ns
      → Worded (word ∷ settling ∷ reading_word ∷ reading ∷ ns)
