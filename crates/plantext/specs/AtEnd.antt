-- What the reader has at the end of a text, and what that says of the text.
-- 02, item 10, asks for a plan; "Which texts are plans, and what they mean, is a definition, and the reading is proved exact both ways".
use Rattle.std.specs.Prelude.{ℕ, ◌*◌, min, ◌≡◌, Some, None, List, length}
use Rattle.plantext.specs.declared.Fault.{Fault}
use Rattle.plantext.specs.declared.Reader.{Reader}
use Rattle.plantext.specs.Text.{Says}
use Rattle.plantext.specs.Faults.{Wrong}
use Rattle.plantext.specs.Kept.{kept}
use Rattle.plantext.specs.Reading.{reader_of}

-- numbers come in fours, one four for each move
pub record Fours (ns : List ℕ) : Type 0 where
  pub moves : ℕ
  pub many : length ns ≡ 4 * moves

-- numbers are read: no fault, and of the numbers those that are kept
pub record IsRead (r : Reader) (ns : List ℕ) : Type 0 where
  pub fault : r.fault ≡ None
  pub numbers : r.numbers.items ≡ kept ns

-- numbers that are read are what the text says
pub record Said (t : List ℕ) : Type 0 where
  pub numbers : List ℕ
  pub says : Says t numbers
  pub read : IsRead (reader_of t) numbers

-- a fault is told, and its line, the largest number standing for every larger one
pub record IsTold (r : Reader) (n : ℕ) (e : Fault) : Type 0 where
  pub fault : r.fault ≡ Some e
  pub line : r.line ≡ min n 18446744073709551615

-- the fault that is told is wrong with the text, on the line that is told
pub record IsWrong (t : List ℕ) (e : Fault) : Type 0 where
  pub line : ℕ
  pub wrong : Wrong t line e
  pub told : (reader_of t).line ≡ min line 18446744073709551615
