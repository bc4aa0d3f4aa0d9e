-- An inclining plan, and what it asks of the outputs: over its moves alone, without a line of a program.
-- 02, item 10: "A plan has 1 to 16 weight moves; each has a 32-bit word for the move, a settling time, a word for the reading and a reading time, each
-- time 1 to 600,000 ticks."
use Rattle.std.specs.Prelude.{ℕ, ◌+◌, ◌*◌, ◌-◌, ◌^◌, ◌≤◌, ◌<◌, Bool, ◌&&◌, List, [], ◌∷◌, length, get_or, leb, ltb}
use Rattle.std.specs.Prelude.{if◌then◌else◌}
use Rattle.formats.specs.Checks.{all}
use Rattle.planner.specs.declared.Move.{Move}

-- move k of a plan that is lent as numbers, four for each move in the paper's order
abbrev pub move_at : List ℕ → ℕ → Move
move_at ns k =
    record {
      moveword = get_or ns (4 * k) 0;
      settling = get_or ns (4 * k + 1) 0;
      readingword = get_or ns (4 * k + 2) 0;
      reading = get_or ns (4 * k + 3) 0;
    }

-- The moves of a plan that is lent as numbers: four for each, in this order. What is left over at the end, fewer than four, is no move.
unfoldable pub moves_of : List ℕ → List Move
moves_of (a ∷ b ∷ c ∷ d ∷ ns) = record { moveword = a; settling = b; readingword = c; reading = d } ∷ moves_of ns
moves_of [] = []
moves_of (a ∷ []) = []
moves_of (a ∷ b ∷ []) = []
moves_of (a ∷ b ∷ c ∷ []) = []

-- ---- what the plan asks for

-- the ticks of a move: first it settles, then it is read
abbrev pub move_ticks : Move → ℕ
move_ticks m = m.settling + m.reading

-- "the sum of the times"
unfoldable pub total : List Move → ℕ
total [] = 0
total (m ∷ ms) = move_ticks m + total ms

-- The word that the outputs have at tick n after the start: the move's own while it settles, the reading's while it is read, then those of the moves
-- behind it; 0 behind the last.
unfoldable pub word_at : List Move → ℕ → ℕ
word_at [] n = 0
word_at (m ∷ ms) n =
    if ltb n m.settling then m.moveword
    else if ltb n (move_ticks m) then m.readingword
    else word_at ms (n - move_ticks m)

-- ---- which plans are taken

abbrev pub most_moves : ℕ
most_moves = 16

-- "each time 1 to 600,000 ticks"
abbrev pub most_time : ℕ
most_time = 600000

abbrev pub is_time : ℕ → Bool
is_time t = leb 1 t && leb t most_time

abbrev pub is_timed : Move → Bool
is_timed m = is_time m.settling && is_time m.reading

-- the same in words
abbrev pub InRange : ℕ → Type 0
InRange t = (1 ≤ t) × (t ≤ 600000)

pub record Timed (m : Move) : Type 0 where
  pub settling : InRange m.settling
  pub reading : InRange m.reading

-- "a 32-bit word"
abbrev pub is_word : ℕ → Bool
is_word w = ltb w (256 ^ 4)

-- numbers of 32 bits, as they are lent
abbrev pub are_words : List ℕ → Bool
are_words ns = all is_word ns

abbrev pub IsWord : ℕ → Type 0
IsWord w = w < 256 ^ 4

-- a move that a plan can have
pub record Proper (m : Move) : Type 0 where
  pub moveword : IsWord m.moveword
  pub settling : InRange m.settling
  pub readingword : IsWord m.readingword
  pub reading : InRange m.reading

pub data AllProper : List Move → Type 0 where
  none : AllProper []
  more : {m : Move} {ms : List Move} → Proper m → AllProper ms → AllProper (m ∷ ms)

-- "A plan has 1 to 16 weight moves"
pub record IsPlan (ms : List Move) : Type 0 where
  pub some : 1 ≤ length ms
  pub few : length ms ≤ most_moves
  pub moves : AllProper ms
