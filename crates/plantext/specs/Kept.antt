-- Which of the numbers of a plan are kept: a plan has at most 16 moves, and of a longer one the first 17 show that it is longer.
use Rattle.std.specs.Prelude.{ℕ, min, List, map, take}

-- the largest number of four bytes; it stands for every larger time, none of which is in range
abbrev pub most : ℕ
most = 4294967295

-- the numbers of 17 moves, of four each
abbrev pub room : ℕ
room = 68

abbrev pub capped : ℕ → ℕ
capped n = min n most

unfoldable pub kept : List ℕ → List ℕ
kept ns = take room (map capped ns)

-- the largest number of eight bytes stands for every larger line
abbrev pub most_line : ℕ
most_line = 18446744073709551615
