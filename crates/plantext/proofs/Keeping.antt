-- What is kept of a plan is enough to judge it: its words, which times are too large, and that it has too many moves.
-- Assumes nothing.
use mathlib.Core.Path.{◌≡◌}
use Prim.Native.Nat.{ℕ, ◌<◌, ◌≤◌}
use native.Mathlib.Omega.{arith}
use mathlib.Core.List.{List, map}
use lib.ListN.{length, length-map, length-take}
use lib.Seq.{take_all}
use Rattle.plantext.specs.Kept.{room, kept, capped}

-- a number of four bytes, as each word is
pub capped_same : (n : ℕ) → n < 4294967296 → capped n ≡ n
capped_same n lt = omega arith

-- a time above the range stays above it
pub capped_out : (n : ℕ) → 600000 < n → 600000 < capped n
capped_out n lt = omega arith

-- more than 16 moves stay more
pub kept_long : (ns : List ℕ) → 64 < length ns → 64 < length (kept ns)
unfolding kept
kept_long ns lt = let a = length-map ns capped in let b = length-take room (map capped ns) in omega arith

-- and of 16 or fewer none is left out
pub kept_short : (ns : List ℕ) → length ns ≤ 64 → kept ns ≡ map capped ns
unfolding kept
kept_short ns few = let a = length-map ns capped in take_all room (map capped ns) (omega arith)
