-- What may be wrong with the loops that begin before the end of a program.
-- 02, item 6: "040 two such loops cross, one starts inside another of its counter, a For has no Next, or a Next before that line has no For; 041 that
-- line is inside a loop".
use Rattle.std.specs.Prelude.{ℕ, Bool, ◌&&◌, ◌||◌, not, List, ltb, eqb}
use Rattle.lines.specs.Line.{is_next}
use Rattle.lines.specs.Program.{line_at}
use Rattle.lines.specs.Searches.{some_before}
use Rattle.lines.specs.Loops.{next_of, counter_at}

-- line i is inside the loop that begins on line k; a For without a Next counts as open to line 199, but 040 is told of it before any test goes by that
unfoldable pub is_inside : List ℕ → ℕ → ℕ → Bool
is_inside p k i = ltb k i && ltb i (next_of p k)

-- ---- what is wrong at line j, which stands before the end

-- "two such loops cross": the one that begins here begins inside another and ends behind it
unfoldable pub crosses : List ℕ → ℕ → Bool
crosses p j = some_before (λ k. is_inside p k j && ltb (next_of p k) (next_of p j)) j

-- "one starts inside another of its counter"
unfoldable pub starts_in_own : List ℕ → ℕ → Bool
starts_in_own p j = some_before (λ k. is_inside p k j && eqb (counter_at p k) (counter_at p j)) j

-- "a For has no Next"
unfoldable pub lacks_next : List ℕ → ℕ → Bool
lacks_next p j = eqb (next_of p j) 200

-- "a Next before that line has no For"
unfoldable pub lacks_for : List ℕ → ℕ → Bool
lacks_for p j = is_next (line_at p j) && not (some_before (λ k. eqb (next_of p k) j) j)

-- 040, where e is the first line that is a State with time 0
unfoldable pub is_tangled : List ℕ → ℕ → Bool
is_tangled p e = some_before (λ j. crosses p j || starts_in_own p j || lacks_next p j || lacks_for p j) e

-- 041: "that line is inside a loop"
unfoldable pub ends_inside : List ℕ → ℕ → Bool
ends_inside p e = some_before (λ k. is_inside p k e) e
