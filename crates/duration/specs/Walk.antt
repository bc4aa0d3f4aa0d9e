-- Nobody has to believe this: it says how the code goes, and no theorem speaks of it.
-- How the code finds a tangle: line by line, with the Next of the last For of each counter. `Faults.tangled_is` proves that it is the rule's.
use Rattle.std.specs.Prelude.{ℕ, zero, suc, ◌-◌, Bool, false, ◌&&◌, ◌||◌, not, Option, None, Some, List, get_or, set, replicate, ltb, leb, eqb}
use Rattle.std.specs.Prelude.{if◌then◌else◌}
use Rattle.std.specs.List.{list_any}
use Rattle.lines.specs.declared.Line.{Line}
use Rattle.lines.specs.declared.Line.TheVariants.{State, For, Next, Bad}
use Rattle.lines.specs.Program.{line_at}
use Rattle.lines.specs.Loops.{next_of}
use Rattle.duration.specs.Loops.{is_tangled}

-- the Next of each counter's last For, after one line more: line n is its Next, where that is a For
abbrev pub opened : Line → ℕ → List (Option ℕ) → List (Option ℕ)
opened (State outputs time) n os = os
opened (For counter count) n os = set os (counter - 1) (Some n)
opened (Next counter) n os = os
opened Bad n os = os

-- that of each counter's last For before line i, if there is one
unfoldable pub open_at : List ℕ → ℕ → List (Option ℕ)
open_at p zero = replicate 4 None
open_at p (suc i) = opened (line_at p i) (next_of p i) (open_at p i)

-- line i is inside a loop with the Next o, and that Next is not behind line n
abbrev pub is_across : ℕ → ℕ → Option ℕ → Bool
is_across i n None = false
is_across i n (Some o) = ltb i o && leb o n

-- inside one of the open loops
abbrev pub is_across_one : ℕ → ℕ → List (Option ℕ) → Bool
is_across_one i n os = list_any (is_across i n) os

-- line i is the Next o
abbrev pub is_own : ℕ → Option ℕ → Bool
is_own i None = false
is_own i (Some o) = eqb o i

-- the line on i, whose Next is line n where it is a For, makes a tangle
abbrev pub is_fault : Line → ℕ → ℕ → List (Option ℕ) → Bool
is_fault (State outputs time) i n os = false
is_fault (For counter count) i n os = eqb n 200 || is_across_one i n os
is_fault (Next counter) i n os = not (is_own i (get_or os (counter - 1) None))
is_fault Bad i n os = false

-- one line of the walk, to which these loops are open: those that are open behind it, or none if it makes a tangle
abbrev pub walked_line : Line → ℕ → ℕ → List (Option ℕ) → Option (List (Option ℕ))
walked_line l i n os = if is_fault l i n os then None else Some (opened l n os)

-- the walk to line e: it ends at the first tangle; where it finds none, it has met every For before that line
unfoldable pub walked : List ℕ → ℕ → Option (List (Option ℕ))
walked p e = if is_tangled p e then None else Some (open_at p e)
