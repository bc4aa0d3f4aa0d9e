-- Nobody has to believe this: it says how the code goes, and no theorem speaks of it.
-- How the code sums: ticks up to one more than are told, and whether an idle loop or a Bad line was met.
use Rattle.std.specs.Prelude.{ℕ, ◌+◌, ◌*◌, ◌≤◌, ◌<◌, Bool, false, true, not, ◌&&◌, ◌||◌, List, ltb, leb, eqb}
use Rattle.formats.specs.Checks.{Res, passed, ◌>>◌, ◌or_else◌}
use Rattle.lines.specs.declared.Line.{Line}
use Rattle.lines.specs.declared.Line.TheVariants.{State, For, Next, Bad}
use Rattle.lines.specs.Line.{is_bad}
use Rattle.lines.specs.Program.{line_at}
use Rattle.duration.specs.declared.sums.Sum.{Sum}
use Rattle.lines.specs.Searches.{some_before}
use Rattle.lines.specs.Loops.{next_of}
use Rattle.duration.specs.Ticks.{run_ticks, idles_at}
use Rattle.duration.specs.Report.{most_ticks, capped_at}

-- the most that is summed
abbrev pub more_ticks : ℕ
more_ticks = most_ticks + 1

abbrev pub capped : ℕ → ℕ
capped n = capped_at most_ticks n

abbrev pub no_sum : Sum
no_sum = record { ticks = 0; idle = false; bad = false }

-- a line that begins no loop
abbrev pub plain_sum : Line → Sum
plain_sum (State outputs time) = record { ticks = time; idle = false; bad = false }
plain_sum (For counter count) = no_sum
plain_sum (Next counter) = no_sum
plain_sum Bad = record { ticks = 0; idle = false; bad = true }

-- one run of lines behind the other
unfoldable pub joined : Sum → Sum → Sum
joined a b = record { ticks = capped (a.ticks + b.ticks); idle = a.idle || b.idle; bad = a.bad || b.bad }

-- a loop with this count, if the run of lines inside it has the sum s
unfoldable pub repeated : ℕ → Sum → Sum
repeated count s =
    record { ticks = capped (count * s.ticks); idle = s.idle || (ltb 0 count && eqb s.ticks 0); bad = s.bad }

-- some line from i on and before j passes the test
unfoldable pub some_in : (ℕ → Bool) → ℕ → ℕ → Bool
some_in f i j = some_before (λ k. leb i k && f k) j

-- the sum of the run of lines from i to before j
unfoldable pub sum_of : List ℕ → ℕ → ℕ → Sum
sum_of p i j =
    record { ticks = capped (run_ticks p i j); idle = some_in (idles_at p) i j; bad = some_in (λ k. is_bad (line_at p k)) i j }

-- what is told of a program whose lines before its end have this sum, its loops being nested and ended: the last refusals of the report, or
-- its ticks
unfoldable pub told_of : Sum → Res ℕ
told_of s = do
  not s.idle or_else 44
  not s.bad or_else 14
  leb s.ticks most_ticks or_else 43
  passed s.ticks

-- the loops in a run of lines end in it, each inside those around it
pub record Nests (p : List ℕ) (i j : ℕ) : Type 0 where
  pub closed : (k : ℕ) → i ≤ k → k < j → next_of p k < j
  pub nested : (k m : ℕ) → i ≤ k → k < j → k < m → m < next_of p k → next_of p m < next_of p k
