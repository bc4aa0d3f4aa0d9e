-- How many ticks lines take.
-- 02, item 6: "A run of lines is summed; a loop is its count times the run of lines inside it."
use Rattle.std.specs.Prelude.{ℕ, zero, suc, ◌+◌, ◌*◌, Bool, false, true, ◌&&◌, List, ltb, eqb}
use Rattle.lines.specs.declared.Line.{Line}
use Rattle.lines.specs.declared.Line.TheVariants.{State, For, Next, Bad}
use Rattle.lines.specs.Line.{is_bad}
use Rattle.lines.specs.Program.{line_at}
use Rattle.lines.specs.Searches.{some_before}
use Rattle.lines.specs.Loops.{next_of}

-- what a line takes: a State its time, a For what its loop takes, if the run of lines inside it takes `body`; any other nothing
abbrev pub line_ticks : Line → ℕ → ℕ
line_ticks (State outputs time) body = time
line_ticks (For counter count) body = count * body
line_ticks (Next counter) body = 0
line_ticks Bad body = 0

-- behind line k comes the line after it, or after the Next of its loop
abbrev pub line_after : Line → ℕ → ℕ → ℕ
line_after (State outputs time) k next = k + 1
line_after (For counter count) k next = next + 1
line_after (Next counter) k next = k + 1
line_after Bad k next = k + 1

-- the line that comes next in a run of lines: that after the Next, where a loop begins on line k
unfoldable pub past : List ℕ → ℕ → ℕ
past p k = line_after (line_at p k) k (next_of p k)

-- The ticks of the run of lines from i to before j. Each step goes on to a later line, so that 200 of them are enough (`run_enough`).
unfoldable pub summed : ℕ → List ℕ → ℕ → ℕ → ℕ
summed zero p i j = 0
summed (suc steps) p i j =
    elim (ltb i j) [
      | true ↦ line_ticks (line_at p i) (summed steps p (i + 1) (next_of p i)) + summed steps p (past p i) j
      | false ↦ 0
    ]

unfoldable pub run_ticks : List ℕ → ℕ → ℕ → ℕ
run_ticks p i j = summed 200 p i j

-- ---- what is wrong with lines before the end

abbrev pub is_idle : Line → ℕ → Bool
is_idle (State outputs time) body = false
is_idle (For counter count) body = ltb 0 count && eqb body 0
is_idle (Next counter) body = false
is_idle Bad body = false

-- "a loop with count above 0 whose body takes 0 ticks" begins on line k
unfoldable pub idles_at : List ℕ → ℕ → Bool
idles_at p k = is_idle (line_at p k) (run_ticks p (k + 1) (next_of p k))

-- 044, where e is the first line that is a State with time 0
unfoldable pub idles : List ℕ → ℕ → Bool
idles p e = some_before (idles_at p) e

-- 014: "a Bad line before it"
unfoldable pub has_bad : List ℕ → ℕ → Bool
has_bad p e = some_before (λ k. is_bad (line_at p k)) e
