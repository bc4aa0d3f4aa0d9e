-- The report: how many ticks a program takes, or why that is not told.
-- 02, item 6: "the exact number of unpaused ticks from a start at line 000 to event 011", "Refusals, first that applies".
use Rattle.std.specs.Prelude.{ℕ, ◌+◌, min, not, List, ltb, leb}
use Rattle.formats.specs.Checks.{Res, passed, ◌>>◌, ◌or_else◌}
use Rattle.lines.specs.Program.{is_program}
use Rattle.lines.specs.Loops.{end_line}
use Rattle.duration.specs.Loops.{is_tangled, ends_inside}
use Rattle.duration.specs.Ticks.{run_ticks, idles, has_bad}

-- 043: "more than 9,999,999,999 ticks"
abbrev pub most_ticks : ℕ
most_ticks = 9999999999

-- A number as it is summed up to: one more than the most that is told stands for any number above it.
unfoldable pub capped_at : ℕ → ℕ → ℕ
capped_at most n = min n (most + 1)

-- a program of 1,600 bytes whose first State with time 0 is line e, 200 where it has none; the refusals in their order
unfoldable pub report_to : List ℕ → ℕ → Res ℕ
report_to p e = do
  ltb e 200 or_else 42
  not (is_tangled p e) or_else 40
  not (ends_inside p e) or_else 41
  not (idles p e) or_else 44
  not (has_bad p e) or_else 14
  leb (run_ticks p 0 e) most_ticks or_else 43
  passed (run_ticks p 0 e)

-- "030 a program not of 1,600 bytes"
unfoldable pub report : List ℕ → Res ℕ
report p = do
  is_program p or_else 30
  report_to p (end_line p)
