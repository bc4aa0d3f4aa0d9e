-- The program of a plan: 200 lines, and their bytes.
-- 02, item 10: "It writes the 200 program lines: long times become a For, State, Next and a remainder, and a last end mark with all outputs off; lines
-- after that are end marks."
use Rattle.std.specs.Prelude.{ℕ, ◌*◌, ◌-◌, ◌/◌, ◌%◌, List, [], ◌∷◌, ◌++◌, length, replicate, leb, eqb}
use Rattle.std.specs.Prelude.{if◌then◌else◌}
use Rattle.formats.specs.Writing.{Wrote}
use Rattle.lines.specs.declared.Line.{Line}
use Rattle.lines.specs.declared.Line.TheVariants.{State, For, Next}
use Rattle.lines.specs.Line.{end_mark, bytes_of}
use Rattle.planner.specs.declared.Move.{Move}

-- the longest time of a State line
abbrev pub longest : ℕ
longest = 9999

-- the counter of every loop: they stand one behind the other, so that one is enough
abbrev pub loop_counter : ℕ
loop_counter = 1

-- a loop of States of the longest time
unfoldable pub loop_lines : ℕ → ℕ → List Line
loop_lines word turns = For loop_counter turns ∷ State word longest ∷ Next loop_counter ∷ []

-- what is left of a long time behind its loop; nothing, where the loop takes all of it
unfoldable pub remainder : ℕ → ℕ → List Line
remainder word rest = if eqb rest 0 then [] else State word rest ∷ []

-- The lines that have the outputs stand at a word for some ticks: one State, or "a For, State, Next and a remainder".
unfoldable pub lines_for : ℕ → ℕ → List Line
lines_for word time =
    if leb time longest then State word time ∷ []
    else loop_lines word (time / longest) ++ remainder word (time % longest)

unfoldable pub move_lines : Move → List Line
move_lines m = lines_for m.moveword m.settling ++ lines_for m.readingword m.reading

-- those of all moves, one behind the other
unfoldable pub plan_lines : List Move → List Line
plan_lines [] = []
plan_lines (m ∷ ms) = move_lines m ++ plan_lines ms

-- "a last end mark with all outputs off; lines after that are end marks": 200 lines in all
unfoldable pub program_lines : List Move → List Line
program_lines ms = plan_lines ms ++ replicate (200 - length (plan_lines ms)) end_mark

-- the bytes of lines, one line behind the other
unfoldable pub laid : List Line → List ℕ
laid [] = []
laid (l ∷ ls) = bytes_of l ++ laid ls

unfoldable pub program_of : List Move → List ℕ
program_of ms = laid (program_lines ms)

-- Lines were written from line `at` on, and every other byte of the program stays; `next` is the line behind them. (How the code goes about it: nobody
-- has to believe this.)
pub record Lays (at : ℕ) (ls : List Line) (before : List ℕ) (next : ℕ) (after : List ℕ) : Type 0 where
  pub wrote : Wrote (8 * at) (laid ls) before (8 * next) after
