-- What the program tells of a plan.
-- 02, item 10, asks for a plan and its program. What is told of it, for the program `plan`: "one line for each move with the ticks at which its settling and
-- its reading begin and end, in ticks and in minutes and seconds, and the total: the table that the person at the trough lamps wants". 02, item 1: "a
-- refusal is printed as E and three digits, here and later."
use Rattle.std.specs.Prelude.{ℕ, ◌+◌, ◌/◌, ◌%◌, Bool, List, [], ◌∷◌, ◌++◌, replicate}
use Rattle.std.specs.Prelude.{if◌then◌else◌}
use Rattle.formats.specs.Checks.{Res, refused, passed, text}
use Rattle.formats.specs.Digits.{shown, decimal, error_text}
use Rattle.planner.specs.declared.Move.{Move}
use Rattle.planner.specs.Plan.{moves_of}
use Rattle.planner.specs.Planned.{planned}
use Rattle.plantext.specs.declared.Fault.{Fault}
use Rattle.plantext.specs.declared.Fault.TheVariants.{NoWord, NoSettling, NoReadingWord, NoReading, SettlingMissing, ReadingWordMissing, ReadingMissing, Behind}

abbrev pub line_end : List ℕ
line_end = 10 ∷ []

-- ---- the table

-- "in minutes and seconds": minutes, seconds and the tenth that a tick is
unfoldable pub clock : ℕ → List ℕ
clock n = decimal (n / 600) ++ (text ":" ++ (shown 10 2 (n / 10 % 60) ++ (text "." ++ shown 10 1 (n % 10))))

-- "the ticks at which its settling and its reading begin and end"
unfoldable pub ticks : ℕ → ℕ → List ℕ
ticks from to = decimal from ++ (text " to " ++ decimal to)

-- the same "in minutes and seconds"
unfoldable pub clocks : ℕ → ℕ → List ℕ
clocks from to = text " (" ++ (clock from ++ (text " to " ++ (clock to ++ text ")")))

-- the word that the outputs have from tick `from` up to, and not with, tick `to`, and what is done then
unfoldable pub stretch : ℕ → List ℕ → ℕ → ℕ → List ℕ
stretch word what from to = shown 16 8 word ++ (what ++ (ticks from to ++ clocks from to))

-- a move that begins at tick `at`, and its number, the first being 0 here and 01 in the table: it settles, then it is read
unfoldable pub move_line : ℕ → ℕ → Move → List ℕ
move_line k at m =
    text "move " ++ (shown 10 2 (k + 1) ++ (text ": "
    ++ (stretch m.moveword (text " settling ") at (at + m.settling) ++ (text ", "
    ++ (stretch m.readingword (text " reading ") (at + m.settling) (at + m.settling + m.reading) ++ line_end)))))

-- "and the total"
unfoldable pub total_line : ℕ → List ℕ
total_line at = text "total: " ++ (decimal at ++ (text " (" ++ (clock at ++ (text ")" ++ line_end))))

-- the lines of the moves from number k on, which begin at tick `at`, and the total
unfoldable pub table_from : ℕ → ℕ → List Move → List ℕ
table_from k at [] = total_line at
table_from k at (m ∷ ms) = move_line k at m ++ table_from (k + 1) (at + m.settling + m.reading) ms

abbrev pub table : List Move → List ℕ
table ms = table_from 0 0 ms

-- ---- a plan

-- the area that the program lends: a program's 1,600 bytes
abbrev pub zeros : List ℕ
zeros = replicate 1600 0

-- what comes of the moves: a refusal is told alone, whether the table is asked for or not
abbrev pub told_of : Bool → List Move → Res (List ℕ) → List ℕ
told_of check ms (refused e) = error_text e ++ line_end
told_of check ms (passed program) = if check then table ms else program

-- what is told of a plan that was read as numbers, four for each move: the bytes of its program, or with --check its table
unfoldable pub told : Bool → List ℕ → List ℕ
told check ns = told_of check (moves_of ns) (planned ns zeros)

-- ---- a text that is no plan

-- docs/programs/plan.md, 'Refusals'
unfoldable pub fault_text : Fault → List ℕ
fault_text NoWord = text "the word of the move is not eight hex digits"
fault_text NoSettling = text "the settling time is not a decimal number"
fault_text NoReadingWord = text "the word of the reading is not eight hex digits"
fault_text NoReading = text "the reading time is not a decimal number"
fault_text SettlingMissing = text "the settling time is missing"
fault_text ReadingWordMissing = text "the word of the reading is missing"
fault_text ReadingMissing = text "the reading time is missing"
fault_text Behind = text "something stands behind the reading time"

-- how a move is written
unfoldable pub move_form : List ℕ
move_form = text "a move is WORD SETTLING WORD READING: words of eight hex digits, times in decimal ticks"

-- on standard error, the line and its fault, and behind it how a move is written
unfoldable pub fault_lines : ℕ → Fault → List ℕ
fault_lines line e = text "line " ++ (decimal line ++ (text ": " ++ (fault_text e ++ (line_end ++ (move_form ++ line_end)))))
