-- The table of a plan, the refusals and the messages, computed.
-- Assumes nothing.
use Prim.Native.Nat.{ℕ}
use mathlib.Core.Bool.{true, false}
use mathlib.Core.List.{List, [], ◌∷◌, ◌++◌}
use mathlib.Core.Path.{◌≡◌, refl}
use Rattle.formats.specs.Checks.{text, ◌>>◌, ◌or_else◌}
use Rattle.formats.specs.Digits.{digits, shown, width, error_text}
use Rattle.planner.specs.Plan.{moves_of}
use Rattle.planner.specs.Planned.{planned}
use Rattle.plantext.specs.declared.Fault.TheVariants.{NoWord, Behind}
use Rattle.plan.specs.Telling.{line_end, clock, ticks, clocks, stretch, move_line, total_line, table_from, told, fault_text, move_form, fault_lines}

-- ---- minutes and seconds

clocks_hold : (clock 0 ≡ text "0:00.0") × (clock 599 ≡ text "0:59.9") × (clock 600 ≡ text "1:00.0") × (clock 35999 ≡ text "59:59.9")
    × (clock 36000 ≡ text "60:00.0") × (clock 19200000 ≡ text "32000:00.0")
unfolding clock text digits shown width
clocks_hold = (refl, refl, refl, refl, refl, refl)

-- ---- the table

-- two moves: the ship settles for a minute and is read for half of one; then the longest time, and the shortest
plan : List ℕ
plan = 0x80000001 ∷ 600 ∷ 0x000A00FF ∷ 300 ∷ 0 ∷ 600000 ∷ 0xFFFFFFFF ∷ 1 ∷ []

table_told : told true plan
    ≡ text "move 01: 80000001 settling 0 to 600 (0:00.0 to 1:00.0), 000A00FF reading 600 to 900 (1:00.0 to 1:30.0)" ++ (10
    ∷ (text "move 02: 00000000 settling 900 to 600900 (1:30.0 to 1001:30.0), FFFFFFFF reading 600900 to 600901 (1001:30.0 to 1001:30.1)" ++ (10
    ∷ (text "total: 600901 (1001:30.1)" ++ line_end))))
unfolding plan told clock ticks clocks stretch move_line total_line table_from text digits shown width planned moves_of ◌>>◌ ◌or_else◌
table_told = refl

-- ---- the refusals, with --check and without

no_moves : (told false [] ≡ text "E070" ++ line_end) × (told true [] ≡ text "E070" ++ line_end)
unfolding told planned moves_of ◌>>◌ ◌or_else◌ error_text text digits shown
no_moves = (refl, refl)

no_time : (told false (1 ∷ 0 ∷ 1 ∷ 5 ∷ []) ≡ text "E071" ++ line_end) × (told true (1 ∷ 5 ∷ 1 ∷ 600001 ∷ []) ≡ text "E071" ++ line_end)
unfolding told planned moves_of ◌>>◌ ◌or_else◌ error_text text digits shown
no_time = (refl, refl)

-- ---- the messages

messages_told : (fault_lines 1 NoWord
    ≡ text "line 1: the word of the move is not eight hex digits" ++ (10
    ∷ (text "a move is WORD SETTLING WORD READING: words of eight hex digits, times in decimal ticks" ++ line_end)))
    × (fault_lines 1200 Behind
    ≡ text "line 1200: something stands behind the reading time" ++ (10
    ∷ (text "a move is WORD SETTLING WORD READING: words of eight hex digits, times in decimal ticks" ++ line_end)))
unfolding fault_lines fault_text move_form text digits shown width
messages_told = (refl, refl)
