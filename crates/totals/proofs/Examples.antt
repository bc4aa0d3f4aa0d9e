-- The table, the refusals and the messages, computed.
-- Assumes nothing.
use Prim.Native.Nat.{ℕ, zero, suc, ◌+◌}
use mathlib.Core.Bool.{true, false}
use mathlib.Core.List.{List, [], ◌∷◌, ◌++◌}
use mathlib.Core.Path.{◌≡◌, refl}
use Rattle.formats.specs.Checks.{refused, text}
use Rattle.formats.specs.Digits.{digits, shown, width, number_after, error_text}
use Rattle.reader.specs.Layout.{record_in}
use Rattle.channels.specs.declared.Channel.{Channel}
use Rattle.channels.specs.declared.Beside.{Beside}
use Rattle.channels.specs.Bringing.{bring_all, totals_of}
use Rattle.totals.specs.Telling.{line_end, line_of, unknown_line, table_from, table_of, refusal_line, told_of}
use Rattle.totals.specs.Telling.{name_text, tick_text, word_text, reason_text, message_of}

-- ---- the table

-- without a log all numbers are 0
zeros : List ℕ
zeros =
    text "1 0 0 0" ++ (10 ∷ text "2 0 0 0") ++ (10 ∷ text "3 0 0 0") ++ (10 ∷ text "4 0 0 0") ++ (10 ∷ text "5 0 0 0") ++ (10 ∷ text "6 0 0 0")
    ++ (10 ∷ text "7 0 0 0") ++ (10 ∷ text "8 0 0 0") ++ (10 ∷ text "9 0 0 0") ++ (10 ∷ text "10 0 0 0") ++ (10 ∷ text "11 0 0 0")
    ++ (10 ∷ text "12 0 0 0") ++ (10 ∷ text "13 0 0 0") ++ (10 ∷ text "14 0 0 0") ++ (10 ∷ text "15 0 0 0") ++ (10 ∷ text "16 0 0 0")
    ++ (10 ∷ text "17 0 0 0") ++ (10 ∷ text "18 0 0 0") ++ (10 ∷ text "19 0 0 0") ++ (10 ∷ text "20 0 0 0") ++ (10 ∷ text "21 0 0 0")
    ++ (10 ∷ text "22 0 0 0") ++ (10 ∷ text "23 0 0 0") ++ (10 ∷ text "24 0 0 0") ++ (10 ∷ text "25 0 0 0") ++ (10 ∷ text "26 0 0 0")
    ++ (10 ∷ text "27 0 0 0") ++ (10 ∷ text "28 0 0 0") ++ (10 ∷ text "29 0 0 0") ++ (10 ∷ text "30 0 0 0") ++ (10 ∷ text "31 0 0 0")
    ++ (10 ∷ text "32 0 0 0") ++ (10 ∷ text "unknown 0") ++ line_end

no_logs : told_of (totals_of []) ≡ zeros
unfolding zeros line_of unknown_line table_from bring_all text digits shown width
no_logs = refl

-- each of the 96 numbers in its place, and the number unknown behind them
numbered : ℕ → ℕ → List Channel
numbered zero i = []
numbered (suc n) i = record { closings = 100 + i; openings = 200 + i; ticks = 300 + i } ∷ numbered n (i + 1)

table : List ℕ
table =
    text "1 100 200 300" ++ (10 ∷ text "2 101 201 301") ++ (10 ∷ text "3 102 202 302") ++ (10 ∷ text "4 103 203 303") ++ (10 ∷ text "5 104 204 304")
    ++ (10 ∷ text "6 105 205 305") ++ (10 ∷ text "7 106 206 306") ++ (10 ∷ text "8 107 207 307") ++ (10 ∷ text "9 108 208 308")
    ++ (10 ∷ text "10 109 209 309") ++ (10 ∷ text "11 110 210 310") ++ (10 ∷ text "12 111 211 311") ++ (10 ∷ text "13 112 212 312")
    ++ (10 ∷ text "14 113 213 313") ++ (10 ∷ text "15 114 214 314") ++ (10 ∷ text "16 115 215 315") ++ (10 ∷ text "17 116 216 316")
    ++ (10 ∷ text "18 117 217 317") ++ (10 ∷ text "19 118 218 318") ++ (10 ∷ text "20 119 219 319") ++ (10 ∷ text "21 120 220 320")
    ++ (10 ∷ text "22 121 221 321") ++ (10 ∷ text "23 122 222 322") ++ (10 ∷ text "24 123 223 323") ++ (10 ∷ text "25 124 224 324")
    ++ (10 ∷ text "26 125 225 325") ++ (10 ∷ text "27 126 226 326") ++ (10 ∷ text "28 127 227 327") ++ (10 ∷ text "29 128 228 328")
    ++ (10 ∷ text "30 129 229 329") ++ (10 ∷ text "31 130 230 330") ++ (10 ∷ text "32 131 231 331") ++ (10 ∷ text "unknown 7 or more") ++ line_end

table_told : table_of (numbered 32 0) (record { tick = 0; word = 0; unknown = 7; more = true }) ≡ table
unfolding table numbered line_of unknown_line table_from text digits shown width
table_told = refl

-- the largest numbers
lines_told : (line_of 0 (record { closings = 3; openings = 2; ticks = 125 }) ≡ text "1 3 2 125" ++ line_end)
    × (line_of 31 (record { closings = 18446744073709551615; openings = 18446744073709551614; ticks = 10 })
    ≡ text "32 18446744073709551615 18446744073709551614 10" ++ line_end)
unfolding line_of text digits shown width
lines_told = (refl, refl)

unknown_told : (unknown_line (record { tick = 9; word = 5; unknown = 17; more = false }) ≡ text "unknown 17" ++ line_end)
    × (unknown_line (record { tick = 9; word = 5; unknown = 4294967300; more = true }) ≡ text "unknown 4294967300 or more" ++ line_end)
unfolding unknown_line text digits shown width
unknown_told = (refl, refl)

-- ---- a refusal

refusals_told : (told_of (refused 52) ≡ text "E052" ++ line_end) × (told_of (refused 74) ≡ text "E074" ++ line_end)
unfolding refusal_line error_text text digits shown
refusals_told = (refl, refl)

-- ---- the messages

-- a log whose only record is at tick 15, with the word 1 before it
log : List ℕ
log = 0x1E ∷ 0xE2 ∷ 1 ∷ 255 ∷ 0 ∷ 0 ∷ 0 ∷ 15 ∷ 0 ∷ 0 ∷ 0 ∷ 3 ∷ 0 ∷ 0 ∷ 0 ∷ 1 ∷ []

-- behind a record at tick 16 that left the word 5
beside : Beside
beside = record { tick = 16; word = 5; unknown = 0; more = false }

messages_told :
    (message_of (text "b.log") 72 beside log ≡ text "'b.log' is refused with E072: expected a first tick of 16 or later, found 15" ++ line_end)
    × (message_of (text "b.log") 73 beside log
    ≡ text "'b.log' is refused with E073: expected 00000005 as the first earlier word, found 00000001" ++ line_end)
    × (message_of (text "b.log") 52 beside log ≡ text "'b.log' is refused with E052" ++ line_end)
    × (message_of (text "-") 52 beside log ≡ text "standard input is refused with E052" ++ line_end)
    × (message_of (text "./-") 50 beside [] ≡ text "'./-' is refused with E050" ++ line_end)
unfolding log beside message_of name_text reason_text tick_text word_text error_text record_in text digits shown width number_after
messages_told = (refl, refl, refl, refl, refl)
