-- Texts that are read by computing, and what comes of each.
-- Assumes nothing.
use mathlib.Core.Path.{◌≡◌, refl}
use Prim.Native.Nat.{ℕ, zero, suc, ◌/◌, ◌-◌}
use mathlib.Core.List.{List, [], ◌∷◌, ◌++◌, map}
use lib.ListN.{length, drop}
use Rattle.std.specs.Prelude.{Option, None, Some, if◌then◌else◌}
use Rattle.formats.specs.Checks.{same, text}
use Rattle.plantext.specs.declared.Fault.{Fault}
use Rattle.plantext.specs.declared.Fault.TheVariants.{NoWord, NoSettling, NoReadingWord, NoReading, SettlingMissing, ReadingWordMissing, ReadingMissing, Behind}
use Rattle.plantext.specs.declared.Reader.{Reader}
use Rattle.plantext.specs.Text.{hex_value}
use Rattle.plantext.specs.Reading.{grown, character, put, field_end, closed, hash, letter, line_end, resolved, byte_after, step, fed, ended, reader_of}

-- The digits of either case, and their neighbours among the characters.
pub digits_valued : map hex_value (text "0123456789ABCDEFabcdef/:@G`g")
    ≡ 0 ∷ 1 ∷ 2 ∷ 3 ∷ 4 ∷ 5 ∷ 6 ∷ 7 ∷ 8 ∷ 9 ∷ 10 ∷ 11 ∷ 12 ∷ 13 ∷ 14 ∷ 15 ∷ 10 ∷ 11 ∷ 12 ∷ 13 ∷ 14 ∷ 15 ∷ 16 ∷ 16 ∷ 16 ∷ 16 ∷ 16 ∷ 16 ∷ []
unfolding text hex_value
digits_valued = refl

-- ---- texts

infix 70 ◌gives◌
pub data Example : Type 0 where
  ◌gives◌ : List ℕ → List ℕ → Example

abbrev pub lf : List ℕ
lf = 10 ∷ []

abbrev pub cr : List ℕ
cr = 13 ∷ []

abbrev pub tab : List ℕ
tab = 9 ∷ []

-- the faults, in the order of the fields of a line
abbrev pub place_among : Fault → ℕ
place_among NoWord = 1
place_among NoSettling = 2
place_among NoReadingWord = 3
place_among NoReading = 4
place_among SettlingMissing = 5
place_among ReadingWordMissing = 6
place_among ReadingMissing = 7
place_among Behind = 8

-- what is seen of the reader at the end: the fault, by its place among the faults, and its line; or 0, the number of moves, and the numbers of the last
abbrev pub seen : Reader → List ℕ
seen r = seen_as r.fault
  where
    seen_as : Option Fault → List ℕ
    seen_as None = 0 ∷ length r.numbers.items / 4 ∷ drop (length r.numbers.items - 4) r.numbers.items
    seen_as (Some e) = place_among e ∷ r.line ∷ []

-- n lines of one kind
unfoldable pub times : ℕ → List ℕ → List ℕ
times zero l = []
times (suc n) l = l ++ times n l

abbrev pub examples : List Example
examples =
    [] gives (0 ∷ 0 ∷ [])
    ∷ (lf ++ text " # a remark" ++ tab ++ cr ++ lf) gives (0 ∷ 0 ∷ [])
    ∷ text "00000001 50 00000000 100" gives (0 ∷ 1 ∷ 1 ∷ 50 ∷ 0 ∷ 100 ∷ [])
    -- two moves, with a remark, an empty line, blanks, a tab, both line ends, both cases, zeros in front, and a time that is too large
    ∷ (text "# port" ++ lf ++ text "00000001 50 00000000 100" ++ cr ++ lf ++ lf ++ text " abcdef09 007" ++ tab ++ text "FFFFffff  4294967296 # back")
    gives (0 ∷ 2 ∷ 2882400009 ∷ 7 ∷ 4294967295 ∷ 4294967295 ∷ [])
    -- 17 stands for every larger number
    ∷ times 17 (text "00000001 1 00000000 2" ++ lf) gives (0 ∷ 17 ∷ 1 ∷ 1 ∷ 0 ∷ 2 ∷ [])
    ∷ (times 17 (text "00000001 1 00000000 2#" ++ lf) ++ text "00000003 3 00000000 3") gives (0 ∷ 17 ∷ 1 ∷ 1 ∷ 0 ∷ 2 ∷ [])
    -- each of the faults
    ∷ text "1" gives (1 ∷ 1 ∷ [])
    ∷ text "0000000G 1 00000000 1" gives (1 ∷ 1 ∷ [])
    ∷ text "000000012 1 00000000 1" gives (1 ∷ 1 ∷ [])
    ∷ (lf ++ text "00000001 -1 00000000 1") gives (2 ∷ 2 ∷ [])
    ∷ (text "#" ++ lf ++ cr ++ lf ++ text "00000001 1 0000000 1") gives (3 ∷ 3 ∷ [])
    ∷ text "00000001 1 00000000 1.5" gives (4 ∷ 1 ∷ [])
    ∷ text "00000001 #" gives (5 ∷ 1 ∷ [])
    ∷ (text "00000001 1" ++ cr ++ lf) gives (6 ∷ 1 ∷ [])
    ∷ text "00000001 1 00000000" gives (7 ∷ 1 ∷ [])
    ∷ text "00000001 1 00000000 1 1" gives (8 ∷ 1 ∷ [])
    -- of several the first from the left, and from above
    ∷ (text "00000001 x 0" ++ lf ++ text "0") gives (2 ∷ 1 ∷ [])
    -- on a later line
    ∷ (times 12 (text "#" ++ lf) ++ text "2") gives (1 ∷ 13 ∷ [])
    -- a vertical tab is no blank
    ∷ (text "00000001 1 00000000 1 " ++ (11 ∷ [])) gives (8 ∷ 1 ∷ [])
    -- a CR that no LF follows
    ∷ cr gives (1 ∷ 1 ∷ [])
    ∷ (text "00000001 1 00000000 1" ++ cr) gives (4 ∷ 1 ∷ [])
    ∷ (text "00000001 1 00000000 1 " ++ cr) gives (8 ∷ 1 ∷ [])
    ∷ (text "00000001 1 00000000 1 " ++ cr ++ cr ++ lf) gives (8 ∷ 1 ∷ [])
    ∷ (text "00000001 1 00000000 1#" ++ cr) gives (0 ∷ 1 ∷ 1 ∷ 1 ∷ 0 ∷ 1 ∷ [])
    ∷ []

-- the numbers of those of which something else comes, from n on
abbrev pub failing : ℕ → List Example → List ℕ
failing n [] = []
failing n (t gives s ∷ more) = if same (seen (reader_of t)) s then failing (suc n) more else n ∷ failing (suc n) more

-- None does.
pub examples_pass : failing 1 examples ≡ []
unfolding text times hex_value grown character put field_end closed hash letter line_end resolved byte_after step fed ended reader_of
examples_pass = refl
