-- Eight bytes as a line, and a line as eight bytes.
-- 01, 'Variables': "A line is 8 bytes. [...] Times and counts are at most 9999." 02, item 4: "Reading eight bytes now answers State, For, Next or Bad".
use Rattle.std.specs.Prelude.{ℕ, ◌^◌, ◌≤◌, ◌<◌, Bool, true, false, ◌&&◌, List, ◌∷◌, ◌++◌, get_or, replicate, leb, eqb}
use Rattle.std.specs.Prelude.{if◌then◌else◌, Option, Some, None}
use Rattle.formats.specs.Bytes.{field, bytes}
use Rattle.lines.specs.declared.Line.{Line}
use Rattle.lines.specs.declared.Line.TheVariants.{State, For, Next, Bad}

-- the end mark with outputs 0
abbrev pub end_mark : Line
end_mark = State 0 0

-- a loop counter is 1 to 4
abbrev pub is_counter : ℕ → Bool
is_counter c = leb 1 c && leb c 4

-- "State: 53 00 X4 X3 X2 X1 and the time, high byte first."
abbrev pub says_state : List ℕ → Bool
says_state bs = eqb (get_or bs 0 0) 0x53 && eqb (get_or bs 1 0) 0 && leb (field 6 2 bs) 9999

-- "For: 46, counter, count high byte first, four zeros."
abbrev pub says_for : List ℕ → Bool
says_for bs = eqb (get_or bs 0 0) 0x46 && is_counter (get_or bs 1 0) && leb (field 2 2 bs) 9999 && eqb (field 4 4 bs) 0

-- "Next: 4E, counter, six zeros."
abbrev pub says_next : List ℕ → Bool
says_next bs = eqb (get_or bs 0 0) 0x4E && is_counter (get_or bs 1 0) && eqb (field 2 6 bs) 0

-- The line that the first eight bytes say: Bad, where they are none of these.
unfoldable pub read_line : List ℕ → Line
read_line bs =
    if says_state bs then State (field 2 4 bs) (field 6 2 bs)
    else if says_for bs then For (get_or bs 1 0) (field 2 2 bs)
    else if says_next bs then Next (get_or bs 1 0)
    else Bad

-- ---- which line it is

-- the end mark: "State with time 0"
abbrev pub is_end : Line → Bool
is_end (State outputs time) = eqb time 0
is_end (For counter count) = false
is_end (Next counter) = false
is_end Bad = false

abbrev pub is_for : Line → Bool
is_for (State outputs time) = false
is_for (For counter count) = true
is_for (Next counter) = false
is_for Bad = false

abbrev pub is_next : Line → Bool
is_next (State outputs time) = false
is_next (For counter count) = false
is_next (Next counter) = true
is_next Bad = false

abbrev pub is_bad : Line → Bool
is_bad (State outputs time) = false
is_bad (For counter count) = false
is_bad (Next counter) = false
is_bad Bad = true

-- the counter of a For, 0 of any other line
abbrev pub for_counter : Line → ℕ
for_counter (State outputs time) = 0
for_counter (For counter count) = counter
for_counter (Next counter) = 0
for_counter Bad = 0

-- the counter that a For or a Next names, 0 of any other line
abbrev pub counter_of : Line → ℕ
counter_of (State outputs time) = 0
counter_of (For counter count) = counter
counter_of (Next counter) = counter
counter_of Bad = 0

-- the same, if there is one: the code answers so
abbrev pub for_counter_in : Line → Option ℕ
for_counter_in (State outputs time) = None
for_counter_in (For counter count) = Some counter
for_counter_in (Next counter) = None
for_counter_in Bad = None

abbrev pub counter_in : Line → Option ℕ
counter_in (State outputs time) = None
counter_in (For counter count) = Some counter
counter_in (Next counter) = Some counter
counter_in Bad = None

-- the count of a For, 0 of any other line
abbrev pub count_of : Line → ℕ
count_of (State outputs time) = 0
count_of (For counter count) = count
count_of (Next counter) = 0
count_of Bad = 0

-- ---- what it does, and its bytes

-- the outputs after a line that is executed, where o stood before: a State sets its own, any other leaves them
abbrev pub set_by : Line → ℕ → ℕ
set_by (State outputs time) o = outputs
set_by (For counter count) o = o
set_by (Next counter) o = o
set_by Bad o = o

-- The eight bytes of a line. No Bad line is ever written (`texts/Texts.never_bad`); what stands for one here are eight bytes that are Bad.
unfoldable pub bytes_of : Line → List ℕ
bytes_of (State outputs time) = 0x53 ∷ 0 ∷ (bytes 4 outputs ++ bytes 2 time)
bytes_of (For counter count) = 0x46 ∷ counter ∷ (bytes 2 count ++ replicate 4 0)
bytes_of (Next counter) = 0x4E ∷ counter ∷ replicate 6 0
bytes_of Bad = replicate 8 0

-- "loop counter not 1-4"
abbrev pub OneToFour : ℕ → Type 0
OneToFour c = (1 ≤ c) × (c ≤ 4)

-- "Times and counts are at most 9999", "loop counter [...] 1-4"
abbrev pub Ranges : Line → Type 0
Ranges (State outputs time) = time ≤ 9999
Ranges (For counter count) = OneToFour counter × (count ≤ 9999)
Ranges (Next counter) = OneToFour counter
Ranges Bad = Unit {0}

-- the values that the wire and the eight bytes can hold; a Bad line has none
abbrev pub Fits : Line → Type 0
Fits (State outputs time) = (outputs < 256 ^ 4) × (time ≤ 9999)
Fits (For counter count) = OneToFour counter × (count ≤ 9999)
Fits (Next counter) = OneToFour counter
Fits Bad = ⊥
