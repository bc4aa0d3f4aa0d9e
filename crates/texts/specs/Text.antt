-- A line on the wire.
-- 01, 'Variables': "Wire forms: `S 00 X4 X3 X2 X1 TTTT`, `F C XXXX`, `N C`."
use Rattle.std.specs.Prelude.{◌≡◌, ◌≢◌, ℕ, List, [], ◌++◌, length, get_or, ltb, eqb}
use Prim.Native.Char.{code}
use Rattle.std.specs.Prelude.{if◌then◌else◌}
use Rattle.formats.specs.Checks.{Res, passed, ◌>>=◌, ◌>>◌, ◌or_else◌, text}
use Rattle.formats.specs.Digits.{shown, number_in}
use Rattle.lines.specs.declared.Line.{Line}
use Rattle.lines.specs.declared.Line.TheVariants.{State, For, Next, Bad}
use Rattle.formats.specs.Bytes.{part}
use Rattle.lines.specs.Line.{is_counter, Fits}

-- A Bad line has no characters: no reply shows one (02, item 4: it is answered with E024).
unfoldable pub line_text : Line → List ℕ
line_text (State outputs time) = text "S00" ++ (shown 16 8 outputs ++ shown 10 4 time)
line_text (For counter count) = text "F" ++ (shown 10 1 counter ++ shown 10 4 count)
line_text (Next counter) = text "N" ++ shown 10 1 counter
line_text Bad = []

-- 01, check 5: "the first data letter sets the length: S 15, F 6, N 2 characters"; 0 for any other first character
abbrev pub line_length : ℕ → ℕ
line_length c = if eqb c (code "S") then 15 else if eqb c (code "F") then 6 else if eqb c (code "N") then 2 else 0

-- 01, check 6: "Data not in its format, [...] reserved digits not 00, or loop counter not 1-4: E003."
unfoldable pub counter_in : List ℕ → Res ℕ
counter_in cs = do
  c ← number_in 10 3 cs
  is_counter c or_else 3
  passed c

unfoldable pub state_in : List ℕ → Res Line
state_in cs = do
  reserved ← number_in 10 3 (part 1 2 cs)
  eqb reserved 0 or_else 3
  outputs ← number_in 16 3 (part 3 8 cs)
  time ← number_in 10 3 (part 11 4 cs)
  passed (State outputs time)

unfoldable pub for_in : List ℕ → Res Line
for_in cs = do
  counter ← counter_in (part 1 1 cs)
  count ← number_in 10 3 (part 2 4 cs)
  passed (For counter count)

unfoldable pub next_in : List ℕ → Res Line
next_in cs = do
  counter ← counter_in (part 1 1 cs)
  passed (Next counter)

-- 01, checks 5 and 6 for a line: "No data is E002; any other first character is E003", characters left over or missing E002,
-- and then the format.
unfoldable pub line_in : List ℕ → Res Line
line_in cs =
    let first = get_or cs 0 0 in do
      ltb 0 (length cs) or_else 2
      ltb 0 (line_length first) or_else 3
      eqb (length cs) (line_length first) or_else 2
      if eqb first (code "S") then state_in cs else if eqb first (code "F") then for_in cs else next_in cs

-- the line is shown by these characters, and its values fit
pub record Sent (cs : List ℕ) (l : Line) : Type 0 where
  pub shows : line_text l ≡ cs
  pub fits : Fits l

-- 01, check 5: "Characters left over or missing: E002. For a line (000-200) the first data letter sets the length: S 15, F 6, N 2 characters. No data
-- is E002".
pub data WrongLineLength (cs : List ℕ) : Type 0 where
  no_data : cs ≡ [] → WrongLineLength cs
  of_state : get_or cs 0 0 ≡ code "S" → length cs ≢ 15 → WrongLineLength cs
  of_for : get_or cs 0 0 ≡ code "F" → length cs ≢ 6 → WrongLineLength cs
  of_next : get_or cs 0 0 ≡ code "N" → length cs ≢ 2 → WrongLineLength cs
