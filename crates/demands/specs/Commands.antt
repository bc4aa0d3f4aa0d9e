-- Demand 2, "Commands [...] error codes": which characters are which command, by writing them out; and of those that are none, what each error says.
-- 01, 'The wire', "Order of checks on a finished command", and 02, items 3 and 4.
use Rattle.std.specs.Prelude.{ℕ, ◌≤◌, ◌<◌, ◌≡◌, ◌≢◌, ◌⊎◌, true, false, List, [], ◌∷◌, ◌++◌, length, get_or}
use Prim.Native.Char.{code}
use Rattle.formats.specs.Checks.{text}
use Rattle.formats.specs.Digits.{h, d}
use Rattle.formats.specs.Order as Order
use Rattle.lines.specs.declared.Line.{Line}
use Rattle.lines.specs.declared.Line.TheVariants.{Bad}
use Rattle.lines.specs.Line.{Fits}
use Rattle.lines.specs.Program.{line_at}
use Rattle.texts.specs.Text.{line_text, WrongLineLength}
use Rattle.wire.specs.Naming.{Names}
use Rattle.demands.specs.Capitals.{in_capitals}
use Rattle.demands.specs.Said.{Said, silence, reads, writes_line, writes_outputs, writes_parameter, gives}
use Rattle.demands.specs.Told.{Told}

-- the characters received since the last 13
abbrev pub characters : Told → List ℕ
characters t = in_capitals t.received

-- every address but "201, 202, 207, 208 or 211-216"
pub record Writable (k : ℕ) : Type 0 where
  pub below : k ≤ 210
  pub other : (k ≢ 201) × (k ≢ 202) × (k ≢ 207) × (k ≢ 208)

-- ---- the texts

-- They are C, R, one of 000-216 as three digits, I or D, and `more`.
pub record Reads (t : Told) (k : ℕ) (more : List ℕ) : Type 0 where
  pub inside : k ≤ 216
  pub address : List ℕ
  pub named : Names t.next_read k address
  pub written : characters t ≡ text "CR" ++ (address ++ more)

-- They are C, W, an address that can be written, likewise, and `sent`.
pub record Writes (t : Told) (k : ℕ) (sent : List ℕ) : Type 0 where
  pub can : Writable k
  pub address : List ℕ
  pub named : Names t.next_write k address
  pub written : characters t ≡ text "CW" ++ (address ++ sent)

-- They are those of the command s: behind the address of a write the data as its format prints it.
abbrev pub IsWritten : Told → Said → Type 0
IsWritten t silence = ⊥
IsWritten t (reads k) = Reads t k []
IsWritten t (writes_line k l) = (k ≤ 200) × Fits l × Writes t k (line_text l)
IsWritten t (writes_outputs k x) = (203 ≤ k) × (k ≤ 206) × (x ≤ 255) × Writes t k (h x)
IsWritten t (writes_parameter v) = (v ≤ 255) × Writes t 209 (d v)
IsWritten t (gives n) = (1 ≤ n) × (n ≤ 8) × Writes t 210 (d n)

-- ---- what the state allows

-- 01, 'Special commands', its table: 003 and 005-008 have a 0 in Pause and Auto
abbrev pub NeedsStop : ℕ → Type 0
NeedsStop n = (n ≡ 3) ⊎ ((5 ≤ n) × (n ≤ 8))

-- special command n, by the table: 001 always, 002 while a program runs, 004 in a pause; "at most 199", "at most 200"
pub record MayGive (t : Told) (n : ℕ) : Type 0 where
  pub stop : NeedsStop n → t.run.on ≡ false
  pub pause : n ≡ 4 → (t.run.on ≡ true) × (t.paused ≡ true)
  pub run : n ≡ 2 → t.run.on ≡ true
  pub start_at : n ≡ 5 → t.parameter ≤ 199
  pub execute : n ≡ 6 → t.parameter ≤ 200

-- of a box that is lent this program
abbrev pub Allows : Told → List ℕ → Said → Type 0
Allows t program silence = Unit {0}
Allows t program (reads k) = k ≤ 199 → line_at program k ≢ Bad
Allows t program (writes_line k l) = t.run.on ≡ false
Allows t program (writes_outputs k x) = t.run.on ≡ false
Allows t program (writes_parameter v) = Unit {0}
Allows t program (gives n) = MayGive t n

-- ---- the errors: each has a sentence

pub data Error : Type 0 where
  too_short : Error
  no_command : Error
  no_address : Error
  locked : Error
  wrong_length : Error
  no_format : Error
  no_code : Error
  needs_stop : Error
  needs_pause : Error
  needs_run : Error
  out_of_reach : Error
  bad_line : Error

-- "first not C, second not R or W, or third not I or D and fewer than five characters"
pub data NoBeginning (cs : List ℕ) : Type 0 where
  overlong : 32 < length cs → NoBeginning cs
  first : get_or cs 0 0 ≢ code "C" → NoBeginning cs
  second : get_or cs 1 0 ≢ code "R" → get_or cs 1 0 ≢ code "W" → NoBeginning cs
  third : get_or cs 2 0 ≢ code "I" → get_or cs 2 0 ≢ code "D" → length cs < 5 → NoBeginning cs

-- "Characters left over or missing": the data of a write to address k have a wrong length
pub data WrongLength (k : ℕ) (sent : List ℕ) : Type 0 where
  of_line : k ≤ 200 → WrongLineLength sent → WrongLength k sent
  of_h : 203 ≤ k → k ≤ 206 → length sent ≢ 2 → WrongLength k sent
  of_d : 209 ≤ k → k ≤ 210 → length sent ≢ 3 → WrongLength k sent

-- "h is two hex digits, d three decimal digits to 255": the data are in the format of address k
pub data InFormat (k : ℕ) (sent : List ℕ) : Type 0 where
  a_line : k ≤ 200 → (l : Line) → Fits l → sent ≡ line_text l → InFormat k sent
  an_h : 203 ≤ k → k ≤ 206 → (x : ℕ) → x ≤ 255 → sent ≡ h x → InFormat k sent
  a_d : 209 ≤ k → k ≤ 210 → (v : ℕ) → v ≤ 255 → sent ≡ d v → InFormat k sent

abbrev pub Says : Told → List ℕ → Error → Type 0
-- 1. "Fewer than three characters"
Says t program too_short = length (characters t) < 3
-- 2. "Overlong, first not C, second not R or W, or third not I or D and fewer than five characters"
Says t program no_command = NoBeginning (characters t)
-- 3. "Non-digits, a value outside 000-216, or a write to 201, 202, 207, 208 or 211-216"
Says t program no_address = (k : ℕ) (more : List ℕ) → (Reads t k more → ⊥) × (Writes t k more → ⊥)
-- 4. "Write while running or paused to anything but 209 and 210"
Says t program locked = (t.run.on ≡ true) × ((k : ℕ) × (sent : List ℕ) × Writes t k sent × (k ≢ 209) × (k ≢ 210))
-- 5. "Characters left over or missing"
Says t program wrong_length =
    ((k : ℕ) × (more : List ℕ) × Reads t k more × (more ≢ [])) ⊎ ((k : ℕ) × (sent : List ℕ) × Writes t k sent × WrongLength k sent)
-- 6. "Data not in its format, d above 255, reserved digits not 00, or loop counter not 1-4"
Says t program no_format = (k : ℕ) × (sent : List ℕ) × Writes t k sent × (InFormat k sent → ⊥)
-- 7. "Address 210 only: code not 001-008"
Says t program no_code = (n : ℕ) × (n ≤ 255) × Writes t 210 (d n) × ((n ≡ 0) ⊎ (8 < n))
-- "E020 needs a stopped program, E021 needs a pause, E022 nothing is running to pause", "E023 parameter out of reach"
Says t program needs_stop = (t.run.on ≡ true) × ((n : ℕ) × NeedsStop n × Writes t 210 (d n))
Says t program needs_pause = Writes t 210 (d 4) × ((t.run.on ≡ false) ⊎ (t.paused ≡ false))
Says t program needs_run = Writes t 210 (d 2) × (t.run.on ≡ false)
Says t program out_of_reach = (Writes t 210 (d 5) × (199 < t.parameter)) ⊎ (Writes t 210 (d 6) × (200 < t.parameter))
-- "reading a Bad line over the wire answers E024, after the length check"
Says t program bad_line = (k : ℕ) × (k ≤ 199) × Reads t k [] × (line_at program k ≡ Bad)

-- ---- their order and their numbers

abbrev pub place : Error → ℕ
place too_short = 0
place no_command = 1
place no_address = 2
place locked = 3
place wrong_length = 4
place no_format = 5
place no_code = 6
place needs_stop = 7
place needs_pause = 8
place needs_run = 9
place out_of_reach = 10
place bad_line = 11

abbrev pub numbers : List ℕ
numbers = 1 ∷ 2 ∷ 4 ∷ 5 ∷ 2 ∷ 3 ∷ 3 ∷ 20 ∷ 21 ∷ 22 ∷ 23 ∷ 24 ∷ []

abbrev pub number : Error → ℕ
number e = get_or numbers (place e) 0

-- the sentence of e is the first that holds
abbrev pub First : Told → List ℕ → Error → Type 0
First t program = Order.First place (Says t program)
