-- A finished command: the seven checks of 01, 'The wire', in its order, and what it asks for.
use Rattle.std.specs.Prelude.{ℕ, ◌-◌, Bool, true, not, ◌&&◌, ◌||◌, List, length, get_or, drop, leb, eqb}
use Prim.Native.Char.{code}
use Rattle.std.specs.Prelude.{if◌then◌else◌}
use Rattle.formats.specs.Checks.{Res, passed, ◌>>=◌, ◌>>◌, ◌or_else◌}
use Rattle.formats.specs.Digits.{number_in, h_in, d_in}
use Rattle.formats.specs.Bytes.{part}
use Rattle.texts.specs.Text.{line_in}
use Rattle.wire.specs.declared.Wire.{Wire}
use Rattle.special.specs.declared.Mode.{Mode}
use Rattle.special.specs.declared.Mode.TheVariants.{Stop, Pause, Auto}
use Rattle.special.specs.declared.Special.{Special}
use Rattle.wire.specs.declared.Data.{Data}
use Rattle.wire.specs.declared.Data.TheVariants.{WriteLine, WriteOutputs, WriteParameter, WriteSpecial}
use Rattle.wire.specs.declared.Asked.{Asked}
use Rattle.wire.specs.declared.Asked.TheVariants.{Read, Write}
use Rattle.wire.specs.Collecting.{sent}
use Rattle.special.specs.Special.{forbidden, allowed, special_of, in_reach}

abbrev pub char : List ℕ → ℕ → ℕ
char cs i = get_or cs i 0

abbrev pub is_read : List ℕ → Bool
is_read cs = eqb (char cs 1) (code "R")

abbrev pub is_write : List ℕ → Bool
is_write cs = eqb (char cs 1) (code "W")

-- the address is I or D, one character; else it is three digits
abbrev pub is_stepwise : List ℕ → Bool
is_stepwise cs = eqb (char cs 2) (code "I") || eqb (char cs 2) (code "D")

-- what stands after the address
abbrev pub rest : List ℕ → List ℕ
rest cs = drop (if is_stepwise cs then 3 else 5) cs

-- ---- check 3

-- "Address: three digits, or I (this direction's last address plus one) or D (minus one). Non-digits, a value outside 000-216
-- [...] E004". Here `next` is the address after the last one, 000 where that is "before 000" (02, item 7), and D is two below it.
unfoldable pub address_in : ℕ → List ℕ → Res ℕ
address_in next cs =
    if eqb (char cs 2) (code "I") then (do
      leb next 216 or_else 4
      passed next)
    else if eqb (char cs 2) (code "D") then (do
      leb 2 next or_else 4
      passed (next - 2))
    else (do
      k ← number_in 10 4 (part 2 3 cs)
      leb k 216 or_else 4
      passed k)

-- every address but "201, 202, 207, 208 or 211-216 [...] (*house* for those writes)"
abbrev pub is_writable : ℕ → Bool
is_writable k = leb k 200 || (leb 203 k && leb k 206) || eqb k 209 || eqb k 210

-- ---- check 4

-- "Write while running or paused to anything but 209 and 210: E005."
abbrev pub is_open : Mode → ℕ → Bool
is_open Stop k = true
is_open Pause k = eqb k 209 || eqb k 210
is_open Auto k = eqb k 209 || eqb k 210

-- ---- checks 5 to 7: the data of a write

-- of check 7 what follows the code: "code forbidden in the present state, E005; parameter out of reach, E004." 02, item 3: the numbers of
-- the table "in place of E005 there; E023 parameter out of reach, in place of E004; same places in the order."
abbrev pub special_now : Mode → ℕ → Special → Res Data
special_now mode parameter s = do
  allowed s mode or_else forbidden s mode
  in_reach s parameter or_else 23
  passed (WriteSpecial s)

-- check 7: "code not 001-008, E003", and then that
unfoldable pub special_in : Mode → ℕ → List ℕ → Res Data
special_in mode parameter cs = do
  n ← d_in cs
  s ← special_of n
  special_now mode parameter s

-- by the address: a line (000-200), outputs (203-206), the parameter (209), a special command (210)
unfoldable pub data_in : Mode → ℕ → ℕ → List ℕ → Res Data
data_in mode parameter k cs =
    if leb k 200 then line_in cs >>= (λ l. passed (WriteLine l))
    else if leb k 206 then h_in cs >>= (λ x. passed (WriteOutputs x))
    else if eqb k 209 then d_in cs >>= (λ v. passed (WriteParameter v))
    else special_in mode parameter cs

-- ---- the whole command

unfoldable pub read_command : ℕ → List ℕ → Res Asked
read_command next cs = do
  k ← address_in next cs
  eqb (length (rest cs)) 0 or_else 2
  passed (Read k)

unfoldable pub write_command : Mode → ℕ → ℕ → List ℕ → Res Asked
write_command mode parameter next cs = do
  k ← address_in next cs
  is_writable k or_else 4
  is_open mode k or_else 5
  data' ← data_in mode parameter k (rest cs)
  passed (Write k data')

-- the third character is I or D, or there are five
abbrev pub has_address : List ℕ → Bool
has_address cs = is_stepwise cs || leb 5 (length cs)

-- "2. Overlong, first not C, second not R or W, or third not I or D and fewer than five characters: E002."
abbrev pub in_format : Bool → List ℕ → Bool
in_format overlong cs = not overlong && eqb (char cs 0) (code "C") && (is_read cs || is_write cs) && has_address cs

-- "1. Fewer than three characters (four bytes with the 13): E001."
unfoldable pub command_in : List ℕ → Wire → Mode → ℕ → Res Asked
command_in cs w mode parameter = do
  leb 3 (length cs) or_else 1
  in_format w.overlong cs or_else 2
  if is_read cs then read_command w.nextread cs else write_command mode parameter w.nextwrite cs

-- what the collected characters ask for
unfoldable pub command : Wire → Mode → ℕ → Res Asked
command w mode parameter = command_in (sent w) w mode parameter
