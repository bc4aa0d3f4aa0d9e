-- The five calls, and the refusals 030 to 035.
-- 01, 'Calls and what is lent', its table: "Checked in that order, each where the call has that argument."
use Rattle.std.specs.Prelude.{ℕ, Bool, not, ◌&&◌, ◌||◌, List, [], ◌∷◌, length, leb, eqb}
use Rattle.formats.specs.Checks.{Res, ◌>>◌, ◌or_else◌, all}
use Rattle.lines.specs.Program.{is_program}
use Rattle.boxlog.specs.Record.{is_area}
use Rattle.boxlog.specs.Log.{held_bytes}
use Rattle.controller.specs.declared.Controller.{Controller}
use Rattle.controller.specs.Controller.{Areas}

-- Power-on; one wire byte; one tick; one button press; emptying the log.
pub data Call : Type 0 where
  power_on : Call
  byte : ℕ → Call
  tick : Call
  press : ℕ → Call
  emptying : Call

-- 031 "log area under 24 or over 65,536 bytes, or not the length given at power-on"; 02, item 8: "The smallest log area is 32 bytes"
abbrev pub is_log : List ℕ → Bool
is_log area = is_area (length area)

abbrev pub is_same_log : Controller → List ℕ → Bool
is_same_log c area = is_log area && eqb (length area) c.log.length

-- 032 "reply area under 16 bytes (wire byte only)"
abbrev pub is_reply : List ℕ → Bool
is_reply area = leb 16 (length area)

-- 033 "tick count is already 4,294,967,295 (tick only)"
abbrev pub may_tick : Controller → Bool
may_tick c = not (eqb c.ticks 4294967295)

-- 034 "button number other than 1 or 2"
abbrev pub is_button : ℕ → Bool
is_button n = eqb n 1 || eqb n 2

-- 035 "destination shorter than the records held (emptying only)"
abbrev pub is_destination : Controller → List ℕ → Bool
is_destination c area = leb (held_bytes c.log) (length area)

-- What every call checks first: the program area and the saved copy, as far as it is lent them, and whether the log fits.
unfoldable pub lent : List (List ℕ) → Bool → Res (Unit {0})
lent programs log = do
  -- 030 "program area or saved copy is not exactly 1,600 bytes"
  all is_program programs or_else 30
  log or_else 31

-- "Every call but emptying is lent the program area and the log; power-on and the wire byte are also lent the saved copy. Emptying
-- is lent the log and a destination."
unfoldable pub check : Call → Controller → Areas → Res (Unit {0})
check power_on c a = lent (a.program ∷ a.saved ∷ []) (is_log a.log)
check (byte x) c a = do
  lent (a.program ∷ a.saved ∷ []) (is_same_log c a.log)
  is_reply a.out or_else 32
check tick c a = do
  lent (a.program ∷ []) (is_same_log c a.log)
  may_tick c or_else 33
check (press n) c a = do
  lent (a.program ∷ []) (is_same_log c a.log)
  is_button n or_else 34
check emptying c a = do
  lent [] (is_same_log c a.log)
  is_destination c a.out or_else 35
