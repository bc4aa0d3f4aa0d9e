-- Demand 1: "gets a defined reply or refusal", "The box checks its callers itself": the refusal of every call, by the history and what is lent
-- alone. 01, 'Calls and what is lent', its table: "Checked in that order, each where the call has that argument."
use Rattle.std.specs.Prelude.{ℕ, Bool, true, not, ◌&&◌, ◌||◌, List, length, eqb, leb}
use Rattle.std.specs.Prelude.{if◌then◌else◌}
use Rattle.controller.specs.Controller.{Areas}
use Rattle.controller.specs.Refusals.{Call, power_on, byte, tick, press, emptying}
use Rattle.demands.specs.Told.{Told}

-- "program area or saved copy is not exactly 1,600 bytes"
abbrev pub is_whole : List ℕ → Bool
is_whole area = eqb (length area) 1600

-- "log area under 24 or over 65,536 bytes, or not the length given at power-on"; 02, item 8: "The smallest log area is 32 bytes"
abbrev pub is_log_area : List ℕ → Bool
is_log_area area = leb 32 (length area) && leb (length area) 65536

abbrev pub is_its_log : Told → List ℕ → Bool
is_its_log t area = is_log_area area && eqb (length area) t.log_length

-- 30 where a program area does not fit, else 31 where the log does not, else `number` where the call's own test fails, else 0
abbrev pub first_of : Bool → Bool → Bool → ℕ → ℕ
first_of programs log test number = if not programs then 30 else if not log then 31 else if not test then number else 0

-- The refusal of a call, 0 where it is taken; `held` is the number of bytes that the log holds.
unfoldable pub refusal_of : ℕ → Told → Call → Areas → ℕ
refusal_of held t power_on a = first_of (is_whole a.program && is_whole a.saved) (is_log_area a.log) true 0
-- "reply area under 16 bytes (wire byte only)"
refusal_of held t (byte x) a = first_of (is_whole a.program && is_whole a.saved) (is_its_log t a.log) (leb 16 (length a.out)) 32
-- "tick count is already 4,294,967,295 (tick only)"
refusal_of held t tick a = first_of (is_whole a.program) (is_its_log t a.log) (not (eqb t.ticks 4294967295)) 33
-- "button number other than 1 or 2"
refusal_of held t (press n) a = first_of (is_whole a.program) (is_its_log t a.log) (eqb n 1 || eqb n 2) 34
-- "destination shorter than the records held (emptying only)"
refusal_of held t emptying a = first_of true (is_its_log t a.log) (leb held (length a.out)) 35
