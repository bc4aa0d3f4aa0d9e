-- The five calls: checked, done, logged, answered.
use Rattle.std.specs.Prelude.{ℕ, Bool, not, List, eqb}
use Rattle.std.specs.Prelude.{if◌then◌else◌}
use Rattle.formats.specs.Checks.{Res, refused, passed}
use Rattle.boxlog.specs.declared.Change.{Change}
use Rattle.boxlog.specs.declared.Log.{Log}
use Rattle.boxlog.specs.Log.{Logged, add_change}
use Rattle.wire.specs.declared.Asked.{Asked}
use Rattle.controller.specs.declared.Controller.{Controller}
use Rattle.controller.specs.Controller.{with_log, Areas, with_log_area, fresh}
use Rattle.controller.specs.Deeds.{Deed, ticked, pressed, empty_log, power_up}
use Rattle.controller.specs.Deeds as Deeds
use Rattle.controller.specs.Refusals.{Call, power_on, byte, tick, press, emptying, check}
use Rattle.controller.specs.Effects.{finished, writes_outputs, special_code}

-- ---- done

unfoldable pub does : Call → Controller → Areas → Deed
does power_on c a = power_up a
does (byte x) c a = Deeds.byte x c a
does tick c a = ticked c a
does (press n) c a = pressed n c a
does emptying c a = empty_log c a

-- ---- logged

-- the state that a call starts from; power-on "takes none and makes one"
abbrev pub starts_from : Call → Controller → Controller
starts_from power_on c = fresh 0
starts_from (byte x) c = c
starts_from tick c = c
starts_from (press n) c = c
starts_from emptying c = c

-- 01, 'The log': "A change is a call after which the output word differs. One call makes at most one."
abbrev pub differs : ℕ → ℕ → Bool
differs before word = not (eqb before word)

-- "cause is the line, 254 for command 006, 255 for a write to 203-206"
abbrev pub cause : Res Asked → ℕ → ℕ
cause command line = if writes_outputs command then 255 else if eqb (special_code command) 6 then 254 else line

-- "tick count", the count after the call; "value is the new word"; 02, item 8: "the word before the change", that of the outputs before the call
abbrev pub changed : ℕ → ℕ → Controller → Change
changed before cause after = record { cause = cause; tick = after.ticks; word = after.run.outputs; before = before }

-- of a call made with the state c and the areas `lent`; the line is that after the call, which set the word
abbrev pub change_of : Call → Controller → Areas → Controller → Change
change_of k c lent after = changed (starts_from k c).run.outputs (cause (finished k c lent) after.run.line) after

-- the log and its area, with the change in it, if it is one
abbrev pub logged_by : Change → Log → List ℕ → Logged
logged_by change log area =
    if differs change.before change.word then add_change log area change else record { log = log; area = area }

-- the log and its area after an accepted call that did x
unfoldable pub logged : Call → Controller → Areas → Deed → Logged
logged k c a x = logged_by (change_of k c a x.state) x.state.log x.areas.log

-- ---- answered

-- all that a call leaves: the next state, what it returns beside it, and every lent area
pub record After : Type 0 where
  pub state : Controller
  -- the number of the refusal, 0 where the call is accepted
  pub refusal : ℕ
  -- For and Next lines run
  pub lines : ℕ
  -- bytes written to the start of the reply or of the destination
  pub written : ℕ
  pub areas : Areas

abbrev pub accepted : Deed → Logged → After
accepted x l = record {
  state = with_log l.log x.state;
  refusal = 0;
  lines = x.lines;
  written = x.written;
  areas = with_log_area l.area x.areas;
}

-- 01, 'Calls': "A refusal returns its number, leaves the state and every lent byte untouched; its counts and lengths are 0. A
-- refused power-on returns the power-on state with a log length of 0".
abbrev pub refused_with : ℕ → Call → Controller → Areas → After
refused_with n k c a = record { state = starts_from k c; refusal = n; lines = 0; written = 0; areas = a }

-- a call that passed its checks
abbrev pub taken : Call → Controller → Areas → After
taken k c a = accepted (does k c a) (logged k c a (does k c a))

abbrev pub settled : Res (Unit {0}) → Call → Controller → Areas → After
settled (refused n) k c a = refused_with n k c a
settled (passed ok) k c a = taken k c a

-- A call made with the state c, which power-on does not look at, and the areas a.
unfoldable pub call : Call → Controller → Areas → After
call k c a = settled (check k c a) k c a
