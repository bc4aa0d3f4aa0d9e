-- What the calls of the code return, in the words of the definitions.
use Rattle.std.specs.Prelude.{ℕ, Bool, Result, Ok, Err}
use Rattle.formats.specs.Checks.{Res, ◌>>◌, ◌or_else◌}
use Rattle.controller.specs.declared.Controller.{Controller}
use Rattle.controller.specs.Controller.{Areas}
use Rattle.controller.specs.Deeds.{Deed}
use Rattle.controller.specs.Calls.{changed, logged_by, After, accepted}
use Rattle.calls.specs.declared.SwitchBox.{SwitchBox}
use Rattle.calls.specs.declared.Refusal.{Refusal}
use Rattle.calls.specs.declared.Done.{Done}
use Rattle.calls.specs.declared.Returned.{Returned}
use Rattle.calls.specs.Refusal.{number_of}

-- 030 and 031, by whether the programs and the log fit
abbrev pub lent_by : Bool → Bool → Res (Unit {0})
lent_by programs log = do
  programs or_else 30
  log or_else 31

-- the number of the refusal, 0 where there is none, and the counts, which are 0 where there is one
abbrev pub refusal_in : Result Done Refusal → ℕ
refusal_in (Ok d) = 0
refusal_in (Err e) = number_of e

abbrev pub lines_in : Result Done Refusal → ℕ
lines_in (Ok d) = d.lines
lines_in (Err e) = 0

abbrev pub written_in : Result Done Refusal → ℕ
written_in (Ok d) = d.written
written_in (Err e) = 0

-- what is returned, with the areas after the call
abbrev pub after : Returned → Areas → After
after r a = record { state = r.next.controller; refusal = refusal_in r.done; lines = lines_in r.done; written = written_in r.done; areas = a }

-- a refusal, with the box as it came
abbrev pub refusing : Refusal → SwitchBox → Returned
refusing e b = record { next = b; done = Err e }

-- a deed: the state after it, the lines run, the bytes written, and the areas
abbrev pub deed : Controller → ℕ → ℕ → Areas → Deed
deed c lines written a = record { state = c; areas = a; lines = lines; written = written }

-- the state after a call that made no change to log, with the bytes written and the areas
abbrev pub quiet : Controller → ℕ → Areas → After
quiet c n a = record { state = c; refusal = 0; lines = 0; written = n; areas = a }

-- what was done, logged and answered
abbrev pub accepted_by : ℕ → ℕ → Deed → After
accepted_by before cause x = accepted x (logged_by (changed before cause x.state) x.state.log x.areas.log)
