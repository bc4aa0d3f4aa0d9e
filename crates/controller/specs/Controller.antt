-- The controller state with one part altered, the lent areas, and what power-on makes.
use Rattle.std.specs.Prelude.{ℕ, Bool, false, List}
use Rattle.running.specs.declared.Run.{Run}
use Rattle.running.specs.Running.{fresh_run}
use Rattle.variables.specs.declared.Panel.{Panel}
use Rattle.variables.specs.Panel as Panel
use Rattle.variables.specs.Panel.{fresh_panel}
use Rattle.boxlog.specs.declared.Log.{Log}
use Rattle.boxlog.specs.Log.{emptied}
use Rattle.wire.specs.declared.Wire.{Wire}
use Rattle.wire.specs.Collecting.{fresh_wire}
use Rattle.special.specs.declared.Mode.{Mode}
use Rattle.special.specs.Special.{mode_of}
use Rattle.controller.specs.declared.Controller.{Controller}

-- ---- one part of the state altered

abbrev pub with_run : Run → Controller → Controller
with_run x c = record { run = x; paused = c.paused; ticks = c.ticks; wire = c.wire; panel = c.panel; log = c.log }

abbrev pub with_paused : Bool → Controller → Controller
with_paused x c = record { run = c.run; paused = x; ticks = c.ticks; wire = c.wire; panel = c.panel; log = c.log }

abbrev pub with_ticks : ℕ → Controller → Controller
with_ticks x c = record { run = c.run; paused = c.paused; ticks = x; wire = c.wire; panel = c.panel; log = c.log }

abbrev pub with_wire : Wire → Controller → Controller
with_wire x c = record { run = c.run; paused = c.paused; ticks = c.ticks; wire = x; panel = c.panel; log = c.log }

abbrev pub with_panel : Panel → Controller → Controller
with_panel x c = record { run = c.run; paused = c.paused; ticks = c.ticks; wire = c.wire; panel = x; log = c.log }

abbrev pub with_log : Log → Controller → Controller
with_log x c = record { run = c.run; paused = c.paused; ticks = c.ticks; wire = c.wire; panel = c.panel; log = x }

abbrev pub with_single : List ℕ → Controller → Controller
with_single x c = with_panel (Panel.with_single x c.panel) c

abbrev pub with_parameter : ℕ → Controller → Controller
with_parameter x c = with_panel (Panel.with_parameter x c.panel) c

abbrev pub with_special : ℕ → Controller → Controller
with_special x c = with_panel (Panel.with_special x c.panel) c

abbrev pub with_event : ℕ → Bool → Controller → Controller
with_event e unread c = with_panel (Panel.with_event e unread c.panel) c

-- Stop, Pause or Auto
abbrev pub mode : Controller → Mode
mode c = mode_of c.run.on c.paused

-- ---- what is lent

-- The areas of a call. One that the call is not lent is left out of account and stays as it is. `out` is where the call writes:
-- the reply of a wire byte, the destination of emptying.
pub record Areas : Type 0 where
  pub program : List ℕ
  pub saved : List ℕ
  pub log : List ℕ
  pub out : List ℕ

-- the four, one by one
abbrev pub areas : List ℕ → List ℕ → List ℕ → List ℕ → Areas
areas program saved log out = record { program = program; saved = saved; log = log; out = out }

abbrev pub with_program : List ℕ → Areas → Areas
with_program x a = record { program = x; saved = a.saved; log = a.log; out = a.out }

abbrev pub with_saved : List ℕ → Areas → Areas
with_saved x a = record { program = a.program; saved = x; log = a.log; out = a.out }

abbrev pub with_log_area : List ℕ → Areas → Areas
with_log_area x a = record { program = a.program; saved = a.saved; log = x; out = a.out }

abbrev pub with_out : List ℕ → Areas → Areas
with_out x a = record { program = a.program; saved = a.saved; log = a.log; out = x }

-- ---- power-on

-- 01, 'Running': "Power-on: outputs 0, stopped, line 000, parameter 0, tick count 0, log empty, event 012."
unfoldable pub fresh : ℕ → Controller
fresh log_length = record { run = fresh_run; paused = false; ticks = 0; wire = fresh_wire; panel = fresh_panel; log = emptied log_length }
