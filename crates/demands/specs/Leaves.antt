-- What a call that is taken leaves of the program area and of the saved copy, by the history, what is lent and the reply.
use Rattle.std.specs.Prelude.{ℕ, List, eqb}
use Rattle.std.specs.Prelude.{if◌then◌else◌}
use Rattle.lines.specs.Program.{put_line}
use Rattle.controller.specs.Controller.{Areas}
use Rattle.controller.specs.Refusals.{Call}
use Rattle.controller.specs.Effects.{is_power_on}
use Rattle.demands.specs.Said.{Said, silence, reads, writes_line, writes_outputs, writes_parameter, gives}

-- A write to 000-199 stores its line there; power-on and command 007 load the saved copy. 02, item 4: "Load and save copy the bytes
-- unaltered."
abbrev pub program_by : Said → Areas → List ℕ
program_by silence lent = lent.program
program_by (reads k) lent = lent.program
program_by (writes_line k l) lent = if eqb k 200 then lent.program else put_line k l lent.program
program_by (writes_outputs k x) lent = lent.program
program_by (writes_parameter v) lent = lent.program
program_by (gives n) lent = if eqb n 7 then lent.saved else lent.program

abbrev pub program_then : Call → Said → Areas → List ℕ
program_then k s lent = if is_power_on k then lent.saved else program_by s lent

-- 008 saves the program area
abbrev pub saved_then : Said → Areas → List ℕ
saved_then silence lent = lent.saved
saved_then (reads k) lent = lent.saved
saved_then (writes_line k l) lent = lent.saved
saved_then (writes_outputs k x) lent = lent.saved
saved_then (writes_parameter v) lent = lent.saved
saved_then (gives n) lent = if eqb n 8 then lent.program else lent.saved
