-- What an accepted call does, before its change is logged.
use Rattle.std.specs.Prelude.{ℕ, ◌+◌, Bool, true, false, not, List, [], ◌∷◌, ◌++◌, length, drop, eqb}
use Rattle.std.specs.Prelude.{if◌then◌else◌}
use Rattle.formats.specs.Checks.{Res, refused, passed, ◌>>=◌, ◌>>◌, ◌or_else◌, text}
use Rattle.formats.specs.Digits.{error_text}
use Rattle.lines.specs.declared.Line.{Line}
use Rattle.lines.specs.Line.{set_by, bytes_of}
use Rattle.lines.specs.Program.{put_line}
use Rattle.running.specs.declared.Ran.{Ran}
use Rattle.running.specs.Running.{with_outputs, stopped, start, tick}
use Rattle.variables.specs.Variables.{with_output_byte}
use Rattle.boxlog.specs.Log.{records, emptied}
use Rattle.special.specs.declared.Special.{Special}
use Rattle.special.specs.declared.Special.TheVariants.{Stop, Pause, Start, Continue, StartAt, Execute, Load, Save}
use Rattle.wire.specs.declared.Data.{Data}
use Rattle.wire.specs.declared.Data.TheVariants.{WriteLine, WriteOutputs, WriteParameter, WriteSpecial}
use Rattle.wire.specs.declared.Asked.{Asked}
use Rattle.wire.specs.declared.Asked.TheVariants.{Read, Write}
use Rattle.wire.specs.Collecting as Wire
use Rattle.wire.specs.Collecting.{collect, cleared}
use Rattle.special.specs.Special.{code_of}
use Rattle.wire.specs.Command.{command}
use Rattle.controller.specs.declared.Controller.{Controller}
use Rattle.controller.specs.Controller.{with_run, with_paused, with_ticks, with_wire, with_log, with_single, with_parameter}
use Rattle.controller.specs.Controller.{with_special, with_event, mode, Areas, with_program, with_saved, with_out, fresh}
use Rattle.controller.specs.Variables.{line_of, is_bad_at, value}

-- What was done: the state and the areas after it, the For and Next lines run, and the bytes written to the start of the reply or
-- the destination.
pub record Deed : Type 0 where
  pub state : Controller
  pub areas : Areas
  pub lines : ℕ
  pub written : ℕ

-- nothing run and nothing written
abbrev pub nothing_run : Controller → Areas → Deed
nothing_run c a = record { state = c; areas = a; lines = 0; written = 0 }

-- 01, 'Calls': "A reply is written from the start of its area and the bytes after it stay."
abbrev pub over : List ℕ → List ℕ → List ℕ
over bytes area = bytes ++ drop (length bytes) area

unfoldable pub writing : List ℕ → Deed → Deed
writing bytes x =
    record { state = x.state; areas = with_out (over bytes x.areas.out) x.areas; lines = x.lines; written = length bytes }

-- ---- start, stop, event, load, save

-- "overwrites any unread event"; 0 is no event
unfoldable pub raise : ℕ → Controller → Controller
raise event c = if eqb event 0 then c else with_event event true c

-- the run moved on
unfoldable pub moved : Ran → Controller → Areas → Deed
moved r c a = record { state = raise r.event (with_run r.run c); areas = a; lines = r.lines; written = 0 }

unfoldable pub start_at : ℕ → Controller → Areas → Deed
start_at k c a = moved (start a.program k c.run.outputs) c a

-- 01, 'Special commands': "Stop frees the loops and keeps outputs and line."
unfoldable pub stop : Controller → Controller
stop c = with_paused false (with_run (stopped c.run) c)

-- Power-on and command 007 load the saved copy, 008 saves the program area. 02, item 4: "Load and save copy the bytes unaltered."
unfoldable pub load : Areas → Areas
load a = with_program a.saved a

unfoldable pub save : Areas → Areas
save a = with_saved a.program a

-- ---- the special commands

-- "006 sets the outputs of a State line and ignores its time; For and Next do nothing." 02, item 4, of a Bad line: "Executing one by 006
-- does nothing and answers OK." What does nothing sets the outputs to what they are.
abbrev pub execute : Line → Controller → Controller
execute l c = with_run (with_outputs (set_by l c.run.outputs) c.run) c

unfoldable pub special : Special → Controller → Areas → Deed
special Stop c a = nothing_run (stop c) a
special Pause c a = nothing_run (with_paused true c) a
special Start c a = start_at 0 c a
special Continue c a = nothing_run (with_paused false c) a
special StartAt c a = start_at c.panel.parameter c a
special Execute c a = nothing_run (execute (line_of c a.program c.panel.parameter) c) a
special Load c a = nothing_run c (load a)
special Save c a = nothing_run c (save a)

-- ---- a command that passed the checks

-- "last event; reading it clears code and D7"
abbrev pub read : ℕ → Controller → Controller
read k c = if eqb k 212 then with_event 0 false c else c

unfoldable pub write : ℕ → Data → Controller → Areas → Deed
write k (WriteLine l) c a = if eqb k 200 then nothing_run (with_single (bytes_of l) c) a else nothing_run c (with_program (put_line k l a.program) a)
write k (WriteOutputs x) c a = nothing_run (with_run (with_outputs (with_output_byte k x c.run.outputs) c.run) c) a
write k (WriteParameter v) c a = nothing_run (with_parameter v c) a
write k (WriteSpecial s) c a = special s (with_special (code_of s) c) a

-- "Read and write keep separate last addresses [...] They move only on a command answered without an error."
abbrev pub read_to : ℕ → Controller → Controller
read_to k c = with_wire (Wire.read_to k c.wire) c

abbrev pub wrote_to : ℕ → Controller → Controller
wrote_to k c = with_wire (Wire.wrote_to k c.wire) c

-- ---- a wire byte

-- "Replies [...] end in byte 13."
abbrev pub ended : List ℕ → List ℕ
ended reply = reply ++ (13 ∷ [])

abbrev pub empty_collection : Controller → Controller
empty_collection c = with_wire (cleared c.wire) c

-- "Each 13 gets one reply, then collection starts empty." "An accepted write answers OK." "An error reply changes nothing but the
-- emptied collection."
unfoldable pub answer : Res Asked → Controller → Areas → Deed
answer (refused e) c a = writing (ended (error_text e)) (nothing_run (empty_collection c) a)
answer (passed (Read k)) c a = writing (ended (value c a.program k)) (nothing_run (read k (read_to k (empty_collection c))) a)
answer (passed (Write k x)) c a = writing (ended (text "OK")) (write k x (wrote_to k (empty_collection c)) a)

-- 02, item 4: "reading a Bad line over the wire answers E024, after the length check, and does not move the address." The length is the last
-- that the seven checks ask of a read, so this is asked behind them all. `bad` says at which addresses a Bad line stands.
unfoldable pub legible : (ℕ → Bool) → Asked → Res Asked
legible bad (Read k) = do
  not (bad k) or_else 24
  passed (Read k)
legible bad (Write k x) = passed (Write k x)

-- what the command collected so far asks for, or its error
abbrev pub asked : Controller → List ℕ → Res Asked
asked c program = command c.wire (mode c) c.panel.parameter >>= legible (is_bad_at c program)

unfoldable pub byte : ℕ → Controller → Areas → Deed
byte x c a = if eqb x 13 then answer (asked c a.program) c a else nothing_run (with_wire (collect x c.wire) c) a

-- ---- a tick, a press, emptying, power-on

-- "A tick first adds one to the count, whether stopped, paused or running."
unfoldable pub ticked : Controller → Areas → Deed
ticked c a =
    let counted = with_ticks (c.ticks + 1) c in
    if c.paused then nothing_run counted a else moved (tick a.program c.run) counted a

-- "Start/Stop starts at 000 when stopped, else stops", "stopping by button raises 010".
-- "Pause pauses, continues, or when stopped does nothing."
unfoldable pub pressed : ℕ → Controller → Areas → Deed
pressed n c a =
    if eqb n 1 then (if c.run.on then nothing_run (raise 10 (stop c)) a else start_at 0 c a)
    else (if c.run.on then nothing_run (with_paused (not c.paused) c) a else nothing_run c a)

-- 01, 'The log': "Emptying copies the records held, in order, to the start of the destination, leaves its rest, returns their byte
-- count, and the room is used again. It changes no byte of the log".
unfoldable pub empty_log : Controller → Areas → Deed
empty_log c a = writing (records c.log a.log) (nothing_run (with_log (emptied c.log.length) c) a)

unfoldable pub power_up : Areas → Deed
power_up a = nothing_run (fresh (length a.log)) (load a)
