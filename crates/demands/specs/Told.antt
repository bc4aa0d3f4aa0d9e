-- What a history of calls says by itself: reckoned by the rules of 01 from the notes of its calls, that is from the calls, the areas
-- lent and what was seen. No state of the box is read here: no note holds one.
use Rattle.std.specs.Prelude.{ℕ, ◌+◌, ◌*◌, ◌/◌, ◌%◌, ◌≡◌, Bool, true, false, not, ◌&&◌, ◌||◌, List, [], ◌∷◌, ◌++◌, length, eqb}
use Rattle.std.proofs.Math.Option.{Option, none, some}
use Rattle.std.specs.Prelude.{if◌then◌else◌}
use Rattle.lines.specs.declared.Line.{Line}
use Rattle.lines.specs.Line.{end_mark, set_by}
use Rattle.lines.specs.Program.{line_at}
use Rattle.running.specs.declared.Run.{Run}
use Rattle.running.specs.declared.Ran.{Ran}
use Rattle.running.specs.Running.{fresh_run, with_outputs, stopped, rests, start, tick}
use Rattle.controller.specs.Controller.{Areas}
use Rattle.controller.specs.Refusals.{Call, power_on, byte, tick as a_tick, press, emptying}
use Rattle.controller.specs.Effects.{is_end, is_tick, is_press, is_power_on}
use Rattle.demands.specs.Histories.{Made, unpowered}
use Rattle.demands.specs.Capitals.{in_capitals}
use Rattle.demands.specs.Said.{Said, silence, reads, writes_line, writes_outputs, writes_parameter, gives, spoken, given, reads_event}
use Rattle.demands.specs.Seen.{is_taken, reply, is_error, Note, notes}

pub record Told : Type 0 where
  -- "tick count": the ticks taken since power-on
  pub ticks : ℕ
  -- the program's run by the running rules: whether it runs (also when paused), line, outputs, loop counters
  pub run : Run
  pub paused : Bool
  -- "this direction's last address plus one": the address that I means
  pub next_read : ℕ
  pub next_write : ℕ
  -- the characters received since the last 13
  pub received : List ℕ
  -- 200, 209 and 210
  pub single : Line
  pub parameter : ℕ
  pub special : ℕ
  -- the unread event, 0 for none
  pub event : ℕ
  -- the length of the log area given at power-on, 0 where that was refused
  pub log_length : ℕ

-- 01, 'Running': "Power-on: outputs 0, stopped, line 000, parameter 0, tick count 0, log empty, event 012."
-- 02, item 7: "At power-on the last address of both directions becomes "before 000": I then means 000".
abbrev pub powered : ℕ → Told
powered log_length = record {
  ticks = 0;
  run = fresh_run;
  paused = false;
  next_read = 0;
  next_write = 0;
  received = [];
  single = end_mark;
  parameter = 0;
  special = 0;
  event = 12;
  log_length = log_length;
}

-- the word with eight of its bits altered, "and no other bit": 203 has outputs 32-25, 206 outputs 8-1, and "Output n is bit n-1"
unfoldable pub with_byte : ℕ → ℕ → ℕ → ℕ
with_byte k x word =
    (if eqb k 203 then x else word / 16777216 % 256) * 16777216 + (if eqb k 204 then x else word / 65536 % 256) * 65536
    + (if eqb k 205 then x else word / 256 % 256) * 256
    + (if eqb k 206 then x else word % 256)

-- The command that a call finishes which is taken, by the characters received, in capitals, and by the reply that was seen.
unfoldable pub said : Told → Note → Said
said t n =
    if is_end n.call && not (is_error (reply n.seen)) then spoken t.next_read t.next_write (in_capitals t.received)
    else silence

-- ---- each part after one call more: k, which is taken and no power-on, and finishes the command s

module _ (k : Call) (s : Said) (lent : Areas) (t : Told) where
  -- "A tick first adds one to the count, whether stopped, paused or running."
  abbrev pub ticks_then : ℕ
  ticks_then = if is_tick k then t.ticks + 1 else t.ticks

  -- the line at which it starts a program: "Start/Stop starts at 000 when stopped", 003 "start at 000", 005 "start at parameter"
  abbrev pub starts : Option ℕ
  starts =
      if is_press 1 k && not t.run.on then some 0
      else if eqb (given s) 3 then some 0
      else if eqb (given s) 5 then some t.parameter
      else none

  -- 001, or Start/Stop while a program runs
  abbrev pub stops : Bool
  stops = eqb (given s) 1 || (is_press 1 k && t.run.on)

  -- "Lines run inside the start call or tick in which they fall due"; no tick moves a program that is paused
  abbrev pub ran : Ran
  ran = elim starts [
    | some j ↦ start lent.program j t.run.outputs
    | none ↦ if is_tick k && not t.paused then tick lent.program t.run else rests 0 t.run
  ]

  -- "006 sets the outputs of a State line and ignores its time; For and Next do nothing." 02, item 4, of a Bad line: "Executing one by
  -- 006 does nothing and answers OK."
  abbrev pub executed : Line → Run
  executed l = with_outputs (set_by l t.run.outputs) t.run

  -- the line that the parameter names
  abbrev pub line_named : Line
  line_named = if eqb t.parameter 200 then t.single else line_at lent.program t.parameter

  -- a stop, 006, and "A write to 203-206 alters its eight bits of the output word and no other bit"; all else is the running rules'
  abbrev pub run_then : Run
  run_then =
      if stops then stopped t.run
      else if eqb (given s) 6 then executed line_named
      else elim s [
        | silence ↦ ran.run
        | reads j ↦ ran.run
        | writes_line j l ↦ ran.run
        | writes_outputs j x ↦ with_outputs (with_byte j x t.run.outputs) t.run
        | writes_parameter v ↦ ran.run
        | gives n ↦ ran.run
      ]

  -- 002 pauses, 004 continues; "Pause pauses, continues, or when stopped does nothing."
  abbrev pub paused_then : Bool
  paused_then =
      if stops then false
      else if eqb (given s) 2 then true
      else if eqb (given s) 4 then false
      else if is_press 2 k && t.run.on then not t.paused
      else t.paused

  -- "stopping by button raises 010"; an event stop "overwrites any unread event"; "reading it clears code and D7"
  abbrev pub event_then : ℕ
  event_then =
      if is_press 1 k && t.run.on then 10
      else if eqb ran.event 0 then (if reads_event s then 0 else t.event)
      else ran.event

  -- "They move only on a command answered without an error."
  abbrev pub next_read_then : ℕ
  next_read_then = elim s [
    | silence ↦ t.next_read
    | reads j ↦ j + 1
    | writes_line j l ↦ t.next_read
    | writes_outputs j x ↦ t.next_read
    | writes_parameter v ↦ t.next_read
    | gives n ↦ t.next_read
  ]

  abbrev pub next_write_then : ℕ
  next_write_then = elim s [
    | silence ↦ t.next_write
    | reads j ↦ t.next_write
    | writes_line j l ↦ j + 1
    | writes_outputs j x ↦ j + 1
    | writes_parameter v ↦ 210
    | gives n ↦ 211
  ]

  -- "Byte 13 ends a command. Byte 32 is dropped. [...] All other bytes, 10 included, are characters."
  abbrev pub received_then : List ℕ
  received_then = elim k [
    | power_on ↦ []
    | byte x ↦ if eqb x 13 then [] else if eqb x 32 then t.received else t.received ++ (x ∷ [])
    | a_tick ↦ t.received
    | press b ↦ t.received
    | emptying ↦ t.received
  ]

  -- an accepted write to 200, to 209, to 210
  abbrev pub single_then : Line
  single_then = elim s [
    | silence ↦ t.single
    | reads j ↦ t.single
    | writes_line j l ↦ if eqb j 200 then l else t.single
    | writes_outputs j x ↦ t.single
    | writes_parameter v ↦ t.single
    | gives n ↦ t.single
  ]

  abbrev pub parameter_then : ℕ
  parameter_then = elim s [
    | silence ↦ t.parameter
    | reads j ↦ t.parameter
    | writes_line j l ↦ t.parameter
    | writes_outputs j x ↦ t.parameter
    | writes_parameter v ↦ v
    | gives n ↦ t.parameter
  ]

  abbrev pub special_then : ℕ
  special_then = if eqb (given s) 0 then t.special else given s

  unfoldable pub afterwards : Told
  afterwards = record {
    ticks = ticks_then;
    run = run_then;
    paused = paused_then;
    next_read = next_read_then;
    next_write = next_write_then;
    received = received_then;
    single = single_then;
    parameter = parameter_then;
    special = special_then;
    event = event_then;
    log_length = t.log_length;
  }

-- ---- the history

-- A refused power-on too ends what was; any other refused call changes nothing.
unfoldable pub tell : Told → Note → Told
tell t n =
    if is_power_on n.call then powered (if is_taken n.seen then length n.lent.log else 0)
    else if is_taken n.seen then afterwards n.call (said t n) n.lent t
    else t

unfoldable pub tell_all : Told → List Note → Told
tell_all t [] = t
tell_all t (n ∷ ns) = tell_all (tell t n) ns

-- what the calls ms say, the first of them being the first of all
unfoldable pub told : List Made → Told
told ms = tell_all (powered 0) (notes unpowered ms)

-- no call of these is such a one, by what the history says before it
abbrev pub Never : (Told → Note → Bool) → Told → List Note → Type 0
Never is t [] = Unit {0}
Never is t (n ∷ ns) = (is t n ≡ false) × Never is (tell t n) ns
