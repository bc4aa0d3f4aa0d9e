-- The report: how a program that is started at a line stops and why, or that it still runs, or why that is not told.
-- 02, item 9: "Add a report that takes a stored program, a start line and a limit of up to 100,000 ticks. It answers still running, or the event, its
-- tick from the start, its line and the cause".
use Rattle.std.specs.Prelude.{ℕ, zero, suc, ◌+◌, true, false, not, Option, None, Some, List, ltb, leb, eqb}
use Rattle.std.specs.Prelude.{if◌then◌else◌}
use Rattle.formats.specs.Checks.{Res, passed, ◌>>◌, ◌or_else◌}
use Rattle.lines.specs.declared.Line.{Line}
use Rattle.lines.specs.declared.Line.TheVariants.{State, For, Next, Bad}
use Rattle.lines.specs.Program.{is_program, line_at}
use Rattle.lines.specs.Searches.{some_before, first_of}
use Rattle.lines.specs.Loops.{counter_at}
use Rattle.running.specs.declared.Run.{Run}
use Rattle.running.specs.declared.Ran.{Ran}
use Rattle.running.specs.Running.{counter, begun, onward, most, start}
use Rattle.running.specs.Ticking.{after}
use Rattle.running.specs.Moments.{last_due}
use Rattle.explanation.specs.declared.Cause.{Cause}
use Rattle.explanation.specs.declared.Cause.TheVariants.{ForLine, Sought, ForAbove, StateLine}
use Rattle.explanation.specs.declared.Stop.{Stop}

-- "a limit of up to 100,000 ticks"
abbrev pub most_limit : ℕ
most_limit = 100000

-- ---- where it stops

-- what the n-th tick after a start at line k did, the start being tick 0; o are the outputs at the start
abbrev pub did : List ℕ → ℕ → ℕ → ℕ → Ran
did p k o n = after p n (start p k o)

-- the first tick after which the program does not run; limit + 1 where it still runs
unfoldable pub stop_tick : List ℕ → ℕ → ℕ → ℕ → ℕ
stop_tick p k o limit = first_of (λ n. not (did p k o n).run.on) (limit + 1) 0

-- the run before tick n: that with which the start begins, or that which the tick before it left
abbrev pub held_at : List ℕ → ℕ → ℕ → ℕ → Run
held_at p k o zero = begun k o
held_at p k o (suc n) = (did p k o n).run

-- ---- the cause

-- the moment at which the first line of a tick falls due: that of the start, or that behind the State line held before it
unfoldable pub first_due : ℕ → Run → Run
first_due tick held = if eqb tick 0 then held else (onward held).run

-- "for 006 the line of the For that holds the counter": it stands in the counter at the last moment of the call
abbrev pub holder_in : Run → Line → Option Cause
holder_in last (State outputs time) = None
holder_in last (For c count) = Some (ForLine (counter last c).line)
holder_in last (Next c) = None
holder_in last Bad = None

-- "for 007 the counter sought"
abbrev pub sought_by : Line → Option Cause
sought_by (State outputs time) = None
sought_by (For c count) = Some (Sought c)
sought_by (Next c) = None
sought_by Bad = None

-- "for 008 whether some For of that counter stands above", at line k
abbrev pub above_by : List ℕ → ℕ → Line → Option Cause
above_by p k (State outputs time) = None
above_by p k (For c count) = None
above_by p k (Next c) = Some (ForAbove (some_before (λ j. eqb (counter_at p j) c) k))
above_by p k Bad = None

-- the cause of an event that came at this tick and at this line, `held` being the run before the tick: "for 013 the State line last held, if any, for
-- others none"
unfoldable pub cause_of : List ℕ → ℕ → ℕ → ℕ → Run → Option Cause
cause_of p event tick line held =
    if eqb event 6 then holder_in (last_due p most (first_due tick held)) (line_at p line)
    else if eqb event 7 then sought_by (line_at p line)
    else if eqb event 8 then above_by p line (line_at p line)
    else if eqb event 13 then (if eqb tick 0 then None else Some (StateLine held.line))
    else None

-- ---- the answer

-- "the event, its tick from the start, its line and the cause", x being what that tick did
unfoldable pub stop_of : List ℕ → ℕ → Run → Ran → Stop
stop_of p tick held x =
    record { event = x.event; tick = tick; line = x.run.line; cause = cause_of p x.event tick x.run.line held }

abbrev pub stop_at : List ℕ → ℕ → ℕ → ℕ → Stop
stop_at p k o n = stop_of p n (held_at p k o n) (did p k o n)

-- "It answers still running, or" how it stopped: there is a stop within the limit, or none
unfoldable pub outcome : List ℕ → ℕ → ℕ → ℕ → Option Stop
outcome p k o limit =
    let n = stop_tick p k o limit in
    if leb n limit then Some (stop_at p k o n) else None

-- "Refusals, in order: 030, 060 start line above 199, 061 limit too large." The outputs at the start make no difference (`Whatever.same_outcome`).
unfoldable pub report : List ℕ → ℕ → ℕ → Res (Option Stop)
report p k limit = do
  is_program p or_else 30
  ltb k 200 or_else 60
  leb limit most_limit or_else 61
  passed (outcome p k 0 limit)

-- ---- the answer in numbers

-- 255, which is no line and no counter, stands for none; "whether" is 1 for yes and 0 for no
abbrev pub cause_number : Option Cause → ℕ
cause_number (Some (ForLine k)) = k
cause_number (Some (Sought c)) = c
cause_number (Some (ForAbove true)) = 1
cause_number (Some (ForAbove false)) = 0
cause_number (Some (StateLine k)) = k
cause_number None = 255
