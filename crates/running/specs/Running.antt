-- The running rules: what a start and a tick do, by the program alone.
-- 01, 'Running': "Lines run inside the start call or tick in which they fall due."
use Rattle.std.specs.Prelude.{ℕ, zero, suc, ◌+◌, ◌-◌, Bool, true, false, not, List, get_or, set, replicate, ltb, eqb}
use Rattle.std.specs.Prelude.{if◌then◌else◌}
use Rattle.lines.specs.declared.Line.{Line}
use Rattle.lines.specs.declared.Line.TheVariants.{State, For, Next, Bad}
use Rattle.lines.specs.Program.{line_at, next_after}
use Rattle.running.specs.declared.Counter.{Counter}
use Rattle.running.specs.declared.Run.{Run}
use Rattle.running.specs.declared.How.{How}
use Rattle.running.specs.declared.How.TheVariants.{Holds, Ends, GoesOn}
use Rattle.running.specs.declared.Step.{Step}
use Rattle.running.specs.declared.Ran.{Ran}

-- ---- loop counters

abbrev pub free : Counter
free = record { count = 0; line = 0 }

abbrev pub all_free : List Counter
all_free = replicate 4 free

-- loop counter c, of 1 to 4
abbrev pub counter : Run → ℕ → Counter
counter r c = get_or r.counters (c - 1) free

abbrev pub is_busy : Run → ℕ → Bool
is_busy r c = ltb 0 (counter r c).count

abbrev pub is_free : Run → ℕ → Bool
is_free r c = eqb (counter r c).count 0

-- ---- one part of a run altered

abbrev pub at_line : ℕ → Run → Run
at_line k r = record { on = r.on; line = k; outputs = r.outputs; wait = r.wait; counters = r.counters }

abbrev pub with_outputs : ℕ → Run → Run
with_outputs o r = record { on = r.on; line = r.line; outputs = o; wait = r.wait; counters = r.counters }

abbrev pub waiting : ℕ → Run → Run
waiting t r = record { on = r.on; line = r.line; outputs = r.outputs; wait = t; counters = r.counters }

abbrev pub with_counter : ℕ → Counter → Run → Run
with_counter c v r =
    record { on = r.on; line = r.line; outputs = r.outputs; wait = r.wait; counters = set r.counters (c - 1) v }

-- at power-on; 01: "outputs 0, stopped, line 000"
abbrev pub fresh_run : Run
fresh_run = record { on = false; line = 0; outputs = 0; wait = 0; counters = all_free }

-- the run that a start begins with; 01: "A start frees all loops."
abbrev pub begun : ℕ → ℕ → Run
begun k outputs = record { on = true; line = k; outputs = outputs; wait = 0; counters = all_free }

-- 01: "Stop frees the loops and keeps outputs and line." "An event stop keeps the outputs, frees the loops"
unfoldable pub stopped : Run → Run
stopped r = record { on = false; line = r.line; outputs = r.outputs; wait = 0; counters = all_free }

-- ---- one line

abbrev pub holds : Run → Step
holds r = record { run = r; how = Holds }

abbrev pub ends : ℕ → Run → Step
ends event r = record { run = r; how = Ends event }

abbrev pub goes_to : ℕ → Run → Step
goes_to k r = record { run = at_line k r; how = GoesOn }

-- 01: "Going on past 199: event 009, line stays 199."
unfoldable pub onward : Run → Step
onward r = if ltb r.line 199 then goes_to (r.line + 1) r else ends 9 r

unfoldable pub run_line : List ℕ → Line → Run → Step
-- "State, time T above 0: set all 32 outputs at once; the next line falls due on the T-th tick taken unpaused."
-- "State, time 0: set outputs, stop, event 011."
run_line p (State outputs time) r =
    if eqb time 0 then ends 11 (with_outputs outputs r)
    else holds (waiting time (with_outputs outputs r))
-- "For C: busy counter, event 006; else no Next C on any later line, 007; else the counter takes the count and is busy." And 02, item 2:
-- "For with count 0000 passes to the line after the first later Next of that counter and takes no counter; 006 and 007 are still checked
-- first. If that Next is line 199, event 009 there."
run_line p (For c count) r =
    let next = next_after p c r.line in
    if is_busy r c then ends 6 r
    else if eqb next 200 then ends 7 r
    else if eqb count 0 then onward (at_line next r)
    else onward (with_counter c (record { count = count; line = r.line }) r)
-- "Next C: counter not busy, 008, even if a For stands above (a start inside a loop). Else take one off; above zero, go to the
-- line after its For; at zero, free it and go on."
run_line p (Next c) r =
    let left = (counter r c).count - 1 in
    let loop = (counter r c).line in
    if is_free r c then ends 8 r
    else if ltb 0 left then goes_to (loop + 1) (with_counter c (record { count = left; line = loop }) r)
    else onward (with_counter c free r)
-- 02, item 4: "Running a Bad line stops with event 014 at that line."
run_line p Bad r = ends 14 r

-- ---- the lines that fall due in one call

-- the lines that a call counts; a Bad line is neither
abbrev pub is_for_or_next : Line → Bool
is_for_or_next (State outputs time) = false
is_for_or_next (For c count) = true
is_for_or_next (Next c) = true
is_for_or_next Bad = false

abbrev pub counted : Line → ℕ
counted l = if is_for_or_next l then 1 else 0

-- the program has stopped with an event, after n lines
abbrev pub stops : ℕ → ℕ → Run → Ran
stops event n r = record { run = stopped r; event = event; lines = n }

-- nothing more falls due in this call, after n lines
abbrev pub rests : ℕ → Run → Ran
rests n r = record { run = r; event = 0; lines = n }

-- what follows, after n lines: the State line is held, the program stops, or `go` runs the line that falls due next
abbrev pub follow : How → ℕ → Run → (Run → Ran) → Ran
follow Holds n r go = rests n r
follow (Ends event) n r go = stops event n r
follow GoesOn n r go = go r

-- the line that is due
unfoldable pub step : List ℕ → Run → Step
step p r = run_line p (line_at p r.line) r

-- 01: "One call runs at most 400 For and Next lines. Were a 401st due, the program stops there with event 013 (*house*). A For or
-- Next that ends in 006, 007 or 008 counts as run; the one stopped by 013 does not".
-- Here `left` more may be run, and n were. (After a State line or a Bad one, the last line of a call, none falls due.)
unfoldable pub run_due : List ℕ → ℕ → ℕ → Run → Ran
run_due p zero n r =
    if is_for_or_next (line_at p r.line) then stops 13 n r
    else follow (step p r).how n (step p r).run (λ s. rests n s)
run_due p (suc left) n r =
    let m = n + counted (line_at p r.line) in
    follow (step p r).how m (step p r).run (λ s. run_due p left m s)

-- the most For and Next lines of one call
abbrev pub most : ℕ
most = 400

-- a start at line k with the outputs as they stand
unfoldable pub start : List ℕ → ℕ → ℕ → Ran
start p k outputs = run_due p most 0 (begun k outputs)

-- the next line falls due on a later tick
abbrev pub is_held : Run → Bool
is_held r = ltb 1 r.wait

-- One tick taken unpaused: a State line is held on, or the program goes on to the line after it.
unfoldable pub tick : List ℕ → Run → Ran
tick p r =
    if not r.on then rests 0 r
    else if is_held r then rests 0 (waiting (r.wait - 1) r)
    else follow (onward r).how 0 (onward r).run (λ s. run_due p most 0 s)

-- n ticks taken unpaused
unfoldable pub ticks : List ℕ → ℕ → Run → Run
ticks p zero r = r
ticks p (suc n) r = ticks p n (tick p r).run
