-- Promises that apply: for each theorem with a premise about calls the kind of script on which it is tried, and the tests that such a script has to pass.
-- `proofs/PutToUse` puts the theorem to use on every script that passes them.
use Rattle.std.specs.Prelude.{ℕ, ◌+◌, ◌*◌, Bool, true, false, not, ◌&&◌, List, [], ◌∷◌, ◌++◌, length, eqb, leb, ltb}
use Prim.Native.String.{String}
use Rattle.std.specs.Prelude.{if◌then◌else◌}
use Rattle.formats.specs.Checks.{Res, refused, passed, text, same, all}
use Rattle.formats.specs.Digits.{error_text, d}
use Rattle.lines.specs.Line.{is_bad}
use Rattle.lines.specs.Program.{line_at}
use Rattle.duration.specs.Report.{report}
use Rattle.explanation.specs.Report.{report as stop_report}
use Rattle.planner.specs.Plan.{moves_of, total, is_word}
use Rattle.planner.specs.Planned.{planned}
use Rattle.reader.specs.declared.Record.{Record}
use Rattle.reader.specs.Reading.{reading}
use Rattle.reader.specs.Words.{is_outside_gap}
use Rattle.wire.specs.Collecting.{most_chars}
use Rattle.controller.specs.Refusals.{Call, tick}
use Rattle.demands.specs.Seen.{is_taken, reply, Note}
use Rattle.demands.specs.Told.{Told, said, starts}
use Rattle.demands.specs.ReadBack.{is_replaced}
use Rattle.demands.specs.Undisturbed.{is_broken, is_pausing, is_touched}
use Rattle.demands.specs.FirstSteps.{has_read, has_written}
use Rattle.demands.specs.Changes.{none_begins}
use Rattle.demands.specs.Walks.{Act, asking, made_of, Trail, is_as_said}
use Rattle.demands.specs.Premises.{never, hands_on, counted, arrives, names, is_given, is_stop, is_still, is_program_of, is_some, goes, ◌behind◌, one_more}
use Rattle.demands.specs.Premises.{seen_at, end, powers_at, empties_to, note_at, notes_in, lends_moment, ruled_at}
use Rattle.demands.specs.Replies.{ended}
use Rattle.demands.specs.TotalScripts.{Totals, totals}

-- ---- `ReadsBack.reads_back_lem`, `line_accepted`

-- after `before`, which ends with the characters of a write, the line is written to k; after `later`, which ends with those of a read, it is read
pub record Back : Type 0 where
  pub k : ℕ
  pub address : String
  pub line : String
  pub again : String
  pub before : List Act
  pub later : List Act

unfoldable pub reads_back : Back → List Bool
reads_back x =
    let b = goes x.before in
    let w = one_more b end in
    let l = w behind x.later in
    leb x.k 200
    ∷ arrives b.last.told (text "CW" ++ (text x.address ++ text x.line))
    ∷ names b.last.told.next_write x.k (text x.address)
    ∷ not b.last.told.run.on
    ∷ is_taken (seen_at b end)
    ∷ same (reply (seen_at b end)) (ended (text "OK"))
    ∷ all hands_on l.moments
    ∷ never (is_replaced x.k) l.moments
    ∷ arrives l.last.told (text "CR" ++ text x.again)
    ∷ names l.last.told.next_read x.k (text x.again)
    ∷ is_taken (seen_at l end)
    -- the conclusion, and all replies on the way
    ∷ same (reply (seen_at l end)) (ended (text x.line))
    ∷ is_as_said x.before b.moments
    ∷ is_as_said x.later l.moments
    ∷ []

-- ---- `ByTheRules`

-- After `before` the call `start` starts the program at `line`.
pub record Begins : Type 0 where
  pub before : List Act
  pub start : Call
  pub line : ℕ

unfoldable pub begins : Begins → Trail → List Bool
begins x b =
    let m = made_of (asking x.start) b.last in
    let n = note_at b (asking x.start) in
    is_taken n.seen
    ∷ is_some (starts x.start (said b.last.told n) m.areas b.last.told) x.line
    ∷ is_as_said x.before b.moments
    ∷ []

-- In `later` so many ticks are taken while not paused. It ends with the characters of a read of j: either byte 13 is next, and is answered with `reply`; or
-- a tick that is taken unpaused, after which the program runs or not, and what is read then is in `found`.
pub record Runs : Type 0 where
  pub begins : Begins
  pub later : List Act
  pub count : ℕ
  pub j : ℕ
  pub address : String
  pub reply : String
  pub is_on : Bool
  pub found : List Act

unfoldable pub runs : Runs → List Bool
runs x =
    let b = goes x.begins.before in
    let l = one_more b (asking x.begins.start) behind x.later in
    let g = one_more l (asking tick) in
    let e = g behind x.found in
    let n = counted l.moments in
    begins x.begins b
    ++ (
    all hands_on l.moments
    ∷ never is_broken l.moments
    ∷ (ruled_at b x.begins.line n).on
    ∷ not l.last.told.paused
    ∷ is_taken (seen_at l (asking tick))
    ∷ eqb n x.count
    ∷ leb x.j 216
    ∷ arrives l.last.told (text "CR" ++ text x.address)
    ∷ names l.last.told.next_read x.j (text x.address)
    ∷ is_taken (seen_at l end)
    ∷ same (reply (seen_at l end)) (ended (text x.reply))
    ∷ (if x.is_on then g.last.told.run.on else not g.last.told.run.on)
    ∷ is_as_said x.later l.moments
    ∷ is_as_said x.found e.moments
    ∷ []
    )

-- which of the theorems on the end of a program applies too
pub data Ends : Type 0 where
  -- the tick ends it: by the report of ticks, started at 000; on a Bad line, by the report of a stop too, with that tick as its limit
  on_time : Ends
  on_bad : Ends
  -- it does not end there, and by the report of a stop it still runs
  goes_on : Ends
  -- the tick ends it, and the program is what comes of a plan of these numbers
  as_planned : List ℕ → Ends
  -- the program is what comes of such a plan, and the tick is not the last
  mid_plan : List ℕ → Ends

unfoldable pub ends_so : Ends → Runs → List Bool
ends_so on_time x =
    let b = goes x.begins.before in
    eqb x.begins.line 0 ∷ is_given (report b.last.held.program) (x.count + 1) ∷ []
ends_so on_bad x =
    let b = goes x.begins.before in
    let r = ruled_at b x.begins.line x.count in
    leb r.wait 1
    ∷ ltb r.line 199
    ∷ is_bad (line_at b.last.held.program (r.line + 1))
    ∷ is_stop (stop_report b.last.held.program x.begins.line (x.count + 1)) 14 (x.count + 1) (r.line + 1)
    ∷ []
ends_so (as_planned ns) x =
    let p = (goes x.begins.before).last.held.program in
    eqb x.begins.line 0 ∷ all is_word ns ∷ is_program_of (planned ns p) p ∷ eqb (x.count + 1) (total (moves_of ns)) ∷ []
ends_so (mid_plan ns) x =
    let p = (goes x.begins.before).last.held.program in
    eqb x.begins.line 0 ∷ all is_word ns ∷ is_program_of (planned ns p) p ∷ ltb (x.count + 1) (total (moves_of ns)) ∷ []
ends_so goes_on x = is_still (stop_report (goes x.begins.before).last.held.program x.begins.line x.count) ∷ []

-- a start that ends the program at once, on its line: by the report of ticks, or on a Bad line, and by the report of a stop; what is read then is in `found`
pub record AtOnce : Type 0 where
  pub begins : Begins
  pub is_on_bad : Bool
  pub found : List Act

unfoldable pub at_once : AtOnce → List Bool
at_once x =
    let b = goes x.begins.before in
    let p = b.last.held.program in
    let e = one_more b (asking x.begins.start) behind x.found in
    begins x.begins b
    ++ (
    (if x.is_on_bad then is_bad (line_at p x.begins.line) else (eqb x.begins.line 0 && is_given (report p) 0))
    ∷ is_as_said x.found e.moments
    ∷ is_stop (stop_report p x.begins.line 0) (if x.is_on_bad then 14 else 11) 0 x.begins.line
    ∷ []
    )

-- Then come calls that touch nothing of the end. `at_line` ends with the characters of a read of 211, which is answered with `line`; `at_event`, or else it,
-- with those of a read of 212: 014, or 011.
pub record EndRead : Type 0 where
  pub at_line : List Act
  pub line : ℕ
  pub at_event : List Act
  pub is_on_bad : Bool

unfoldable pub reads_end : Trail → EndRead → List Bool
reads_end g x =
    let l = g behind x.at_line in
    let e = g behind x.at_event in
    not g.last.told.run.on
    ∷ leb x.line 199
    ∷ never is_touched l.moments
    ∷ arrives l.last.told (text "CR" ++ text "211")
    ∷ is_taken (seen_at l end)
    ∷ same (reply (seen_at l end)) (ended (d x.line))
    ∷ never is_touched e.moments
    ∷ arrives e.last.told (text "CR" ++ text "212")
    ∷ is_taken (seen_at e end)
    ∷ same (reply (seen_at e end)) (ended (text (if x.is_on_bad then "014" else "011")))
    ∷ is_as_said x.at_line l.moments
    ∷ is_as_said x.at_event e.moments
    ∷ []

-- the start that ends it at once, and the tick that ends it
abbrev pub at_start : AtOnce → Trail
at_start x = one_more (goes x.begins.before) (asking x.begins.start)

abbrev pub at_tick : Runs → Trail
at_tick x = one_more (one_more (goes x.begins.before) (asking x.begins.start) behind x.later) (asking tick)

-- `ByTheRules.pauses_only`: of calls none of which breaks the program off or pauses
unfoldable pub pauses_not : Runs → List Bool
pauses_not x =
    let l = one_more (goes x.begins.before) (asking x.begins.start) behind x.later in
    never is_broken l.moments ∷ never is_pausing l.moments ∷ []

-- ---- `FirstSteps`

-- After `before` comes a power-on with a log of `room` bytes, and `later`; then a command by I arrives, `next`, and is answered with `reply`; or one by
-- D, `previous`, with what stands behind it, `left`.
pub record First : Type 0 where
  pub before : List Act
  pub room : ℕ
  pub later : List Act
  pub next : List Act
  pub reply : String
  pub previous : List Act
  pub left : String

module _ (x : First) (command line : String) (has : Told → Note → Bool) where
  unfoldable pub first_by : List Bool
  first_by =
      let o = one_more (goes x.before) (powers_at x.room) in
      let l = o behind x.later in
      let i = l behind x.next in
      let d = l behind x.previous in
      never has l.moments
      ∷ never has i.moments
      ∷ arrives i.last.told (text command ++ (text "I" ++ text line))
      ∷ not i.last.told.run.on
      ∷ is_taken (seen_at i end)
      ∷ same (reply (seen_at i end)) (ended (text x.reply))
      ∷ never has d.moments
      ∷ arrives d.last.told (text command ++ (text "D" ++ text x.left))
      ∷ is_taken (seen_at d end)
      ∷ same (reply (seen_at d end)) (ended (error_text 4))
      ∷ leb (length (text command ++ (text "D" ++ text x.left))) most_chars
      ∷ is_as_said x.later l.moments
      ∷ []

-- ---- the log

-- After `before` comes a power-on with a log of `room` bytes. The first emptying comes after `once`; after it come `later`, a tick, `last` and the second one.
pub record Logs : Type 0 where
  pub before : List Act
  pub room : ℕ
  pub once : List Act
  pub first : List ℕ
  pub later : List Act
  pub last : List Act
  pub second : List ℕ

-- a tick of a log that can be read lies outside its gap
abbrev pub is_outside : ℕ → Res (List Record) → Bool
is_outside t (refused e) = false
is_outside t (passed rs) = is_outside_gap t rs

unfoldable pub logs : Logs → List Bool
logs x =
    let b = goes x.before in
    let o = one_more b (powers_at x.room) in
    let n = o behind x.once in
    let f = one_more n (empties_to x.first) in
    let l = f behind x.later in
    let t = one_more l (asking tick) in
    let m = t behind x.last in
    all hands_on n.moments
    ∷ is_taken (seen_at n (empties_to x.first))
    ∷ same (reply (seen_at n (empties_to x.first))) x.first
    ∷ none_begins (notes_in n.moments)
    ∷ all hands_on l.moments
    ∷ none_begins (notes_in l.moments)
    ∷ is_taken (seen_at l (asking tick))
    ∷ is_outside l.last.told.ticks (reading x.second)
    ∷ all hands_on m.moments
    ∷ none_begins (notes_in m.moments)
    ∷ is_taken (seen_at m (empties_to x.second))
    ∷ same (reply (seen_at m (empties_to x.second))) x.second
    ∷ is_as_said x.before b.moments
    ∷ is_as_said x.once n.moments
    ∷ is_as_said x.later l.moments
    ∷ is_as_said x.last m.moments
    ∷ []

-- and every lent area holds bytes
unfoldable pub lend : Logs → List Bool
lend x =
    let b = goes x.before in
    let o = one_more b (powers_at x.room) in
    let n = o behind x.once in
    let f = one_more n (empties_to x.first) in
    let l = f behind x.later in
    let t = one_more l (asking tick) in
    let m = t behind x.last in
    all lends_moment b.moments
    ∷ all lends_moment o.moments
    ∷ all lends_moment n.moments
    ∷ all lends_moment f.moments
    ∷ all lends_moment l.moments
    ∷ all lends_moment t.moments
    ∷ all lends_moment m.moments
    ∷ []

-- ---- one command

-- `Replies.reads_as_told`, `BadLines.bad_read`: after `before`, which ends with the characters of a read of k, it is answered with `reply`
pub record Reads : Type 0 where
  pub k : ℕ
  pub address : String
  pub reply : String
  pub is_on_bad : Bool
  pub before : List Act

unfoldable pub reads : Reads → List Bool
reads x =
    let b = goes x.before in
    arrives b.last.told (text "CR" ++ text x.address)
    ∷ names b.last.told.next_read x.k (text x.address)
    ∷ leb x.k (if x.is_on_bad then 199 else 216)
    ∷ (if x.is_on_bad then is_bad (line_at b.last.held.program x.k) else true)
    ∷ is_taken (seen_at b end)
    ∷ same (reply (seen_at b end)) (ended (text x.reply))
    ∷ is_as_said x.before b.moments
    ∷ []

-- ---- scripts

pub data Script : Type 0 where
  back : Back → Script
  running : Ends → Runs → Script
  unpausing : Runs → Script
  ending : AtOnce → Script
  start_shown : AtOnce → EndRead → Script
  tick_shown : Runs → EndRead → Script
  first_read : First → Script
  first_write : String → First → Script
  logging : Logs → Script
  listing : Logs → Script
  one_read : Reads → Script
  totalling : Totals → Script

abbrev pub tests_of : Script → List Bool
tests_of (back x) = reads_back x
tests_of (running e x) = runs x ++ ends_so e x
tests_of (unpausing x) = pauses_not x
tests_of (ending x) = at_once x
tests_of (start_shown x e) = at_once x ++ reads_end (at_start x) e
tests_of (tick_shown x e) = runs x ++ reads_end (at_tick x) e
tests_of (first_read x) = first_by x "CR" "" has_read
tests_of (first_write line x) = first_by x "CW" line has_written ++ (same (text x.reply) (text "OK") ∷ [])
tests_of (logging x) = logs x
tests_of (listing x) = logs x ++ lend x
tests_of (one_read x) = reads x
tests_of (totalling x) = totals x

-- the tests that fail, as 100 times the script's number and the test's own, the first script being number n
unfoldable pub failing_of : ℕ → List Bool → List ℕ
failing_of n [] = []
failing_of n (b ∷ bs) = if b then failing_of (n + 1) bs else n ∷ failing_of (n + 1) bs

unfoldable pub failing : ℕ → List Script → List ℕ
failing n [] = []
failing n (s ∷ ss) = failing_of (100 * n + 1) (tests_of s) ++ failing (n + 1) ss
