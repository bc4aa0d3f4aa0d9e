-- Programs small enough to follow by hand, and what the report answers: each event and each cause of 02, item 9, at their edges, and the order of the refusals.
-- Assumes nothing.
use mathlib.Core.Path.{◌≡◌, refl}
use Prim.Native.Nat.{ℕ, suc, ◌-◌}
use mathlib.Core.Bool.{Bool, true, false, ◌&&◌}
use mathlib.Core.List.{List, [], ◌∷◌, ◌++◌}
use lib.ListN.{length, replicate}
use lib.Dec.{eqb}
use Rattle.std.specs.Prelude.{if◌then◌else◌}
use Rattle.formats.specs.Checks.{Res, refused, passed, ◌>>◌, ◌or_else◌}
use Rattle.formats.specs.Digits.{digits, number_after}
use Rattle.lines.specs.declared.Line.{Line}
use Rattle.lines.specs.declared.Line.TheVariants.{State, For, Next}
use Rattle.lines.specs.Line.{read_line, bytes_of}
use Rattle.lines.specs.Program.{line_at, first_next, next_after}
use Rattle.lines.specs.Searches.{some_before, first_of}
use Rattle.lines.specs.Loops.{counter_at}
use Rattle.running.specs.Running.{stopped, onward, run_line, step, run_due, start, tick}
use Rattle.running.specs.Ticking.{after}
use Rattle.running.specs.Moments.{last_due}
use Rattle.std.specs.Prelude.{Option, None, Some}
use Rattle.explanation.specs.declared.Cause.{Cause}
use Rattle.explanation.specs.declared.Cause.TheVariants.{ForLine, Sought, ForAbove, StateLine}
use Rattle.explanation.specs.declared.Stop.{Stop}
use Rattle.explanation.specs.Report.{stop_tick, first_due, cause_of, stop_of, outcome, report, cause_number}

record Example : Type 0 where
  program : List ℕ
  start : ℕ
  limit : ℕ
  answer : Res (Option Stop)

-- which cause it is, besides its number
kind_of : Option Cause → ℕ
kind_of (Some (ForLine k)) = 1
kind_of (Some (Sought c)) = 2
kind_of (Some (ForAbove b)) = 3
kind_of (Some (StateLine k)) = 4
kind_of None = 5

is_stop : Stop → Stop → Bool
is_stop s t =
    eqb s.event t.event && eqb s.tick t.tick && eqb s.line t.line && eqb (kind_of s.cause) (kind_of t.cause)
    && eqb (cause_number s.cause) (cause_number t.cause)

is : Res (Option Stop) → Res (Option Stop) → Bool
is (refused a) (refused b) = eqb a b
is (refused a) (passed n) = false
is (passed m) (refused b) = false
is (passed None) (passed None) = true
is (passed None) (passed (Some s)) = false
is (passed (Some s)) (passed None) = false
is (passed (Some s)) (passed (Some t)) = is_stop s t

failing : ℕ → List Example → List ℕ
failing n [] = []
failing n (x ∷ xs) =
    if is (report x.program x.start x.limit) x.answer then failing (suc n) xs else n ∷ failing (suc n) xs

-- lines from 000 on; what follows them, to line 199, is Bad
abbrev these : List Line → List ℕ
these [] = []
these (l ∷ ls) = bytes_of l ++ these ls

abbrev filled : List ℕ → List ℕ
filled bs = bs ++ replicate (1600 - length bs) 0

-- 199 Bad lines before the last
abbrev at_the_end : Line → List ℕ
at_the_end l = replicate 1592 0 ++ bytes_of l

-- what is told, and of which start and limit
abbrev stops : List ℕ → ℕ → ℕ → ℕ → ℕ → ℕ → Option Cause → Example
stops p k limit e n l c = record { program = p; start = k; limit = limit; answer = passed (Some (record { event = e; tick = n; line = l; cause = c })) }

abbrev runs : List ℕ → ℕ → ℕ → Example
runs p k limit = record { program = p; start = k; limit = limit; answer = passed None }

abbrev refuses : List ℕ → ℕ → ℕ → ℕ → Example
refuses p k limit e = record { program = p; start = k; limit = limit; answer = refused e }

abbrev P : List Line → List ℕ
P ls = filled (these ls)

-- a State of so many ticks, and the end mark
abbrev S : ℕ → Line
S t = State 5 t

abbrev E : Line
E = State 0 0

-- counter 1 is freed by its first For and taken again by its second; the third finds it in use
abbrev twice : List Line
twice = For 1 1 ∷ S 1 ∷ Next 1 ∷ For 1 2 ∷ S 1 ∷ For 1 3 ∷ Next 1 ∷ []

examples : List Example
examples =
    -- 011, on the limit's own tick and one behind it; in the start, with limit 0
    stops (P (S 5 ∷ E ∷ [])) 0 5 11 5 1 None
    ∷ runs (P (S 5 ∷ E ∷ [])) 0 4
    ∷ stops (P (S 5 ∷ E ∷ [])) 1 0 11 0 1 None
    ∷ runs (P (S 5 ∷ E ∷ [])) 0 0
    ∷ stops (P (For 1 3 ∷ S 2 ∷ Next 1 ∷ E ∷ [])) 0 100000 11 6 3 None
    -- 006: "the line of the For that holds the counter", which is not the nearest above; the For itself, behind a jump back; a For of none
    ∷ stops (P (For 1 2 ∷ S 3 ∷ For 2 0 ∷ For 1 1 ∷ Next 2 ∷ For 1 2 ∷ Next 1 ∷ [])) 0 9 6 3 5 (Some (ForLine 0))
    ∷ stops (P twice) 0 9 6 2 5 (Some (ForLine 3))
    ∷ stops (P (For 2 2 ∷ For 1 3 ∷ S 1 ∷ Next 2 ∷ Next 1 ∷ [])) 0 9 6 1 1 (Some (ForLine 1))
    ∷ stops (P (For 1 2 ∷ For 1 0 ∷ Next 1 ∷ [])) 0 0 6 0 1 (Some (ForLine 0))
    -- 007: also where a Next stands above only, and on line 199
    ∷ stops (P (S 1 ∷ Next 3 ∷ For 3 2 ∷ [])) 2 9 7 0 2 (Some (Sought 3))
    ∷ stops (at_the_end (For 4 1)) 199 9 7 0 199 (Some (Sought 4))
    -- 008: "even if a For stands above (a start inside a loop)", or one of none, or none; a For below is none
    ∷ stops (P (For 1 2 ∷ S 1 ∷ Next 1 ∷ [])) 1 9 8 1 2 (Some (ForAbove true))
    ∷ stops (P (For 1 0 ∷ Next 2 ∷ Next 1 ∷ [])) 2 9 8 0 2 (Some (ForAbove true))
    ∷ stops (P (For 2 2 ∷ S 1 ∷ Next 1 ∷ For 1 1 ∷ Next 1 ∷ [])) 1 9 8 1 2 (Some (ForAbove false))
    -- 009: behind a State, behind a Next, behind a loop of none
    ∷ stops (at_the_end (S 2)) 199 9 9 2 199 None
    ∷ runs (at_the_end (S 2)) 199 1
    ∷ stops (these (For 1 0 ∷ []) ++ replicate 1584 0 ++ bytes_of (Next 1)) 0 9 9 0 199 None
    -- 013: "the State line last held, if any", and that of 400 lines none does
    ∷ stops (P (For 1 400 ∷ Next 1 ∷ E ∷ [])) 0 9 13 0 1 None
    ∷ stops (P (For 1 399 ∷ Next 1 ∷ E ∷ [])) 0 9 11 0 2 None
    ∷ stops (P (For 2 2 ∷ For 3 0 ∷ S 1 ∷ Next 3 ∷ S 2 ∷ For 1 400 ∷ Next 1 ∷ Next 2 ∷ [])) 0 9 13 2 6 (Some (StateLine 4))
    -- 014, on the start line too; a Bad line behind 400 others is no 013
    ∷ stops (P (S 3 ∷ [])) 0 9 14 3 1 None
    ∷ stops (P []) 0 9 14 0 0 None
    ∷ stops (P (For 1 399 ∷ Next 1 ∷ [])) 0 9 14 0 2 None
    -- "Refusals, in order: 030, 060 start line above 199, 061 limit too large."
    ∷ refuses [] 200 100001 30
    ∷ refuses (replicate 1599 0) 0 0 30
    ∷ refuses (replicate 1601 0) 0 0 30
    ∷ refuses (P []) 200 100001 60
    ∷ stops (P []) 199 100000 14 0 199 None
    ∷ refuses (P []) 199 100001 61
    ∷ []

examples_hold : failing 1 examples ≡ []
unfolding failing examples is is_stop kind_of digits number_after read_line bytes_of line_at first_next next_after some_before first_of counter_at stopped onward run_line
    step run_due start tick after last_due stop_tick first_due cause_of stop_of outcome report ◌>>◌ ◌or_else◌
examples_hold = refl
