-- Programs small enough to reckon by hand, and what the report answers: each clause of 02, item 6, at its edges, and the order of the refusals.
-- Assumes nothing.
use mathlib.Core.Path.{◌≡◌, refl}
use Prim.Native.Nat.{ℕ, suc, ◌-◌}
use mathlib.Core.Bool.{Bool, false}
use mathlib.Core.List.{List, [], ◌∷◌, ◌++◌}
use lib.ListN.{length, replicate}
use lib.Dec.{eqb}
use Rattle.std.specs.Prelude.{if◌then◌else◌}
use Rattle.formats.specs.Checks.{Res, refused, passed, ◌>>◌, ◌or_else◌}
use Rattle.formats.specs.Digits.{digits, number_after}
use Rattle.lines.specs.declared.Line.{Line}
use Rattle.lines.specs.declared.Line.TheVariants.{State, For, Next, Bad}
use Rattle.lines.specs.Line.{read_line, bytes_of}
use Rattle.lines.specs.Program.{line_at, first_next, next_after}
use Rattle.lines.specs.Searches.{some_before, first_of}
use Rattle.lines.specs.Loops.{end_line, next_of, counter_at}
use Rattle.duration.specs.Loops.{is_inside, crosses, starts_in_own, lacks_next, lacks_for, is_tangled, ends_inside}
use Rattle.duration.specs.Ticks.{past, summed, run_ticks, idles_at, idles, has_bad}
use Rattle.duration.specs.Report.{report_to, report}
use Rattle.duration.specs.Total.{most_total, grand_total, told_total}

record Example : Type 0 where
  program : List ℕ
  answer : Res ℕ

is : Res ℕ → Res ℕ → Bool
is (refused a) (refused b) = eqb a b
is (refused a) (passed n) = false
is (passed m) (refused b) = false
is (passed m) (passed n) = eqb m n

failing : ℕ → List Example → List ℕ
failing n [] = []
failing n (x ∷ xs) = if is (report x.program) x.answer then failing (suc n) xs else n ∷ failing (suc n) xs

-- lines from 000 on; what follows them, to line 199, is Bad
abbrev these : List Line → List ℕ
these [] = []
these (l ∷ ls) = bytes_of l ++ these ls

abbrev filled : List ℕ → List ℕ
filled bs = bs ++ replicate (1600 - length bs) 0

infix 4 ◌takes◌
abbrev ◌takes◌ : List Line → ℕ → Example
ls takes n = record { program = filled (these ls); answer = passed n }

infix 4 ◌meets◌
abbrev ◌meets◌ : List Line → ℕ → Example
ls meets e = record { program = filled (these ls); answer = refused e }

-- a State of so many ticks, and the end mark
abbrev S : ℕ → Line
S t = State 5 t

abbrev E : Line
E = State 0 0

-- 10,098,989,901 ticks
abbrev long : List Line
long = For 1 9999 ∷ For 2 9999 ∷ S 101 ∷ Next 2 ∷ Next 1 ∷ E ∷ []

examples : List Example
examples =
    -- "the exact number of unpaused ticks"
    (E ∷ [] takes 0)
    ∷ (S 5 ∷ E ∷ [] takes 5)
    ∷ (S 5 ∷ S 7 ∷ E ∷ [] takes 12)
    -- "A run of lines is summed; a loop is its count times the run of lines inside it."
    ∷ (For 1 3 ∷ S 2 ∷ Next 1 ∷ E ∷ [] takes 6)
    ∷ (S 1 ∷ For 1 2 ∷ S 1 ∷ For 2 3 ∷ S 2 ∷ Next 2 ∷ S 4 ∷ Next 1 ∷ S 8 ∷ E ∷ [] takes 31)
    ∷ (For 1 2 ∷ S 1 ∷ Next 1 ∷ For 1 3 ∷ S 1 ∷ Next 1 ∷ E ∷ [] takes 5)
    -- 02, item 2: a loop of none; its body may take nothing
    ∷ (For 1 0 ∷ S 5 ∷ Next 1 ∷ S 2 ∷ E ∷ [] takes 2)
    ∷ (For 1 0 ∷ Next 1 ∷ E ∷ [] takes 0)
    -- lines behind "the first such line" say nothing
    ∷ (S 1 ∷ E ∷ S 3 ∷ Next 1 ∷ For 2 1 ∷ For 3 1 ∷ Next 2 ∷ Next 3 ∷ E ∷ [] takes 1)
    -- 030
    ∷ record { program = []; answer = refused 30 }
    ∷ record { program = these (E ∷ []); answer = refused 30 }
    ∷ record { program = filled (these (E ∷ [])) ++ (0 ∷ []); answer = refused 30 }
    ∷ record { program = these (Next 1 ∷ E ∷ []); answer = refused 30 }
    -- 042, before all but 030
    ∷ (S 1 ∷ [] meets 42)
    ∷ (Next 1 ∷ For 1 1 ∷ [] meets 42)
    -- 040 "two such loops cross", before and behind the end
    ∷ (For 1 1 ∷ S 1 ∷ For 2 1 ∷ S 1 ∷ Next 1 ∷ S 1 ∷ Next 2 ∷ E ∷ [] meets 40)
    ∷ (For 1 1 ∷ For 2 1 ∷ S 1 ∷ E ∷ Next 1 ∷ Next 2 ∷ [] meets 40)
    -- "one starts inside another of its counter"
    ∷ (For 1 2 ∷ S 1 ∷ For 1 2 ∷ S 1 ∷ Next 1 ∷ E ∷ [] meets 40)
    ∷ (For 1 2 ∷ For 1 2 ∷ S 1 ∷ E ∷ Next 1 ∷ [] meets 40)
    -- "a For has no Next"
    ∷ (For 1 2 ∷ S 1 ∷ E ∷ Next 2 ∷ [] meets 40)
    -- "or a Next before that line has no For": on line 000, and behind that of its For
    ∷ (Next 1 ∷ S 1 ∷ E ∷ [] meets 40)
    ∷ (S 1 ∷ Next 1 ∷ E ∷ [] meets 40)
    ∷ (For 1 2 ∷ S 1 ∷ Next 1 ∷ Next 1 ∷ E ∷ [] meets 40)
    -- all of these also inside a loop of none, which is not run
    ∷ (For 3 0 ∷ For 1 1 ∷ S 1 ∷ For 2 1 ∷ S 1 ∷ Next 1 ∷ Next 2 ∷ Next 3 ∷ E ∷ [] meets 40)
    ∷ (For 1 0 ∷ S 1 ∷ For 1 2 ∷ S 1 ∷ Next 1 ∷ E ∷ [] meets 40)
    ∷ (For 1 0 ∷ For 2 1 ∷ S 1 ∷ Next 1 ∷ E ∷ [] meets 40)
    ∷ (For 1 0 ∷ Next 2 ∷ Next 1 ∷ E ∷ [] meets 40)
    -- 041 "that line is inside a loop", also in one of none; a For behind that line begins no such loop
    ∷ (For 1 2 ∷ S 1 ∷ E ∷ Next 1 ∷ [] meets 41)
    ∷ (For 1 2 ∷ S 1 ∷ E ∷ For 2 2 ∷ Next 1 ∷ Next 2 ∷ [] meets 41)
    ∷ (For 1 0 ∷ E ∷ Next 1 ∷ E ∷ [] meets 41)
    ∷ (For 1 2 ∷ For 2 2 ∷ S 1 ∷ E ∷ Next 2 ∷ Next 1 ∷ [] meets 41)
    -- 044 "a loop with count above 0 whose body takes 0 ticks": it is empty, or holds a loop of none, or a Bad line; also in a loop of none
    ∷ (For 1 1 ∷ Next 1 ∷ E ∷ [] meets 44)
    ∷ (For 1 2 ∷ For 2 0 ∷ S 5 ∷ Next 2 ∷ Next 1 ∷ E ∷ [] meets 44)
    ∷ (For 1 0 ∷ For 2 2 ∷ Next 2 ∷ Next 1 ∷ E ∷ [] meets 44)
    ∷ (For 1 0 ∷ For 2 2 ∷ S 1 ∷ Next 2 ∷ Next 1 ∷ E ∷ [] takes 0)
    ∷ (For 1 2 ∷ Bad ∷ Next 1 ∷ E ∷ [] meets 44)
    -- 014 "a Bad line before it", also in a loop of none
    ∷ (Bad ∷ E ∷ [] meets 14)
    ∷ (For 1 2 ∷ S 1 ∷ Bad ∷ Next 1 ∷ E ∷ [] meets 14)
    ∷ (For 1 2 ∷ Bad ∷ S 1 ∷ Next 1 ∷ E ∷ [] meets 14)
    ∷ (For 1 0 ∷ Bad ∷ Next 1 ∷ E ∷ [] meets 14)
    -- 043 "more than 9,999,999,999 ticks", and as many; a loop of none takes none of its body's
    ∷ (For 1 9999 ∷ For 2 9999 ∷ S 100 ∷ Next 2 ∷ Next 1 ∷ For 1 200 ∷ S 9999 ∷ Next 1 ∷ S 99 ∷ E ∷ [] takes 9999999999)
    ∷ (For 1 9999 ∷ For 2 9999 ∷ S 100 ∷ Next 2 ∷ Next 1 ∷ For 1 200 ∷ S 9999 ∷ Next 1 ∷ S 100 ∷ E ∷ [] meets 43)
    ∷ (For 1 0 ∷ For 2 9999 ∷ For 3 9999 ∷ S 9999 ∷ Next 3 ∷ Next 2 ∷ Next 1 ∷ S 3 ∷ E ∷ [] takes 3)
    -- "first that applies": 040 before 041, 044, 014 and 043
    ∷ (Next 2 ∷ For 1 2 ∷ S 1 ∷ E ∷ Next 1 ∷ [] meets 40)
    ∷ (Next 2 ∷ For 1 2 ∷ Next 1 ∷ E ∷ [] meets 40)
    ∷ (Bad ∷ Next 1 ∷ E ∷ [] meets 40)
    ∷ (For 1 9999 ∷ For 2 9999 ∷ S 101 ∷ Next 2 ∷ Next 1 ∷ Next 1 ∷ E ∷ [] meets 40)
    -- 041 before 044, 014 and 043
    ∷ (For 1 1 ∷ E ∷ Next 1 ∷ [] meets 41)
    ∷ (For 1 1 ∷ Next 1 ∷ For 2 1 ∷ E ∷ Next 2 ∷ [] meets 41)
    ∷ (Bad ∷ For 2 1 ∷ E ∷ Next 2 ∷ [] meets 41)
    ∷ (For 1 9999 ∷ For 2 9999 ∷ S 101 ∷ Next 2 ∷ Next 1 ∷ For 1 1 ∷ E ∷ Next 1 ∷ [] meets 41)
    -- 044 before 014 and 043, 014 before 043
    ∷ (Bad ∷ For 1 1 ∷ Next 1 ∷ E ∷ [] meets 44)
    ∷ (For 1 9999 ∷ For 2 9999 ∷ S 101 ∷ Next 2 ∷ Next 1 ∷ For 1 1 ∷ Next 1 ∷ E ∷ [] meets 44)
    ∷ (Bad ∷ For 1 9999 ∷ For 2 9999 ∷ S 101 ∷ Next 2 ∷ Next 1 ∷ E ∷ [] meets 14)
    ∷ []

examples_hold : failing 1 examples ≡ []
unfolding failing examples is digits number_after read_line bytes_of line_at first_next next_after some_before first_of end_line next_of counter_at is_inside crosses
    starts_in_own lacks_next lacks_for is_tangled ends_inside past summed run_ticks idles_at idles has_bad report_to report ◌>>◌ ◌or_else◌
examples_hold = refl

-- "a grand total more than ten times that"; a refused program adds nothing
totals_hold : (told_total most_total ≡ passed 99999999990) × (told_total 99999999991 ≡ refused 43)
    × (grand_total (filled (these (S 5 ∷ E ∷ [])) ∷ [] ∷ filled (these long) ∷ filled (these (S 7 ∷ E ∷ [])) ∷ []) ≡ 12)
unfolding told_total grand_total digits number_after read_line bytes_of line_at first_next next_after some_before first_of end_line next_of counter_at is_inside crosses
    starts_in_own lacks_next lacks_for is_tangled ends_inside past summed run_ticks idles_at idles has_bad report_to report ◌>>◌ ◌or_else◌
totals_hold = (refl, refl, refl)
