-- Plans small enough to follow by hand: times at their edges, the words tick by tick, the order of the refusals, and a plan that needs 129 lines.
-- Assumes nothing.
use Prim.Native.Nat.{ℕ, ◌+◌, ◌*◌}
use mathlib.Core.Path.{◌≡◌, refl}
use mathlib.Core.List.{List, [], ◌∷◌, ◌++◌, map}
use lib.ListN.{length, replicate}
use Rattle.formats.specs.Checks.{refusal_of, ◌>>◌, ◌or_else◌}
use Rattle.lines.specs.declared.Line.TheVariants.{State, For, Next}
use Rattle.planner.specs.Plan.{moves_of, total, word_at}
use Rattle.planner.specs.Lines.{loop_lines, remainder, lines_for, move_lines, plan_lines, program_lines, laid, program_of}
use Rattle.planner.specs.Planned.{planned}

-- ---- times

one_tick : lines_for 5 1 ≡ State 5 1 ∷ []
unfolding lines_for
one_tick = refl

longest_state : lines_for 5 9999 ≡ State 5 9999 ∷ []
unfolding lines_for
longest_state = refl

one_more : lines_for 5 10000 ≡ For 1 1 ∷ State 5 9999 ∷ Next 1 ∷ State 5 1 ∷ []
unfolding lines_for loop_lines remainder
one_more = refl

-- a remainder of 0 is no line
twice : lines_for 5 19998 ≡ For 1 2 ∷ State 5 9999 ∷ Next 1 ∷ []
unfolding lines_for loop_lines remainder
twice = refl

twice_and_one : lines_for 5 19999 ≡ For 1 2 ∷ State 5 9999 ∷ Next 1 ∷ State 5 1 ∷ []
unfolding lines_for loop_lines remainder
twice_and_one = refl

longest_time : lines_for 5 600000 ≡ For 1 60 ∷ State 5 9999 ∷ Next 1 ∷ State 5 60 ∷ []
unfolding lines_for loop_lines remainder
longest_time = refl

-- ---- words

-- two moves: 2 ticks of 1, 3 of 2, 1 of 4, 1 of 8
abbrev two : List ℕ
two = 1 ∷ 2 ∷ 2 ∷ 3 ∷ 4 ∷ 1 ∷ 8 ∷ 1 ∷ []

words_of_two : map (word_at (moves_of two)) (0 ∷ 1 ∷ 2 ∷ 3 ∷ 4 ∷ 5 ∷ 6 ∷ 7 ∷ 8 ∷ []) ≡ 1 ∷ 1 ∷ 2 ∷ 2 ∷ 2 ∷ 4 ∷ 8 ∷ 0 ∷ 0 ∷ []
unfolding word_at moves_of
words_of_two = refl

sum_of_two : total (moves_of two) ≡ 7
unfolding total moves_of
sum_of_two = refl

lines_of_two : plan_lines (moves_of two) ≡ State 1 2 ∷ State 2 3 ∷ State 4 1 ∷ State 8 1 ∷ []
unfolding plan_lines move_lines lines_for moves_of
lines_of_two = refl

-- ---- the most lines

abbrev long_plan : ℕ → List ℕ
long_plan n = replicate (4 * n) 19999

-- "200 lines always suffice": this plan needs 129 of them, with its end mark
pub most_lines : length (plan_lines (moves_of (long_plan 16))) + 1 ≡ 129
unfolding plan_lines move_lines lines_for loop_lines remainder moves_of
most_lines = refl

-- ---- refusals

abbrev area : ℕ → List ℕ
area n = replicate n 7

record Example : Type 0 where
  numbers : List ℕ
  room : ℕ
  refusal : ℕ

abbrev told : Example → ℕ
told x = refusal_of (planned x.numbers (area x.room))

examples : List Example
examples =
    record { numbers = two; room = 1600; refusal = 0 }
    ∷ record { numbers = two; room = 1599; refusal = 30 }
    ∷ record { numbers = []; room = 1601; refusal = 30 }
    ∷ record { numbers = 1 ∷ 0 ∷ 1 ∷ 1 ∷ []; room = 0; refusal = 30 }
    ∷ record { numbers = []; room = 1600; refusal = 70 }
    ∷ record { numbers = long_plan 16; room = 1600; refusal = 0 }
    ∷ record { numbers = long_plan 17; room = 1600; refusal = 70 }
    -- a part of a move, and a time of 0 in it
    ∷ record { numbers = two ++ (1 ∷ 0 ∷ []); room = 1600; refusal = 70 }
    ∷ record { numbers = replicate 68 0; room = 1600; refusal = 70 }
    ∷ record { numbers = 1 ∷ 0 ∷ 1 ∷ 1 ∷ []; room = 1600; refusal = 71 }
    ∷ record { numbers = 1 ∷ 1 ∷ 1 ∷ 0 ∷ []; room = 1600; refusal = 71 }
    ∷ record { numbers = 1 ∷ 600000 ∷ 1 ∷ 600000 ∷ []; room = 1600; refusal = 0 }
    ∷ record { numbers = 1 ∷ 600001 ∷ 1 ∷ 1 ∷ []; room = 1600; refusal = 71 }
    ∷ record { numbers = two ++ (1 ∷ 1 ∷ 1 ∷ 600001 ∷ []); room = 1600; refusal = 71 }
    ∷ []

as_told : map told examples ≡ map (λ (x : Example). x.refusal) examples
unfolding examples planned ◌>>◌ ◌or_else◌ moves_of program_of program_lines plan_lines move_lines lines_for loop_lines remainder laid
as_told = refl
