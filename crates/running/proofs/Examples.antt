-- Programs small enough to follow by hand, run by the rules alone: each rule of 01, 'Running', and of 02, items 2 and 4, shows in one of them.
-- Assumes nothing.
use mathlib.Core.Path.{◌≡◌, refl}
use Prim.Native.Nat.{ℕ, suc}
use mathlib.Core.Bool.{Bool, true, ◌&&◌}
use mathlib.Core.List.{List, [], ◌∷◌, ◌++◌}
use lib.ListN.{replicate}
use Rattle.std.specs.Prelude.{if◌then◌else◌}
use Rattle.formats.specs.Checks.{same}
use Rattle.formats.specs.Digits.{digits, number_after}
use Rattle.lines.specs.declared.Line.{Line}
use Rattle.lines.specs.declared.Line.TheVariants.{State, For, Next, Bad}
use Rattle.lines.specs.Line.{read_line, bytes_of}
use Rattle.lines.specs.Program.{line_at, first_next, next_after}
use Rattle.running.specs.declared.Ran.{Ran}
use Rattle.running.specs.Running.{counter, stopped, onward, run_line, step, run_due, start, tick}

-- a row: 1 if the program runs, the outputs, the line, counter 1, the event, the For and Next lines run
abbrev row : Ran → List ℕ
row x = (if x.run.on then 1 else 0) ∷ x.run.outputs ∷ x.run.line ∷ (counter x.run 1).count ∷ x.event ∷ x.lines ∷ []

record Example : Type 0 where
  program : List ℕ
  from : ℕ
  -- after the start, and after each tick
  rows : List (List ℕ)

agrees : List ℕ → Ran → List (List ℕ) → Bool
agrees p x [] = true
agrees p x (r ∷ rs) = same (row x) r && agrees p (tick p x.run) rs

failing : ℕ → List Example → List ℕ
failing n [] = []
failing n (e ∷ es) =
    if agrees e.program (start e.program e.from 0) e.rows then failing (suc n) es else n ∷ failing (suc n) es

-- lines from 000 on; what follows them is Bad
abbrev these : List Line → List ℕ
these [] = []
these (l ∷ ls) = bytes_of l ++ these ls

infix 70 ◌started_at◌gives◌
abbrev ◌started_at◌gives◌ : List ℕ → ℕ → List (List ℕ) → Example
p started_at k gives rs = record { program = p; from = k; rows = rs }

abbrev examples : List Example
examples =
    -- 1: a loop of three; the tick in which a State line is set does not count towards its time
    these (For 1 3 ∷ State 1 2 ∷ Next 1 ∷ State 0 0 ∷ [])
    started_at 0
    gives (
    (1 ∷ 1 ∷ 1 ∷ 3 ∷ 0 ∷ 1 ∷ [])
    ∷ (1 ∷ 1 ∷ 1 ∷ 3 ∷ 0 ∷ 0 ∷ [])
    ∷ (1 ∷ 1 ∷ 1 ∷ 2 ∷ 0 ∷ 1 ∷ [])
    ∷ (1 ∷ 1 ∷ 1 ∷ 2 ∷ 0 ∷ 0 ∷ [])
    ∷ (1 ∷ 1 ∷ 1 ∷ 1 ∷ 0 ∷ 1 ∷ [])
    ∷ (1 ∷ 1 ∷ 1 ∷ 1 ∷ 0 ∷ 0 ∷ [])
    ∷ (0 ∷ 0 ∷ 3 ∷ 0 ∷ 11 ∷ 1 ∷ [])
    ∷ (0 ∷ 0 ∷ 3 ∷ 0 ∷ 0 ∷ 0 ∷ [])
    ∷ []
    )
    -- 2: a start inside a loop: 008, though a For stands above
    ∷ these (For 1 3 ∷ State 5 1 ∷ Next 1 ∷ State 0 0 ∷ [])
    started_at 1
    gives ((1 ∷ 5 ∷ 1 ∷ 0 ∷ 0 ∷ 0 ∷ []) ∷ (0 ∷ 5 ∷ 2 ∷ 0 ∷ 8 ∷ 1 ∷ []) ∷ [])
    -- 3: a busy counter: 006
    ∷ these (For 1 2 ∷ For 1 2 ∷ Next 1 ∷ []) started_at 0 gives ((0 ∷ 0 ∷ 1 ∷ 0 ∷ 6 ∷ 2 ∷ []) ∷ [])
    -- 4: no later Next of that counter: 007
    ∷ these (Next 1 ∷ For 1 2 ∷ Next 2 ∷ []) started_at 1 gives ((0 ∷ 0 ∷ 1 ∷ 0 ∷ 7 ∷ 1 ∷ []) ∷ [])
    -- 5 and 6: 400 lines in one call, and a 401st due
    ∷ these (For 1 399 ∷ Next 1 ∷ State 7 0 ∷ []) started_at 0 gives ((0 ∷ 7 ∷ 2 ∷ 0 ∷ 11 ∷ 400 ∷ []) ∷ [])
    ∷ these (For 1 400 ∷ Next 1 ∷ State 7 0 ∷ []) started_at 0 gives ((0 ∷ 0 ∷ 1 ∷ 0 ∷ 13 ∷ 400 ∷ []) ∷ [])
    -- 7: on past line 199: 009, and the line stays
    ∷ (replicate 1592 0 ++ bytes_of (State 5 1)) started_at 199 gives ((1 ∷ 5 ∷ 199 ∷ 0 ∷ 0 ∷ 0 ∷ []) ∷ (0 ∷ 5 ∷ 199 ∷ 0 ∷ 9 ∷ 0 ∷ []) ∷ [])
    -- 8: count 0000 runs its body not at all; the For is the one line counted
    ∷ these (For 1 0 ∷ State 3 1 ∷ Next 1 ∷ State 4 2 ∷ State 0 0 ∷ [])
    started_at 0
    gives ((1 ∷ 4 ∷ 3 ∷ 0 ∷ 0 ∷ 1 ∷ []) ∷ (1 ∷ 4 ∷ 3 ∷ 0 ∷ 0 ∷ 0 ∷ []) ∷ (0 ∷ 0 ∷ 4 ∷ 0 ∷ 11 ∷ 0 ∷ []) ∷ [])
    -- 9: a counter that is free again can be used again
    ∷ these (For 1 1 ∷ Next 1 ∷ For 1 1 ∷ Next 1 ∷ State 2 9 ∷ []) started_at 0 gives ((1 ∷ 2 ∷ 4 ∷ 0 ∷ 0 ∷ 4 ∷ []) ∷ [])
    -- 10: a loop of none in a loop, passed on each round
    ∷ these (For 1 2 ∷ For 2 0 ∷ State 3 1 ∷ Next 2 ∷ State 4 1 ∷ Next 1 ∷ State 0 0 ∷ [])
    started_at 0
    gives ((1 ∷ 4 ∷ 4 ∷ 2 ∷ 0 ∷ 2 ∷ []) ∷ (1 ∷ 4 ∷ 4 ∷ 1 ∷ 0 ∷ 2 ∷ []) ∷ (0 ∷ 0 ∷ 6 ∷ 0 ∷ 11 ∷ 1 ∷ []) ∷ [])
    -- 11 and 12: around a loop of its own counter, whose Next is the first later one; across a loop of another, whose Next stands behind
    ∷ these (For 1 0 ∷ For 1 2 ∷ State 3 1 ∷ Next 1 ∷ Next 1 ∷ []) started_at 0 gives ((0 ∷ 0 ∷ 4 ∷ 0 ∷ 8 ∷ 2 ∷ []) ∷ [])
    ∷ these (For 1 0 ∷ For 2 2 ∷ Next 1 ∷ State 3 1 ∷ Next 2 ∷ [])
    started_at 0
    gives ((1 ∷ 3 ∷ 3 ∷ 0 ∷ 0 ∷ 1 ∷ []) ∷ (0 ∷ 3 ∷ 4 ∷ 0 ∷ 8 ∷ 1 ∷ []) ∷ [])
    -- 13: a start inside the body that is passed over: 008
    ∷ these (For 1 0 ∷ State 3 1 ∷ Next 1 ∷ []) started_at 1 gives ((1 ∷ 3 ∷ 1 ∷ 0 ∷ 0 ∷ 0 ∷ []) ∷ (0 ∷ 3 ∷ 2 ∷ 0 ∷ 8 ∷ 1 ∷ []) ∷ [])
    -- 14 to 16: with count 0000 too, a busy counter is 006, no later Next 007, and 006 comes first
    ∷ these (For 1 1 ∷ For 1 0 ∷ Next 1 ∷ []) started_at 0 gives ((0 ∷ 0 ∷ 1 ∷ 0 ∷ 6 ∷ 2 ∷ []) ∷ [])
    ∷ these (Next 1 ∷ For 1 0 ∷ Next 2 ∷ []) started_at 1 gives ((0 ∷ 0 ∷ 1 ∷ 0 ∷ 7 ∷ 1 ∷ []) ∷ [])
    ∷ these (For 1 2 ∷ For 2 0 ∷ Next 1 ∷ Next 2 ∷ For 1 0 ∷ []) started_at 0 gives ((0 ∷ 0 ∷ 4 ∷ 0 ∷ 6 ∷ 3 ∷ []) ∷ [])
    -- 17: its Next on line 199: 009, on that line
    ∷ (these (State 5 1 ∷ For 1 0 ∷ []) ++ replicate 1576 0 ++ bytes_of (Next 1))
    started_at 0
    gives ((1 ∷ 5 ∷ 0 ∷ 0 ∷ 0 ∷ 0 ∷ []) ∷ (0 ∷ 5 ∷ 199 ∷ 0 ∷ 9 ∷ 1 ∷ []) ∷ [])
    -- 18 and 19: 400 lines in one call, 266 of them loops of none, and a 401st due, which is one
    ∷ these (For 1 133 ∷ For 2 0 ∷ Next 2 ∷ For 3 0 ∷ Next 3 ∷ Next 1 ∷ State 7 0 ∷ [])
    started_at 0
    gives ((0 ∷ 7 ∷ 6 ∷ 0 ∷ 11 ∷ 400 ∷ []) ∷ [])
    ∷ these (For 1 134 ∷ For 2 0 ∷ Next 2 ∷ For 3 0 ∷ Next 3 ∷ Next 1 ∷ State 7 0 ∷ [])
    started_at 0
    gives ((0 ∷ 0 ∷ 1 ∷ 0 ∷ 13 ∷ 400 ∷ []) ∷ [])
    -- 20 and 21: a Bad line first, and on line 199: 014 there, the outputs stay, no line is counted
    ∷ these (Bad ∷ State 0 0 ∷ []) started_at 0 gives ((0 ∷ 0 ∷ 0 ∷ 0 ∷ 14 ∷ 0 ∷ []) ∷ (0 ∷ 0 ∷ 0 ∷ 0 ∷ 0 ∷ 0 ∷ []) ∷ [])
    ∷ (replicate 1584 0 ++ bytes_of (State 5 1)) started_at 198 gives ((1 ∷ 5 ∷ 198 ∷ 0 ∷ 0 ∷ 0 ∷ []) ∷ (0 ∷ 5 ∷ 199 ∷ 0 ∷ 14 ∷ 0 ∷ []) ∷ [])
    -- 22 and 23: in a loop, whose For found its Next behind it and whose counter is freed; and after exactly 400 lines, where it is no 401st
    ∷ these (For 1 3 ∷ State 5 1 ∷ Bad ∷ Next 1 ∷ State 0 0 ∷ [])
    started_at 0
    gives ((1 ∷ 5 ∷ 1 ∷ 3 ∷ 0 ∷ 1 ∷ []) ∷ (0 ∷ 5 ∷ 2 ∷ 0 ∷ 14 ∷ 0 ∷ []) ∷ [])
    ∷ these (For 1 399 ∷ Next 1 ∷ Bad ∷ []) started_at 0 gives ((0 ∷ 0 ∷ 2 ∷ 0 ∷ 14 ∷ 400 ∷ []) ∷ [])
    -- 24 and 25: a loop of none passes over it; a damaged Next is none
    ∷ these (For 1 1 ∷ State 6 1 ∷ Next 1 ∷ For 1 0 ∷ Bad ∷ Next 1 ∷ State 7 0 ∷ [])
    started_at 0
    gives ((1 ∷ 6 ∷ 1 ∷ 1 ∷ 0 ∷ 1 ∷ []) ∷ (0 ∷ 7 ∷ 6 ∷ 0 ∷ 11 ∷ 2 ∷ []) ∷ [])
    ∷ (these (For 1 2 ∷ State 6 1 ∷ []) ++ (0x4E ∷ 1 ∷ 0 ∷ 0 ∷ 0 ∷ 0 ∷ 0 ∷ 1 ∷ []) ++ bytes_of (State 7 0))
    started_at 0
    gives ((0 ∷ 0 ∷ 0 ∷ 0 ∷ 7 ∷ 1 ∷ []) ∷ [])
    ∷ []

running_examples : failing 1 examples ≡ []
unfolding failing agrees digits number_after read_line bytes_of line_at first_next next_after stopped onward run_line step run_due start tick
running_examples = refl
