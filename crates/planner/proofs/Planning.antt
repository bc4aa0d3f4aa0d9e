-- The theorems of a plan that is taken, from the numbers that are lent to what the program does.
-- Assumes nothing.
use Prim.Native.Nat.{ℕ, ◌+◌, ◌/◌, ◌≤◌}
use native.Mathlib.Omega.{arith}
use mathlib.Core.Path.{◌≡◌, refl, sym, ◌∙◌}
use mathlib.Core.Bool.{true}
use mathlib.Core.List.{List, [], ◌∷◌}
use lib.ListN.{length}
use borrow.Author.Tests.{ltb-true, eqb-true}
use Rattle.formats.specs.Checks.{passed, all}
use Rattle.formats.proofs.Checks.{both_true, rule_holds, passed_same}
use Rattle.formats.proofs.Refusals.{passed_all}
use Rattle.lines.specs.Program.{is_program}
use Rattle.duration.specs.Report.{report}
use Rattle.planner.specs.declared.Move.{Move}
use Rattle.planner.specs.Plan.{moves_of, is_timed, is_word, are_words, IsPlan, AllProper, none, more, total}
use Rattle.planner.specs.Lines.{plan_lines, program_of}
use Rattle.planner.specs.Planned.{is_counted, planned}
use Rattle.planner.specs.ByTheRule.{CarriesOut}
use Rattle.planner.proofs.Moves.{counted_is, timed_is}
use Rattle.planner.proofs.Found.{lines_used}
use Rattle.planner.proofs.Passing.{carries_out}
use Rattle.planner.proofs.Timing.{reported}
use Rattle.planner.proofs.Order.{cs, by_checks}
use Rattle.planner.proofs.Answers.{taken}

-- four for each move
count_is : (ns : List ℕ) → length (moves_of ns) ≡ length ns / 4
unfolding moves_of
count_is [] = refl
count_is (a ∷ []) = refl
count_is (a ∷ b ∷ []) = refl
count_is (a ∷ b ∷ c ∷ []) = refl
count_is (a ∷ b ∷ c ∷ d ∷ ns) = let e = count_is ns in omega arith

moves_proper : (ns : List ℕ) → are_words ns ≡ true → all is_timed (moves_of ns) ≡ true → AllProper (moves_of ns)
unfolding moves_of
moves_proper [] words timed = none
moves_proper (a ∷ []) words timed = none
moves_proper (a ∷ b ∷ []) words timed = none
moves_proper (a ∷ b ∷ c ∷ []) words timed = none
moves_proper (a ∷ b ∷ c ∷ d ∷ ns) words timed =
    let w1 = both_true (is_word a) _ words in
    let w2 = both_true (is_word b) _ w1.1 in
    let w3 = both_true (is_word c) _ w2.1 in
    let w4 = both_true (is_word d) _ w3.1 in
    let t = both_true (is_timed (record { moveword = a; settling = b; readingword = c; reading = d })) _ timed in
    let m = timed_is (record { moveword = a; settling = b; readingword = c; reading = d }) t.0 in
    more (record { moveword = ltb-true a _ w1.0; settling = m.settling; readingword = ltb-true c _ w3.0; reading = m.reading })
    (moves_proper ns w4.1 t.1)

some_ticks : (ms : List Move) → 1 ≤ length ms → AllProper ms → 2 ≤ total ms
unfolding total
some_ticks [] some none = absurd (omega arith)
some_ticks (m ∷ ms) some (more so rest) = omega (arith, so.settling.0, so.reading.0)

module _ (ns area p : List ℕ) (is : planned ns area ≡ passed p) where
  checked : (is_program area ≡ true) × (is_counted ns ≡ true) × (all is_timed (moves_of ns) ≡ true)
  checked =
      let so = passed_all (cs ns area) (program_of (moves_of ns)) (sym (by_checks ns area) ∙ is) in
      (rule_holds _ 30 (so 0 (omega arith)), rule_holds _ 70 (so 1 (omega arith)), rule_holds _ 71 (so 2 (omega arith)))

  -- What is written of a plan that is taken is its program,
  pub program_is : p ≡ program_of (moves_of ns)
  program_is = passed_same (sym is ∙ taken ns area (eqb-true (length area) 1600 checked.0) checked.1 checked.2)

module _ (ns area p : List ℕ) (words : are_words ns ≡ true) (is : planned ns area ≡ passed p) where
  -- it is one,
  pub is_plan : IsPlan (moves_of ns)
  is_plan =
      let c = counted_is ns (checked ns area p is).1 in
      let l = count_is ns in
      record { some = omega (arith, c.1); few = omega (arith, c.2); moves = moves_proper ns words (checked ns area p is).2 }

  -- and its program carries it out, whatever the outputs were at the start.
  pub carried_out : (outputs : ℕ) → CarriesOut (moves_of ns) p outputs
  carried_out outputs = rw (program_is ns area p is) (carries_out (moves_of ns) is_plan.few is_plan.moves outputs)

  -- The report of durations tells the sum of its times,
  pub takes_the_sum : report p ≡ passed (total (moves_of ns))
  takes_the_sum = rw (program_is ns area p is) (reported (moves_of ns) is_plan.few is_plan.moves)

  -- which is two ticks at least,
  pub sum_some : 2 ≤ total (moves_of ns)
  sum_some = some_ticks (moves_of ns) is_plan.some is_plan.moves

  -- and 200 lines suffice: with the end mark at most 129 are used.
  pub lines_suffice : length (plan_lines (moves_of ns)) + 1 ≤ 129
  lines_suffice = lines_used (moves_of ns) is_plan.few
