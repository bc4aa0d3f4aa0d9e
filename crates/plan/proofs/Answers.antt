-- What comes of a plan: what the code answers is what is told, and a plan that is taken has 1 to 16 moves and 1,600 bytes.
-- Assumes nothing.
use Prim.Native.Nat.{ℕ, ◌+◌, ◌*◌, ◌-◌, ◌≤◌}
use native.Mathlib.Omega.{arith}
use mathlib.Core.Path.{◌≡◌, refl, sym, ap, ◌∙◌}
use mathlib.Core.Bool.{Bool, true, false}
use mathlib.Core.List.{List, [], ◌∷◌, ◌++◌}
use lib.ListN.{length, length-append, length-replicate}
use Rattle.std.specs.Prelude.{if◌then◌else◌}
use Rattle.formats.specs.Checks.{Res, refused, passed, all}
use Rattle.formats.specs.Digits.{error_text}
use Rattle.formats.proofs.Checks.{both_passed, rule_holds, not_passed, refused_same, passed_same}
use Rattle.planner.specs.declared.Move.{Move}
use Rattle.planner.specs.Plan.{moves_of, is_timed}
use Rattle.planner.specs.Lines.{plan_lines, program_lines, program_of}
use Rattle.planner.specs.Planned.{is_counted, planned, answered, area_of}
use Rattle.planner.proofs.Moves.{counted_is}
use Rattle.planner.proofs.Laying.{length_laid}
use Rattle.planner.proofs.Found.{plan_few}
use Rattle.plan.specs.Telling.{line_end, table, told_of, told, zeros}

-- a plan that is taken
pub record Passed (ns p : List ℕ) : Type 0 where
  pub counted : is_counted ns ≡ true
  pub timed : all is_timed (moves_of ns) ≡ true
  pub program : p ≡ program_of (moves_of ns)

pub passed_is : (ns area p : List ℕ) → planned ns area ≡ passed p → Passed ns p
unfolding planned
passed_is ns area p so =
    let a = both_passed _ _ so in
    let b = both_passed _ _ a.1 in
    let c = both_passed _ _ b.1 in
    record {
      counted = rule_holds (is_counted ns) 70 b.0.1;
      timed = rule_holds (all is_timed (moves_of ns)) 71 c.0.1;
      program = sym (passed_same c.1);
    }

-- ---- the answer, and the area that it leaves

-- a plan that is refused
pub refusal_told : (check : Bool) (ns : List ℕ) {e : ℕ} → refused e ≡ answered (planned ns zeros) → error_text e ++ line_end ≡ told check ns
unfolding told
refusal_told check ns {e} is = go (planned ns zeros) is
  where
    go : (r : Res (List ℕ)) → refused e ≡ answered r → error_text e ++ line_end ≡ told_of check (moves_of ns) r
    go (refused n) so = ap (λ x. error_text x ++ line_end) (refused_same so)
    go (passed p) so = absurd (not_passed so)

-- one that is taken
pub taken : (ns area : List ℕ) → passed tt ≡ answered (planned ns area) → is_counted ns ≡ true
taken ns area is = go (planned ns area) refl is
  where
    go : (r : Res (List ℕ)) → planned ns area ≡ r → passed tt ≡ answered r → is_counted ns ≡ true
    go (refused n) so none = absurd (not_passed (sym none))
    go (passed p) so is = (passed_is ns area p so).counted

taken_told : (check : Bool) (ns : List ℕ) {left : List ℕ} → passed tt ≡ answered (planned ns zeros) → left ≡ area_of (planned ns zeros) zeros
    → (if check then table (moves_of ns) else left) ≡ told check ns
unfolding told
taken_told check ns {left} is area = go (planned ns zeros) is area
  where
    go : (r : Res (List ℕ)) → passed tt ≡ answered r → left ≡ area_of r zeros → (if check then table (moves_of ns) else left) ≡ told_of check (moves_of ns) r
    go (refused n) none so = absurd (not_passed (sym none))
    go (passed p) is so = ap (λ x. if check then table (moves_of ns) else x) so

-- its table
pub table_told : {check : Bool} (ns : List ℕ) → check ≡ true → passed tt ≡ answered (planned ns zeros) → table (moves_of ns) ≡ told check ns
table_told {check} ns so is = rw so (taken_told true ns is refl)

-- its program
pub program_told : {check : Bool} (ns : List ℕ) {left : List ℕ} → check ≡ false → passed tt ≡ answered (planned ns zeros)
    → left ≡ area_of (planned ns zeros) zeros → left ≡ told check ns
program_told {check} ns so is area = rw so (taken_told false ns is area)

pub ruleset by_answer = (refusal_told, taken, table_told, program_told)

-- ---- how long

-- four numbers are a move
pub moves_few : (ns : List ℕ) → 4 * length (moves_of ns) ≤ length ns
unfolding moves_of
moves_few [] = omega arith
moves_few (a ∷ []) = omega arith
moves_few (a ∷ b ∷ []) = omega arith
moves_few (a ∷ b ∷ c ∷ []) = omega arith
moves_few (a ∷ b ∷ c ∷ d ∷ ns) = omega (arith, moves_few ns)

pub counted_few : (ns : List ℕ) → is_counted ns ≡ true → length (moves_of ns) ≤ 16
counted_few ns so = let c = counted_is ns so in omega (arith, moves_few ns, c.0, c.2)

lines_long : (ms : List Move) → length ms ≤ 16 → length (program_lines ms) ≡ 200
unfolding program_lines
lines_long ms few =
    let n : ℕ = length (plan_lines ms) in
    length-append (plan_lines ms) _ ∙ ap (λ k. n + k) (length-replicate (200 - n) _) ∙ omega (arith, plan_few ms)

pub program_long : (ms : List Move) → length ms ≤ 16 → length (program_of ms) ≡ 1600
unfolding program_of
program_long ms few = omega (arith, length_laid (program_lines ms), lines_long ms few)
