-- What comes of a plan is passed to C as one number: 0, which is no refusal's (`planner/Refusing.zero_not_told`), where the program is written.
-- Assumes nothing.
use Prim.Native.Nat.{ℕ}
use mathlib.Core.Path.{◌≡◌, refl, sym, ap, ◌∙◌}
use mathlib.Core.Bool.{Bool, true, false, true≢false}
use mathlib.Core.List.{List}
use Rattle.std.specs.Prelude.{Result, Ok, Err}
use Rattle.formats.specs.Numbers.{res_of}
use Rattle.planner.specs.declared.Refusal.{Refusal}
use Rattle.planner.specs.Refusals.{number_of}
use Rattle.formats.specs.Checks.{Res, refused, passed, refusal_of}
use Rattle.planner.specs.Plan.{moves_of}
use Rattle.planner.specs.Lines.{program_of}
use Rattle.planner.specs.Planned.{planned, answered}
use Rattle.planner.proofs.Refusing.{zero_not_told}
use Rattle.planner.proofs.Planning.{program_is}

-- what the code answers
abbrev Answer : Type 0
Answer = Result (Unit {0}) Refusal

abbrev is_passed : Res (Unit {0}) → Bool
is_passed (refused e) = false
is_passed (passed a) = true

pub written_so : (r : Res (List ℕ)) {a : Answer} → res_of number_of a ≡ answered r → a ≡ Ok tt → 0 ≡ refusal_of r
written_so (refused e) is so = absurd (true≢false (ap is_passed (sym (ap (res_of number_of) so) ∙ is)))
written_so (passed p) is so = refl

-- So where C is given 0, the program of the plan was written.
pub zero_written : (ns area : List ℕ) → 0 ≡ refusal_of (planned ns area) → planned ns area ≡ passed (program_of (moves_of ns))
zero_written ns area is = go (planned ns area) refl
  where
    go : (r : Res (List ℕ)) → planned ns area ≡ r → planned ns area ≡ passed (program_of (moves_of ns))
    go (refused e) so = absurd (zero_not_told ns area (so ∙ ap refused (sym (is ∙ ap refusal_of so))))
    go (passed p) so = so ∙ ap passed (program_is ns area p so)

pub refused_plan : (r : Res (List ℕ)) {a : Answer} {e : Refusal} → res_of number_of a ≡ answered r → a ≡ Err e → number_of e ≡ refusal_of r
refused_plan (refused n) is so = ap refusal_of (sym (ap (res_of number_of) so) ∙ is)
refused_plan (passed p) is so = absurd (true≢false (sym (ap is_passed (sym (ap (res_of number_of) so) ∙ is))))
