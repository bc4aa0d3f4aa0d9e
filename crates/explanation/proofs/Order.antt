-- The report as three checks in their order: what is not refused, and what the code's own tests say of the checks.
-- Assumes nothing.
use Prim.Native.Nat.{ℕ, ◌≤◌, ◌<◌}
use native.Mathlib.Omega.{arith}
use mathlib.Core.Path.{◌≡◌, refl, sym, ◌∙◌}
use mathlib.Core.Logic.{◌≢◌}
use mathlib.Core.List.{List, [], ◌∷◌}
use lib.ListN.{length}
use lib.Dec.{ltb, leb}
use borrow.Author.Tests.{ltb-true, leb-true, eqb-true, eq-eqb, ne_eqb, lt-ltb, le-ltb, le-leb, lt-leb}
use Rattle.formats.specs.Checks.{refused, passed, ◌or_else◌, in_order}
use Rattle.formats.proofs.Checks.{rule_passes, rule_refuses, rule_holds, passed_same}
use Rattle.formats.proofs.Refusals.{Check, Before, none_before_lem, one_more, told_at, told_well, passed_all}
use Rattle.lines.specs.Program.{is_program, IsProgram}
use Rattle.std.specs.Prelude.{Option}
use Rattle.explanation.specs.declared.Stop.{Stop}
use Rattle.explanation.specs.Report.{most_limit, outcome, report}

module _ (p : List ℕ) (k limit : ℕ) where
  abbrev pub cs : List Check
  cs = (is_program p or_else 30) ∷ (ltb k 200 or_else 60) ∷ (leb limit most_limit or_else 61) ∷ []

  abbrev pub value : Option Stop
  value = outcome p k 0 limit

  pub by_checks : report p k limit ≡ in_order cs (passed value)
  unfolding report in_order
  by_checks = refl

  -- ---- what is not refused

  -- "a stored program, a start line and a limit of up to 100,000 ticks"
  pub record Fit : Type 0 where
    pub program : IsProgram p
    pub line : k < 200
    pub few : limit ≤ most_limit

  pub fit_told : Fit → report p k limit ≡ passed value
  fit_told f =
      by_checks
      ∙ told_well cs (passed value)
      (one_more cs 2 (rule_passes 61 (le-leb limit most_limit f.few))
      (one_more cs 1 (rule_passes 60 (lt-ltb k 200 f.line))
      (one_more cs 0 (rule_passes 30 (eq-eqb (length p) 1600 f.program)) (none_before_lem cs))))

  pub told_fit : (a : Option Stop) → report p k limit ≡ passed a → Fit
  told_fit a is =
      let all = passed_all cs value (sym by_checks ∙ is) in
      record {
        program = eqb-true (length p) 1600 (rule_holds _ 30 (all 0 (omega arith)));
        line = ltb-true k 200 (rule_holds _ 60 (all 1 (omega arith)));
        few = leb-true limit most_limit (rule_holds _ 61 (all 2 (omega arith)));
      }

  pub told_outcome : (a : Option Stop) → report p k limit ≡ passed a → outcome p k 0 limit ≡ a
  told_outcome a is = passed_same (sym (fit_told (told_fit a is)) ∙ is)

  -- ---- the code's tests

  pub no_program : length p ≢ 1600 → report p k limit ≡ refused 30
  no_program ne = by_checks ∙ told_at cs (passed value) 0 30 (none_before_lem cs) (rule_refuses 30 (ne_eqb (length p) 1600 ne))

  module _ (size : length p ≡ 1600) where
    one : Before cs 1
    one = one_more cs 0 (rule_passes 30 (eq-eqb (length p) 1600 size)) (none_before_lem cs)

    pub no_line : 199 < k → report p k limit ≡ refused 60
    no_line above = by_checks ∙ told_at cs (passed value) 1 60 one (rule_refuses 60 (le-ltb k 200 (omega arith)))

    module _ (inside : k ≤ 199) where
      two : Before cs 2
      two = one_more cs 1 (rule_passes 60 (lt-ltb k 200 (omega arith))) one

      pub no_limit : most_limit < limit → report p k limit ≡ refused 61
      no_limit above = by_checks ∙ told_at cs (passed value) 2 61 two (rule_refuses 61 (lt-leb limit most_limit above))

      pub well_told : limit ≤ most_limit → report p k limit ≡ passed (outcome p k 0 limit)
      well_told few = fit_told (record { program = size; line = omega arith; few = few })
