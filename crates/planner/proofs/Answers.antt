-- What comes of a plan, check by check.
-- Assumes nothing.
use Prim.Native.Nat.{ℕ, ◌-◌, ◌≤◌}
use mathlib.Core.Path.{◌≡◌, refl, sym, ap, subst, ◌∙◌}
use mathlib.Core.Logic.{◌≢◌}
use mathlib.Core.Bool.{true, false}
use mathlib.Core.List.{List}
use lib.ListN.{length, replicate}
use native.Mathlib.Omega.{arith}
use borrow.Author.Tests.{ne_eqb, eq-eqb}
use Rattle.formats.specs.Checks.{Res, refused, passed, all, ◌>>◌, ◌or_else◌}
use Rattle.lines.specs.Line.{end_mark}
use Rattle.planner.specs.Plan.{moves_of, is_timed}
use Rattle.planner.specs.Lines.{plan_lines, program_lines, program_of, Lays}
use Rattle.planner.specs.Planned.{is_counted, planned, answered, area_of}
use Rattle.planner.proofs.Laying.{lays_behind, lays_more, lays_all}

-- the answer and the area are the definition's
abbrev pub Comes : List ℕ → List ℕ → Res (Unit {0}) → List ℕ → Type 0
Comes ns area r left = (r ≡ answered (planned ns area)) × (left ≡ area_of (planned ns area) area)

module _ (ns area : List ℕ) where
  pub no_area : length area ≢ 1600 → Comes ns area (refused 30) area
  unfolding planned ◌>>◌ ◌or_else◌
  no_area ne = rw (ne_eqb (length area) 1600 ne) (refl, refl)

  pub no_count : length area ≡ 1600 → is_counted ns ≡ false → Comes ns area (refused 70) area
  unfolding planned ◌>>◌ ◌or_else◌
  no_count long fails = rw (eq-eqb (length area) 1600 long, fails) (refl, refl)

  pub no_time : length area ≡ 1600 → is_counted ns ≡ true → all is_timed (moves_of ns) ≡ false → Comes ns area (refused 71) area
  unfolding planned ◌>>◌ ◌or_else◌
  no_time long counted fails = rw (eq-eqb (length area) 1600 long, counted, fails) (refl, refl)

  -- a plan that is taken
  pub taken : length area ≡ 1600 → is_counted ns ≡ true → all is_timed (moves_of ns) ≡ true → planned ns area ≡ passed (program_of (moves_of ns))
  unfolding planned ◌>>◌ ◌or_else◌
  taken long counted timed = rw (eq-eqb (length area) 1600 long, counted, timed)

  pub all_laid : {at : ℕ} {after left : List ℕ} → length area ≡ 1600 → is_counted ns ≡ true → all is_timed (moves_of ns) ≡ true
      → Lays 0 (plan_lines (moves_of ns)) area at after → at ≤ 128 → Lays at (replicate (200 - at) end_mark) after 200 left
      → Comes ns area (passed tt) left
  unfolding program_lines program_of
  all_laid {at} {after} {left} long counted timed moves near ends =
      let is = taken long counted timed in
      let so : at ≡ length (plan_lines (moves_of ns)) = omega (arith, lays_behind moves) in
      let marks : Lays at (replicate (200 - length (plan_lines (moves_of ns))) end_mark) after 200 left =
      subst (λ n. Lays at (replicate (200 - n) end_mark) after 200 left) so ends in
      (ap answered (sym is), lays_all (lays_more moves (omega arith) marks) long ∙ ap (λ r. area_of r area) (sym is))
