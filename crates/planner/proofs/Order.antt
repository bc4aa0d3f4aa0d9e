-- What comes of a plan, as three checks in their order.
-- Assumes nothing.
use Prim.Native.Nat.{ℕ}
use mathlib.Core.Path.{◌≡◌, refl}
use mathlib.Core.List.{List, [], ◌∷◌}
use Rattle.formats.specs.Checks.{passed, all, ◌or_else◌, in_order}
use Rattle.formats.proofs.Refusals.{Check}
use Rattle.lines.specs.Program.{is_program}
use Rattle.planner.specs.Plan.{moves_of, is_timed}
use Rattle.planner.specs.Lines.{program_of}
use Rattle.planner.specs.Planned.{is_counted, planned}

module _ (ns area : List ℕ) where
  abbrev pub cs : List Check
  cs = (is_program area or_else 30) ∷ (is_counted ns or_else 70) ∷ (all is_timed (moves_of ns) or_else 71) ∷ []

  pub by_checks : planned ns area ≡ in_order cs (passed (program_of (moves_of ns)))
  unfolding planned in_order
  by_checks = refl
