-- What comes of a plan: the program, or the refusal, and nothing written then.
-- 02, item 10: "Refusals, in order, nothing written: 030, 070 no or too many moves, 071 a time outside its range."
use Rattle.std.specs.Prelude.{ℕ, ◌*◌, ◌/◌, Bool, ◌&&◌, List, length, leb, eqb}
use Rattle.formats.specs.Checks.{Res, refused, passed, all, ◌>>◌, ◌or_else◌}
use Rattle.lines.specs.Program.{is_program}
use Rattle.planner.specs.Plan.{moves_of, most_moves, is_timed}
use Rattle.planner.specs.Lines.{program_of}

-- how many moves the numbers are, where they are whole moves
abbrev pub move_count : List ℕ → ℕ
move_count ns = length ns / 4

-- "1 to 16 weight moves", and no part of one
abbrev pub is_counted : List ℕ → Bool
is_counted ns = eqb (4 * move_count ns) (length ns) && (leb 1 (move_count ns) && leb (move_count ns) most_moves)

-- the plan as numbers, and the area for its program
unfoldable pub planned : List ℕ → List ℕ → Res (List ℕ)
planned ns area = do
  is_program area or_else 30
  is_counted ns or_else 70
  all is_timed (moves_of ns) or_else 71
  passed (program_of (moves_of ns))

-- what is answered: nothing beside the area, or the refusal
abbrev pub answered : Res (List ℕ) → Res (Unit {0})
answered (refused e) = refused e
answered (passed program) = passed tt

-- the area then, and where nothing is written
abbrev pub area_of : Res (List ℕ) → List ℕ → List ℕ
area_of (refused e) area = area
area_of (passed program) area = program
