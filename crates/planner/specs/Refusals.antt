-- The refusals by their numbers. 02, item 10: "Refusals, in order, nothing written: 030, 070 no or too many moves, 071 a time outside its range."
use Rattle.std.specs.Prelude.{ℕ, ◌≡◌, refl, eqb}
use Rattle.std.specs.Prelude.{if◌then◌else◌}
use Rattle.formats.specs.Numbers.{read_back}
use Rattle.planner.specs.declared.Refusal.{Refusal}
use Rattle.planner.specs.declared.Refusal.TheVariants.{NotProgram, NotMoves, NotTime}

abbrev pub number_of : Refusal → ℕ
number_of NotProgram = 30
number_of NotMoves = 70
number_of NotTime = 71

-- and back: the refusal of a number
abbrev of_number : ℕ → Refusal
of_number n = if eqb n 30 then NotProgram else if eqb n 70 then NotMoves else NotTime

back : (r : Refusal) → of_number (number_of r) ≡ r
back NotProgram = refl
back NotMoves = refl
back NotTime = refl

pub distinct : (a b : Refusal) → number_of a ≡ number_of b → a ≡ b
distinct = read_back number_of of_number back
