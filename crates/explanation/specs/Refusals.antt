-- The refusals by their numbers. 02, item 9: "Refusals, in order: 030, 060 start line above 199, 061 limit too large."
use Rattle.std.specs.Prelude.{ℕ, ◌≡◌, refl, eqb}
use Rattle.std.specs.Prelude.{if◌then◌else◌}
use Rattle.formats.specs.Numbers.{read_back}
use Rattle.explanation.specs.declared.Refusal.{Refusal}
use Rattle.explanation.specs.declared.Refusal.TheVariants.{NotProgram, NoSuchLine, LimitTooLarge}

abbrev pub number_of : Refusal → ℕ
number_of NotProgram = 30
number_of NoSuchLine = 60
number_of LimitTooLarge = 61

-- and back: the refusal of a number
abbrev of_number : ℕ → Refusal
of_number n = if eqb n 30 then NotProgram else if eqb n 60 then NoSuchLine else LimitTooLarge

back : (r : Refusal) → of_number (number_of r) ≡ r
back NotProgram = refl
back NoSuchLine = refl
back LimitTooLarge = refl

pub distinct : (a b : Refusal) → number_of a ≡ number_of b → a ≡ b
distinct = read_back number_of of_number back
