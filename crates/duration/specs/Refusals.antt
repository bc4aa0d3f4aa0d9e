-- The refusals by their numbers. 02, item 6: "Refusals, first that applies".
use Rattle.std.specs.Prelude.{ℕ, ◌≡◌, refl, eqb}
use Rattle.std.specs.Prelude.{if◌then◌else◌}
use Rattle.formats.specs.Numbers.{read_back}
use Rattle.duration.specs.declared.Refusal.{Refusal}
use Rattle.duration.specs.declared.Refusal.TheVariants.{BadLine, NotProgram, Tangled, EndInLoop, NoEnd, TooLong, IdleLoop}

abbrev pub number_of : Refusal → ℕ
number_of BadLine = 14
number_of NotProgram = 30
number_of Tangled = 40
number_of EndInLoop = 41
number_of NoEnd = 42
number_of TooLong = 43
number_of IdleLoop = 44

-- and back: the refusal of a number
abbrev of_number : ℕ → Refusal
of_number n =
    if eqb n 14 then BadLine
    else if eqb n 30 then NotProgram
    else if eqb n 40 then Tangled
    else if eqb n 41 then EndInLoop
    else if eqb n 42 then NoEnd
    else if eqb n 43 then TooLong
    else IdleLoop

back : (r : Refusal) → of_number (number_of r) ≡ r
back BadLine = refl
back NotProgram = refl
back Tangled = refl
back EndInLoop = refl
back NoEnd = refl
back TooLong = refl
back IdleLoop = refl

pub distinct : (a b : Refusal) → number_of a ≡ number_of b → a ≡ b
distinct = read_back number_of of_number back
