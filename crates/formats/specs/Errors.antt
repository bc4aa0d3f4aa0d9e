-- Nobody has to believe this: it says how the code goes, and no theorem speaks of it.
-- The errors of the wire by their numbers. 01, 'The wire': "Errors are E and three digits."
use Rattle.std.specs.Prelude.{ℕ, ◌≡◌, refl, eqb}
use Rattle.std.specs.Prelude.{if◌then◌else◌}
use Rattle.formats.specs.Numbers.{read_back}
use Rattle.formats.specs.declared.Error.{Error}
use Rattle.formats.specs.declared.Error.TheVariants.{TooShort, Malformed, NotInFormat, NoAddress, NotNow, NotStopped, NotPaused, NotRunning, OutOfReach, BadLine}

abbrev pub number_of : Error → ℕ
number_of TooShort = 1
number_of Malformed = 2
number_of NotInFormat = 3
number_of NoAddress = 4
number_of NotNow = 5
number_of NotStopped = 20
number_of NotPaused = 21
number_of NotRunning = 22
number_of OutOfReach = 23
number_of BadLine = 24

-- and back: the error of a number
abbrev of_number : ℕ → Error
of_number n =
    if eqb n 1 then TooShort
    else if eqb n 2 then Malformed
    else if eqb n 3 then NotInFormat
    else if eqb n 4 then NoAddress
    else if eqb n 5 then NotNow
    else if eqb n 20 then NotStopped
    else if eqb n 21 then NotPaused
    else if eqb n 22 then NotRunning
    else if eqb n 23 then OutOfReach
    else BadLine

back : (e : Error) → of_number (number_of e) ≡ e
back TooShort = refl
back Malformed = refl
back NotInFormat = refl
back NoAddress = refl
back NotNow = refl
back NotStopped = refl
back NotPaused = refl
back NotRunning = refl
back OutOfReach = refl
back BadLine = refl

pub distinct : (a b : Error) → number_of a ≡ number_of b → a ≡ b
distinct = read_back number_of of_number back
