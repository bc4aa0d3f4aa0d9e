-- The refusals of the calls by their numbers. 01, 'Calls and what is lent', its table.
use Rattle.std.specs.Prelude.{ℕ, ◌≡◌, refl, eqb}
use Rattle.std.specs.Prelude.{if◌then◌else◌}
use Rattle.formats.specs.Numbers.{read_back}
use Rattle.calls.specs.declared.Refusal.{Refusal}
use Rattle.calls.specs.declared.Refusal.TheVariants.{ProgramSize, LogSize, ReplyTooShort, TicksUsedUp, NoSuchButton, DestinationTooShort}

abbrev pub number_of : Refusal → ℕ
number_of ProgramSize = 30
number_of LogSize = 31
number_of ReplyTooShort = 32
number_of TicksUsedUp = 33
number_of NoSuchButton = 34
number_of DestinationTooShort = 35

-- and back: the refusal of a number
abbrev of_number : ℕ → Refusal
of_number n =
    if eqb n 30 then ProgramSize
    else if eqb n 31 then LogSize
    else if eqb n 32 then ReplyTooShort
    else if eqb n 33 then TicksUsedUp
    else if eqb n 34 then NoSuchButton
    else DestinationTooShort

back : (e : Refusal) → of_number (number_of e) ≡ e
back ProgramSize = refl
back LogSize = refl
back ReplyTooShort = refl
back TicksUsedUp = refl
back NoSuchButton = refl
back DestinationTooShort = refl

pub distinct : (a b : Refusal) → number_of a ≡ number_of b → a ≡ b
distinct = read_back number_of of_number back
