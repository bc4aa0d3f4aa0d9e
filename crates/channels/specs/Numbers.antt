-- The refusals of the channels by their numbers.
use Rattle.std.specs.Prelude.{ℕ, ◌≡◌, refl, eqb}
use Rattle.std.specs.Prelude.{if◌then◌else◌}
use Rattle.formats.specs.Numbers.{read_back}
use Rattle.reader.specs.declared.Refusal.TheVariants.{NotWhole, WrongMark, Impossible, MixedMarks, TooLong}
use Rattle.reader.specs.Numbers as Reader
use Rattle.channels.specs.declared.Refusal.{Refusal}
pub use Rattle.channels.specs.declared.Refusal.TheVariants.{Read, Earlier, OtherWord, PassesEnd, OtherCount}

abbrev pub number_of : Refusal → ℕ
number_of (Read e) = Reader.number_of e
number_of Earlier = 72
number_of OtherWord = 73
number_of PassesEnd = 74
number_of OtherCount = 75

-- and back: the refusal of a number
abbrev of_number : ℕ → Refusal
of_number n =
    if eqb n 72 then Earlier
    else if eqb n 73 then OtherWord
    else if eqb n 74 then PassesEnd
    else if eqb n 75 then OtherCount
    else Read (Reader.of_number n)

back : (e : Refusal) → of_number (number_of e) ≡ e
back (Read NotWhole) = refl
back (Read WrongMark) = refl
back (Read Impossible) = refl
back (Read MixedMarks) = refl
back (Read TooLong) = refl
back Earlier = refl
back OtherWord = refl
back PassesEnd = refl
back OtherCount = refl

pub distinct : (a b : Refusal) → number_of a ≡ number_of b → a ≡ b
distinct = read_back number_of of_number back
