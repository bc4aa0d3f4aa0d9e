-- Which refusals have a reason that is told.
-- Assumes nothing.
use Prim.Native.Nat.{ℕ}
use mathlib.Core.Path.{◌≡◌, refl}
use mathlib.Core.List.{List, []}
use Rattle.reader.specs.declared.Refusal.TheVariants as Reader
use Rattle.channels.specs.declared.Refusal.{Refusal}
use Rattle.channels.specs.declared.Beside.{Beside}
use Rattle.channels.specs.declared.Refusal.TheVariants.{Read, Earlier, OtherWord, PassesEnd, OtherCount}
use Rattle.channels.specs.Numbers.{number_of}
use Rattle.totals.specs.Telling.{reason_text}

-- only 072 and 073
pub no_reason : (why : Refusal) (b : Beside) (log : List ℕ) → (why ≡ Earlier → ⊥) → (why ≡ OtherWord → ⊥) → reason_text (number_of why) b log ≡ []
unfolding reason_text
no_reason (Read Reader.NotWhole) b log f g = refl
no_reason (Read Reader.WrongMark) b log f g = refl
no_reason (Read Reader.Impossible) b log f g = refl
no_reason (Read Reader.MixedMarks) b log f g = refl
no_reason (Read Reader.TooLong) b log f g = refl
no_reason Earlier b log f g = absurd (f refl)
no_reason OtherWord b log f g = absurd (g refl)
no_reason PassesEnd b log f g = refl
no_reason OtherCount b log f g = refl
