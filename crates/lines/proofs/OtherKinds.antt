-- The kind of a line, by its tag in the code: what is left where one kind was asked for and not met.
-- Assumes nothing.
use mathlib.Core.Path.{◌≡◌, refl}
use Prim.Native.Nat.{ℕ}
use mathlib.Core.Bool.{false}
use mathlib.Core.List.{[], ◌∷◌}
use types.Run.{OneOf, miss}
use denote.Enum.Declared.{tag_of}
use Rattle.lines.specs.contracts.Line as L
use Rattle.lines.specs.declared.Line.{Line}
use Rattle.lines.specs.declared.Line.TheVariants.{State, For, Next, Bad}
use Rattle.lines.specs.Line.{is_end, is_bad, for_counter}
use Rattle.lines.specs.Program.{is_next_of}

-- a line that is no Next
pub no_next : (c : ℕ) (l : Line) → OneOf (0 ∷ 1 ∷ 3 ∷ []) (tag_of L.the_type l) → false ≡ is_next_of c l
no_next c (State o t) h = refl
no_next c (For n m) h = refl
no_next c (Next n) h = absurd (miss (0 ∷ 1 ∷ 3 ∷ []) 2 tt h)
no_next c Bad h = refl

-- a line that is not Bad
pub not_bad : (l : Line) → OneOf (0 ∷ 1 ∷ 2 ∷ []) (tag_of L.the_type l) → false ≡ is_bad l
not_bad (State o t) h = refl
not_bad (For n m) h = refl
not_bad (Next n) h = refl
not_bad Bad h = absurd (miss (0 ∷ 1 ∷ 2 ∷ []) 3 tt h)

-- a line that is no State
pub no_end : (l : Line) → OneOf (1 ∷ 2 ∷ 3 ∷ []) (tag_of L.the_type l) → false ≡ is_end l
no_end (State o t) h = absurd (miss (1 ∷ 2 ∷ 3 ∷ []) 0 tt h)
no_end (For c x) h = refl
no_end (Next c) h = refl
no_end Bad h = refl

-- a line that is no For
pub no_counter : (l : Line) → OneOf (0 ∷ 2 ∷ 3 ∷ []) (tag_of L.the_type l) → 0 ≡ for_counter l
no_counter (State o t) h = refl
no_counter (For c x) h = absurd (miss (0 ∷ 2 ∷ 3 ∷ []) 1 tt h)
no_counter (Next c) h = refl
no_counter Bad h = refl
