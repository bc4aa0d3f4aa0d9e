-- Which names stand for standard input.
-- Assumes nothing.
use Prim.Native.Nat.{ℕ}
use mathlib.Core.Path.{◌≡◌, refl}
use mathlib.Core.List.{List, [], ◌∷◌, ◌++◌}
use mathlib.Core.Logic.{◌≢◌}
use Rattle.formats.specs.Checks.{text, same}
use Rattle.formats.proofs.Checks.{same_equal, not_so}
use Rattle.totals.specs.Telling.{name_text}

-- `-` alone
pub name_dash : (name : List ℕ) → name ≡ 45 ∷ [] → name_text name ≡ text "standard input"
unfolding name_text text
name_dash name is = rw is refl

-- and no other
pub name_other : (name : List ℕ) → name ≢ 45 ∷ [] → name_text name ≡ text "'" ++ (name ++ text "'")
unfolding name_text text
name_other name other = rw (not_so (same name (text "-")) (λ e. other (same_equal name (text "-") e)))
