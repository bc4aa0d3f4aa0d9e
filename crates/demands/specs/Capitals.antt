-- 01, 'The wire': "a-z count as A-Z."
use Rattle.std.specs.Prelude.{ℕ, List, [], ◌∷◌, map, eqb}
use Rattle.std.specs.Prelude.{if◌then◌else◌}
use Rattle.formats.specs.Checks.{text}

-- what stands in the second row under c in the first; c itself, where it does not stand there
abbrev pub under : List ℕ → List ℕ → ℕ → ℕ
under [] ys c = c
under (x ∷ xs) [] c = c
under (x ∷ xs) (y ∷ ys) c = if eqb c x then y else under xs ys c

abbrev pub small : List ℕ
small = text "abcdefghijklmnopqrstuvwxyz"

abbrev pub capitals : List ℕ
capitals = text "ABCDEFGHIJKLMNOPQRSTUVWXYZ"

unfoldable pub counts_as : ℕ → ℕ
counts_as c = under small capitals c

abbrev pub in_capitals : List ℕ → List ℕ
in_capitals cs = map counts_as cs
