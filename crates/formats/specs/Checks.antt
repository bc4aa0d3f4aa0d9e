-- Words that every rule uses: a chain of checks, and texts.
use Rattle.std.specs.Prelude.{ℕ, Bool, true, false, ◌&&◌, List, [], ◌∷◌, eqb}
use Prim.Native.Char.{code}
use Prim.Native.String.{String, [] as []ᵗ, ◌∷◌ as ◌∷ᵗ◌}

-- The answer of a check: refused with its number, or passed with a value.
pub data Res (A : Type 0) : Type 0 where
  refused : ℕ → Res A
  passed : A → Res A

-- One check after the other: the first that refuses gives the number.
infixl 5 ◌>>=◌
unfoldable pub ◌>>=◌ : {A B : Type 0} → Res A → (A → Res B) → Res B
refused e >>= f = refused e
passed a >>= f = f a

infixl 5 ◌>>◌
unfoldable pub ◌>>◌ : {A B : Type 0} → Res A → Res B → Res B
refused e >> r = refused e
passed a >> r = r

-- A rule, and the number where it does not hold.
infix 8 ◌or_else◌
unfoldable pub ◌or_else◌ : Bool → ℕ → Res (Unit {0})
true or_else e = passed tt
false or_else e = refused e

-- Checks in their order, and what stands behind them: the first that refuses is told. A rule with its number is a check of `or_else`.
unfoldable pub in_order : {A : Type 0} → List (Res (Unit {0})) → Res A → Res A
in_order [] r = r
in_order (c ∷ cs) r = c >> in_order cs r

-- the number that a check refuses with; 0 where it passes
abbrev pub refusal_of : {A : Type 0} → Res A → ℕ
refusal_of (refused e) = e
refusal_of (passed a) = 0

-- what holds of the value, where the check passes
abbrev pub Ok : {A : Type 0} → (A → Type 0) → Res A → Type 0
Ok P (refused e) = Unit
Ok P (passed a) = P a

-- every element passes the test
abbrev pub all : {A : Type 0} → (A → Bool) → List A → Bool
all f [] = true
all f (x ∷ xs) = f x && all f xs

-- the same numbers in the same order
abbrev pub same : List ℕ → List ℕ → Bool
same [] [] = true
same [] (y ∷ ys) = false
same (x ∷ xs) [] = false
same (x ∷ xs) (y ∷ ys) = eqb x y && same xs ys

-- the bytes of a text
unfoldable pub text : String → List ℕ
text []ᵗ = []
text (c ∷ᵗ s) = code c ∷ text s
