-- Laws of a line inside a loop.
-- Assumes nothing.
use Prim.Native.Nat.{ℕ, ◌<◌}
use mathlib.Core.Path.{◌≡◌}
use mathlib.Core.Bool.{true}
use mathlib.Core.List.{List}
use lib.Dec.{ltb}
use borrow.Author.Tests.{ltb-true, lt-ltb}
use Rattle.formats.proofs.Checks.{both_true}
use Rattle.lines.specs.Loops.{next_of}
use Rattle.duration.specs.Loops.{is_inside}

-- what "inside" says
pub inside : (p : List ℕ) (k i : ℕ) → is_inside p k i ≡ true → (k < i) × (i < next_of p k)
unfolding is_inside
inside p k i e = let b = both_true (ltb k i) (ltb i (next_of p k)) e in (ltb-true k i b.0, ltb-true i (next_of p k) b.1)

pub is_inside_lem : (p : List ℕ) (k i : ℕ) → k < i → i < next_of p k → is_inside p k i ≡ true
unfolding is_inside
is_inside_lem p k i a b = rw (lt-ltb k i a, lt-ltb i (next_of p k) b)
