-- Tests over the lines of a program, by their numbers.
use Rattle.std.specs.Prelude.{ℕ, zero, suc, ◌+◌, Bool, true, false, ◌||◌}

-- some line before line n passes the test
unfoldable pub some_before : (ℕ → Bool) → ℕ → Bool
some_before f zero = false
some_before f (suc n) = some_before f n || f n

-- the first of n lines, the first of which is number k, that passes the test; k + n where none does
unfoldable pub first_of : (ℕ → Bool) → ℕ → ℕ → ℕ
first_of f zero k = k
first_of f (suc n) k = elim (f k) [ true ↦ k | false ↦ first_of f n (k + 1) ]
