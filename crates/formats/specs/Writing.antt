-- Bytes that are written into an area, a text piece by piece among them.
use Rattle.std.specs.Prelude.{ℕ, ◌+◌, List, ◌++◌, ◌≡◌, length, take, drop}

-- bytes were written into an area from place `at` on, and every other byte of it stays; `next` is the place behind them
pub record Wrote (at : ℕ) (bytes : List ℕ) (before : List ℕ) (next : ℕ) (after : List ℕ) : Type 0 where
  pub behind : next ≡ at + length bytes
  pub there : after ≡ take at before ++ (bytes ++ drop (at + length bytes) before)
