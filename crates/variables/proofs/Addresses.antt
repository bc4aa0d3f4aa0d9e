-- What a read of an address shows, where the address is one of several.
-- Assumes nothing.
use Prim.Native.Nat.{ℕ, ◌-◌, ◌≤◌}
use mathlib.Core.Path.{◌≡◌}
use mathlib.Core.Logic.{◌⊎◌, inl, inr}
use mathlib.Core.Bool.{Bool}
use mathlib.Core.List.{List}
use native.Mathlib.Omega.{arith}
use borrow.Author.Tests.{ne_eqb, le-leb, lt-leb}
use Rattle.formats.specs.Digits.{h, 2d}
use Rattle.texts.specs.Text.{line_text}
use Rattle.running.specs.declared.Run.{Run}
use Rattle.running.specs.Running.{counter}
use Rattle.variables.specs.declared.Panel.{Panel}
use Rattle.variables.specs.Variables.{line_of, output_byte, value}

module _ (panel : Panel) (run : Run) (paused : Bool) (program : List ℕ) (k : ℕ) where
  pub shows_line : k ≤ 200 → line_text (line_of panel program k) ≡ value panel run paused program k
  unfolding value
  shows_line le = rw (le-leb k 200 le)

  pub shows_zero : (k ≡ 202) ⊎ (k ≡ 207) → h 0 ≡ value panel run paused program k
  unfolding value
  shows_zero (inl e) = rw e
  shows_zero (inr e) = rw e

  pub shows_outputs : 203 ≤ k → k ≤ 206 → h (output_byte k run.outputs) ≡ value panel run paused program k
  unfolding value
  shows_outputs low high = rw (lt-leb k 200 (omega arith), ne_eqb k 201 (λ e. omega arith), ne_eqb k 202 (λ e. omega arith), le-leb k 206 high)

  pub shows_count : 213 ≤ k → 2d (counter run (k - 212)).count ≡ value panel run paused program k
  unfolding value
  shows_count low =
      rw (
        lt-leb k 200 (omega arith),
        ne_eqb k 201 (λ e. omega arith),
        ne_eqb k 202 (λ e. omega arith),
        lt-leb k 206 (omega arith),
        ne_eqb k 207 (λ e. omega arith),
        ne_eqb k 208 (λ e. omega arith),
        ne_eqb k 209 (λ e. omega arith),
        ne_eqb k 210 (λ e. omega arith),
        ne_eqb k 211 (λ e. omega arith),
        ne_eqb k 212 (λ e. omega arith),
      )

-- 213 is loop counter 1, the first of the four
pub counter_place : (k : ℕ) → k - 213 ≡ k - 212 - 1
counter_place k = omega arith
