-- Laws of the area that holds the numbers: one more leaves it 0 behind them.
-- Assumes nothing.
use mathlib.Core.Path.{◌≡◌, sym, ap, ◌∙◌}
use Prim.Native.Nat.{ℕ, ◌+◌, ◌-◌, ◌<◌}
use native.Mathlib.Omega.{arith}
use mathlib.Core.List.{List}
use lib.ListN.{drop, set, replicate}
use Rattle.std.proofs.lemmas.List.{length-set, drop-drop, drop-set-lt, drop-replicate}
use Rattle.plantext.specs.Kept.{room}
use Rattle.plantext.specs.Numbers.{IsHeld}

rest_after : (held : List ℕ) (count n : ℕ) → IsHeld held count → drop (count + 1) (set held count n) ≡ replicate (room - (count + 1)) 0
rest_after held count n h =
    drop-set-lt (count + 1) held count n (omega arith)
    ∙ sym (drop-drop 1 count held)
    ∙ ap (drop 1) h.rest
    ∙ drop-replicate 1 (room - count) 0
    ∙ ap (λ k. replicate k 0) (omega arith)

pub held_after : (held : List ℕ) (count n after : ℕ) → IsHeld held count → count < room → after ≡ count + 1 → IsHeld (set held count n) after
held_after held count n after h lt is = rw is record {
  fits = omega (arith, h.whole, length-set held count n);
  whole = length-set held count n ∙ h.whole;
  rest = rest_after held count n h;
}
