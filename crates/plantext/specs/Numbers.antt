-- How a reader holds the numbers that were read: the theorems speak of the items alone, and `plantext::Numbers::as_slice` hands these out.
use Rattle.std.specs.Prelude.{ℕ, ◌-◌, ◌≤◌, ◌≡◌, List, ◌++◌, length, take, drop, replicate}
use mathlib.Core.Path.{sym, ap, ◌∙◌}
use Rattle.std.proofs.lemmas.List.{take-append-drop, length-take-le}
use Rattle.plantext.specs.Kept.{room}

-- the numbers, in the order in which they were read
pub record Items : Type 0 where
  pub items : List ℕ

-- an area that holds so many numbers at its start: they fit, and behind them it is 0
pub record IsHeld (held : List ℕ) (count : ℕ) : Type 0 where
  pub fits : count ≤ length held
  pub whole : length held ≡ room
  pub rest : drop count held ≡ replicate (room - count) 0

-- ---- the numbers say all that is held

pub count_again : (held : List ℕ) (count : ℕ) → IsHeld held count → length (take count held) ≡ count
count_again held count h = length-take-le count held h.fits

pub held_again : (held : List ℕ) (count : ℕ) → IsHeld held count → take count held ++ replicate (room - length (take count held)) 0 ≡ held
held_again held count h =
    ap (λ k. take count held ++ replicate (room - k) 0) (count_again held count h)
    ∙ ap (λ l. take count held ++ l) (sym h.rest)
    ∙ take-append-drop count held
