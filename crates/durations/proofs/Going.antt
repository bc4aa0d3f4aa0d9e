-- Laws of turns one after the other.
-- Assumes nothing.
use Prim.Native.Nat.{ℕ, ◌+◌}
use mathlib.Core.Path.{◌≡◌, refl, sym, ap, ◌∙◌}
use mathlib.Core.Bool.{Bool, true}
use mathlib.Core.List.{List, [], ◌∷◌, ◌++◌}
use lib.ListN.{length, length-append}
use Rattle.streams.specs.Gathering.{Waiting, nothing_gathered}
use Rattle.duration.specs.Report.{report}
use Rattle.duration.specs.Total.{adds, capped_total, grand_total}
use Rattle.duration.proofs.Totals.{none_kept, total_more}
use Rattle.durations.specs.Telling.{Turns, Ran, begun, turned}

-- ---- turns one after the other

-- so many turns were made, and there may be more
pub record Going (size n : ℕ) (o : Waiting) (total : ℕ) : Type 0 where
  pub pieces : List (List ℕ)
  pub ran : Ran size pieces total o
  pub sum : total ≡ capped_total (grand_total pieces)
  pub many : length pieces ≡ n

module _ {size : ℕ} where
  -- none was made
  pub going_none : {o : Waiting} {total : ℕ} → o ≡ nothing_gathered → total ≡ 0 → Going size 0 o total
  going_none new zero = record { pieces = []; ran = rw (new, zero) begun; sum = zero ∙ sym none_kept; many = refl }

  module _ {n : ℕ} {o o' : Waiting} {before after : ℕ} {on : Bool} (g : Going size n o before) (t : Turns size o before on o' after) where
    -- one turn more
    pub going_on : on ≡ true → Going size (n + 1) o' after
    going_on yet =
        let (p, some, tells) = t.tells yet in
        record {
          pieces = g.pieces ++ (p ∷ []);
          ran = turned g.ran t.passes some tells;
          sum = tells.total ∙ ap (λ m. capped_total (m + adds (report p))) g.sum ∙ total_more g.pieces p;
          many = length-append g.pieces (p ∷ []) ∙ ap (λ m. m + 1) g.many;
        }
