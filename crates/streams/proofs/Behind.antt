-- More bytes behind what is gathered in a block: behind them there are zeros as before.
-- Assumes nothing.
use mathlib.Core.Path.{◌≡◌, sym, ap, ◌∙◌}
use Prim.Native.Nat.{ℕ, ◌+◌, ◌-◌, ◌≤◌}
use native.Mathlib.Omega.{arith}
use mathlib.Core.List.{List}
use lib.ListN.{length, take, drop, replicate}
use lib.Seq.{drop-drop, length-take-le}
use borrow.Rule.Slice.PartMut.{put_mid, mid_of, same_len_mid}
use Rattle.std.proofs.lemmas.Slice.{drop-put_mid}
use Rattle.std.proofs.lemmas.List.{drop-replicate}

module _ {n used k : ℕ} (block new : List ℕ) (zeros : (used ≤ n) × (length block ≡ n) × (drop used block ≡ replicate (n - used) 0))
    (fits : length (take used block) + k ≤ n) (long : length new ≡ k) (same : length new ≡ length (mid_of used (used + k - used) block)) where
  within : used + k ≤ n
  within = omega (arith, fits, length-take-le used block (omega (arith, zeros.0, zeros.1)))

  pub behind_more : (used + k ≤ n) × (length (put_mid used (used + k - used) block new) ≡ n)
      × (drop (used + k) (put_mid used (used + k - used) block new) ≡ replicate (n - (used + k)) 0)
  behind_more =
      let less : n - used - k ≡ n - (used + k) = omega arith in (
        within,
        same_len_mid used (used + k - used) block new same ∙ zeros.1,
        drop-put_mid used (used + k - used) block new (used + k) (omega arith) (omega (arith, zeros.0, zeros.1)) (omega (arith, long))
            ∙ sym (drop-drop k used block) ∙ ap (drop k) zeros.2 ∙ drop-replicate k (n - used) 0 ∙ ap (λ m. replicate m 0) less,
      )
