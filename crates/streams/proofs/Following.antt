-- Bytes that follow what waits, one put behind the other.
-- Assumes nothing.
use mathlib.Core.List.{List, ◌++◌, append_assoc}
use mathlib.Core.Path.{ap, ◌∙◌}
use Prim.Native.Nat.{ℕ, ◌+◌, ◌≤◌}
use native.Mathlib.Omega.{arith}
use lib.ListN.{length, length-append}
use borrow.Author.Tests.{le-leb}
use Rattle.streams.specs.Gathering.{Waiting, waits_after, Puts, Follows}

-- one behind the other
pub follows_more : {size : ℕ} {o m r : Waiting} {xs ys : List ℕ} → Follows size o xs m → Follows size m ys r → Follows size o (xs ++ ys) r
follows_more {size} {o} {m} {r} {xs} {ys} f g =
    record {
      waits = λ fits. let first = f.waits (less fits) in g.waits (more fits) ∙ ap (λ w. w ++ ys) first ∙ append_assoc o.waits xs ys;
      stays = λ fits. g.stays (more fits) ∙ f.stays (less fits);
    }
  where
    less : length o.waits + length (xs ++ ys) ≤ size → length o.waits + length xs ≤ size
    less fits = omega (arith, length-append xs ys)

    more : length o.waits + length (xs ++ ys) ≤ size → length m.waits + length ys ≤ size
    more fits = let now = ap length (f.waits (less fits)) ∙ length-append o.waits xs in omega (arith, length-append xs ys)
