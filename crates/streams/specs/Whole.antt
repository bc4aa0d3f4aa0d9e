-- Nobody has to believe this: what lies behind what is gathered is zero, so that the view of an output forgets nothing of it.
use mathlib.Core.Path.{◌≡◌, sym, subst, ap, ap₂, ◌∙◌}
use Prim.Native.Nat.{ℕ, ◌-◌, ◌≤◌}
use mathlib.Core.List.{List, ◌++◌}
use lib.ListN.{length, take, drop, replicate, take-append-drop}
use lib.Seq.{length-take-le}
use Rattle.streams.specs.declared.Output.TheInside.{Inside}

module _ {n : ℕ} (o : Inside n) (holds : (o.used ≤ n) × (length o.block ≡ n) × (drop o.used o.block ≡ replicate (n - o.used) 0)) where
  used_is : length (take o.used o.block) ≡ o.used
  used_is = length-take-le o.used o.block (subst (λ m. o.used ≤ m) (sym holds.1) holds.0)

  block_is : take o.used o.block ++ replicate (n - length (take o.used o.block)) 0 ≡ o.block
  block_is =
      ap (λ m. take o.used o.block ++ replicate (n - m) 0) used_is
      ∙ ap (λ l. take o.used o.block ++ l) (sym holds.2)
      ∙ take-append-drop o.used o.block

  -- the view gives the fields back
  pub gives_back : record o {
    block = take o.used o.block ++ replicate (n - length (take o.used o.block)) 0;
    used = length (take o.used o.block);
  } ≡ o
  gives_back = ap₂ (λ b u. record o { block = b; used = u }) block_is used_is
