-- How going on from a held line ends a program.
-- Assumes nothing.
use Prim.Native.Nat.{ℕ}
use mathlib.Core.Path.{◌≡◌, sym, subst}
use Rattle.running.specs.declared.Run.{Run}
use Rattle.running.specs.declared.How.TheVariants.{Ends, GoesOn}
use Rattle.running.specs.declared.Step.{Step}
use Rattle.running.specs.Running.{onward}
use Rattle.running.proofs.Ways.{onward_ways}

-- where going on from a held line ends the program, the event is 009
pub onward_nine : (r : Run) {s : Step} {e : ℕ} → s ≡ onward r → s.how ≡ Ends e → e ≡ 9
onward_nine r {s} {e} is = subst Nine (sym is) (onward_ways Nine r (λ _ h. absurd (no_end h)) (λ _ h. same h))
  where
    Nine : Step → Type 0
    Nine s = s.how ≡ Ends e → e ≡ 9

    no_end : GoesOn ≡ Ends e → ⊥
    no_end q = cc

    same : Ends 9 ≡ Ends e → e ≡ 9
    same q = cc
