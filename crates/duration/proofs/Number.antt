-- The number is the running rule's: a sound program takes as many ticks as its lines do.
-- Assumes nothing.
use Prim.Native.Nat.{ℕ, ◌-◌}
use native.Mathlib.Omega.{arith}
use mathlib.Core.Path.{◌≡◌, refl}
use mathlib.Core.Bool.{false}
use mathlib.Core.List.{List}
use Rattle.lines.specs.declared.Line.TheVariants.{State}
use Rattle.lines.specs.Program.{line_at}
use Rattle.running.specs.Running.{free, all_free, start}
use Rattle.running.specs.Ticking.{EndsAfter}
use Rattle.duration.specs.ByTheRule.{TakesTicks}
use Rattle.duration.specs.Ticks.{run_ticks, idles, has_bad}
use Rattle.duration.specs.Loops.{is_tangled, ends_inside}
use Rattle.lines.specs.Loops.{End}
use Rattle.formats.proofs.Parts.{replicated}
use Rattle.running.proofs.Reaching.{RunsOn}
use Rattle.running.proofs.Arriving.{Arrives, Free, arrives_ends}
use Rattle.running.proofs.Stretches.{start_stretch}
use Rattle.duration.proofs.Judging.{sound}
use Rattle.duration.proofs.Sound.{Sound, whole}
use Rattle.duration.proofs.Passing.{Passes, passes}

module _ (p : List ℕ) (e : ℕ) (s : Sound p e) (o : ℕ) (mark : line_at p e ≡ State o 0) (outputs : ℕ) where
  arrives : Arrives p RunsOn (start p 0 outputs) (run_ticks p 0 e) e all_free 0 (e - 0)
  unfolding Passes Free
  arrives =
      start_stretch p (omega (arith, s.in_program))
      (passes p e s e 0 e (omega arith) (omega arith) (omega arith) (whole p e s) all_free refl (λ k c x from to is. replicated 4 free (c - 1))) outputs

  -- whatever the outputs were
  sound_ends : EndsAfter p (run_ticks p 0 e) 11 (start p 0 outputs)
  sound_ends = arrives_ends mark (λ m z h. h) arrives

-- So does a program that no test before 043 refuses.
pub takes_so : (p : List ℕ) (e : ℕ) → End p e → is_tangled p e ≡ false → ends_inside p e ≡ false → idles p e ≡ false → has_bad p e ≡ false
    → TakesTicks p (run_ticks p 0 e)
takes_so p e end plain outside moves good outputs = sound_ends p e (sound p e end plain outside moves good) end.outputs end.mark outputs
