-- The last moment of a call: where it is, line by line, and that it is the one at which a call stops the program.
-- Assumes nothing.
use Prim.Native.Nat.{ℕ, zero, suc, ◌+◌, ◌-◌}
use native.Mathlib.Omega.{arith}
use native.Mathlib.Nat.{zero-add}
use mathlib.Core.Path.{◌≡◌, refl, ap, ◌∙◌}
use mathlib.Core.List.{List}
use Rattle.running.specs.declared.Run.{Run}
use Rattle.running.specs.declared.How.TheVariants.{Ends, GoesOn}
use Rattle.running.specs.declared.Step.{Step}
use Rattle.running.specs.Running.{step}
use Rattle.running.specs.Moments.{Within, here, on, Cause, by_line, over, Stops, last_due}

module _ (p : List ℕ) where
  pub last_goes : (left : ℕ) (r : Run) → (step p r).how ≡ GoesOn → last_due p (suc left) r ≡ last_due p left (step p r).run
  unfolding last_due
  last_goes left r how = rw how

  pub last_ends : (left : ℕ) (r : Run) {e : ℕ} → (step p r).how ≡ Ends e → last_due p left r ≡ r
  unfolding last_due
  last_ends zero r how = refl
  last_ends (suc left) r how = rw how

  pub last_none : (r : Run) → last_due p 0 r ≡ r
  unfolding last_due
  last_none r = refl

  -- what falls due n lines later in the call
  within_last : (b : Run) {n : ℕ} (s : Run) (left : ℕ) → Within p b n s → last_due p (n + left) b ≡ last_due p left s
  within_last b s left (here is) = rw (zero-add, is)
  within_last b s left (on {n = n} {r = r} w how is) =
      let more : suc n + left ≡ n + suc left = omega arith in
      ap (λ i. last_due p i b) more ∙ within_last b r (suc left) w ∙ last_goes left r how ∙ ap (last_due p left) is

  -- A call that stops the program does so at its last moment.
  pub stops_last : (r : Run) {e : ℕ} {v : Run} (x : Stops p r e v) → last_due p 400 r ≡ x.last
  stops_last r {e} x =
      let all : 400 ≡ x.lines + (400 - x.lines) = omega (arith, x.few) in
      ap (λ i. last_due p i r) all ∙ within_last r x.last (400 - x.lines) x.within ∙ go x.cause
    where
      go : Cause p x.last x.lines e x.left → last_due p (400 - x.lines) x.last ≡ x.last
      go (by_line _ is _) = last_ends _ x.last (ap (λ (s : Step). s.how) is)
      go (over _ n _ _) = let none : 400 - x.lines ≡ 0 = omega arith in ap (λ i. last_due p i x.last) none ∙ last_none x.last
