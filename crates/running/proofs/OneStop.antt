-- A call stops the program at one moment, for one cause, and a run holds one State line.
-- Assumes nothing.
use Prim.Native.Nat.{ℕ, zero, suc, ◌<◌}
use native.Mathlib.Omega.{arith}
use mathlib.Core.Path.{◌≡◌, refl, sym, ap, subst, ◌∙◌}
use mathlib.Core.Bool.{Bool, true, false}
use mathlib.Core.List.{List}
use lib.Dec.{ltb}
use borrow.Author.Tests.{ltb-true, ltb-false}
use Rattle.formats.proofs.Order.{last_or_before}
use Rattle.running.specs.declared.Run.{Run}
use Rattle.running.specs.declared.How.TheVariants.{Ends, GoesOn}
use Rattle.running.specs.declared.Step.{Step}
use Rattle.running.specs.Running.{stopped, ends, step}
use Rattle.running.specs.Moments.{Within, here, on, Cause, by_line, over, Stops, Holding}

-- the State line that a run holds is the line of that run
pub holding_line : {p : List ℕ} {b v : Run} (h : Holding p b v) → h.at.line ≡ v.line
holding_line h = sym (ap (λ (y : Run). y.line) h.is)

module _ (p : List ℕ) (b : Run) where
  -- the way to a moment, by its last line
  data Last (n : ℕ) (s : Run) : Type 0 where
    none : n ≡ 0 → b ≡ s → Last n s
    some : {m : ℕ} {r : Run} → n ≡ suc m → Within p b m r → (step p r).how ≡ GoesOn → (step p r).run ≡ s → Last n s

  last_of : {n : ℕ} {s : Run} → Within p b n s → Last n s
  last_of (here is) = none refl is
  last_of (on w how is) = some refl w how is

  -- behind so many lines stands one moment
  pub within_one : (n : ℕ) (s t : Run) → Within p b n s → Within p b n t → s ≡ t
  within_one zero s t v w = go (last_of v) (last_of w)
    where
      go : Last 0 s → Last 0 t → s ≡ t
      go (none _ x) (none _ y) = sym x ∙ y
      go (none _ _) (some z _ _ _) = absurd (omega arith)
      go (some z _ _ _) l = absurd (omega arith)
  within_one (suc n) s t v w = go (last_of v) (last_of w) (within_one n)
    where
      go : Last (suc n) s → Last (suc n) t → ((q r : Run) → Within p b n q → Within p b n r → q ≡ r) → s ≡ t
      go (none z _) l one = absurd (omega arith)
      go (some _ _ _ _) (none z _) one = absurd (omega arith)
      go (some {m = m} {r = r} x u _ is) (some {m = l} {r = q} y w _ so) one =
          let left : m ≡ n = omega arith in
          let right : l ≡ n = omega arith in
          let same = one r q (subst (λ i. Within p b i r) left u) (subst (λ i. Within p b i q) right w) in
          sym is ∙ ap (λ (z : Run). (step p z).run) same ∙ so

  -- the line of a moment before another goes on
  pub goes_before : (m n : ℕ) (s t : Run) → Within p b m s → Within p b n t → m < n → (step p s).how ≡ GoesOn
  goes_before m zero s t v w lt = absurd (omega arith)
  goes_before m (suc n) s t v w lt = go (last_of w) (λ r u. goes_before m n s r v u)
    where
      go : Last (suc n) t → ((r : Run) → Within p b n r → m < n → (step p s).how ≡ GoesOn) → (step p s).how ≡ GoesOn
      go (none z _) before = absurd (omega arith)
      go (some {m = l} {r = r} z u how _) before =
          let left : l ≡ n = omega arith in
          let there : Within p b n r = subst (λ i. Within p b i r) left u in
          last_or_before m n lt
          (λ is. ap (λ (x : Run). (step p x).how) (within_one n s r (subst (λ i. Within p b i s) is v) there) ∙ how) (before r there)

  ends_not_on : {e : ℕ} {u : Run} {x : Step} → x ≡ ends e u → x.how ≡ GoesOn → ⊥
  ends_not_on is how = no (sym (ap (λ (y : Step). y.how) is) ∙ how)
    where
      no : {e : ℕ} → Ends e ≡ GoesOn → ⊥
      no q = let z : ◌≡◌ {A = ℕ} 0 1 = cc in omega arith

  -- no cause stands before the last line of a call
  not_before_lem : {e f : ℕ} {v w : Run} (x : Stops p b e v) (y : Stops p b f w) → x.lines < y.lines → ⊥
  not_before_lem {e} x y lt = go x.cause (goes_before x.lines y.lines x.last y.last x.within y.within lt)
    where
      go : Cause p x.last x.lines e x.left → (step p x.last).how ≡ GoesOn → ⊥
      go (by_line _ is _) how = ends_not_on is how
      go (over _ all _ _) how = omega (arith, y.few)

  -- one moment has one cause
  one_cause : {n e f : ℕ} {s u w : Run} → Cause p s n e u → Cause p s n f w → (e ≡ f) × (u ≡ w)
  one_cause (by_line _ is _) (by_line _ so _) = (same_event (ap (λ (x : Step). x.how) (sym is ∙ so)), ap (λ (x : Step). x.run) (sym is ∙ so))
    where
      same_event : {e f : ℕ} → Ends e ≡ Ends f → e ≡ f
      same_event q = cc
  one_cause (by_line _ _ few) (over _ all loop _) = let lt = few loop in absurd (omega arith)
  one_cause (over _ all loop _) (by_line _ _ few) = let lt = few loop in absurd (omega arith)
  one_cause (over is _ _ u) (over so _ _ w) = (is ∙ sym so, u ∙ sym w)

  -- A call stops a program in one way: at one moment, with one event, and it leaves one run.
  pub stops_one : {e f : ℕ} {v w : Run} (x : Stops p b e v) (y : Stops p b f w) → (x.last ≡ y.last) × (e ≡ f) × (v ≡ w)
  stops_one {e} {f} {v} {w} x y = go (ltb x.lines y.lines) refl (ltb y.lines x.lines) refl
    where
      go : (t : Bool) → ltb x.lines y.lines ≡ t → (u : Bool) → ltb y.lines x.lines ≡ u → (x.last ≡ y.last) × (e ≡ f) × (v ≡ w)
      go true t u z = absurd (not_before_lem x y (ltb-true x.lines y.lines t))
      go false t true z = absurd (not_before_lem y x (ltb-true y.lines x.lines z))
      go false t false z =
          let n : x.lines ≡ y.lines = omega (arith, ltb-false x.lines y.lines t, ltb-false y.lines x.lines z) in
          let last : x.last ≡ y.last = within_one y.lines x.last y.last (subst (λ i. Within p b i x.last) n x.within) y.within in
          let why : Cause p y.last y.lines e x.left =
          subst (λ s. Cause p s y.lines e x.left) last (subst (λ i. Cause p x.last i e x.left) n x.cause) in
          let one = one_cause why y.cause in
          (last, one.0, x.freed ∙ ap stopped one.1 ∙ sym y.freed)
