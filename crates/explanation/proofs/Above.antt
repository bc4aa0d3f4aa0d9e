-- The search for a For above: line by line, and what it says.
-- Assumes nothing.
use Prim.Native.Nat.{ℕ, suc, ◌+◌, ◌≤◌, ◌<◌}
use native.Mathlib.Omega.{arith}
use mathlib.Core.Path.{◌≡◌, refl, sym, ap, ◌∙◌}
use mathlib.Core.Logic.{◌≢◌}
use mathlib.Core.Bool.{Bool, true, false, true≢false}
use mathlib.Core.List.{List}
use lib.Dec.{eqb}
use Rattle.std.specs.Prelude.{Option, Some}
use Rattle.std.proofs.lemmas.Option.{none-some, same_Some}
use borrow.Author.Tests.{eqb-true, eq-eqb, ne_eqb}
use Rattle.lines.specs.declared.Line.{Line}
use Rattle.lines.specs.declared.Line.TheVariants.{State, For, Next, Bad}
use Rattle.lines.specs.Line.{for_counter, for_counter_in}
use Rattle.lines.specs.Program.{line_at}
use Rattle.lines.specs.Loops.{counter_at}
use Rattle.lines.specs.Searches.{some_before}
use Rattle.lines.proofs.Searches.{some_line, line_some}

-- a For of counter c
abbrev pub is_for_of : List ℕ → ℕ → ℕ → Bool
is_for_of p c j = eqb (counter_at p j) c

module _ (p : List ℕ) (c j : ℕ) {l : Line} {n : Option ℕ} (line : l ≡ line_at p j) (of : n ≡ for_counter_in l) where
  counter_is : n ≡ for_counter_in (line_at p j)
  counter_is = of ∙ ap for_counter_in line

  pub is_one : n ≡ Some c → is_for_of p c j ≡ true
  unfolding counter_at
  is_one e = go (line_at p j) refl (sym counter_is ∙ e)
    where
      go : (x : Line) → line_at p j ≡ x → for_counter_in x ≡ Some c → is_for_of p c j ≡ true
      go (State o t) is e = absurd (none-some c e)
      go (For d x) is e = rw is (eq-eqb d c (same_Some d c e))
      go (Next d) is e = absurd (none-some c e)
      go Bad is e = absurd (none-some c e)

  pub is_none : 1 ≤ c → n ≢ Some c → is_for_of p c j ≡ false
  unfolding counter_at
  is_none le ne = go (line_at p j) refl (λ e. ne (counter_is ∙ e))
    where
      go : (x : Line) → line_at p j ≡ x → for_counter_in x ≢ Some c → is_for_of p c j ≡ false
      go (State o t) is ne = rw is (ne_eqb 0 c (λ z. omega arith))
      go (For d x) is ne = rw is (ne_eqb d c (λ z. ne (ap Some z)))
      go (Next d) is ne = rw is (ne_eqb 0 c (λ z. omega arith))
      go Bad is ne = rw is (ne_eqb 0 c (λ z. omega arith))

-- none before line j, nor on it
pub none_yet : (f : ℕ → Bool) → some_before f 0 ≡ false
unfolding some_before
none_yet f = refl

pub none_more : (f : ℕ → Bool) (j : ℕ) → some_before f j ≡ false → f j ≡ false → some_before f (j + 1) ≡ false
unfolding some_before
none_more f j none here = let e : j + 1 ≡ suc j = omega arith in rw (e, none, here)

-- ---- "whether some For of that counter stands above"

-- a line whose counter as a For is c, which is no 0, is a For of it
for_of : (l : Line) (c : ℕ) → 1 ≤ c → for_counter l ≡ c → (x : ℕ) × (l ≡ For c x)
for_of (State o t) c le is = absurd (omega arith)
for_of (For d x) c le is = (x, ap (λ e. For e x) is)
for_of (Next d) c le is = absurd (omega arith)
for_of Bad c le is = absurd (omega arith)

module _ (p : List ℕ) (c k : ℕ) where
  pub above_some : (j : ℕ) {x : ℕ} → j < k → line_at p j ≡ For c x → some_before (is_for_of p c) k ≡ true
  unfolding counter_at
  above_some j lt line = line_some (is_for_of p c) k j lt (eq-eqb (counter_at p j) c (ap for_counter line))

  pub some_above : 1 ≤ c → {X : Type 0} → some_before (is_for_of p c) k ≡ true → ((j x : ℕ) → j < k → line_at p j ≡ For c x → X) → X
  unfolding counter_at
  some_above le is so =
      some_line (is_for_of p c) k is λ j lt e. let f = for_of (line_at p j) c le (eqb-true (counter_at p j) c e) in so j f.0 lt f.1

  pub none_above : some_before (is_for_of p c) k ≡ false → (j x : ℕ) → j < k → line_at p j ≢ For c x
  none_above is j x lt line = true≢false (sym (above_some j lt line) ∙ is)
