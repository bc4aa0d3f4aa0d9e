-- The cause that is told, by the event and by what stands on its line.
-- Assumes nothing.
use Prim.Native.Nat.{ℕ, suc}
use native.Mathlib.Omega.{arith}
use mathlib.Core.Path.{◌≡◌, ap, ◌∙◌}
use mathlib.Core.Logic.{◌≢◌, ◌⊎◌, inl, inr}
use mathlib.Core.List.{List}
use lib.Dec.{eqb}
use borrow.Author.Tests.{ne_eqb}
use Rattle.lines.specs.declared.Line.TheVariants.{For, Next}
use Rattle.lines.specs.Program.{line_at}
use Rattle.lines.specs.Loops.{counter_at}
use Rattle.lines.specs.Searches.{some_before}
use Rattle.running.specs.declared.Run.{Run}
use Rattle.running.specs.Running.{counter, most}
use Rattle.running.specs.Moments.{last_due}
use Rattle.explanation.specs.declared.Cause.TheVariants.{ForLine, Sought, ForAbove, StateLine}
use Rattle.std.specs.Prelude.{None, Some}
use Rattle.explanation.specs.Report.{first_due, holder_in, sought_by, above_by, cause_of}

module _ (p : List ℕ) (e tick line : ℕ) (held : Run) where
  -- ---- which rule an event has

  pub event_006 : e ≡ 6 → cause_of p e tick line held ≡ holder_in (last_due p most (first_due tick held)) (line_at p line)
  unfolding cause_of
  event_006 is = rw is

  pub event_007 : e ≡ 7 → cause_of p e tick line held ≡ sought_by (line_at p line)
  unfolding cause_of
  event_007 is = rw is

  pub event_008 : e ≡ 8 → cause_of p e tick line held ≡ above_by p line (line_at p line)
  unfolding cause_of
  event_008 is = rw is

  pub event_other : e ≢ 6 → e ≢ 7 → e ≢ 8 → e ≢ 13 → cause_of p e tick line held ≡ None
  unfolding cause_of
  event_other a b c d = rw (ne_eqb e 6 a, ne_eqb e 7 b, ne_eqb e 8 c, ne_eqb e 13 d)

  -- ---- by what stands on the line

  pub cause_006 : {c x : ℕ} → e ≡ 6 → line_at p line ≡ For c x
      → cause_of p e tick line held ≡ Some (ForLine (counter (last_due p most (first_due tick held)) c).line)
  cause_006 is l = event_006 is ∙ ap (holder_in (last_due p most (first_due tick held))) l

  pub cause_007 : {c x : ℕ} → e ≡ 7 → line_at p line ≡ For c x → cause_of p e tick line held ≡ Some (Sought c)
  cause_007 is l = event_007 is ∙ ap sought_by l

  pub cause_008 : {c : ℕ} → e ≡ 8 → line_at p line ≡ Next c → cause_of p e tick line held ≡ Some (ForAbove (some_before (λ j. eqb (counter_at p j) c) line))
  cause_008 is l = event_008 is ∙ ap (above_by p line) l

  pub cause_013_start : e ≡ 13 → tick ≡ 0 → cause_of p e tick line held ≡ None
  unfolding cause_of
  cause_013_start is at = rw (is, at)

  pub cause_013_later : {n : ℕ} → e ≡ 13 → tick ≡ suc n → cause_of p e tick line held ≡ Some (StateLine held.line)
  unfolding cause_of
  cause_013_later {n} is at = rw (is, at, ne_eqb (suc n) 0 (λ z. omega arith))

  pub cause_other : (e ≡ 9) ⊎ (e ≡ 11) ⊎ (e ≡ 14) → cause_of p e tick line held ≡ None
  cause_other (inl is) = event_other (λ z. omega arith) (λ z. omega arith) (λ z. omega arith) (λ z. omega arith)
  cause_other (inr (inl is)) = event_other (λ z. omega arith) (λ z. omega arith) (λ z. omega arith) (λ z. omega arith)
  cause_other (inr (inr is)) = event_other (λ z. omega arith) (λ z. omega arith) (λ z. omega arith) (λ z. omega arith)
