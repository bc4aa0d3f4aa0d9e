-- Laws of the end: the first line that is a State with time 0, and the search for it.
-- Assumes nothing.
use Prim.Native.Nat.{ℕ, ◌+◌, ◌-◌, ◌≤◌, ◌<◌}
use native.Mathlib.Omega.{arith}
use mathlib.Core.Path.{◌≡◌, refl, sym, ap, ◌∙◌}
use mathlib.Core.Logic.{◌≢◌}
use mathlib.Core.Bool.{Bool, true, false, true≢false, false≢true}
use mathlib.Core.List.{List}
use lib.Dec.{ltb}
use borrow.Author.Tests.{eqb-true, ltb-true, ltb-false}
use Rattle.lines.specs.declared.Line.{Line}
use Rattle.lines.specs.declared.Line.TheVariants.{State, For, Next, Bad}
use Rattle.lines.specs.Program.{line_at}
use Rattle.lines.specs.Line.{is_end}
use Rattle.lines.specs.Searches.{first_of}
use Rattle.lines.specs.Loops.{end_line, NoEnd, End}
use Rattle.lines.proofs.Searches.{First, first_is_lem, found_here, found_on, found_none}

end_mark : {X : Type 0} (l : Line) → is_end l ≡ true → ((o : ℕ) → l ≡ State o 0 → X) → X
end_mark (State o t) e h = let z : t ≡ 0 = eqb-true t 0 e in h o (ap (State o) z)
end_mark (For c x) e h = absurd (false≢true e)
end_mark (Next c) e h = absurd (false≢true e)
end_mark Bad e h = absurd (false≢true e)

no_mark : (l : Line) (o : ℕ) → is_end l ≡ false → l ≢ State o 0
no_mark l o e is = true≢false (sym (ap is_end is) ∙ e)

-- ---- what the first such line is

module _ (p : List ℕ) where
  first : First (λ k. is_end (line_at p k)) 0 200 (end_line p)
  unfolding end_line
  first = first_is_lem (λ k. is_end (line_at p k)) 200 0

  -- no line before it is one
  pub none_before_lem : NoEnd p (end_line p)
  none_before_lem k o lt = no_mark (line_at p k) o (first.none_before k (omega arith) lt)

  -- "the first such line"
  pub end_is : end_line p < 200 → End p (end_line p)
  end_is lt = end_mark (line_at p (end_line p)) (first.passes lt) λ o mark. record { in_program = lt; outputs = o; mark = mark; first = none_before_lem }

  -- It is one line,
  pub end_alone : (k : ℕ) → End p k → k ≡ end_line p
  end_alone k q = go (ltb k (end_line p)) refl (ltb (end_line p) k) refl
    where
      go : (t : Bool) → ltb k (end_line p) ≡ t → (u : Bool) → ltb (end_line p) k ≡ u → k ≡ end_line p
      go true a u b = absurd (none_before_lem k q.outputs (ltb-true k (end_line p) a) q.mark)
      go false a true b =
          let end = end_is (omega (arith, q.in_program, ltb-true (end_line p) k b)) in
          absurd (q.first (end_line p) end.outputs (ltb-true (end_line p) k b) end.mark)
      go false a false b = omega (arith, ltb-false k (end_line p) a, ltb-false (end_line p) k b)

  -- and 200 where there is none.
  pub end_beyond : NoEnd p 200 → 200 ≤ end_line p
  end_beyond none = go (ltb (end_line p) 200) refl
    where
      go : (t : Bool) → ltb (end_line p) 200 ≡ t → 200 ≤ end_line p
      go true t = let end = end_is (ltb-true (end_line p) 200 t) in absurd (none (end_line p) end.outputs end.in_program end.mark)
      go false t = ltb-false (end_line p) 200 t

-- ---- the search, line by line: up to line i none was found

abbrev pub Searching : List ℕ → ℕ → Type 0
Searching p i = end_line p ≡ first_of (λ k. is_end (line_at p k)) (200 - i) i

pub end_begins : (p : List ℕ) → Searching p 0
unfolding end_line
end_begins p = refl

module _ (p : List ℕ) (i : ℕ) (none : Searching p i) where
  pub end_here : {l : Line} {t : Bool} → i < 200 → l ≡ line_at p i → t ≡ is_end l → t ≡ true → i ≡ end_line p
  end_here lt due is so = sym (none ∙ found_here (λ k. is_end (line_at p k)) i lt (ap is_end (sym due) ∙ sym is ∙ so))

  pub end_on : {l : Line} {t : Bool} → i < 200 → l ≡ line_at p i → t ≡ is_end l → t ≡ false → Searching p (i + 1)
  end_on lt due is so = none ∙ found_on (λ k. is_end (line_at p k)) i lt (ap is_end (sym due) ∙ sym is ∙ so)

  pub end_none : i ≡ 200 → 200 ≡ end_line p
  end_none last = sym (none ∙ found_none (λ k. is_end (line_at p k)) i last)
