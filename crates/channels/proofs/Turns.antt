-- A loop over a list by the numbers of its elements, which puts another in the place of each. As many turns as the list is long, from its first
-- element on, are `map_from`.
-- Assumes nothing.
use mathlib.Core.Path.{◌≡◌, refl, sym, ◌∙◌, ap}
use Prim.Native.Nat.{ℕ, zero, suc, ◌+◌}
use native.Mathlib.Nat.{suc-add, zero-add}
use mathlib.Core.List.{List, [], ◌∷◌, ◌++◌}
use lib.ListN.{length, set, get_or}
use Rattle.channels.specs.Totals.{map_from}

-- ---- the element behind those that were passed

-- it is the one at their number
at_turn : {A : Type 0} (d : A) (ps : List A) (c : A) (cs : List A) → get_or (ps ++ (c ∷ cs)) (length ps) d ≡ c
at_turn d [] c cs = refl
at_turn d (p ∷ ps) c cs = at_turn d ps c cs

-- what is put in its place stands there, and nothing else changes
put_at_turn : {A : Type 0} (ps : List A) (c e : A) (cs : List A) → set (ps ++ (c ∷ cs)) (length ps) e ≡ (ps ++ (e ∷ [])) ++ cs
put_at_turn [] c e cs = refl
put_at_turn {A} (p ∷ ps) c e cs = ap {B = List A} (λ r. p ∷ r) (put_at_turn ps c e cs)

-- with it, one more is passed
one_more : {A : Type 0} (ps : List A) (e : A) → length ps + 1 ≡ length (ps ++ (e ∷ []))
one_more [] e = zero-add 1
one_more (p ∷ ps) e = suc-add (length ps) 1 ∙ ap suc (one_more ps e)

-- and the list is the same, wherever it is parted
parted : {A : Type 0} (ps : List A) (e : A) (cs : List A) → (ps ++ (e ∷ [])) ++ cs ≡ ps ++ (e ∷ cs)
parted [] e cs = refl
parted {A} (p ∷ ps) e cs = ap {B = List A} (λ r. p ∷ r) (parted ps e cs)

-- ---- the loop that replaces

module _ {A : Type 0} (f : A → ℕ → A) (d : A) where
  -- k turns from the i-th element on
  abbrev pub go_on : List A → ℕ → ℕ → List A
  go_on zs zero i = zs
  go_on zs (suc k) i = go_on (set zs i (f (get_or zs i d) i)) k (i + 1)

  -- the turns behind ps
  rest_of : (cs ps : List A) → go_on (ps ++ cs) (length cs) (length ps) ≡ ps ++ map_from f cs (length ps)
  rest_of [] ps = refl
  rest_of (c ∷ cs) ps =
      ap (λ (x : A). go_on (set (ps ++ (c ∷ cs)) (length ps) (f x (length ps))) (length cs) (length ps + 1)) (at_turn d ps c cs)
      ∙ (ap (λ (l : List A). go_on l (length cs) (length ps + 1)) (put_at_turn ps c e cs)
      ∙ (ap (go_on ((ps ++ (e ∷ [])) ++ cs) (length cs)) (one_more ps e)
      ∙ (rest_of cs (ps ++ (e ∷ []))
      ∙ (ap (λ (m : ℕ). (ps ++ (e ∷ [])) ++ map_from f cs m) (sym (one_more ps e)) ∙ parted ps e (map_from f cs (length ps + 1))))))
    where
      e : A
      e = f c (length ps)

  -- as many turns as there are elements: every one replaced
  pub all_of : (cs : List A) (n : ℕ) → length cs ≡ n → go_on cs n 0 ≡ map_from f cs 0
  all_of cs n e = ap (λ (m : ℕ). go_on cs m 0) (sym e) ∙ rest_of cs []
