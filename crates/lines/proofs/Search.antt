-- The search for a Next, line by line, and that what it finds is the first later one.
-- Assumes nothing.
use mathlib.Core.Path.{◌≡◌, refl, sym, ap, ◌∙◌}
use mathlib.Core.Logic.{◌≢◌}
use Prim.Native.Nat.{ℕ, zero, suc, ◌+◌, ◌*◌, ◌-◌, ◌≤◌, ◌<◌}
use mathlib.Core.Bool.{Bool, true, false, true≢false}
use mathlib.Core.List.{List}
use lib.ListN.{get_or, drop}
use lib.Dec.{eqb, ltb}
use lib.Seq.{drop-drop, get_or-drop}
use borrow.Author.Tests.{eqb-true, eqb-false, eq-eqb, ne_eqb, ltb-true, ltb-false}
use native.Mathlib.Omega.{arith}
use Rattle.formats.proofs.Checks.{if_case, both_true}
use Rattle.lines.specs.declared.Line.{Line}
use Rattle.lines.specs.declared.Line.TheVariants.{State, For, Next, Bad}
use Rattle.lines.specs.Line.{says_state, says_for, says_next, read_line}
use Rattle.lines.specs.Program.{line_at, is_next_of, first_next, next_after, FirstFrom, NoneFrom}

-- A line whose first byte is not 4E, or whose second is not c, is no Next of counter c.
module _ (c : ℕ) (p : List ℕ) (k : ℕ) where
  abbrev bs : List ℕ
  bs = drop (8 * k) p

  abbrev No : Line → Type 0
  No l = is_next_of c l ≡ false

  no_next_but : (says_next bs ≡ true → No (Next (get_or bs 1 0))) → No (line_at p k)
  unfolding line_at read_line
  no_next_but h = if_case No (says_state bs) (λ e. refl) (λ e. if_case No (says_for bs) (λ e. refl) (λ e. if_case No (says_next bs) h (λ e. refl)))

  first : get_or p (8 * k) 0 ≡ get_or bs 0 0
  first = let e : 8 * k ≡ 8 * k + 0 = omega arith in ap (λ n. get_or p n 0) e ∙ sym (get_or-drop (8 * k) p 0 0)

  pub by_the_first : get_or p (8 * k) 0 ≢ 0x4E → No (line_at p k)
  by_the_first ne = no_next_but λ is. absurd (ne (first ∙ eqb-true (get_or bs 0 0) 0x4E (both_true _ _ (both_true _ _ is).0).0))

  pub by_the_second : get_or p (8 * k + 1) 0 ≢ c → No (line_at p k)
  by_the_second ne = no_next_but λ is. ne_eqb c (get_or bs 1 0) (λ e. ne (sym (get_or-drop (8 * k) p 1 0) ∙ sym e))

-- the first Next of counter c from line i on
abbrev pub next_from : List ℕ → ℕ → ℕ → ℕ
next_from p c i = first_next c (200 - i) i (drop (8 * i) p)

pub search_begins : (p : List ℕ) (c k : ℕ) → k < 200 → next_after p c k ≡ next_from p c (k + 1)
unfolding next_after
search_begins p c k lt = let e : 199 - k ≡ 200 - (k + 1) = omega arith in rw e

turn : (c n k : ℕ) (p : List ℕ) {t : Bool} → is_next_of c (read_line p) ≡ t
    → first_next c (suc n) k p ≡ elim t [ true ↦ k | false ↦ first_next c n (k + 1) (drop 8 p) ]
unfolding first_next
turn c n k p h = ap (λ (t : Bool). elim t [ true ↦ k | false ↦ first_next c n (k + 1) (drop 8 p) ]) h

module _ (p : List ℕ) (c i : ℕ) where
  pub search_found : i < 200 → is_next_of c (line_at p i) ≡ true → next_from p c i ≡ i
  unfolding line_at
  search_found lt h = let e : 200 - i ≡ suc (200 - (i + 1)) = omega arith in rw (e, turn c (200 - (i + 1)) i (drop (8 * i) p) h)

  pub search_on : i < 200 → is_next_of c (line_at p i) ≡ false → next_from p c i ≡ next_from p c (i + 1)
  unfolding line_at
  search_on lt h =
      let e : 200 - i ≡ suc (200 - (i + 1)) = omega arith in
      let f : 8 * i + 8 ≡ 8 * (i + 1) = omega arith in
      rw (e, turn c (200 - (i + 1)) i (drop (8 * i) p) h, drop-drop 8 (8 * i) p, f)

  pub search_ends : i ≡ 200 → next_from p c i ≡ 200
  unfolding first_next
  search_ends e = rw e

-- ---- what is found

-- what the test of one line says
is_next_lem : (c : ℕ) (l : Line) → is_next_of c l ≡ true → l ≡ Next c
is_next_lem c (State o t) e = absurd (true≢false (sym e))
is_next_lem c (For n m) e = absurd (true≢false (sym e))
is_next_lem c (Next n) e = let is : c ≡ n = eqb-true c n e in rw is
is_next_lem c Bad e = absurd (true≢false (sym e))

is_no_next : (c : ℕ) (l : Line) → is_next_of c l ≡ false → l ≢ Next c
is_no_next c l e is = true≢false (sym (ap (is_next_of c) is ∙ eq-eqb c c refl) ∙ e)

-- what holds of line i, and of line j if it is a later one, holds of line j from i on
from_on : (i j : ℕ) (P : ℕ → Type 0) → P i → (i + 1 ≤ j → P j) → i ≤ j → P j
from_on i j P h g le = go (eqb i j) refl
  where
    go : (t : Bool) → eqb i j ≡ t → P j
    go true e = let is : i ≡ j = eqb-true i j e in rw is at h
    go false e = let ne : i ≢ j = eqb-false i j e in g (omega arith)

module _ (p : List ℕ) (c : ℕ) where
  abbrev NotAt : ℕ → Type 0
  NotAt j = line_at p j ≢ Next c

  -- what the search from line i on says of the program
  data Found (i : ℕ) : Type 0 where
    finds : FirstFrom p c i (next_from p c i) → Found i
    ends : next_from p c i ≡ 200 → NoneFrom p c i → Found i

  found_here : (i : ℕ) → i < 200 → is_next_of c (line_at p i) ≡ true → Found i
  found_here i lt h =
      let at = search_found p c i lt h in
      finds (rw at (record { not_before = omega arith; in_program = lt; next = is_next_lem c _ h; none_between = λ j le up. absurd (omega arith) }))

  found_on : (i : ℕ) → i < 200 → is_next_of c (line_at p i) ≡ false → Found (i + 1) → Found i
  found_on i lt h (finds f) =
      let on = search_on p c i lt h in
      finds (rw on (record {
        not_before = omega (arith, f.not_before);
        in_program = f.in_program;
        next = f.next;
        none_between = λ j le before. from_on i j NotAt (is_no_next c _ h) (λ up. f.none_between j up before) le;
      }))
  found_on i lt h (ends e none) =
      ends (search_on p c i lt h ∙ e) (λ j le before. from_on i j NotAt (is_no_next c _ h) (λ up. none j up before) le)

  -- with m lines to search
  found_among : (m i : ℕ) → i + m ≡ 200 → Found i
  found_among zero i e = ends (search_ends p c i (omega arith)) (λ j le lt. absurd (omega arith))
  found_among (suc m) i e = go (is_next_of c (line_at p i)) refl (found_among m (i + 1) (omega arith))
    where
      go : (t : Bool) → is_next_of c (line_at p i) ≡ t → Found (i + 1) → Found i
      go true h rest = found_here i (omega arith) h
      go false h rest = found_on i (omega arith) h rest

  -- there is one first Next at most, and none where there is no Next
  not_before_lem : (i m n : ℕ) → FirstFrom p c i m → FirstFrom p c i n → m < n → ⊥
  not_before_lem i m n f g lt = g.none_between m f.not_before lt f.next

  first_alone : (i m n : ℕ) → FirstFrom p c i m → FirstFrom p c i n → m ≡ n
  first_alone i m n f g = go (ltb m n) refl (ltb n m) refl
    where
      go : (t : Bool) → ltb m n ≡ t → (u : Bool) → ltb n m ≡ u → m ≡ n
      go true e u d = absurd (not_before_lem i m n f g (ltb-true m n e))
      go false e true d = absurd (not_before_lem i n m g f (ltb-true n m d))
      go false e false d = omega (arith, ltb-false m n e, ltb-false n m d)

  first_or_none : (i n : ℕ) → FirstFrom p c i n → NoneFrom p c i → ⊥
  first_or_none i n f none = none n f.not_before f.in_program f.next

  module _ (k : ℕ) (lt : k < 200) where
    begun : next_after p c k ≡ next_from p c (k + 1)
    begun = search_begins p c k lt

    found : Found (k + 1)
    found = found_among (199 - k) (k + 1) (omega arith)

    -- The search finds "the first later Next of that counter",
    pub next_first : next_after p c k ≢ 200 → FirstFrom p c (k + 1) (next_after p c k)
    next_first ne = go found
      where
        go : Found (k + 1) → FirstFrom p c (k + 1) (next_after p c k)
        go (finds f) = rw begun f
        go (ends e none) = absurd (ne (begun ∙ e))

    -- and no other line;
    pub first_next_lem : (n : ℕ) → FirstFrom p c (k + 1) n → next_after p c k ≡ n
    first_next_lem n f = go found
      where
        go : Found (k + 1) → next_after p c k ≡ n
        go (finds g) = begun ∙ first_alone (k + 1) (next_from p c (k + 1)) n g f
        go (ends e none) = absurd (first_or_none (k + 1) n f none)

    -- it says 200 where there is "no Next C on any later line".
    pub none_next : NoneFrom p c (k + 1) → next_after p c k ≡ 200
    none_next none = go found
      where
        go : Found (k + 1) → next_after p c k ≡ 200
        go (finds f) = absurd (first_or_none (k + 1) (next_from p c (k + 1)) f none)
        go (ends e none) = begun ∙ e

    -- and nowhere else.
    pub next_none : next_after p c k ≡ 200 → NoneFrom p c (k + 1)
    next_none is = go found
      where
        go : Found (k + 1) → NoneFrom p c (k + 1)
        go (finds f) = let at : next_from p c (k + 1) ≡ 200 = sym begun ∙ is in absurd (omega (arith, f.in_program))
        go (ends e none) = none
