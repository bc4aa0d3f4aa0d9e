-- Laws of the walk: the Next of each counter's last For tells which loops a line is inside, and whether a Next has its For.
-- Assumes nothing.
use Prim.Native.Nat.{ℕ, zero, suc, ◌-◌, ◌≤◌, ◌<◌}
use native.Mathlib.Omega.{arith}
use mathlib.Core.Path.{◌≡◌, refl, sym, ap, ◌∙◌}
use mathlib.Core.Logic.{◌≢◌}
use mathlib.Core.Bool.{Bool, true, false, ◌&&◌, false≢true}
use mathlib.Core.List.{List}
use lib.ListN.{length, get_or, set, length-set}
use lib.Seq.{get_or-set_same, get_or-set_other}
use lib.Dec.{leb, ltb, eqb}
use borrow.Author.Tests.{ltb-true, lt-ltb, eqb-true, eqb-false, eq-eqb}
use Rattle.std.specs.Prelude.{Option, None, Some}
use Rattle.std.proofs.lemmas.List.{get_or_read}
use Rattle.std.proofs.lemmas.List.Folds.{Any-from_list_any, list_any_at}
use Rattle.std.proofs.lemmas.Option.{none-some, same_Some}
use Rattle.formats.proofs.Checks.{both_true, by_both}
use Rattle.lines.specs.declared.Line.{Line}
use Rattle.lines.specs.declared.Line.TheVariants.{State, For, Next, Bad}
use Rattle.lines.specs.Program.{line_at}
use Rattle.lines.specs.Searches.{some_before}
use Rattle.lines.specs.Loops.{next_of, counter_at}
use Rattle.duration.specs.Loops.{is_inside}
use Rattle.duration.specs.Walk.{opened, open_at, is_across, is_across_one, is_own}
use Rattle.formats.proofs.Parts.{replicated}
use Rattle.lines.proofs.Searches.{some_line, line_some}
use Rattle.formats.proofs.Order.{last_or_before}
use Rattle.lines.proofs.Pairs.{same_next, counter_ranged, counter_of, begins_so, next_by, counted, pairs, later_next}
use Rattle.duration.proofs.Inside.{inside, is_inside_lem}

-- ---- one of the open loops

-- a loop that is across is the loop of a counter
of_one : {X : Type 0} (i n : ℕ) (os : List (Option ℕ)) → is_across_one i n os ≡ true
    → ((d o : ℕ) → d < length os → get_or os d None ≡ Some o → i < o → leb o n ≡ true → X) → X
of_one {X} i n os e h = let (d, x, lt, is, test) = Any-from_list_any (is_across i n) os e in go d x lt (sym (get_or_read os d x lt (sym is) None)) test
  where
    go : (d : ℕ) (x : Option ℕ) → d < length os → get_or os d None ≡ x → is_across i n x ≡ true → X
    go d None lt is test = absurd (false≢true test)
    go d (Some o) lt is test = let b = both_true (ltb i o) (leb o n) test in h d o lt is (ltb-true i o b.0) b.1

module _ (p : List ℕ) where
  at_first : (d : ℕ) → get_or (open_at p 0) d None ≡ None
  unfolding open_at
  at_first d = replicated 4 None d

  open_length : (i : ℕ) → length (open_at p i) ≡ 4
  unfolding open_at
  open_length zero = refl
  open_length (suc i) = go (line_at p i) (open_length i)
    where
      go : (l : Line) → length (open_at p i) ≡ 4 → length (opened l (next_of p i) (open_at p i)) ≡ 4
      go (State o t) e = e
      go (For c x) e = length-set (open_at p i) (c - 1) (Some (next_of p i)) ∙ e
      go (Next c) e = e
      go Bad e = e

  -- what the next line leaves for a counter: its own Next, if it is a For of that counter,
  open_own : (i d : ℕ) → counter_at p i ≡ suc d → d < 4 → get_or (open_at p (suc i)) d None ≡ Some (next_of p i)
  unfolding open_at
  open_own i d is lt = begins_so p i (omega arith) λ c x at.
      let same : c - 1 ≡ d = let z = sym (counter_of p i at) ∙ is in omega arith in
      ap (λ l. get_or (opened l (next_of p i) (open_at p i)) d None) at ∙ ap (λ n. get_or (set (open_at p i) n (Some (next_of p i))) d None) same
      ∙ get_or-set_same (open_at p i) d (Some (next_of p i)) None (omega (arith, open_length i))

  -- and else what was there
  open_other : (i d : ℕ) → counter_at p i ≢ suc d → get_or (open_at p (suc i)) d None ≡ get_or (open_at p i) d None
  unfolding open_at
  open_other i d other = go (line_at p i) refl
    where
      go : (l : Line) → line_at p i ≡ l → get_or (opened l (next_of p i) (open_at p i)) d None ≡ get_or (open_at p i) d None
      go (State o t) e = refl
      go (For c x) e =
          let r = counter_ranged p i c x e in
          get_or-set_other (open_at p i) (c - 1) d (Some (next_of p i)) None (λ same. other (counter_of p i e ∙ up c d r.0 same))
        where
          up : (c d : ℕ) → 1 ≤ c → d ≡ c - 1 → c ≡ suc d
          up c d le z = omega arith
      go (Next c) e = refl
      go Bad e = refl

  -- The Next of a For stands open up to it,
  stays_open : (k d : ℕ) → counter_at p k ≡ suc d → d < 4 → (i : ℕ) → k < i → i ≤ 200 → i ≤ next_of p k → get_or (open_at p i) d None ≡ Some (next_of p k)
  stays_open k d is lt zero after le to = absurd (omega arith)
  stays_open k d is lt (suc m) after le to =
      last_or_before k m after (λ z. ap (λ i. get_or (open_at p (suc i)) d None) (sym z) ∙ open_own k d is lt)
      (λ before. go (eqb (counter_at p m) (suc d)) refl before (stays_open k d is lt m before (omega arith) (omega arith)))
    where
      go : (t : Bool) → eqb (counter_at p m) (suc d) ≡ t → k < m → get_or (open_at p m) d None ≡ Some (next_of p k) → get_or (open_at p (suc m)) d None ≡ Some (next_of p k)
      go true e before there =
          let own = eqb-true (counter_at p m) (suc d) e in
          let at-k = next_by p k is (omega arith) in
          open_own m d own lt ∙ ap Some (next_by p m own (omega arith) ∙ later_next p (suc d) k m before (omega arith) (omega arith) ∙ sym at-k)
      go false e before there = open_other m d (eqb-false (counter_at p m) (suc d) e) ∙ there

  -- and what stands open is the Next of a For
  was_opened : {X : Type 0} (i d n : ℕ) → d < 4 → get_or (open_at p i) d None ≡ Some n
      → ((k : ℕ) → k < i → counter_at p k ≡ suc d → next_of p k ≡ n → X) → X
  was_opened zero d n lt is h = absurd (none-some n (sym (at_first d) ∙ is))
  was_opened {X} (suc i) d n lt is h = go (eqb (counter_at p i) (suc d)) refl (λ there g. was_opened i d n lt there g)
    where
      go : (t : Bool) → eqb (counter_at p i) (suc d) ≡ t
          → (get_or (open_at p i) d None ≡ Some n → ((k : ℕ) → k < i → counter_at p k ≡ suc d → next_of p k ≡ n → X) → X) → X
      go true e rest = let own = eqb-true (counter_at p i) (suc d) e in h i (omega arith) own (same_Some _ _ (sym (open_own i d own lt) ∙ is))
      go false e rest =
          let other = open_other i d (eqb-false (counter_at p i) (suc d) e) in
          rest (sym other ∙ is) (λ k before is next. h k (omega arith) is next)

  -- ---- what that says

  module _ (i : ℕ) (le : i ≤ 200) where
    -- the loops around line i that end at line n or before it
    pub across : (n : ℕ) → some_before (λ k. is_inside p k i && leb (next_of p k) n) i ≡ is_across_one i n (open_at p i)
    across n = by_both _ _
        (λ e. some_line (λ k. is_inside p k i && leb (next_of p k) n) i e λ k lt t.
        let b = both_true (is_inside p k i) (leb (next_of p k) n) t in
        let in_it = inside p k i b.0 in
        counted p k (omega (arith, in_it.1)) λ d few is.
        let stands = stays_open k d is few i lt le (omega (arith, in_it.1)) in
        list_any_at (is_across i n) (open_at p i) d None (omega (arith, open_length i)) (rw (stands, lt-ltb i (next_of p k) in_it.1) b.1))
        (λ e. of_one i n (open_at p i) e λ d o few stands above t.
        was_opened i d o (omega (arith, open_length i)) stands λ k lt is next.
        line_some (λ k. is_inside p k i && leb (next_of p k) n) i k lt (rw (is_inside_lem p k i lt (omega arith), next) t))

  -- the Next on line i has a For
  pub has_for : (i c : ℕ) → i < 200 → line_at p i ≡ Next c → 1 ≤ c → c ≤ 4
      → some_before (λ k. eqb (next_of p k) i) i ≡ is_own i (get_or (open_at p i) (c - 1) None)
  has_for i c up is low high = by_both _ _ there (back (get_or (open_at p i) (c - 1) None) refl)
    where
      there : some_before (λ k. eqb (next_of p k) i) i ≡ true → is_own i (get_or (open_at p i) (c - 1) None) ≡ true
      there e = some_line (λ k. eqb (next_of p k) i) i e λ k lt t.
          let next : next_of p k ≡ i = eqb-true (next_of p k) i t in
          counted p k (omega arith) λ d few own.
          begins_so p k (omega arith) λ b x at.
          let first = pairs p k (omega arith) at (λ z. omega arith) in
          let same : c ≡ b = same_next (sym is ∙ ap (line_at p) (sym next) ∙ first.next) in
          let index : c - 1 ≡ d = let z = counter_of p k at in omega arith in
          let stands = stays_open k d own few i lt (omega arith) (omega arith) ∙ ap Some next in
          rw (index, stands) (eq-eqb i i refl)

      back : (o : Option ℕ) → get_or (open_at p i) (c - 1) None ≡ o → is_own i o ≡ true → some_before (λ k. eqb (next_of p k) i) i ≡ true
      back None stands e = absurd (false≢true e)
      back (Some n) stands e =
          let at : n ≡ i = eqb-true n i e in
          was_opened i (c - 1) n (omega arith) stands λ k lt own next. line_some (λ k. eqb (next_of p k) i) i k lt (eq-eqb (next_of p k) i (next ∙ at))
