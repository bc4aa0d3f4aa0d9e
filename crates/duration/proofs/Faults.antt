-- The walk finds a tangle on the line on which the rule has it.
-- Assumes nothing.
use Prim.Native.Nat.{ℕ, ◌-◌, ◌≤◌, ◌<◌}
use native.Mathlib.Omega.{arith}
use mathlib.Core.Path.{◌≡◌, refl, sym, ap, ◌∙◌}
use mathlib.Core.Logic.{◌≢◌}
use mathlib.Core.Bool.{Bool, true, false, ◌&&◌, ◌||◌, not}
use mathlib.Core.List.{List}
use lib.ListN.{get_or}
use Rattle.std.specs.Prelude.{None}
use lib.Dec.{leb, ltb, eqb}
use borrow.Author.Tests.{leb-true, le-leb, ltb-true, lt-ltb, eqb-true, eqb-false, eq-eqb, ne_eqb}
use Rattle.formats.proofs.Checks.{both_true, either_true, or_true, or_false, and_true, by_both, not_so}
use Rattle.lines.specs.declared.Line.{Line}
use Rattle.lines.specs.declared.Line.TheVariants.{State, For, Next, Bad}
use Rattle.lines.specs.Program.{line_at}
use Rattle.lines.specs.Searches.{some_before}
use Rattle.lines.specs.Loops.{next_of, counter_at}
use Rattle.duration.specs.Loops.{is_inside, crosses, starts_in_own, lacks_next, lacks_for, is_tangled, ends_inside}
use Rattle.lines.specs.Line.{is_next}
use Rattle.duration.specs.Walk.{open_at, is_across_one, is_own, is_fault}
use Rattle.lines.proofs.Searches.{some_line, line_some, some_same}
use Rattle.lines.proofs.Pairs.{same_next, counter_ranged, next_ranged, counter_of, begins, counted, of_within, pairs, own_next}
use Rattle.duration.proofs.Inside.{inside}
use Rattle.duration.proofs.Walks.{across, has_for}

module _ (p : List ℕ) (j : ℕ) where
  -- ---- a line that is no For

  module _ (none : next_of p j ≡ 0) (free : counter_at p j ≡ 0) where
    no_cross : crosses p j ≡ false
    unfolding crosses
    no_cross = not_so _ λ e. some_line (λ k. is_inside p k j && ltb (next_of p k) (next_of p j)) j e λ k lt t.
        let z = ltb-true (next_of p k) (next_of p j) (both_true (is_inside p k j) (ltb (next_of p k) (next_of p j)) t).1 in omega arith

    no_own : starts_in_own p j ≡ false
    unfolding starts_in_own
    no_own = not_so _ λ e. some_line (λ k. is_inside p k j && eqb (counter_at p k) (counter_at p j)) j e λ k lt t.
        let b = both_true (is_inside p k j) (eqb (counter_at p k) (counter_at p j)) t in
        counted p k (omega (arith, (inside p k j b.0).1)) λ d few is. let z = eqb-true (counter_at p k) (counter_at p j) b.1 in omega arith

    no_lack : lacks_next p j ≡ false
    unfolding lacks_next
    no_lack = ne_eqb (next_of p j) 200 (λ z. omega arith)

    rest_alone : (t : Bool) → lacks_for p j ≡ t → (crosses p j || starts_in_own p j || lacks_next p j || lacks_for p j) ≡ t
    rest_alone t is = rw (no_cross, no_own, no_lack) is

  -- ---- a For

  module _ (lt : j < 200) {c x : ℕ} (is : line_at p j ≡ For c x) where
    -- it begins inside a loop that does not end behind it
    Around : Bool
    Around = some_before (λ k. is_inside p k j && leb (next_of p k) (next_of p j)) j

    no_lacks : lacks_for p j ≡ false
    unfolding lacks_for
    no_lacks = rw is

    cross_around : crosses p j ≡ true → Around ≡ true
    unfolding crosses Around
    cross_around e = some_line (λ k. is_inside p k j && ltb (next_of p k) (next_of p j)) j e λ k up t.
        let b = both_true (is_inside p k j) (ltb (next_of p k) (next_of p j)) t in
        let less = ltb-true (next_of p k) (next_of p j) b.1 in
        line_some (λ k. is_inside p k j && leb (next_of p k) (next_of p j)) j k up (rw (b.0, le-leb (next_of p k) (next_of p j) (omega arith)))

    own_around : starts_in_own p j ≡ true → Around ≡ true
    unfolding starts_in_own Around
    own_around e = some_line (λ k. is_inside p k j && eqb (counter_at p k) (counter_at p j)) j e λ k up t.
        let b = both_true (is_inside p k j) (eqb (counter_at p k) (counter_at p j)) t in
        let own = counter_of p j is in
        let z = own_next p k j c (eqb-true (counter_at p k) (counter_at p j) b.1 ∙ own) own (counter_ranged p j c x is).0 up lt (inside p k j b.0).1 in
        line_some (λ k. is_inside p k j && leb (next_of p k) (next_of p j)) j k up (rw (b.0, le-leb (next_of p k) (next_of p j) (omega arith)))

    -- and those of one Next have one counter
    pub same_counter : (k : ℕ) → k < j → next_of p j ≢ 200 → next_of p k ≡ next_of p j → j < next_of p k → counter_at p k ≡ counter_at p j
    same_counter k before has same in_it =
        begins p k (omega arith) λ d y at.
        let here = pairs p j lt is has in
        let there = pairs p k (omega arith) at (λ z. has (sym same ∙ z)) in
        counter_of p k at ∙ same_next (sym there.next ∙ ap (line_at p) same ∙ here.next) ∙ sym (counter_of p j is)

    around_wrong : next_of p j ≢ 200 → Around ≡ true → (crosses p j || starts_in_own p j) ≡ true
    unfolding crosses starts_in_own Around
    around_wrong has e = some_line (λ k. is_inside p k j && leb (next_of p k) (next_of p j)) j e λ k up t. go k up t (eqb (next_of p k) (next_of p j)) refl
      where
        go : (k : ℕ) → k < j → (is_inside p k j && leb (next_of p k) (next_of p j)) ≡ true → (u : Bool) → eqb (next_of p k) (next_of p j) ≡ u
            → (crosses p j || starts_in_own p j) ≡ true
        go k up t true same =
            let b = both_true (is_inside p k j) (leb (next_of p k) (next_of p j)) t in
            let z = same_counter k up has (eqb-true _ _ same) (inside p k j b.0).1 in
            let own : starts_in_own p j ≡ true =
            line_some (λ k. is_inside p k j && eqb (counter_at p k) (counter_at p j)) j k up (rw (b.0, eq-eqb (counter_at p k) (counter_at p j) z)) in
            rw own (or_true (crosses p j))
        go k up t false other =
            let b = both_true (is_inside p k j) (leb (next_of p k) (next_of p j)) t in
            let ne : next_of p k ≢ next_of p j = eqb-false _ _ other in
            let le = leb-true (next_of p k) (next_of p j) b.1 in
            let cross : crosses p j ≡ true =
            line_some (λ k. is_inside p k j && ltb (next_of p k) (next_of p j)) j k up (rw (b.0, lt-ltb (next_of p k) (next_of p j) (omega arith))) in
            rw cross

    for_fault : (crosses p j || starts_in_own p j || lacks_next p j || lacks_for p j) ≡ (eqb (next_of p j) 200 || Around)
    unfolding lacks_next
    for_fault = ap (λ u. crosses p j || starts_in_own p j || eqb (next_of p j) 200 || u) no_lacks ∙ or_false _ ∙ by_both _ _ there back
      where
        there : (crosses p j || starts_in_own p j || eqb (next_of p j) 200) ≡ true → (eqb (next_of p j) 200 || Around) ≡ true
        there e = either_true (crosses p j || starts_in_own p j) (eqb (next_of p j) 200) e
            (λ t. let around = either_true (crosses p j) (starts_in_own p j) t cross_around own_around in rw around (or_true (eqb (next_of p j) 200))) (λ t. rw t)

        back : (eqb (next_of p j) 200 || Around) ≡ true → (crosses p j || starts_in_own p j || eqb (next_of p j) 200) ≡ true
        back e = go (eqb (next_of p j) 200) refl e
          where
            go : (u : Bool) → eqb (next_of p j) 200 ≡ u → (u || Around) ≡ true → (crosses p j || starts_in_own p j || u) ≡ true
            go true z t = or_true (crosses p j || starts_in_own p j)
            go false z t = let wrong = around_wrong (eqb-false _ _ z) t in rw wrong

  -- ---- any line

  next_fault : (c : ℕ) → j < 200 → line_at p j ≡ Next c → lacks_for p j ≡ not (is_own j (get_or (open_at p j) (c - 1) None))
  unfolding lacks_for
  next_fault c lt is = let r = next_ranged p j c is in rw (is, has_for p j c lt is r.0 r.1)

  no_for_next : (l : Line) → line_at p j ≡ l → is_next l ≡ false → lacks_for p j ≡ false
  unfolding lacks_for
  no_for_next l is e = rw (is, e)

  fault_is : j < 200 → (crosses p j || starts_in_own p j || lacks_next p j || lacks_for p j) ≡ is_fault (line_at p j) j (next_of p j) (open_at p j)
  unfolding next_of counter_at Around
  fault_is lt = go (line_at p j) refl
    where
      go : (l : Line) → line_at p j ≡ l → (crosses p j || starts_in_own p j || lacks_next p j || lacks_for p j) ≡ is_fault l j (next_of p j) (open_at p j)
      go (State o t) is = rest_alone (rw is) (rw is) false (no_for_next (State o t) is refl)
      go (For c x) is = for_fault lt is ∙ ap (λ u. eqb (next_of p j) 200 || u) (across p j (omega arith) (next_of p j))
      go (Next c) is = rest_alone (rw is) (rw is) _ (next_fault c lt is)
      go Bad is = rest_alone (rw is) (rw is) false (no_for_next Bad is refl)

-- 040 by the walk
pub tangled_is : (p : List ℕ) (e : ℕ) → e ≤ 200 → is_tangled p e ≡ some_before (λ j. is_fault (line_at p j) j (next_of p j) (open_at p j)) e
unfolding is_tangled
tangled_is p e le = some_same (λ j. crosses p j || starts_in_own p j || lacks_next p j || lacks_for p j) _ e (λ j lt. fault_is p j (omega arith))

-- and 041
pub inside_is : (p : List ℕ) (e : ℕ) → e ≤ 200 → ends_inside p e ≡ is_across_one e 200 (open_at p e)
unfolding ends_inside
inside_is p e le =
    some_same (λ k. is_inside p k e) (λ k. is_inside p k e && leb (next_of p k) 200) e
    (λ k lt. sym (ap (λ u. is_inside p k e && u) (le-leb (next_of p k) 200 (of_within p k (omega arith))) ∙ and_true (is_inside p k e)))
    ∙ across p e le 200
