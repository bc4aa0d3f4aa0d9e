-- The tests of 040, 041, 044 and 014 say what their sentences say, both ways.
-- Assumes nothing.
use Prim.Native.Nat.{ℕ, zero, suc, ◌+◌, ◌≤◌, ◌<◌}
use native.Mathlib.Omega.{arith}
use mathlib.Core.Path.{◌≡◌, refl, sym, ap, ◌∙◌}
use mathlib.Core.Logic.{◌≢◌}
use mathlib.Core.Bool.{Bool, true, false, ◌&&◌, ◌||◌, not, true≢false, false≢true}
use mathlib.Core.List.{List}
use lib.Dec.{ltb, eqb}
use borrow.Author.Tests.{ltb-true, ltb-false, lt-ltb, eqb-true, eqb-false, eq-eqb, not-true}
use Rattle.formats.proofs.Checks.{both_true, either_true, or_true, not_so}
use Rattle.lines.specs.declared.Line.{Line}
use Rattle.lines.specs.declared.Line.TheVariants.{State, For, Next, Bad}
use Rattle.lines.specs.Line.{is_bad}
use Rattle.lines.specs.Program.{line_at, FirstFrom}
use Rattle.lines.proofs.Lines.{is_bad_lem}
use Rattle.lines.proofs.Search.{none_next, next_none}
use Rattle.lines.specs.Searches.{some_before}
use Rattle.lines.specs.Loops.{next_of, counter_at}
use Rattle.lines.specs.Line.{for_counter, is_next}
use Rattle.duration.specs.Loops.{is_inside, crosses}
use Rattle.duration.specs.Loops.{starts_in_own, lacks_next, lacks_for, is_tangled, ends_inside}
use Rattle.duration.specs.Ticks.{run_ticks, is_idle, idles_at, idles, has_bad}
use Rattle.duration.specs.Reasons.{Loop, Tangled, crossing, in_own, no_next, no_for, EndInside, inside, BadBefore, bad}
use Rattle.duration.specs.Reasons.{TakesNone, nothing, state_of0, next_line, bad_line, loop_of_none, idle_loop, Idle, idle}
use Rattle.lines.proofs.Searches.{some_line, line_some}
use Rattle.lines.proofs.Pairs.{counter_ranged, counter_of, next_of_lem, next_after_lem, begins, begins_so, pairs, paired}
use Rattle.duration.proofs.Inside.{is_inside_lem, inside as inside_says}
use Rattle.duration.proofs.Ticks.{run_none, run_state, run_loop, run_next, run_bad}

-- ---- lines that take no tick

-- a run of no lines takes nothing
or_none : (p : List ℕ) (i j : ℕ) → (i < j → run_ticks p i j ≡ 0) → run_ticks p i j ≡ 0
or_none p i j h = go (ltb i j) refl
  where
    go : (t : Bool) → ltb i j ≡ t → run_ticks p i j ≡ 0
    go true e = h (ltb-true i j e)
    go false e = run_none p i j (ltb-false i j e)

-- their sum is 0,
pub none_summed : (p : List ℕ) (i j : ℕ) → TakesNone p i j → j ≤ 200 → run_ticks p i j ≡ 0
none_summed p i j (nothing le) up = run_none p i j le
none_summed p i j (state_of0 is rest) up =
    let none = none_summed p (i + 1) j rest up in or_none p i j λ lt. omega (arith, run_state p i j lt up is)
none_summed p i j (next_line is rest) up = let none = none_summed p (i + 1) j rest up in or_none p i j λ lt. run_next p i j lt up is ∙ none
none_summed p i j (bad_line is rest) up = let none = none_summed p (i + 1) j rest up in or_none p i j λ lt. run_bad p i j lt up is ∙ none
none_summed p i j (loop_of_none {n = n} is first rest) up =
    let none = none_summed p (n + 1) j rest up in
    or_none p i j λ lt.
    let behind : run_ticks p (next_of p i + 1) j ≡ 0 = rw (paired p i (omega arith) is first) none in
    omega (arith, run_loop p i j lt up is)
none_summed p i j (idle_loop {x = x} {n = n} is first body rest) up =
    let inside = none_summed p (i + 1) n body (omega (arith, first.in_program)) in
    let none = none_summed p (n + 1) j rest up in
    or_none p i j λ lt.
    let next = paired p i (omega arith) is first in
    let within : run_ticks p (i + 1) (next_of p i) ≡ 0 = rw next inside in
    let behind : run_ticks p (next_of p i + 1) j ≡ 0 = rw next none in
    run_loop p i j lt up is ∙ rw (within, behind) (omega arith)

-- ---- a loop, by its For and its Next

module _ (p : List ℕ) (e : ℕ) (end : e < 200) where
  loop : (k : ℕ) {c x : ℕ} → k < e → line_at p k ≡ For c x → next_of p k ≢ 200 → Loop p e k c x (next_of p k)
  loop k lt is has = record { before = lt; begins = is; next = pairs p k (omega arith) is has }

  next_is : {k c x n : ℕ} → Loop p e k c x n → next_of p k ≡ n
  next_is {k} q = paired p k (omega (arith, q.before)) q.begins q.next

  -- ---- 040

  no_next_at : (k : ℕ) → k < e → next_of p k ≡ 200 → Tangled p e
  no_next_at k lt is =
      begins p k (omega arith) λ c x at. no_next lt at (next_none p c k (omega arith) (sym (next_of_lem p k at) ∙ is))

  -- two loops, the second of which begins inside the first
  two : {X : Type 0} (k j : ℕ) → k < j → j < e → is_inside p k j ≡ true → 0 < next_of p j
      → ((c x d y : ℕ) → Loop p e k c x (next_of p k) → Loop p e j d y (next_of p j) → j < next_of p k → X) → (Tangled p e → X) → X
  two {X} k j up lt in_it starts h wrong = go (eqb (next_of p k) 200) refl (eqb (next_of p j) 200) refl
    where
      within : j < next_of p k
      within = (inside_says p k j in_it).1

      go : (t : Bool) → eqb (next_of p k) 200 ≡ t → (u : Bool) → eqb (next_of p j) 200 ≡ u → X
      go true z u w = wrong (no_next_at k (omega arith) (eqb-true _ _ z))
      go false z true w = wrong (no_next_at j lt (eqb-true _ _ w))
      go false z false w =
          begins p k (omega (arith, within)) λ c x at. begins p j starts λ d y there.
          h c x d y (loop k (omega arith) at (eqb-false _ _ z)) (loop j lt there (eqb-false _ _ w)) within

  cross_only : (j : ℕ) → j < e → crosses p j ≡ true → Tangled p e
  unfolding crosses
  cross_only j lt t =
      some_line (λ k. is_inside p k j && ltb (next_of p k) (next_of p j)) j t λ k up u.
      let b = both_true (is_inside p k j) (ltb (next_of p k) (next_of p j)) u in
      let far = ltb-true (next_of p k) (next_of p j) b.1 in
      two k j up lt b.0 (omega arith) (λ c x d y one other within. crossing one other up within far) (λ wrong. wrong)

  own_only : (j : ℕ) → j < e → starts_in_own p j ≡ true → Tangled p e
  unfolding starts_in_own
  own_only j lt t =
      some_line (λ k. is_inside p k j && eqb (counter_at p k) (counter_at p j)) j t λ k up u.
      let b = both_true (is_inside p k j) (eqb (counter_at p k) (counter_at p j)) u in
      let within = (inside_says p k j b.0).1 in
      let same = eqb-true (counter_at p k) (counter_at p j) b.1 in
      begins p k (omega arith) λ c x at.
      let above = (counter_ranged p k c x at).0 in
      let own : counter_at p j ≡ c = sym same ∙ counter_of p k at in
      begins_so p j (omega arith) λ d y there.
      let z : d ≡ c = sym (counter_of p j there) ∙ own in
      let later = next_after_lem p j (omega arith) d in
      let starts : 0 < next_of p j = let is = next_of_lem p j there in omega arith in
      two k j up lt b.0 starts
      (λ a x b y one other within. in_own one (rw (same_for (sym one.begins ∙ at) other.begins there z) at other) up within) (λ wrong. wrong)
    where
      same_for : {a b c d w x y z : ℕ} → For a w ≡ For c x → line_at p j ≡ For b y → line_at p j ≡ For d z → d ≡ c → b ≡ a
      same_for f g h is = ap for_counter (sym g ∙ h) ∙ is ∙ ap for_counter (sym f)

  for_only : (j : ℕ) → j < e → lacks_for p j ≡ true → Tangled p e
  unfolding lacks_for
  for_only j lt t =
      let b = both_true (is_next (line_at p j)) (not (some_before (λ k. eqb (next_of p k) j) j)) t in
      let none = not-true _ b.1 in
      next_line_lem (line_at p j) refl b.0 λ d at.
      no_for lt at λ k c x q.
      let z = line_some (λ k. eqb (next_of p k) j) j k (omega (arith, q.next.not_before)) (eq-eqb (next_of p k) j (next_is q)) in
      true≢false (sym z ∙ none)
    where
      next_line_lem : {X : Type 0} (l : Line) → line_at p j ≡ l → is_next l ≡ true → ((d : ℕ) → line_at p j ≡ Next d → X) → X
      next_line_lem (State o t) is u h = absurd (false≢true u)
      next_line_lem (For c x) is u h = absurd (false≢true u)
      next_line_lem (Next d) is u h = h d is
      next_line_lem Bad is u h = absurd (false≢true u)

  pub tangled_only : is_tangled p e ≡ true → Tangled p e
  unfolding is_tangled lacks_next
  tangled_only t =
      some_line (λ j. crosses p j || starts_in_own p j || lacks_next p j || lacks_for p j) e t λ j lt u.
      either_true (crosses p j || starts_in_own p j || lacks_next p j) (lacks_for p j) u
      (λ v. either_true (crosses p j || starts_in_own p j) (lacks_next p j) v
      (λ w. either_true (crosses p j) (starts_in_own p j) w (cross_only j lt) (own_only j lt)) (λ w. no_next_at j lt (eqb-true (next_of p j) 200 w)))
      (for_only j lt)

  -- a line at which one of the four is so
  at_line_lem : (j : ℕ) → j < e → (crosses p j || starts_in_own p j || lacks_next p j || lacks_for p j) ≡ true → is_tangled p e ≡ true
  unfolding is_tangled
  at_line_lem j lt t = line_some (λ j. crosses p j || starts_in_own p j || lacks_next p j || lacks_for p j) e j lt t

  within_loop : {k c x m j : ℕ} → Loop p e k c x m → k < j → j < m → is_inside p k j ≡ true
  within_loop {k} {c} {x} {m} {j} q up before = is_inside_lem p k j up (let z = next_is q in omega arith)

  pub tangled_so : Tangled p e → is_tangled p e ≡ true
  unfolding crosses starts_in_own lacks_next lacks_for
  tangled_so (crossing {k} {c} {x} {m} {j} {d} {y} {n} one other up before far) =
      let far_on : next_of p k < next_of p j = let a = next_is one in let b = next_is other in omega arith in
      let z = line_some (λ k. is_inside p k j && ltb (next_of p k) (next_of p j)) j k up
      (rw (within_loop one up before, lt-ltb (next_of p k) (next_of p j) far_on)) in
      at_line_lem j other.before (rw z)
  tangled_so (in_own {k} {c} {x} {m} {j} {y} {n} one other up before) =
      let same : counter_at p k ≡ counter_at p j = counter_of p k one.begins ∙ sym (counter_of p j other.begins) in
      let z = line_some (λ k. is_inside p k j && eqb (counter_at p k) (counter_at p j)) j k up
      (rw (within_loop one up before, eq-eqb (counter_at p k) (counter_at p j) same)) in
      at_line_lem j other.before (rw (z, or_true (crosses p j)))
  tangled_so (no_next {k} {c} {x} lt at none) =
      let z = eq-eqb (next_of p k) 200 (next_of_lem p k at ∙ none_next p c k (omega arith) none) in
      at_line_lem k lt (rw (z, or_true (crosses p k || starts_in_own p k)))
  tangled_so (no_for {m} {d} lt at none) =
      let no = not_so (some_before (λ k. eqb (next_of p k) m) m) (λ t. some_line (λ k. eqb (next_of p k) m) m t λ k up u.
      let is = eqb-true (next_of p k) m u in
      begins p k (omega arith) λ c x there. none k c x (rw is at (loop k (omega arith) there (λ z. omega arith)))) in
      at_line_lem m lt (rw (at, no) (or_true (crosses p m || starts_in_own p m || lacks_next p m)))

  -- ---- 041, 044 and 014, where no loop is tangled

  a_loop : {X : Type 0} (k : ℕ) → k < e → is_tangled p e ≡ false → 0 < next_of p k → ((c x : ℕ) → Loop p e k c x (next_of p k) → X) → X
  a_loop k lt plain above h =
      begins p k above λ c x at. h c x (loop k lt at (λ z. true≢false (sym (tangled_so (no_next_at k lt z)) ∙ plain)))

  pub inside_only : is_tangled p e ≡ false → ends_inside p e ≡ true → EndInside p e
  unfolding ends_inside
  inside_only plain t =
      some_line (λ k. is_inside p k e) e t λ k lt u.
      let far = (inside_says p k e u).1 in
      a_loop k lt plain (omega arith) λ c x q. inside q far

  pub inside_so : EndInside p e → ends_inside p e ≡ true
  unfolding ends_inside
  inside_so (inside {k} {c} {x} {n} q far) = line_some (λ k. is_inside p k e) e k q.before (within_loop q q.before far)

  module _ (plain : is_tangled p e ≡ false) (outside : ends_inside p e ≡ false) where
    its_next : (k : ℕ) {c x : ℕ} → k < e → line_at p k ≡ For c x → FirstFrom p c (k + 1) (next_of p k)
    its_next k lt is = pairs p k (omega arith) is λ z. true≢false (sym (tangled_so (no_next_at k lt z)) ∙ plain)

    -- a loop ends before line e
    ends_before : (k : ℕ) → k < e → next_of p k ≤ e
    unfolding ends_inside
    ends_before k lt = go (ltb e (next_of p k)) refl
      where
        go : (t : Bool) → ltb e (next_of p k) ≡ t → next_of p k ≤ e
        go true t =
            let far = ltb-true e (next_of p k) t in
            absurd (true≢false (sym (line_some (λ k. is_inside p k e) e k lt (is_inside_lem p k e lt far)) ∙ outside))
        go false t = ltb-false e (next_of p k) t

    -- and lines before line e whose sum is 0 take none; s steps are enough
    pub summed_none : (s i j : ℕ) → 200 ≤ i + s → j ≤ e → run_ticks p i j ≡ 0 → TakesNone p i j
    summed_none zero i j enough up z = let le : j ≤ i = omega arith in nothing le
    summed_none (suc s) i j enough up z = go (ltb i j) refl (line_at p i) refl (λ k m. summed_none s k m)
      where
        go : (t : Bool) → ltb i j ≡ t → (l : Line) → line_at p i ≡ l
            → ((k m : ℕ) → 200 ≤ k + s → m ≤ e → run_ticks p k m ≡ 0 → TakesNone p k m) → TakesNone p i j
        go false t l is more = nothing (ltb-false i j t)
        go true t (State o x) is more =
            let sum = run_state p i j (ltb-true i j t) (omega arith) is in
            let none : x ≡ 0 = omega arith in
            state_of0 (is ∙ ap (State o) none) (more (i + 1) j (omega arith) up (omega arith))
        go true t (For c zero) is more =
            let first = its_next i (omega (arith, ltb-true i j t)) is in
            let sum = run_loop p i j (ltb-true i j t) (omega arith) is in
            loop_of_none is first (more (next_of p i + 1) j (omega (arith, first.not_before)) up (omega arith))
        go true t (For c (suc x)) is more =
            let lt : i < e = omega (arith, ltb-true i j t) in
            let first = its_next i lt is in
            let sum = run_loop p i j (ltb-true i j t) (omega arith) is in
            idle_loop is first (more (i + 1) (next_of p i) (omega arith) (ends_before i lt) (omega arith))
            (more (next_of p i + 1) j (omega (arith, first.not_before)) up (omega arith))
        go true t (Next c) is more =
            next_line is (more (i + 1) j (omega arith) up (sym (run_next p i j (ltb-true i j t) (omega arith) is) ∙ z))
        go true t Bad is more = bad_line is (more (i + 1) j (omega arith) up (sym (run_bad p i j (ltb-true i j t) (omega arith) is) ∙ z))

    pub idle_only : idles p e ≡ true → Idle p e
    unfolding idles idles_at
    idle_only t = some_line (idles_at p) e t λ k lt u. go k lt (line_at p k) refl u
      where
        go : (k : ℕ) → k < e → (l : Line) → line_at p k ≡ l → is_idle l (run_ticks p (k + 1) (next_of p k)) ≡ true → Idle p e
        go k lt (State o t) at u = absurd (false≢true u)
        go k lt (For c x) at u =
            let b = both_true (ltb 0 x) (eqb (run_ticks p (k + 1) (next_of p k)) 0) u in
            let none = eqb-true (run_ticks p (k + 1) (next_of p k)) 0 b.1 in
            idle (record { before = lt; begins = at; next = its_next k lt at }) (ltb-true 0 x b.0)
            (summed_none 200 (k + 1) (next_of p k) (omega arith) (ends_before k lt) none)
        go k lt (Next c) at u = absurd (false≢true u)
        go k lt Bad at u = absurd (false≢true u)

  pub idle_so : Idle p e → idles p e ≡ true
  unfolding idles idles_at
  idle_so (idle {k} {c} {x} {n} q above none) =
      let sum = none_summed p (k + 1) n none (omega (arith, q.next.in_program)) in
      let z : run_ticks p (k + 1) (next_of p k) ≡ 0 = ap (run_ticks p (k + 1)) (next_is q) ∙ sum in
      line_some (idles_at p) e k q.before (rw (q.begins, lt-ltb 0 x above, z))

  pub bad_only : has_bad p e ≡ true → BadBefore p e
  unfolding has_bad
  bad_only t = some_line (λ k. is_bad (line_at p k)) e t λ k lt u. bad lt (is_bad_lem (line_at p k) u)

  pub bad_so : BadBefore p e → has_bad p e ≡ true
  unfolding has_bad
  bad_so (bad {k} lt is) = line_some (λ k. is_bad (line_at p k)) e k lt (ap is_bad is)
