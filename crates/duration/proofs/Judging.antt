-- A program is sound if no test before 043 refuses it.
-- Assumes nothing.
use Prim.Native.Nat.{ℕ, zero, suc, ◌+◌, ◌≤◌, ◌<◌}
use native.Mathlib.Omega.{arith}
use mathlib.Core.Path.{◌≡◌, refl, sym, ap, ◌∙◌}
use mathlib.Core.Logic.{◌≢◌}
use mathlib.Core.Bool.{Bool, true, false, ◌&&◌, ◌||◌, not, true≢false}
use mathlib.Core.List.{List}
use lib.Dec.{ltb, eqb}
use borrow.Author.Tests.{ltb-true, ltb-false, lt-ltb, eqb-true, eqb-false, eq-eqb, not-false}
use Rattle.formats.proofs.Checks.{both_false, neither}
use Rattle.lines.specs.declared.Line.TheVariants.{State, For, Next, Bad}
use Rattle.lines.specs.Line.{is_bad}
use Rattle.lines.specs.Program.{line_at}
use Rattle.lines.specs.Searches.{some_before}
use Rattle.lines.specs.Loops.{next_of, counter_at}
use Rattle.duration.specs.Loops.{is_inside, crosses, starts_in_own, lacks_next, lacks_for, is_tangled, ends_inside}
use Rattle.lines.specs.Line.{is_next}
use Rattle.duration.specs.Ticks.{run_ticks, idles_at, idles, has_bad}
use Rattle.lines.specs.Loops.{End}
use Rattle.duration.specs.Summing.{Nests}
use Rattle.lines.proofs.Searches.{no_line, some_line}
use Rattle.lines.proofs.Pairs.{begins, pairs}
use Rattle.duration.proofs.Inside.{is_inside_lem}
use Rattle.duration.proofs.Faults.{same_counter}
use Rattle.duration.proofs.Sound.{Closes, Sound}

-- ---- loops that are not tangled, and do not hold the end

module _ (p : List ℕ) (e : ℕ) (end : End p e) (plain : is_tangled p e ≡ false) where
  record Clear (j : ℕ) : Type 0 where
    cross : crosses p j ≡ false
    own : starts_in_own p j ≡ false
    next : lacks_next p j ≡ false
    for : lacks_for p j ≡ false

  clear : (j : ℕ) → j < e → Clear j
  unfolding is_tangled
  clear j lt =
      let all = no_line (λ j. crosses p j || starts_in_own p j || lacks_next p j || lacks_for p j) e plain j lt in
      let a = neither (crosses p j || starts_in_own p j || lacks_next p j) (lacks_for p j) all in
      let b = neither (crosses p j || starts_in_own p j) (lacks_next p j) a.0 in
      let c = neither (crosses p j) (starts_in_own p j) b.0 in
      record { cross = c.0; own = c.1; next = b.1; for = a.1 }

  has_next : (k : ℕ) → k < e → next_of p k ≢ 200
  unfolding lacks_next
  has_next k lt = eqb-false (next_of p k) 200 (clear k lt).next

  -- a For inside a loop ends inside it
  ends_inside_lem : (k m : ℕ) → k < m → m < e → m < next_of p k → next_of p m < next_of p k
  unfolding crosses starts_in_own
  ends_inside_lem k m after lt before = go (ltb (next_of p k) (next_of p m)) refl (eqb (next_of p m) (next_of p k)) refl
    where
      in_it : is_inside p k m ≡ true
      in_it = is_inside_lem p k m after before

      go : (t : Bool) → ltb (next_of p k) (next_of p m) ≡ t → (u : Bool) → eqb (next_of p m) (next_of p k) ≡ u → next_of p m < next_of p k
      go true far u e =
          let no = both_false (is_inside p k m) (ltb (next_of p k) (next_of p m)) in_it
          (no_line (λ k. is_inside p k m && ltb (next_of p k) (next_of p m)) m (clear m lt).cross k after) in
          absurd (true≢false (sym far ∙ no))
      go false near true e =
          let is = eqb-true (next_of p m) (next_of p k) e in
          let no = both_false (is_inside p k m) (eqb (counter_at p k) (counter_at p m)) in_it
          (no_line (λ k. is_inside p k m && eqb (counter_at p k) (counter_at p m)) m (clear m lt).own k after) in
          let one = begins p m (omega arith) λ c x at.
          same_counter p m (omega (arith, end.in_program)) at k after (has_next m lt) (sym is) before in
          absurd (true≢false (sym (eq-eqb _ _ one) ∙ no))
      go false near false e =
          let ne : next_of p m ≢ next_of p k = eqb-false (next_of p m) (next_of p k) e in
          let le = ltb-false (next_of p k) (next_of p m) near in
          omega arith

  module _ (outside : ends_inside p e ≡ false) where
    closes_before : (k : ℕ) → k < e → next_of p k < e
    unfolding ends_inside
    closes_before k lt = go (ltb 0 (next_of p k)) refl
      where
        go : (t : Bool) → ltb 0 (next_of p k) ≡ t → next_of p k < e
        go true above =
            begins p k (ltb-true 0 (next_of p k) above) λ c x at.
            let f = pairs p k (omega (arith, end.in_program)) at (has_next k lt) in
            let up : next_of p k ≤ e = before_it (ltb e (next_of p k)) refl in
            let other : next_of p k ≢ e = λ z. next_no_end (sym f.next ∙ ap (line_at p) z ∙ end.mark) in
            omega arith
          where
            before_it : (u : Bool) → ltb e (next_of p k) ≡ u → next_of p k ≤ e
            before_it true far =
                absurd (true≢false (sym (is_inside_lem p k e lt (ltb-true e (next_of p k) far)) ∙ no_line (λ k. is_inside p k e) e outside k lt))
            before_it false near = ltb-false e (next_of p k) near

            next_no_end : {c o : ℕ} → Next c ≡ State o 0 → ⊥
            next_no_end z = true≢false (ap is_next z)
        go false none = let z = ltb-false 0 (next_of p k) none in omega arith

    pub nests : Nests p 0 e
    nests =
        record {
          closed = λ k from lt. closes_before k lt;
          nested = λ k m from lt after before. let c = closes_before k lt in ends_inside_lem k m after (omega arith) before;
        }

    begun : (m c : ℕ) → m < e → line_at p m ≡ Next c → Closes p 0 m
    unfolding lacks_for
    begun m c lt is =
        let no = both_false (is_next (line_at p m)) (not (some_before (λ k. eqb (next_of p k) m) m)) (ap is_next is) (clear m lt).for in
        some_line (λ k. eqb (next_of p k) m) m (not-false _ no) λ k before t.
        record { k = k; from = omega arith; earlier = before; next = eqb-true (next_of p k) m t }

    module _ (moving : idles p e ≡ false) (good : has_bad p e ≡ false) where
      moves : (k c x : ℕ) → k < e → line_at p k ≡ For c x → 0 < x → 0 < run_ticks p (k + 1) (next_of p k)
      unfolding idles idles_at
      moves k c x lt is above =
          let no : (ltb 0 x && eqb (run_ticks p (k + 1) (next_of p k)) 0) ≡ false =
          rw is at (no_line (idles_at p) e moving k lt) in
          let ne : run_ticks p (k + 1) (next_of p k) ≢ 0 = eqb-false _ _ (both_false (ltb 0 x) _ (lt-ltb 0 x above) no) in
          omega arith

      not_bad : (i : ℕ) → i < e → line_at p i ≢ Bad
      unfolding has_bad
      not_bad i lt is = true≢false (sym (ap is_bad is) ∙ no_line (λ k. is_bad (line_at p k)) e good i lt)

      timed : (i o t : ℕ) → i < e → line_at p i ≡ State o t → 0 < t
      timed i o zero lt is = absurd (end.first i o lt is)
      timed i o (suc t) lt is = omega arith

      pub sound : Sound p e
      sound = record { in_program = end.in_program; timed = timed; good = not_bad; nests = nests; begun = begun; moves = moves }
