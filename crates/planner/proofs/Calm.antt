-- No call runs more than two For and Next lines of a plan's program, however long the plan is.
-- Assumes nothing.
use Prim.Native.Nat.{ℕ, zero, suc, ◌+◌, ◌-◌, ◌≤◌, ◌<◌}
use native.Mathlib.Omega.{arith}
use mathlib.Core.Path.{◌≡◌, refl, sym, ap, ◌∙◌}
use mathlib.Core.Bool.{Bool, true, false, true≢false}
use mathlib.Core.List.{List}
use lib.Dec.{ltb, eqb}
use borrow.Author.Tests.{ltb-true, ltb-false, eqb-true, eqb-false}
use Rattle.lines.specs.declared.Line.TheVariants.{State, For, Next}
use Rattle.lines.specs.Line.{is_next}
use Rattle.lines.specs.Program.{line_at, FirstFrom}
use Rattle.lines.proofs.Pairs.{state_no_for, for_no_next, next_ranged}
use Rattle.running.specs.declared.Run.{Run}
use Rattle.running.specs.declared.Ran.{Ran}
use Rattle.running.specs.declared.Step.{Step}
use Rattle.running.specs.Running.{counter, at_line, with_counter, free, ends, is_for_or_next, step, run_due, most, begun, start}
use Rattle.running.specs.Ticking.{after}
use Rattle.running.specs.Moments.{Moment}
use Rattle.running.proofs.Steps.{state_rests, end_mark, for_busy, for_takes, next_alone, next_back, next_last, next_ends, loop_ends}
use Rattle.running.proofs.Arriving.{goes_to_lem}
use Rattle.running.proofs.Gone.{any_moment, busy_line}
use Rattle.running.proofs.Coming.{every_so, moment_going}
use Rattle.running.proofs.Invariant.{begun_going}
use Rattle.planner.proofs.Found.{two_on}
use Rattle.planner.proofs.Shape.{Around, a_state, a_for, a_next, LoopAt}

module _ (p : List ℕ) (shaped : (k : ℕ) → k < 200 → Around p 200 k) where
  -- a State is the last line of its call
  state_last : (r : Run) (o t : ℕ) → line_at p r.line ≡ State o t → (left n : ℕ) → (run_due p left n r).lines ≡ n
  state_last r o zero is left n = ap (λ (x : Ran). x.lines) (end_mark p r o is left n)
  state_last r o (suc t) is left n = ap (λ (x : Ran). x.lines) (state_rests p r o (suc t) is (omega arith) left n)

  -- a line that ends the program counts as run
  end_last : (r s : Run) (e : ℕ) → is_for_or_next (line_at p r.line) ≡ true → step p r ≡ ends e s → (left n : ℕ) → (run_due p (suc left) n r).lines ≡ n + 1
  end_last r s e loop is left n = ap (λ (x : Ran). x.lines) (loop_ends p r loop left n e (ap (λ (y : Step). y.how) is))

  pub pairing : (k c x : ℕ) → LoopAt p 200 k c x → FirstFrom p c (k + 1) (k + 2)
  pairing k c x l = two_on p k c l.state l.next l.inside

  -- behind a For stands a State
  for_one : (r : Run) (c x : ℕ) → LoopAt p 200 r.line c x → (left n : ℕ) → (run_due p (suc left) n r).lines ≡ n + 1
  for_one r c x l left n = go (ltb 0 (counter r c).count) refl
    where
      go : (b : Bool) → ltb 0 (counter r c).count ≡ b → (run_due p (suc left) n r).lines ≡ n + 1
      go true e = end_last r r 6 (ap is_for_or_next l.begins) (for_busy p r c x l.begins (ltb-true 0 _ e)) left n
      go false e =
          let idle : (counter r c).count ≡ 0 = let z = ltb-false 0 (counter r c).count e in omega arith in
          let on : Run = with_counter c (record { count = x; line = r.line }) r in
          let is = for_takes p r c x l.begins idle (let i = l.inside in omega arith) (r.line + 2) (pairing r.line c x l) l.some in
          ap (λ (y : Ran). y.lines) (goes_to_lem p left n r (r.line + 1) on (ap is_for_or_next l.begins) is)
          ∙ state_last (at_line (r.line + 1) on) l.outputs l.time l.state left (n + 1)

  -- a line that is no Next, behind one that was run
  one_more : (r : Run) → r.line < 200 → is_next (line_at p r.line) ≡ false → (left : ℕ) → (run_due p (suc left) 1 r).lines ≤ 2
  one_more r lt no_next left = go (shaped r.line lt)
    where
      go : Around p 200 r.line → (run_due p (suc left) 1 r).lines ≤ 2
      go (a_state o t is) = let e = state_last r o t is (suc left) 1 in omega arith
      go (a_for c x l) = let e = for_one r c x l left 1 in omega arith
      go (a_next j c x at l) = absurd (true≢false (sym (ap is_next (ap (line_at p) at ∙ l.next)) ∙ no_next))

  -- a Next goes back behind a For, or on to a line that is no Next
  module _ (o : ℕ) (r : Run) (m : Moment p (begun 0 o) r) (j c x : ℕ) (at : r.line ≡ j + 2) (l : LoopAt p 200 j c x) where
    is_next_lem : line_at p r.line ≡ Next c
    is_next_lem = ap (line_at p) at ∙ l.next

    counts : is_for_or_next (line_at p r.line) ≡ true
    counts = ap is_for_or_next is_next_lem

    -- the line that stands in its counter is a For, and behind that stands a State
    back_one : (k y : ℕ) (on : Run) → line_at p k ≡ For c y → Around p 200 k → (run_due p 399 1 (at_line (k + 1) on)).lines ≡ 1
    back_one k y on is (a_state a b s) = absurd (state_no_for (sym s ∙ is))
    back_one k y on is (a_for a b q) = state_last (at_line (k + 1) on) q.outputs q.time q.state 399 1
    back_one k y on is (a_next i a b z q) = absurd (for_no_next (sym is ∙ ap (line_at p) z ∙ q.next))

    goes_back : 1 < (counter r c).count → (run_due p most 0 r).lines ≤ 2
    goes_back busy =
        let k = (counter r c).line in
        let f = busy_line p 0 o r (any_moment m) c (next_ranged p r.line c is_next_lem) (omega arith) in
        let on : Run = with_counter c (record { count = (counter r c).count - 1; line = k }) r in
        let e = ap (λ (y : Ran). y.lines) (goes_to_lem p 399 0 r (k + 1) on counts (next_back p r c is_next_lem busy)) in
        let inside : k < 199 = (moment_going p (begun 0 o) r (begun_going 0 o (omega arith)) (any_moment m)).for_line (c - 1) in
        let z = back_one k f.0 on f.1 (shaped k (omega arith)) in
        omega arith

    leaves : (counter r c).count ≡ 1 → (run_due p most 0 r).lines ≤ 2
    leaves one = go (ltb (j + 3) 200) refl
      where
        on : Run
        on = with_counter c free r

        go : (b : Bool) → ltb (j + 3) 200 ≡ b → (run_due p most 0 r).lines ≤ 2
        go true lt =
            let up = ltb-true (j + 3) 200 lt in
            let three : r.line + 1 ≡ j + 3 = omega arith in
            let e = ap (λ (y : Ran). y.lines) (goes_to_lem p 399 0 r (r.line + 1) on counts (next_last p r c is_next_lem one (omega arith))) in
            let q = one_more (at_line (r.line + 1) on) (omega arith) (ap (λ k. is_next (line_at p k)) three ∙ l.alone up) 398 in
            omega arith
        go false ge =
            let down = ltb-false (j + 3) 200 ge in
            let up = l.inside in
            let e = end_last r (with_counter c free r) 9 counts (next_ends p r c is_next_lem one (omega arith)) 399 0 in
            omega arith

    next_few : (run_due p most 0 r).lines ≤ 2
    next_few = go (eqb (counter r c).count 0) refl (ltb 1 (counter r c).count) refl
      where
        go : (a : Bool) → eqb (counter r c).count 0 ≡ a → (b : Bool) → ltb 1 (counter r c).count ≡ b → (run_due p most 0 r).lines ≤ 2
        go true a b f =
            let e = end_last r r 8 counts (next_alone p r c is_next_lem (eqb-true (counter r c).count 0 a)) 399 0 in
            omega arith
        go false a true f = goes_back (ltb-true 1 (counter r c).count f)
        go false a false f =
            let ne = eqb-false (counter r c).count 0 a in
            let le = ltb-false 1 (counter r c).count f in
            leaves (omega arith)

  due_few : (o : ℕ) (r : Run) → Moment p (begun 0 o) r → (run_due p most 0 r).lines ≤ 2
  due_few o r m = go (shaped r.line (moment_going p (begun 0 o) r (begun_going 0 o (omega arith)) (any_moment m)).in_program)
    where
      go : Around p 200 r.line → (run_due p most 0 r).lines ≤ 2
      go (a_state a t is) = let e = state_last r a t is most 0 in omega arith
      go (a_for c x l) = let e = for_one r c x l 399 0 in omega arith
      go (a_next j c x at l) = next_few o r m j c x at l

  -- From a start at line 000 on, a call runs at most two For and Next lines.
  pub few_due : (o n : ℕ) → (after p n (start p 0 o)).lines ≤ 2
  few_due o n = every_so p 0 o (λ x. x.lines ≤ 2) (due_few o) (λ u. omega arith) (λ u. omega arith) n
