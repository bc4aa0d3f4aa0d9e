-- The report of how long a program takes tells exactly the sum of the plan's times.
-- Assumes nothing.
use Prim.Native.Nat.{ℕ, ◌+◌, ◌*◌, ◌≤◌, ◌<◌}
use native.Mathlib.Omega.{arith}
use mathlib.Core.Path.{◌≡◌, refl, sym, ap, subst, ◌∙◌}
use mathlib.Core.Bool.{Bool, true, false, true≢false}
use mathlib.Core.List.{List, [], ◌∷◌}
use lib.ListN.{length}
use lib.Dec.{ltb}
use borrow.Author.Tests.{ltb-true, ltb-false}
use Rattle.formats.specs.Checks.{Res, refused, passed}
use Rattle.lines.specs.declared.Line.{Line}
use Rattle.lines.specs.declared.Line.TheVariants.{State, For, Next, Bad}
use Rattle.lines.specs.Line.{for_counter, is_bad}
use Rattle.lines.specs.Program.{line_at, FirstFrom}
use Rattle.lines.specs.Loops.{End}
use Rattle.lines.proofs.Pairs.{state_no_for, state_no_next, for_no_next}
use Rattle.running.specs.Running.{start}
use Rattle.running.proofs.Reaching.{one_number}
use Rattle.duration.specs.Report.{report}
use Rattle.duration.specs.Reasons.{Loop, Tangled, crossing, in_own, no_next, no_for, EndInside, inside, TakesNone}
use Rattle.duration.specs.Reasons.{nothing, state_of0, next_line, bad_line, loop_of_none, idle_loop}
use Rattle.duration.specs.Reasons.{Idle, idle, BadBefore, bad, Reason, e030, e042, e040, e041, e044, e014, e043}
use Rattle.duration.proofs.Taking.{takes}
use Rattle.duration.proofs.Refusing.{refused_first}
use Rattle.planner.specs.declared.Move.{Move}
use Rattle.planner.specs.Plan.{AllProper, none, more, total}
use Rattle.planner.specs.Lines.{program_of, plan_lines}
use Rattle.planner.proofs.Found.{bytes_all, plan_few, stand_ends}
use Rattle.planner.proofs.Shape.{LoopAt, Around, a_state, a_for, a_next, program_around}
use Rattle.planner.proofs.Calm.{pairing}
use Rattle.planner.proofs.Passing.{carries_out}

-- at most 1,200,000 ticks for each move
pub total_few : (ms : List Move) → AllProper ms → total ms ≤ 1200000 * length ms
unfolding total
total_few [] none = omega arith
total_few (m ∷ ms) (more so rest) =
    let a = so.settling in
    let b = so.reading in
    let c = total_few ms rest in
    omega (arith, a.1, b.1)

-- ---- of the kinds of lines

time_of : Line → ℕ
time_of (State o t) = t
time_of (For c x) = 0
time_of (Next c) = 0
time_of Bad = 0

same_time : {o t u v : ℕ} → State o t ≡ State u v → t ≡ v
unfolding time_of
same_time e = ap time_of e

counter_same : {c x d y : ℕ} → For c x ≡ For d y → c ≡ d
counter_same e = ap for_counter e

state_no_bad : {o t : ℕ} → State o t ≡ Bad → ⊥
state_no_bad e = true≢false (sym (ap is_bad e))

for_no_bad : {c x : ℕ} → For c x ≡ Bad → ⊥
for_no_bad e = true≢false (sym (ap is_bad e))

next_no_bad : {c : ℕ} → Next c ≡ Bad → ⊥
next_no_bad e = true≢false (sym (ap is_bad e))

-- ---- nothing that the report refuses

module _ (p : List ℕ) (shaped : (k : ℕ) → k < 200 → Around p 200 k) where
  -- a For is one of those loops
  a_loop : (k c x : ℕ) → k < 200 → line_at p k ≡ For c x → (y : ℕ) × LoopAt p 200 k c y
  a_loop k c x lt is = go (shaped k lt)
    where
      go : Around p 200 k → (y : ℕ) × LoopAt p 200 k c y
      go (a_state o t s) = absurd (state_no_for (sym s ∙ is))
      go (a_for d y l) = (y, rw (counter_same (sym is ∙ l.begins)) l)
      go (a_next j d y at l) = absurd (for_no_next (sym is ∙ ap (line_at p) at ∙ l.next))

  -- its Next is two lines on
  next_is : {k c y n : ℕ} → LoopAt p 200 k c y → FirstFrom p c (k + 1) n → n ≡ k + 2
  next_is {k} {c} {y} {n} l f = go (ltb (k + 2) n) refl (ltb (k + 1) n) refl
    where
      go : (a : Bool) → ltb (k + 2) n ≡ a → (b : Bool) → ltb (k + 1) n ≡ b → n ≡ k + 2
      go true a b e = absurd (f.none_between (k + 2) (omega arith) (ltb-true (k + 2) n a) l.next)
      go false a true e = let up = ltb-true (k + 1) n e in let down = ltb-false (k + 2) n a in omega arith
      go false a false e =
          let down = ltb-false (k + 1) n e in
          let up = f.not_before in
          let is : n ≡ k + 1 = omega arith in
          absurd (state_no_next (sym l.state ∙ sym (ap (line_at p) is) ∙ f.next))

  module _ (e : ℕ) (end : End p e) where
    module _ {k c x n : ℕ} (l : Loop p e k c x n) where
      loop_at : (y : ℕ) × LoopAt p 200 k c y
      loop_at = let lt = l.before in let in_p = end.in_program in a_loop k c x (omega arith) l.begins

      ends_at : n ≡ k + 2
      ends_at = next_is loop_at.1 l.next

      -- what is inside it is its State
      inside_state : (j : ℕ) → k < j → j < n → line_at p j ≡ State loop_at.1.outputs loop_at.1.time
      inside_state j from to = let at = ends_at in let is : j ≡ k + 1 = omega arith in ap (line_at p) is ∙ loop_at.1.state

    not_tangled : Tangled p e → ⊥
    not_tangled (crossing {k} {c} {x} {m} {j} l o from to beyond) = state_no_for (sym (inside_state l j from to) ∙ o.begins)
    not_tangled (in_own {k} {c} {x} {m} {j} l o from to) = state_no_for (sym (inside_state l j from to) ∙ o.begins)
    not_tangled (no_next {k} {c} {x} lt is without) =
        let in_p = end.in_program in
        let l = (a_loop k c x (omega arith) is).1 in
        without (k + 2) (omega arith) l.inside l.next
    not_tangled (no_for {m} {d} lt is without) = let in_p = end.in_program in go (shaped m (omega arith))
      where
        go : Around p 200 m → ⊥
        go (a_state o t s) = state_no_next (sym s ∙ is)
        go (a_for c x l) = for_no_next (sym l.begins ∙ is)
        go (a_next j c x at l) =
            without j c x
            (record { before = omega arith; begins = l.begins; next = subst (FirstFrom p c (j + 1)) (sym at) (pairing p shaped j c x l) })

    not_inside : EndInside p e → ⊥
    not_inside (inside {k} {c} {x} {n} l lt) =
        let z = same_time (sym (inside_state l e l.before lt) ∙ end.mark) in
        let above = (loop_at l).1.above in
        omega arith

    not_idle : Idle p e → ⊥
    not_idle (idle {k} {c} {x} {n} l some Takes-none) = go Takes-none
      where
        at : n ≡ k + 2
        at = ends_at l

        s : line_at p (k + 1) ≡ State (loop_at l).1.outputs (loop_at l).1.time
        s = (loop_at l).1.state

        go : TakesNone p (k + 1) n → ⊥
        go (nothing le) = omega (arith, at)
        go (state_of0 is rest) = let z = same_time (sym s ∙ is) in omega (arith, (loop_at l).1.above)
        go (next_line is rest) = state_no_next (sym s ∙ is)
        go (bad_line is rest) = state_no_bad (sym s ∙ is)
        go (loop_of_none is f rest) = state_no_for (sym s ∙ is)
        go (idle_loop is f b rest) = state_no_for (sym s ∙ is)

    not_bad : BadBefore p e → ⊥
    not_bad (bad {k} lt is) = let in_p = end.in_program in go (shaped k (omega arith))
      where
        go : Around p 200 k → ⊥
        go (a_state o t s) = state_no_bad (sym s ∙ is)
        go (a_for c x l) = for_no_bad (sym l.begins ∙ is)
        go (a_next j c x at l) = next_no_bad (sym l.next ∙ sym (ap (line_at p) at) ∙ is)

-- 02, item 6's report of the program of a plan: the sum of its times.
module _ (ms : List Move) (few : length ms ≤ 16) (proper : AllProper ms) where
  abbrev p : List ℕ
  p = program_of ms

  shaped : (k : ℕ) → k < 200 → Around p 200 k
  shaped = program_around ms few proper

  no_reason : (r : ℕ) → Reason p r → ⊥
  no_reason r (e030 _ ne) = ne (bytes_all ms few)
  no_reason r (e042 _ no_end) =
      let l = plan_few ms in no_end (length (plan_lines ms)) 0 (omega arith) (stand_ends ms few proper (length (plan_lines ms)) (omega arith) (omega arith))
  no_reason r (e040 {e} _ end t) = not_tangled p shaped e end t
  no_reason r (e041 {e} _ end t) = not_inside p shaped e end t
  no_reason r (e044 {e} _ end t) = not_idle p shaped e end t
  no_reason r (e014 {e} _ end t) = not_bad p shaped e end t
  no_reason r (e043 {n} _ above t) =
      let is : n ≡ total ms = one_number p n (total ms) (start p 0 0) (t 0) (carries_out ms few proper 0).ends in
      let l = total_few ms proper in
      omega arith

  pub reported : report p ≡ passed (total ms)
  reported = go (report p) refl
    where
      go : (r : Res ℕ) → report p ≡ r → report p ≡ passed (total ms)
      go (refused r) is = absurd (no_reason r (refused_first p r is).says)
      go (passed n) is =
          is ∙ ap passed (one_number p n (total ms) (start p 0 0) (takes p n is 0) (carries_out ms few proper 0).ends)
