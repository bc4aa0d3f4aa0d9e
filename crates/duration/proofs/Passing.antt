-- The running rule goes through a run of lines in as many ticks as the lines take, and no call on the way runs more than 400 For and Next lines.
-- Assumes nothing.
use Prim.Native.Nat.{ℕ, zero, suc, ◌+◌, ◌*◌, ◌-◌, ◌≤◌, ◌<◌}
use native.Mathlib.Omega.{arith}
use mathlib.Core.Path.{◌≡◌, refl, sym, ◌∙◌}
use mathlib.Core.Logic.{◌≢◌}
use mathlib.Core.Bool.{Bool, true, false}
use mathlib.Core.List.{List}
use lib.ListN.{length, get_or, length-set}
use lib.Seq.{get_or-set_other}
use lib.Dec.{ltb}
use borrow.Author.Tests.{ltb-true, ltb-false}
use Rattle.lines.specs.declared.Line.{Line}
use Rattle.lines.specs.declared.Line.TheVariants.{State, For, Next, Bad}
use Rattle.lines.specs.Program.{line_at, FirstFrom}
use Rattle.lines.specs.Loops.{next_of}
use Rattle.lines.proofs.Pairs.{state_no_for, counter_ranged, counter_of, own_next}
use Rattle.running.specs.declared.Counter.{Counter}
use Rattle.running.specs.Running.{free, with_outputs}
use Rattle.running.specs.Ticking.{Runs}
use Rattle.running.proofs.Reaching.{RunsOn, held_runs}
use Rattle.running.proofs.Arriving.{Free}
use Rattle.running.proofs.Looping.{turning}
use Rattle.running.proofs.Stretches.{Stretch, no_stretch, state_stretch, then_stretch, stretch_is, loop_stretch, none_stretch}
use Rattle.duration.specs.Ticks.{run_ticks}
use Rattle.duration.proofs.Ticks.{run_none, run_state, run_loop}
use Rattle.duration.proofs.Sound.{Sound, Whole, first, no_next, rest, body, behind}

-- The running rule passes from line i to line j in as many ticks as the lines take, and runs on meanwhile.
unfoldable pub Passes : List ℕ → ℕ → ℕ → Type 0
Passes p i j = (cs : List Counter) → length cs ≡ 4 → Free p i j cs → Stretch p RunsOn i (run_ticks p i j) j cs (j - i)

module _ (p : List ℕ) (e : ℕ) (s : Sound p e) where
  module _ (i j : ℕ) (le : j ≤ e) (lt : i < j) (w : Whole p i j) (cs : List Counter) (four : length cs ≡ 4) (frees : Free p i j cs) where
    Goal : Type 0
    Goal = Stretch p RunsOn i (run_ticks p i j) j cs (j - i)

    in_program_lem : j ≤ 200
    in_program_lem = omega (arith, s.in_program)

    later : (k : ℕ) → i ≤ k → Free p k j cs
    unfolding Free
    later k from m c x start to is = frees m c x (omega arith) to is

    -- a State is held for its time
    state_passes : (o t : ℕ) → line_at p i ≡ State o t → Passes p (i + 1) j → Goal
    unfolding Goal Passes
    state_passes o t is on =
        stretch_is p (sym (run_state p i j lt in_program_lem is)) refl (omega arith)
        (then_stretch p RunsOn
        (state_stretch p RunsOn i o t cs is (s.timed i o t (omega arith) is) (omega (arith, s.in_program)) (λ r on. held_runs t (with_outputs o r) on))
        (on cs four (later (i + 1) (omega arith))))

    module _ (c x : ℕ) (is : line_at p i ≡ For c x) where
      abbrev nx : ℕ
      nx = next_of p i

      abbrev ticks : ℕ
      ticks = run_ticks p (i + 1) (next_of p i)

      inside : nx < j
      inside = w.fors i c x (omega arith) lt is

      near : nx < 199
      near = omega (arith, inside, s.in_program)

      pairing : FirstFrom p c (i + 1) nx
      pairing = first p e s (omega arith) is

      own : get_or cs (c - 1) free ≡ free
      unfolding Free
      own = frees i c x (omega arith) lt is

      -- a loop inside it that had its counter would have its Next
      not_own : (k d y : ℕ) → i + 1 ≤ k → k < nx → line_at p k ≡ For d y → d ≡ c → ⊥
      not_own k d y from to at one =
          let z = own_next p i k c (counter_of p i is) (counter_of p k at ∙ one) (counter_ranged p i c x is).0 (omega arith) (omega (arith, near)) to in
          omega (arith, z, s.nests.nested i k (omega arith) (omega arith) (omega arith) to)

      -- so the loops inside it have other counters, and these are free
      others : (m : ℕ) → Free p (i + 1) nx (turning i c cs m)
      unfolding Free
      others m k d y from to at =
          let a = counter_ranged p i c x is in
          let b = counter_ranged p k d y at in
          let other : d - 1 ≢ c - 1 = λ z. not_own k d y from to at (omega (arith, z, a.0, b.0)) in
          get_or-set_other cs (c - 1) (d - 1) (record { count = m; line = i }) free other ∙ frees k d y (omega arith) (omega (arith, inside)) at

      inner_passes : Passes p (i + 1) nx → (m : ℕ)
          → Stretch p RunsOn (i + 1) ticks nx (turning i c cs m) (nx - (i + 1))
      unfolding Passes
      inner_passes inner m = inner _ (length-set cs (c - 1) (record { count = m; line = i }) ∙ four) (others m)

      -- the loop is left, in its count times the ticks of its body
      Loop : Type 0
      Loop = Stretch p RunsOn i (x * ticks) (nx + 1) cs (nx + 1 - i)

      looped : Passes p (i + 1) nx → (m : ℕ) → x ≡ m → Loop
      unfolding Loop
      looped inner zero z = none_stretch p Runs i c x nx is pairing near cs four own ticks z
      looped inner (suc m) z =
          loop_stretch p Runs i c x nx is pairing near cs four own ticks (omega arith) (s.moves i c x (omega arith) is (omega arith)) (inner_passes inner)

      after_loop : Loop → Passes p (nx + 1) j → Goal
      unfolding Loop Goal Passes
      after_loop b on =
          let longer = pairing.not_before in
          stretch_is p (sym (run_loop p i j lt in_program_lem is)) refl (omega (arith, inside))
          (then_stretch p RunsOn b (on cs four (later (nx + 1) (omega arith))))

      for_passes : Passes p (i + 1) nx → Passes p (nx + 1) j → Goal
      for_passes inner on = after_loop (looped inner x refl) on

  -- by its first line
  module _ (i j : ℕ) (le : j ≤ e) (lt : i < j) (w : Whole p i j) (all : (k m : ℕ) → i < k → m ≤ j → k ≤ m → Whole p k m → Passes p k m) where
    line_passes : (l : Line) → line_at p i ≡ l → Passes p i j
    unfolding Passes Goal
    line_passes (State o t) is cs four frees =
        state_passes i j le lt w cs four frees o t is
        (all (i + 1) j (omega arith) (omega arith) (omega arith) (rest p e s i j w lt le (λ c x z. state_no_for (sym is ∙ z))))
    line_passes (For c x) is cs four frees =
        let near = (first p e s (omega arith) is).not_before in
        let far = w.fors i c x (omega arith) lt is in
        for_passes i j le lt w cs four frees c x is
        (all (i + 1) (next_of p i) (omega arith) (omega arith) near (body p e s i j w lt le is))
        (all (next_of p i + 1) j (omega arith) (omega arith) (omega arith) (behind p e s i j w lt le is))
    line_passes (Next c) is cs four frees = absurd (no_next p e s i j w lt le is)
    line_passes Bad is cs four frees = absurd (s.good i (omega arith) is)

  none_passes_on : (i j : ℕ) → i ≡ j → Passes p i j
  unfolding Passes
  none_passes_on i j is cs four frees =
      stretch_is p (sym (run_none p i j (omega arith))) is (omega arith) (no_stretch p RunsOn i cs)

  -- every run of lines that holds its loops whole, by the number of its lines
  pub passes : (f i j : ℕ) → j ≤ i + f → i ≤ j → j ≤ e → Whole p i j → Passes p i j
  passes zero i j few up le w = none_passes_on i j (omega arith)
  passes (suc f) i j few up le w = go (ltb i j) refl (λ k m from to. passes f k m (omega arith))
    where
      go : (t : Bool) → ltb i j ≡ t → ((k m : ℕ) → i < k → m ≤ j → k ≤ m → m ≤ e → Whole p k m → Passes p k m) → Passes p i j
      go true lt all = line_passes i j le (ltb-true i j lt) w (λ k m from to on. all k m from to on (omega arith)) (line_at p i) refl
      go false ge all = none_passes_on i j (omega (arith, ltb-false i j ge))
