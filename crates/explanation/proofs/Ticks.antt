-- A run from a start on: what holds of it at each tick, and that the ticks of a held State line can be taken at once.
-- Assumes nothing.
use Prim.Native.Nat.{ℕ, zero, suc, ◌+◌, ◌-◌, ◌<◌}
use native.Mathlib.Omega.{arith}
use mathlib.Core.Path.{◌≡◌, refl, sym, ap, ◌∙◌}
use mathlib.Core.Bool.{Bool, true, false, true≢false}
use mathlib.Core.List.{List}
use lib.Dec.{ltb}
use borrow.Author.Tests.{ltb-true, ltb-false}
use Rattle.formats.proofs.Order.{last_or_before}
use Rattle.running.specs.declared.Run.{Run}
use Rattle.running.specs.declared.Ran.{Ran}
use Rattle.running.specs.Running.{waiting, start, tick}
use Rattle.running.specs.Invariant.{RunInvariant}
use Rattle.running.specs.Ticking.{after, Runs}
use Rattle.running.proofs.Waiting.{held_until, tick_off}
use Rattle.running.proofs.Reaching.{after_add, after_one_more, after_ticks}
use Rattle.running.proofs.Invariant.{start_kept, tick_kept}
use Rattle.running.proofs.Ending as Ending
use Rattle.running.proofs.Ending.{start_told, tick_told}
use Rattle.running.proofs.Coming.{runs_holding}
use Rattle.explanation.specs.Report.{did, held_at}

-- ---- a State line that is held for w ticks

module _ (p : List ℕ) (x : Ran) (on : x.run.on ≡ true) (above : 0 < x.run.wait) where
  abbrev w : ℕ
  w = x.run.wait

  held_on : (m : ℕ) → m < w → (after p m x).run ≡ waiting (w - m) x.run
  held_on m lt = after_ticks p m x ∙ held_until p m x.run on lt

  -- before the last of them one is left to wait,
  skip_held : (after p (w - 1) x).run ≡ waiting 1 x.run
  skip_held = let one : w - (w - 1) ≡ 1 = omega arith in held_on (w - 1) (omega arith) ∙ ap (λ t. waiting t x.run) one

  -- the last is a tick from there,
  skip : after p w x ≡ tick p (waiting 1 x.run)
  skip =
      let e : w - 1 + 1 ≡ w = omega arith in
      sym (ap (λ i. after p i x) e) ∙ after_one_more p (w - 1) x ∙ ap (tick p) skip_held

  -- and before it the program runs
  runs_until : (m : ℕ) → m < w → (after p m x).run.on ≡ true
  runs_until m lt = ap (λ (r : Run). r.on) (held_on m lt) ∙ on

-- ---- from a start on

module _ (p : List ℕ) (k o : ℕ) where
  -- the tick after the n-th
  pub did_next : (n : ℕ) → did p k o (suc n) ≡ tick p (did p k o n).run
  did_next n = let up : n + 1 ≡ suc n = omega arith in sym (ap (did p k o) up) ∙ after_one_more p n (start p k o)

  pub did_start : did p k o 0 ≡ start p k o
  unfolding after
  did_start = refl

  -- the invariant of a run holds after each
  pub did_kept : k < 200 → (n : ℕ) → RunInvariant (did p k o n).run
  did_kept lt zero = rw did_start (start_kept p k o lt)
  did_kept lt (suc n) = rw (did_next n) (tick_kept p (did p k o n).run (did_kept lt n))

  -- an event exactly at the end, while the program runs until then
  did_told : (n : ℕ) → ((m : ℕ) → m < n → (did p k o m).run.on ≡ true) → Ending.Told (did p k o n)
  did_told zero before = rw did_start (start_told p k o)
  did_told (suc n) before = rw (did_next n) (tick_told p (did p k o n).run (before n (omega arith)))

  -- so without an event it runs,
  pub told_on : (n : ℕ) → ((m : ℕ) → m < n → (did p k o m).run.on ≡ true) → (did p k o n).event ≡ 0 → (did p k o n).run.on ≡ true
  told_on n before none = go (did_told n before)
    where
      go : Ending.Told (did p k o n) → (did p k o n).run.on ≡ true
      go (Ending.goes_on on _) = on
      go (Ending.has_ended _ some) = absurd (some none)

  -- it ran before, where it runs,
  ran_before : (n : ℕ) → (did p k o n).run.on ≡ true → (m : ℕ) → m < n → (did p k o m).run.on ≡ true
  ran_before zero on m lt = absurd (omega arith)
  ran_before (suc n) on m lt =
      let was : (did p k o n).run.on ≡ true = go (did p k o n).run.on refl in
      last_or_before m n lt (λ is. ap (λ i. (did p k o i).run.on) is ∙ was) (ran_before n was m)
    where
      go : (t : Bool) → (did p k o n).run.on ≡ t → (did p k o n).run.on ≡ true
      go true was = was
      go false was =
          absurd (true≢false (sym on ∙ ap (λ (x : Ran). x.run.on) (did_next n ∙ tick_off p (did p k o n).run was) ∙ was))

  -- and while it runs, there is no event
  pub did_runs : (n : ℕ) → (did p k o n).run.on ≡ true → Runs (did p k o n)
  did_runs n on = go (did_told n (ran_before n on))
    where
      go : Ending.Told (did p k o n) → Runs (did p k o n)
      go (Ending.goes_on so event) = record { on = so; event = event }
      go (Ending.has_ended off _) = absurd (true≢false (sym on ∙ off))

  -- it waits for at least one tick
  pub waits_some : (n : ℕ) → (did p k o n).run.on ≡ true → 0 < (did p k o n).run.wait
  waits_some n on = let h = runs_holding p k o n on in let e = ap (λ (r : Run). r.wait) h.is in omega (arith, h.above)

  -- so all ticks of the State line that it holds can be taken at once
  module _ (n : ℕ) (on : (did p k o n).run.on ≡ true) where
    abbrev wait : ℕ
    wait = (did p k o n).run.wait

    pub skips_to : did p k o (n + wait) ≡ tick p (waiting 1 (did p k o n).run)
    skips_to = after_add p n wait (start p k o) ∙ skip p (did p k o n) on (waits_some n on)

    pub skips_held : held_at p k o (n + wait) ≡ waiting 1 (did p k o n).run
    skips_held =
        let above = waits_some n on in
        let e : n + wait ≡ suc (n + (wait - 1)) = omega arith in
        ap (held_at p k o) e ∙ ap (λ (x : Ran). x.run) (after_add p n (wait - 1) (start p k o)) ∙ skip_held p (did p k o n) on above

    pub skips_runs : ((m : ℕ) → m < n → (did p k o m).run.on ≡ true) → (m : ℕ) → m < n + wait → (did p k o m).run.on ≡ true
    skips_runs before m lt = go (ltb m n) refl
      where
        go : (t : Bool) → ltb m n ≡ t → (did p k o m).run.on ≡ true
        go true t = before m (ltb-true m n t)
        go false t =
            let ge = ltb-false m n t in
            let e : m ≡ n + (m - n) = omega arith in
            ap (λ i. (did p k o i).run.on) e ∙ ap (λ (x : Ran). x.run.on) (after_add p n (m - n) (start p k o))
            ∙ runs_until p (did p k o n) on (waits_some n on) (m - n) (omega arith)
