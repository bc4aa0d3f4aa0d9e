-- The tick at which a program stops, and the outcome by it.
-- Assumes nothing.
use Prim.Native.Nat.{ℕ, ◌+◌, ◌≤◌, ◌<◌}
use native.Mathlib.Omega.{arith}
use mathlib.Core.Path.{◌≡◌, refl, sym, ◌∙◌}
use mathlib.Core.Bool.{Bool, true, false, not, true≢false}
use mathlib.Core.List.{List}
use lib.Dec.{ltb, leb}
use borrow.Author.Tests.{ltb-true, ltb-false, le-leb, lt-leb, leb-true, leb-false}
use Rattle.lines.proofs.Searches.{First, first_is_lem}
use Rattle.std.specs.Prelude.{None, Some}
use Rattle.std.proofs.lemmas.Option.{none-some, same_Some}
use Rattle.explanation.specs.declared.Stop.{Stop}
use Rattle.explanation.specs.Report.{did, stop_tick, stop_at, outcome}

module _ (p : List ℕ) (k o limit : ℕ) where
  abbrev has_ended : ℕ → Bool
  has_ended n = not (did p k o n).run.on

  found : First has_ended 0 (0 + (limit + 1)) (stop_tick p k o limit)
  unfolding stop_tick
  found = first_is_lem has_ended (limit + 1) 0

  off_true : (n : ℕ) → has_ended n ≡ true → (did p k o n).run.on ≡ false
  off_true n e = go (did p k o n).run.on e
    where
      go : (t : Bool) → not t ≡ true → t ≡ false
      go true e = absurd (true≢false (sym e))
      go false e = refl

  on_false : (n : ℕ) → has_ended n ≡ false → (did p k o n).run.on ≡ true
  on_false n e = go (did p k o n).run.on e
    where
      go : (t : Bool) → not t ≡ false → t ≡ true
      go true e = refl
      go false e = absurd (true≢false e)

  -- ---- the tick

  -- before it the program runs
  pub runs_before : (m : ℕ) → m < stop_tick p k o limit → (did p k o m).run.on ≡ true
  runs_before m lt = on_false m (found.none_before m (omega arith) lt)

  -- there it does not, if it is within the limit
  pub off_there : stop_tick p k o limit ≤ limit → (did p k o (stop_tick p k o limit)).run.on ≡ false
  off_there le = off_true _ (found.passes (omega arith))

  -- it is the first such tick
  pub stops_there : (n : ℕ) → n ≤ limit → (did p k o n).run.on ≡ false → ((m : ℕ) → m < n → (did p k o m).run.on ≡ true) → stop_tick p k o limit ≡ n
  stops_there n le off before = go (ltb (stop_tick p k o limit) n) refl (ltb n (stop_tick p k o limit)) refl
    where
      t : ℕ
      t = stop_tick p k o limit

      go : (a : Bool) → ltb (stop_tick p k o limit) n ≡ a → (b : Bool) → ltb n (stop_tick p k o limit) ≡ b → stop_tick p k o limit ≡ n
      go true a b e =
          let lt = ltb-true (stop_tick p k o limit) n a in
          absurd (true≢false (sym (before _ lt) ∙ off_there (omega arith)))
      go false a true e = absurd (true≢false (sym (runs_before n (ltb-true n (stop_tick p k o limit) e)) ∙ off))
      go false a false e = omega (arith, ltb-false (stop_tick p k o limit) n a, ltb-false n (stop_tick p k o limit) e)

  -- or there is none up to the limit
  pub still_there : ((m : ℕ) → m ≤ limit → (did p k o m).run.on ≡ true) → limit < stop_tick p k o limit
  still_there on = go (leb (stop_tick p k o limit) limit) refl
    where
      go : (a : Bool) → leb (stop_tick p k o limit) limit ≡ a → limit < stop_tick p k o limit
      go true a = let le = leb-true (stop_tick p k o limit) limit a in absurd (true≢false (sym (on _ le) ∙ off_there le))
      go false a = leb-false (stop_tick p k o limit) limit a

  -- ---- the outcome

  pub outcome_stops : (n : ℕ) → stop_tick p k o limit ≡ n → n ≤ limit → outcome p k o limit ≡ Some (stop_at p k o n)
  unfolding outcome
  outcome_stops n is le = rw (is, le-leb n limit le)

  pub outcome_runs : limit < stop_tick p k o limit → outcome p k o limit ≡ None
  unfolding outcome
  outcome_runs lt = rw (lt-leb (stop_tick p k o limit) limit lt)

  -- the other way round: how it stopped
  pub record Found (s : Stop) : Type 0 where
    pub within : stop_tick p k o limit ≤ limit
    pub is : s ≡ stop_at p k o (stop_tick p k o limit)

  pub stopped_found : (s : Stop) → outcome p k o limit ≡ Some s → Found s
  stopped_found s is = go (leb (stop_tick p k o limit) limit) refl
    where
      go : (a : Bool) → leb (stop_tick p k o limit) limit ≡ a → Found s
      go true a =
          let le = leb-true (stop_tick p k o limit) limit a in record { within = le; is = same_Some _ _ (sym is ∙ outcome_stops _ refl le) }
      go false a = absurd (none-some s (sym (outcome_runs (leb-false (stop_tick p k o limit) limit a)) ∙ is))

  pub running_found : outcome p k o limit ≡ None → (m : ℕ) → m ≤ limit → (did p k o m).run.on ≡ true
  running_found is m le = go (leb (stop_tick p k o limit) limit) refl
    where
      go : (a : Bool) → leb (stop_tick p k o limit) limit ≡ a → (did p k o m).run.on ≡ true
      go true a = absurd (none-some _ (sym is ∙ outcome_stops _ refl (leb-true (stop_tick p k o limit) limit a)))
      go false a = runs_before m (omega (arith, leb-false (stop_tick p k o limit) limit a))
