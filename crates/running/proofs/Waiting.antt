-- Laws of ticks: how long a State line is held, and ticks one after the other.
-- Assumes nothing.
use Prim.Native.Nat.{ℕ, zero, suc, ◌+◌, ◌-◌, ◌≤◌, ◌<◌}
use native.Mathlib.Omega.{arith}
use native.Mathlib.Nat.{zero-add, suc-add}
use mathlib.Core.Path.{◌≡◌, refl, sym, ap, ◌∙◌}
use mathlib.Core.Bool.{Bool, true, false, true≢false}
use mathlib.Core.List.{List}
use borrow.Author.Tests.{lt-ltb, le-ltb}
use Rattle.running.specs.declared.Run.{Run}
use Rattle.running.specs.declared.Ran.{Ran}
use Rattle.running.specs.Running.{waiting, rests, onward, follow, run_due, most, is_held, tick, ticks}

-- ---- "the next line falls due on the T-th tick taken unpaused"

-- Before that tick a run that waits for it only waits: outputs, line and counters stay.
held_before : (r : Run) → 1 < r.wait → is_held r ≡ true
held_before r lt = lt-ltb 1 r.wait lt

pub tick_before : (p : List ℕ) (r : Run) → r.on ≡ true → 1 < r.wait → tick p r ≡ rests 0 (waiting (r.wait - 1) r)
unfolding tick
tick_before p r on lt = rw (on, held_before r lt)

pub held_until : (p : List ℕ) (n : ℕ) (r : Run) → r.on ≡ true → n < r.wait → ticks p n r ≡ waiting (r.wait - n) r
unfolding ticks
held_until p zero r on lt = let e : r.wait - 0 ≡ r.wait = omega arith in rw e
held_until p (suc n) r on lt =
    let e : r.wait - 1 - n ≡ r.wait - suc n = omega arith in
    ap (λ (x : Ran). ticks p n x.run) (tick_before p r on (omega arith))
    ∙ held_until p n (waiting (r.wait - 1) r) on (omega arith) ∙ ap (λ t. waiting t r) e

-- On that tick the program goes on to the line after it.
pub due_at : (p : List ℕ) (r : Run) → r.on ≡ true → r.wait ≤ 1 → tick p r ≡ follow (onward r).how 0 (onward r).run (λ s. run_due p most 0 s)
unfolding tick
due_at p r on le = rw (on, le-ltb 1 r.wait le)

-- ---- ticks one after the other

pub tick_off : (p : List ℕ) (r : Run) → r.on ≡ false → tick p r ≡ rests 0 r
unfolding tick
tick_off p r e = rw e

-- Ticks do not start a program.
pub off_stays : (p : List ℕ) (n : ℕ) (r : Run) → r.on ≡ false → ticks p n r ≡ r
unfolding ticks
off_stays p zero r e = refl
off_stays p (suc n) r e = ap (λ (x : Ran). ticks p n x.run) (tick_off p r e) ∙ off_stays p n r e

-- A program that runs after ticks ran before them.
pub was_on : (p : List ℕ) (n : ℕ) (r : Run) → (ticks p n r).on ≡ true → r.on ≡ true
was_on p n r e = go r.on refl
  where
    go : (t : Bool) → r.on ≡ t → r.on ≡ true
    go true f = f
    go false f = absurd (true≢false (sym e ∙ ap (λ (s : Run). s.on) (off_stays p n r f) ∙ f))

pub ticks_add : (p : List ℕ) (m n : ℕ) (r : Run) → ticks p (m + n) r ≡ ticks p n (ticks p m r)
unfolding ticks
ticks_add p zero n r = rw zero-add
ticks_add p (suc m) n r = rw suc-add (ticks_add p m n (tick p r).run)
