-- From one moment of a run to a later one: the ticks between them, and what holds meanwhile.
-- Assumes nothing.
use Prim.Native.Nat.{ℕ, zero, suc, ◌+◌, ◌-◌, ◌≤◌, ◌<◌}
use native.Mathlib.Omega.{arith}
use native.Mathlib.Nat.{zero-add, suc-add}
use mathlib.Core.Path.{◌≡◌, refl, sym, ap, subst, ◌∙◌}
use mathlib.Core.Bool.{Bool, true, false, true≢false}
use mathlib.Core.List.{List}
use lib.Dec.{ltb}
use borrow.Author.Tests.{ltb-true, ltb-false, lt-ltb}
use Rattle.lines.specs.declared.Line.TheVariants.{State}
use Rattle.lines.specs.Program.{line_at}
use Rattle.running.specs.declared.Run.{Run}
use Rattle.running.specs.declared.Ran.{Ran}
use Rattle.running.specs.Running.{at_line, with_outputs, waiting, rests, onward, run_due, most, tick, ticks}
use Rattle.running.specs.Ticking.{after, Runs, EndsAfter}
use Rattle.running.proofs.Waiting.{tick_before, due_at}
use Rattle.running.proofs.Steps.{state_rests}

-- ---- ticks, one behind the other

module _ (p : List ℕ) where
  pub after_add : (s t : ℕ) (x : Ran) → after p (s + t) x ≡ after p t (after p s x)
  unfolding after
  after_add zero t x = rw zero-add
  after_add (suc s) t x = rw suc-add (after_add s t (tick p x.run))

  -- one tick more
  pub after_one_more : (n : ℕ) (x : Ran) → after p (n + 1) x ≡ tick p (after p n x).run
  unfolding after
  after_one_more n x = after_add n 1 x

  -- What is left after so many ticks is what demand 3's rule leaves.
  pub after_ticks : (n : ℕ) (x : Ran) → (after p n x).run ≡ ticks p n x.run
  unfolding after ticks
  after_ticks zero x = refl
  after_ticks (suc n) x = after_ticks n (tick p x.run)

  -- the tick after n of demand 3's
  pub tick_after : (n : ℕ) (x : Ran) → tick p (ticks p n x.run) ≡ after p (n + 1) x
  tick_after n x = ap (tick p) (sym (after_ticks n x)) ∙ sym (after_one_more n x)

  -- A program ends at one tick.
  pub one_number : (m n : ℕ) {e f : ℕ} (x : Ran) → EndsAfter p m e x → EndsAfter p n f x → m ≡ n
  one_number m n x a b = go (ltb m n) refl (ltb n m) refl
    where
      go : (t : Bool) → ltb m n ≡ t → (u : Bool) → ltb n m ≡ u → m ≡ n
      go true lt u e = absurd (true≢false (sym (b.before m (ltb-true m n lt)).on ∙ a.off))
      go false ge true gt = absurd (true≢false (sym (a.before n (ltb-true n m gt)).on ∙ b.off))
      go false ge false le = omega (arith, ltb-false m n ge, ltb-false n m le)

-- ---- to come from one moment to another

-- x comes to y in t ticks. At each tick before the last, number 0 being x itself, P holds of its number and of what it did: that the program runs
-- on, which outputs it has, or what else is asked.
pub record Reaches (p : List ℕ) (P : ℕ → Ran → Type 0) (x : Ran) (t : ℕ) (y : Ran) : Type 0 where
  pub there : after p t x ≡ y
  pub before : (m : ℕ) → m < t → P m (after p m x)

-- that the program runs on
abbrev pub RunsOn : ℕ → Ran → Type 0
RunsOn m x = Runs x

-- what holds while a State line is held for t ticks: m of them are over and w are left, and n lines were run in the call
abbrev pub WhileHeld : (ℕ → Ran → Type 0) → ℕ → Run → Type 0
WhileHeld P t r = (m w n : ℕ) → m + w ≡ t → 0 < w → P m (rests n (waiting w r))

module _ (p : List ℕ) where
  -- in no time
  pub at_once : (P : ℕ → Ran → Type 0) {x y : Ran} → x ≡ y → Reaches p P x 0 y
  unfolding after
  at_once P e = record { there = e; before = λ m lt. absurd (omega arith) }

  -- one way after the other
  pub and_then : (P : ℕ → Ran → Type 0) {x y z : Ran} {s t : ℕ} → Reaches p P x s y → Reaches p (λ m. P (s + m)) y t z → Reaches p P x (s + t) z
  and_then P {x} {y} {z} {s} {t} a b =
      record { there = after_add p s t x ∙ ap (after p t) a.there ∙ b.there; before = λ m lt. go m lt (ltb m s) refl }
    where
      go : (m : ℕ) → m < s + t → (u : Bool) → ltb m s ≡ u → P m (after p m x)
      go m lt true e = a.before m (ltb-true m s e)
      go m lt false e =
          let le : s ≤ m = ltb-false m s e in
          let is : m ≡ s + (m - s) = omega arith in
          let at : after p (s + (m - s)) x ≡ after p (m - s) y = after_add p s (m - s) x ∙ ap (after p (m - s)) a.there in
          subst (λ n. P n (after p n x)) (sym is) (subst (P (s + (m - s))) (sym at) (b.before (m - s) (omega arith)))

  -- what holds meanwhile, said in another way
  pub reaches_as : {P Q : ℕ → Ran → Type 0} {x y : Ran} {t : ℕ} → ((m : ℕ) (z : Ran) → m < t → P m z → Q m z) → Reaches p P x t y → Reaches p Q x t y
  reaches_as {x = x} f a = record { there = a.there; before = λ m lt. f m (after p m x) lt (a.before m lt) }

  -- a tick more
  pub by_tick : (P : ℕ → Ran → Type 0) {x y : Ran} {t : ℕ} → P 0 x → Reaches p (λ m. P (suc m)) (tick p x.run) t y → Reaches p P x (suc t) y
  unfolding after
  by_tick P {x} {y} {t} here r = record { there = r.there; before = go }
    where
      go : (m : ℕ) → m < suc t → P m (after p m x)
      go zero lt = here
      go (suc m) lt = r.before m (omega arith)

  -- "the next line falls due on the T-th tick taken unpaused"
  suc_waits : (P : ℕ → Ran → Type 0) (t n : ℕ) (r : Run) → r.on ≡ true → r.wait ≡ suc t → r.line < 199 → WhileHeld P (suc t) r
      → Reaches p P (rests n r) (suc t) (run_due p most 0 (at_line (r.line + 1) (waiting 1 r)))
  unfolding onward
  suc_waits P zero n r on one lt held =
      by_tick P (subst (λ w. P 0 (rests n (waiting w r))) (sym one) (held 0 1 n (omega arith) (omega arith)))
      (at_once (λ m. P (suc m))
      (due_at p r on (omega arith) ∙ rw (lt-ltb r.line 199 lt) (ap (λ w. run_due p most 0 (at_line (r.line + 1) (waiting w r))) one)))
  suc_waits P (suc t) n r on more lt held =
      let next = tick_before p r on (omega arith) in
      let less : r.wait - 1 ≡ suc t = omega arith in
      by_tick P (subst (λ w. P 0 (rests n (waiting w r))) (sym more) (held 0 (suc (suc t)) n (omega arith) (omega arith)))
      (rw next (suc_waits (λ m. P (suc m)) t 0 (waiting (r.wait - 1) r) on less lt (λ m w k is above. held (suc m) w k (omega arith) above)))

  pub waits : (P : ℕ → Ran → Type 0) (t n : ℕ) (r : Run) → 0 < t → r.on ≡ true → r.wait ≡ t → r.line < 199 → WhileHeld P t r
      → Reaches p P (rests n r) t (run_due p most 0 (at_line (r.line + 1) (waiting 1 r)))
  waits P zero n r above on is lt held = absurd (omega arith)
  waits P (suc t) n r above on is lt held = suc_waits P t n r on is lt held

  -- a State line that falls due: the next one falls due in as many ticks as it has
  pub state_waits : (P : ℕ → Ran → Type 0) (r : Run) (o t : ℕ) → line_at p r.line ≡ State o t → 0 < t → r.on ≡ true → r.line < 199
      → WhileHeld P t (with_outputs o r) → (left n : ℕ)
      → Reaches p P (run_due p left n r) t (run_due p most 0 (at_line (r.line + 1) (waiting 1 (with_outputs o r))))
  state_waits P r o t is above on lt held left n =
      rw (state_rests p r o t is above left n) (waits P t n (waiting t (with_outputs o r)) above on refl lt held)

-- while a State line is held, the program runs on
pub held_runs : (t : ℕ) (r : Run) → r.on ≡ true → WhileHeld RunsOn t r
held_runs t r on m w n is above = record { on = on; event = refl }
