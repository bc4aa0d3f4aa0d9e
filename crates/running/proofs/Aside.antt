-- What the outputs stand at makes no difference to where a program goes.
-- Assumes nothing.
use Prim.Native.Nat.{ℕ, zero, suc, ◌-◌}
use mathlib.Core.Path.{◌≡◌, refl}
use mathlib.Core.Bool.{Bool, true, false, not}
use mathlib.Core.List.{List}
use lib.Dec.{eqb, ltb}
use Rattle.std.specs.Prelude.{if◌then◌else◌}
use Rattle.lines.specs.declared.Line.{Line}
use Rattle.lines.specs.declared.Line.TheVariants.{State, For, Next, Bad}
use Rattle.lines.specs.Program.{line_at, next_after}
use Rattle.running.specs.declared.Run.{Run}
use Rattle.running.specs.declared.Ran.{Ran}
use Rattle.running.specs.declared.How.{How}
use Rattle.running.specs.declared.How.TheVariants.{Holds, Ends, GoesOn}
use Rattle.running.specs.declared.Step.{Step}
use Rattle.running.specs.Running.{counter, is_busy, is_free, begun, with_outputs, stopped, onward, run_line}
use Rattle.running.specs.Running.{is_for_or_next, follow, step, run_due, most, start, is_held, tick}
use Rattle.running.specs.Ticking.{after}
use Rattle.running.specs.Moments.{last_or, last_due}

if_both : {A : Type 0} (R : A → A → Type 0) (b : Bool) {x y x' y' : A} → R x x' → R y y' → R (if b then x else y) (if b then x' else y')
if_both R true a b = a
if_both R false a b = b

data Alike (s t : Step) : Type 0 where
  alike : (q : ℕ) → s.how ≡ t.how → s.run ≡ with_outputs q t.run → Alike s t

pub data SameButOutputs (x y : Ran) : Type 0 where
  same : (q : ℕ) → x.event ≡ y.event → x.lines ≡ y.lines → x.run ≡ with_outputs q y.run → SameButOutputs x y

module _ (p : List ℕ) where
  onward_alike : (q : ℕ) (r : Run) → Alike (onward (with_outputs q r)) (onward r)
  unfolding onward
  onward_alike q r = if_both Alike (ltb r.line 199) (alike q refl refl) (alike q refl refl)

  line_alike : (l : Line) (q : ℕ) (r : Run) → Alike (run_line p l (with_outputs q r)) (run_line p l r)
  unfolding run_line
  line_alike (State o t) q r = if_both Alike (eqb t 0) (alike o refl refl) (alike o refl refl)
  line_alike (For c n) q r =
      if_both Alike (is_busy r c) (alike q refl refl)
      (if_both Alike (eqb (next_after p c r.line) 200) (alike q refl refl)
      (if_both Alike (eqb n 0) (onward_alike q _) (onward_alike q _)))
  line_alike (Next c) q r =
      if_both Alike (is_free r c) (alike q refl refl)
      (if_both Alike (ltb 0 ((counter r c).count - 1)) (alike q refl refl) (onward_alike q _))
  line_alike Bad q r = alike q refl refl

  step_alike : (q : ℕ) (r : Run) → Alike (step p (with_outputs q r)) (step p r)
  unfolding step
  step_alike q r = line_alike (line_at p r.line) q r

  follow_same : (h : How) (n : ℕ) (q : ℕ) (r : Run) (go : Run → Ran) → ((v : ℕ) (s : Run) → SameButOutputs (go (with_outputs v s)) (go s))
      → SameButOutputs (follow h n (with_outputs q r) go) (follow h n r go)
  unfolding stopped
  follow_same Holds n q r go k = same q refl refl refl
  follow_same (Ends e) n q r go k = same q refl refl refl
  follow_same GoesOn n q r go k = k q r

  due_step : (q n : ℕ) (r : Run) (go : Run → Ran) → ((v : ℕ) (s : Run) → SameButOutputs (go (with_outputs v s)) (go s))
      → SameButOutputs (follow (step p (with_outputs q r)).how n (step p (with_outputs q r)).run go) (follow (step p r).how n (step p r).run go)
  due_step q n r go k = by (step_alike q r)
    where
      by : Alike (step p (with_outputs q r)) (step p r)
          → SameButOutputs (follow (step p (with_outputs q r)).how n (step p (with_outputs q r)).run go) (follow (step p r).how n (step p r).run go)
      by (alike v how run) = rw (how, run) (follow_same (step p r).how n v (step p r).run go k)

  due_same : (left n q : ℕ) (r : Run) → SameButOutputs (run_due p left n (with_outputs q r)) (run_due p left n r)
  unfolding run_due stopped
  due_same zero n q r =
      if_both SameButOutputs (is_for_or_next (line_at p r.line)) (same q refl refl refl) (due_step q n r _ (λ v s. same v refl refl refl))
  due_same (suc left) n q r = due_step q _ r _ (λ v s. due_same left _ v s)

  tick_same : (q : ℕ) (r : Run) → SameButOutputs (tick p (with_outputs q r)) (tick p r)
  unfolding tick
  tick_same q r =
      if_both SameButOutputs (not r.on) (same q refl refl refl)
      (if_both SameButOutputs (is_held r) (same q refl refl refl) (by (onward_alike q r)))
    where
      by : Alike (onward (with_outputs q r)) (onward r)
          → SameButOutputs (follow (onward (with_outputs q r)).how 0 (onward (with_outputs q r)).run (λ s. run_due p most 0 s))
          (follow (onward r).how 0 (onward r).run (λ s. run_due p most 0 s))
      by (alike v how run) = rw (how, run) (follow_same (onward r).how 0 v (onward r).run _ (λ v s. due_same most 0 v s))

  after_same : (n : ℕ) (x y : Ran) → SameButOutputs x y → SameButOutputs (after p n x) (after p n y)
  unfolding after
  after_same zero x y s = s
  after_same (suc n) x y (same q e l is) = after_same n (tick p x.run) (tick p y.run) (rw is (tick_same q y.run))

  -- the line behind the one that is held
  pub onward_aside : (q : ℕ) (r : Run) → (onward (with_outputs q r)).run ≡ with_outputs q (onward r).run
  unfolding onward
  onward_aside q r = if_both (λ (s t : Step). s.run ≡ with_outputs q t.run) (ltb r.line 199) refl refl

  -- the last moment of a call
  pub data SameRun (r s : Run) : Type 0 where
    same_run : (q : ℕ) → r ≡ with_outputs q s → SameRun r s

  pub last_aside : (left q : ℕ) (r : Run) → SameRun (last_due p left (with_outputs q r)) (last_due p left r)
  unfolding last_due
  last_aside zero q r = same_run q refl
  last_aside (suc left) q r = by (step_alike q r) (λ v s. last_aside left v s)
    where
      go : (h : How) (v : ℕ) (s : Run) → ((v : ℕ) (s : Run) → SameRun (last_due p left (with_outputs v s)) (last_due p left s))
          → SameRun (last_or h (with_outputs q r) (with_outputs v s) (λ u. last_due p left u)) (last_or h r s (λ u. last_due p left u))
      go Holds v s more = same_run q refl
      go (Ends e) v s more = same_run q refl
      go GoesOn v s more = more v s

      by : Alike (step p (with_outputs q r)) (step p r) → ((v : ℕ) (s : Run) → SameRun (last_due p left (with_outputs v s)) (last_due p left s))
          → SameRun (last_due p (suc left) (with_outputs q r)) (last_due p (suc left) r)
      by (alike v how run) more = rw (how, run) (go (step p r).how v (step p r).run more)

  -- A start with other outputs: at every tick the same event, the same line, the same loops.
  pub outputs_aside : (k o q n : ℕ) → SameButOutputs (after p n (start p k o)) (after p n (start p k q))
  unfolding start
  outputs_aside k o q n = after_same n (start p k o) (start p k q) (due_same most 0 o (begun k q))
