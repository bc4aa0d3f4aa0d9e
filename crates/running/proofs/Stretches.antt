-- A stretch of lines: what any run does that comes to its first line, up to the line behind its last. Stretches are put together from lines,
-- loops and other stretches.
-- Assumes nothing.
use Prim.Native.Nat.{ℕ, ◌+◌, ◌*◌, ◌-◌, ◌≤◌, ◌<◌}
use native.Mathlib.Omega.{arith}
use mathlib.Core.Path.{◌≡◌, refl, ap, ◌∙◌}
use mathlib.Core.Bool.{true}
use mathlib.Core.List.{List}
use lib.ListN.{length, get_or}
use Rattle.lines.specs.declared.Line.TheVariants.{State, For}
use Rattle.lines.specs.Program.{line_at, FirstFrom}
use Rattle.running.specs.declared.Counter.{Counter}
use Rattle.running.specs.declared.Run.{Run}
use Rattle.running.specs.declared.Ran.{Ran}
use Rattle.running.specs.Running.{free, all_free, begun, at_line, with_outputs, waiting, start, run_due}
use Rattle.running.proofs.Reaching.{WhileHeld, at_once, state_waits}
use Rattle.running.proofs.Arriving.{At, few_sum, few_then, fresh, same, Arrives, led, arrives_as, arrives_is}
use Rattle.running.proofs.Looping.{turning, none_loop, some_loop}

-- From line i, due with these counters, to line j in t ticks, over at most `len` For and Next lines of a call; the counters are the same there.
abbrev pub Stretch : List ℕ → (ℕ → Ran → Type 0) → ℕ → ℕ → ℕ → List Counter → ℕ → Type 0
Stretch p P i t j cs len =
    (r : Run) → At i cs r → (n left : ℕ) → n + left ≡ 400 → len ≤ left → Arrives p P (run_due p left n r) t j cs n len

module _ (p : List ℕ) where
  pub no_stretch : (P : ℕ → Ran → Type 0) (i : ℕ) (cs : List Counter) → Stretch p P i 0 i cs 0
  no_stretch P i cs r a n left sum enough =
      record { run = r; lines = n; left = left; budget = sum; few = same refl (omega arith); reaches = at_once p P refl; at = a }

  pub state_stretch : (P : ℕ → Ran → Type 0) (i o t : ℕ) (cs : List Counter) → line_at p i ≡ State o t → 0 < t → i < 199
      → ((r : Run) → r.on ≡ true → WhileHeld P t (with_outputs o r)) → Stretch p P i t (i + 1) cs 0
  state_stretch P i o t cs is above lt held r a n left sum enough =
      record {
        run = at_line (r.line + 1) (waiting 1 (with_outputs o r));
        lines = 0;
        left = 400;
        budget = omega arith;
        few = fresh (omega arith);
        reaches = state_waits p P r o t (ap (line_at p) a.line ∙ is) above a.on (omega (arith, a.line)) (held r a.on) left n;
        at = record { on = a.on; line = ap (λ l. l + 1) a.line; counters = a.counters };
      }

  pub then_stretch : (P : ℕ → Ran → Type 0) {i j k s t len more : ℕ} {cs : List Counter} → Stretch p P i s j cs len
      → Stretch p (λ m. P (s + m)) j t k cs more → Stretch p P i (s + t) k cs (len + more)
  then_stretch P one two r a n left sum enough =
      let b = one r a n left sum (omega arith) in
      let q = two b.run b.at b.lines b.left b.budget (omega (arith, b.budget, few_sum b.few)) in
      led P b.reaches q refl (few_then {last = q.lines} refl b.few q.few)

  pub stretch_as : {P Q : ℕ → Ran → Type 0} {i t j len : ℕ} {cs : List Counter} → ((m : ℕ) (z : Ran) → m < t → P m z → Q m z)
      → Stretch p P i t j cs len → Stretch p Q i t j cs len
  stretch_as f way r a n left sum enough = arrives_as f (way r a n left sum enough)

  pub stretch_is : {P : ℕ → Ran → Type 0} {i t u j k len more : ℕ} {cs : List Counter} → t ≡ u → j ≡ k → len ≤ more
      → Stretch p P i t j cs len → Stretch p P i u k cs more
  stretch_is time at_line_lem up way r a n left sum enough = arrives_is time at_line_lem up (way r a n left sum (omega arith))

  -- a loop
  pub loop_stretch : (Q : Ran → Type 0) (k c x nx : ℕ) (is : line_at p k ≡ For c x) (pairing : FirstFrom p c (k + 1) nx) (near : nx < 199)
      (cs : List Counter) (four : length cs ≡ 4) (own : get_or cs (c - 1) free ≡ free) (ticks : ℕ) → 0 < x → 0 < ticks
      → ((m : ℕ) → Stretch p (λ i. Q) (k + 1) ticks nx (turning k c cs m) (nx - (k + 1)))
      → Stretch p (λ i. Q) k (x * ticks) (nx + 1) cs (nx + 1 - k)
  loop_stretch Q k c x nx is pairing near cs four own ticks some takes body r a n left sum enough =
      some_loop p Q k c x nx is pairing near cs four own ticks r a n left sum enough (x - 1) (omega arith) takes body

  pub none_stretch : (Q : Ran → Type 0) (k c x nx : ℕ) (is : line_at p k ≡ For c x) (pairing : FirstFrom p c (k + 1) nx) (near : nx < 199)
      (cs : List Counter) (four : length cs ≡ 4) (own : get_or cs (c - 1) free ≡ free) (ticks : ℕ) → x ≡ 0
      → Stretch p (λ i. Q) k (x * ticks) (nx + 1) cs (nx + 1 - k)
  none_stretch Q k c x nx is pairing near cs four own ticks none r a n left sum enough =
      none_loop p Q k c x nx is pairing near cs four own ticks r a n left sum enough none

  -- from a start on
  pub start_stretch : {P : ℕ → Ran → Type 0} {k t j len : ℕ} → len ≤ 400 → Stretch p P k t j all_free len → (outputs : ℕ)
      → Arrives p P (start p k outputs) t j all_free 0 len
  unfolding start
  start_stretch {k = k} le way outputs = way (begun k outputs) (record { on = refl; line = refl; counters = refl }) 0 400 (omega arith) le
