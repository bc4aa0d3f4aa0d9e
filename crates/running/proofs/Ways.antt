-- The ways that a line can go, each with its condition: what holds of every way whose condition holds, holds of what the line leads to.
-- `Invariant`, `Turns`, `Ending` and `Outputs`, which speak of every line, go by these laws and not by the text of `run_line`. `Steps` has
-- the equations: to what each condition leads.
-- Assumes nothing.
use Prim.Native.Nat.{ℕ, ◌+◌, ◌-◌, ◌≤◌, ◌<◌}
use native.Mathlib.Omega.{arith}
use mathlib.Core.Path.{◌≡◌}
use mathlib.Core.Logic.{◌≢◌}
use mathlib.Core.Bool.{false}
use mathlib.Core.List.{List}
use lib.Dec.{eqb, ltb}
use borrow.Author.Tests.{eqb-true, eqb-false, ltb-true, ltb-false}
use Rattle.formats.proofs.Checks.{if_case}
use Rattle.lines.specs.declared.Line.TheVariants.{State, For, Next, Bad}
use Rattle.lines.specs.Program.{next_after}
use Rattle.running.specs.declared.Counter.{Counter}
use Rattle.running.specs.declared.Run.{Run}
use Rattle.running.specs.declared.Step.{Step}
use Rattle.running.specs.Running.{free, counter, is_busy, is_free, at_line, with_outputs, waiting, with_counter, holds, ends, goes_to, onward, run_line}

-- what is tested not to be 0 is above it
above_zero : (n : ℕ) → eqb n 0 ≡ false → 0 < n
above_zero n e = let ne : n ≢ 0 = eqb-false n 0 e in omega arith

module _ (P : Step → Type 0) (r : Run) where
  -- "Going on past 199: event 009, line stays 199."
  pub onward_ways : (r.line < 199 → P (goes_to (r.line + 1) r)) → (199 ≤ r.line → P (ends 9 r)) → P (onward r)
  unfolding onward
  onward_ways on past = if_case P (ltb r.line 199) (λ e. on (ltb-true r.line 199 e)) (λ e. past (ltb-false r.line 199 e))

module _ (P : Step → Type 0) (p : List ℕ) (r : Run) where
  -- "State, time T above 0: set all 32 outputs at once [...]" "State, time 0: set outputs, stop, event 011."
  pub state_ways : (outputs time : ℕ)
      → (0 < time → P (holds (waiting time (with_outputs outputs r))))
      → (time ≡ 0 → P (ends 11 (with_outputs outputs r)))
      → P (run_line p (State outputs time) r)
  unfolding run_line
  state_ways outputs time above none = if_case P (eqb time 0) (λ e. none (eqb-true time 0 e)) (λ e. above (above_zero time e))

  -- the loop counter that a line names, and the line of the Next that a For finds
  abbrev held : ℕ → Counter
  held c = counter r c

  abbrev next : ℕ → ℕ
  next c = next_after p c r.line

  -- "For C: busy counter, event 006; else no Next C on any later line, 007; else the counter takes the count and is busy." With count 0000
  -- it "passes to the line after the first later Next of that counter and takes no counter".
  pub for_ways : (c count : ℕ)
      → (0 < (held c).count → P (ends 6 r))
      → ((held c).count ≡ 0 → next c ≡ 200 → P (ends 7 r))
      → ((held c).count ≡ 0 → next c ≢ 200 → count ≡ 0 → P (onward (at_line (next c) r)))
      → ((held c).count ≡ 0 → next c ≢ 200 → 0 < count → P (onward (with_counter c (record { count = count; line = r.line }) r)))
      → P (run_line p (For c count) r)
  unfolding run_line
  for_ways c count busy alone none takes =
      if_case P (is_busy r c) (λ e. busy (ltb-true 0 (held c).count e)) λ e.
      let idle : (held c).count ≡ 0 = omega (arith, ltb-false 0 (held c).count e) in
      if_case P (eqb (next c) 200) (λ e. alone idle (eqb-true (next c) 200 e)) λ e.
      let found : next c ≢ 200 = eqb-false (next c) 200 e in
      if_case P (eqb count 0) (λ e. none idle found (eqb-true count 0 e)) (λ e. takes idle found (above_zero count e))

  -- "Next C: counter not busy, 008, even if a For stands above (a start inside a loop). Else take one off; above zero, go to the line
  -- after its For; at zero, free it and go on."
  pub next_ways : (c : ℕ)
      → ((held c).count ≡ 0 → P (ends 8 r))
      → (1 < (held c).count → P (goes_to ((held c).line + 1) (with_counter c (record { count = (held c).count - 1; line = (held c).line }) r)))
      → ((held c).count ≡ 1 → P (onward (with_counter c free r)))
      → P (run_line p (Next c) r)
  unfolding run_line
  next_ways c alone back last =
      if_case P (is_free r c) (λ e. alone (eqb-true (held c).count 0 e)) λ e.
      let busy = above_zero (held c).count e in
      if_case P (ltb 0 ((held c).count - 1))
      (λ e. back (omega (arith, ltb-true 0 ((held c).count - 1) e)))
      (λ e. last (omega (arith, ltb-false 0 ((held c).count - 1) e)))

  -- 02, item 4: "Running a Bad line stops with event 014 at that line."
  pub bad_way : P (ends 14 r) → P (run_line p Bad r)
  unfolding run_line
  bad_way bad = bad
