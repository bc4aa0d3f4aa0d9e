-- Laws of the steps, line by line: how long a State line is held, and to what each For, each Next and a Bad line leads, case by case.
-- Assumes nothing.
use mathlib.Core.Path.{◌≡◌, refl, ap, ◌∙◌}
use Prim.Native.Nat.{ℕ, zero, suc, ◌+◌, ◌-◌, ◌≤◌, ◌<◌}
use native.Mathlib.Omega.{arith}
use mathlib.Core.Bool.{true, false}
use mathlib.Core.List.{List}
use borrow.Author.Tests.{eq-eqb, ne_eqb, lt-ltb, le-ltb}
use Rattle.lines.specs.declared.Line.TheVariants.{State, For, Next, Bad}
use Rattle.lines.specs.Program.{line_at, next_after, FirstFrom, NoneFrom}
use Rattle.lines.proofs.Search.{first_next_lem, none_next}
use Rattle.running.specs.declared.Run.{Run}
use Rattle.running.specs.declared.Ran.{Ran}
use Rattle.running.specs.declared.How.TheVariants.{Ends, GoesOn}
use Rattle.running.specs.Running.{free, counter, at_line, with_outputs, waiting, with_counter, stopped, ends, goes_to, onward, run_line}
use Rattle.running.specs.Running.{is_for_or_next, stops, rests, follow, step, run_due, most, tick, ticks}
use Rattle.running.proofs.Waiting.{held_until, due_at}

-- ---- "State, time T above 0: set all 32 outputs at once; the next line falls due on the T-th tick taken unpaused."

module _ (p : List ℕ) (r : Run) (outputs time : ℕ) (line : line_at p r.line ≡ State outputs time) (above : 0 < time) where
  -- in the call in which it falls due it sets the outputs, and ends the call
  pub state_rests : (left n : ℕ) → run_due p left n r ≡ rests n (waiting time (with_outputs outputs r))
  unfolding run_due step run_line
  state_rests zero n = rw (line, ne_eqb time 0 (λ z. omega arith))
  state_rests (suc left) n = let none : n + 0 ≡ n = omega arith in rw (line, ne_eqb time 0 (λ z. omega arith), none)

  pub state_sets : (left n : ℕ) → (run_due p left n r).run ≡ waiting time (with_outputs outputs r)
  state_sets left n = ap (λ (x : Ran). x.run) (state_rests left n)

  -- it is held, and the outputs stand, for every tick before the T-th
  pub state_held : (left n j : ℕ) → r.on ≡ true → j < time → ticks p j (run_due p left n r).run ≡ waiting (time - j) (with_outputs outputs r)
  state_held left n j on lt = ap (ticks p j) (state_sets left n) ∙ held_until p j (waiting time (with_outputs outputs r)) on lt

  abbrev last : Run
  last = waiting 1 (with_outputs outputs r)

  -- on the T-th tick, which comes after `time - 1` others, the program goes on
  goes_on : (left n : ℕ) → r.on ≡ true
      → tick p (ticks p (time - 1) (run_due p left n r).run) ≡ follow (onward last).how 0 (onward last).run (λ s. run_due p most 0 s)
  goes_on left n on =
      let one : time - (time - 1) ≡ 1 = omega arith in
      ap (tick p) (state_held left n (time - 1) on (omega arith) ∙ ap (λ t. waiting t (with_outputs outputs r)) one)
      ∙ due_at p last on (omega arith)

  -- to the next line, which falls due,
  pub state_ends : (left n : ℕ) → r.on ≡ true → r.line < 199
      → tick p (ticks p (time - 1) (run_due p left n r).run) ≡ run_due p most 0 (at_line (r.line + 1) last)
  unfolding onward
  state_ends left n on before = goes_on left n on ∙ rw (lt-ltb r.line 199 before)

  -- or, on line 199, to its end: "Going on past 199: event 009, line stays 199."
  pub state_past : (left n : ℕ) → r.on ≡ true → r.line ≡ 199
      → tick p (ticks p (time - 1) (run_due p left n r).run) ≡ stops 9 0 (with_outputs outputs r)
  unfolding onward stopped
  state_past left n on past = goes_on left n on ∙ rw (le-ltb r.line 199 (omega arith))

-- ---- "State, time 0: set outputs, stop, event 011."

pub end_mark : (p : List ℕ) (r : Run) (outputs : ℕ) → line_at p r.line ≡ State outputs 0
    → (left n : ℕ) → run_due p left n r ≡ stops 11 n (with_outputs outputs r)
unfolding run_due step run_line
end_mark p r outputs line zero n = rw line
end_mark p r outputs line (suc left) n = let none : n + 0 ≡ n = omega arith in rw (line, none)

-- ---- 02, item 4: "Running a Bad line stops with event 014 at that line."

-- It is not counted, and no number of lines run before it in the call makes the event another.
pub bad_line : (p : List ℕ) (r : Run) → line_at p r.line ≡ Bad → (left n : ℕ) → run_due p left n r ≡ stops 14 n r
unfolding run_due step run_line
bad_line p r line zero n = rw line
bad_line p r line (suc left) n = let none : n + 0 ≡ n = omega arith in rw (line, none)

-- Where it falls due on a tick: the outputs stay, and no line is counted.
pub bad_due : (p : List ℕ) (r : Run) → r.on ≡ true → r.wait ≤ 1 → r.line < 199 → line_at p (r.line + 1) ≡ Bad
    → tick p r ≡ stops 14 0 (at_line (r.line + 1) r)
unfolding onward
bad_due p r on due before bad = due_at p r on due ∙ rw (lt-ltb r.line 199 before) (bad_line p (at_line (r.line + 1) r) bad most 0)

-- ---- what is counted

-- For and Next lines, and no other
pub for_counts : (c n : ℕ) → is_for_or_next (For c n) ≡ true
for_counts c n = refl

pub next_counts : (c : ℕ) → is_for_or_next (Next c) ≡ true
next_counts c = refl

pub state_counts : (o t : ℕ) → is_for_or_next (State o t) ≡ false
state_counts o t = refl

pub bad_counts : is_for_or_next Bad ≡ false
bad_counts = refl

module _ (p : List ℕ) (r : Run) (loop : is_for_or_next (line_at p r.line) ≡ true) where
  -- a For or a Next counts as run, however it ends
  pub loop_counts : (left m : ℕ) → run_due p (suc left) m r ≡ follow (step p r).how (m + 1) (step p r).run (λ s. run_due p left (m + 1) s)
  unfolding run_due
  loop_counts left m = rw loop

  -- it ends the program with its event, or the next line falls due
  pub loop_ends : (left m e : ℕ) → (step p r).how ≡ Ends e → run_due p (suc left) m r ≡ stops e (m + 1) (step p r).run
  loop_ends left m e w = loop_counts left m ∙ simp w

  pub loop_goes_on : (left m : ℕ) → (step p r).how ≡ GoesOn → run_due p (suc left) m r ≡ run_due p left (m + 1) (step p r).run
  loop_goes_on left m w = loop_counts left m ∙ simp w

  -- "Were a 401st due, the program stops there with event 013"
  pub loop_over : (m : ℕ) → run_due p 0 m r ≡ stops 13 m r
  unfolding run_due
  loop_over m = rw loop

-- ---- "For C: busy counter, event 006; else no Next C on any later line, 007; else the counter takes the count and is busy."

module _ (p : List ℕ) (r : Run) (c count : ℕ) (line : line_at p r.line ≡ For c count) where
  -- 006 first, whatever the count
  pub for_busy : 0 < (counter r c).count → step p r ≡ ends 6 r
  unfolding step run_line
  for_busy busy = rw (line, lt-ltb 0 (counter r c).count busy)

  module _ (idle : (counter r c).count ≡ 0) (in_program : r.line < 200) where
    -- then 007
    pub for_alone : NoneFrom p c (r.line + 1) → step p r ≡ ends 7 r
    unfolding step run_line
    for_alone none = rw (line, idle, eq-eqb _ _ (none_next p c r.line in_program none))

    -- line n is the first later Next of that counter
    module _ (n : ℕ) (first : FirstFrom p c (r.line + 1) n) where
      next_is : next_after p c r.line ≡ n
      next_is = first_next_lem p c r.line in_program n first

      pub for_takes : 0 < count → step p r ≡ goes_to (r.line + 1) (with_counter c (record { count = count; line = r.line }) r)
      unfolding step run_line onward
      for_takes above =
          let before : r.line < 199 = omega (arith, first.not_before, first.in_program) in
          rw (line, idle, next_is, ne_eqb n 200 (λ z. omega (arith, first.in_program)), ne_eqb count 0 (λ z. omega arith), lt-ltb r.line 199 before)

      -- 02, item 2: "For with count 0000 passes to the line after the first later Next of that counter and takes no counter"
      pub none_passes : count ≡ 0 → n < 199 → step p r ≡ goes_to (n + 1) r
      unfolding step run_line onward
      none_passes none before = rw (line, idle, next_is, ne_eqb n 200 (λ z. omega arith), eq-eqb count 0 none, lt-ltb n 199 before)

      -- "If that Next is line 199, event 009 there."
      pub none_ends : count ≡ 0 → n ≡ 199 → step p r ≡ ends 9 (at_line 199 r)
      unfolding step run_line onward
      none_ends none last = rw (line, idle, next_is, last, eq-eqb count 0 none)

-- ---- "Next C: counter not busy, 008, even if a For stands above (a start inside a loop). Else take one off; above zero, go to the line
-- after its For; at zero, free it and go on."

module _ (p : List ℕ) (r : Run) (c : ℕ) (line : line_at p r.line ≡ Next c) where
  -- 008 goes by the counter alone
  pub next_alone : (counter r c).count ≡ 0 → step p r ≡ ends 8 r
  unfolding step run_line
  next_alone none = rw (line, none)

  pub next_back : 1 < (counter r c).count
      → step p r ≡ goes_to ((counter r c).line + 1) (with_counter c (record { count = (counter r c).count - 1; line = (counter r c).line }) r)
  unfolding step run_line
  next_back above =
      let left : 0 < (counter r c).count - 1 = omega arith in
      rw (line, ne_eqb (counter r c).count 0 (λ z. omega arith), lt-ltb 0 ((counter r c).count - 1) left)

  module _ (one : (counter r c).count ≡ 1) where
    pub next_last : r.line < 199 → step p r ≡ goes_to (r.line + 1) (with_counter c free r)
    unfolding step run_line onward
    next_last before = rw (line, one, lt-ltb r.line 199 before)

    -- "Going on past 199: event 009, line stays 199."
    pub next_ends : r.line ≡ 199 → step p r ≡ ends 9 (with_counter c free r)
    unfolding step run_line onward
    next_ends last = rw (line, one, le-ltb r.line 199 (omega arith))
