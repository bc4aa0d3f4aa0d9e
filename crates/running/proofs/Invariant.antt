-- A start gives the run's invariant, and a tick keeps it.
-- Assumes nothing.
use Prim.Native.Nat.{ℕ, zero, suc, ◌+◌, ◌-◌, ◌≤◌, ◌<◌}
use native.Mathlib.Omega.{arith}
use mathlib.Core.Path.{◌≡◌, refl, sym, ◌∙◌}
use mathlib.Core.Bool.{true, not, true≢false}
use mathlib.Core.List.{List, [], ◌∷◌}
use lib.ListN.{get_or, set}
use borrow.Author.Tests.{not-false}
use Rattle.formats.proofs.Checks.{if_case}
use Rattle.lines.specs.declared.Line.{Line}
use Rattle.lines.specs.declared.Line.TheVariants.{State, For, Next, Bad}
use Rattle.lines.specs.Program.{line_at}
use Rattle.lines.proofs.Lines.{Ranged}
use Rattle.lines.proofs.Places.{line_ranged}
use Rattle.lines.proofs.Search.{next_first}
use Rattle.running.specs.declared.Counter.{Counter}
use Rattle.running.specs.declared.Run.{Run}
use Rattle.running.specs.declared.How.{How}
use Rattle.running.specs.declared.How.TheVariants.{Holds, Ends, GoesOn}
use Rattle.running.specs.declared.Step.{Step}
use Rattle.running.specs.declared.Ran.{Ran}
use Rattle.running.specs.Running.{begun, free, all_free, counter, at_line, with_outputs, waiting, with_counter, stopped, ends, goes_to}
use Rattle.running.specs.Running.{onward, run_line, is_for_or_next, is_held, follow, step, run_due, most, start, tick}
use Rattle.running.specs.Invariant.{RunInvariant}
use Rattle.running.proofs.Ways.{onward_ways, state_ways, for_ways, next_ways, bad_way}

-- ---- counters

-- all counters free
each_free : (P : Counter → Type 0) → P free → (i : ℕ) → P (get_or all_free i free)
each_free P h zero = h
each_free P h (suc zero) = h
each_free P h (suc (suc zero)) = h
each_free P h (suc (suc (suc zero))) = h
each_free P h (suc (suc (suc (suc i)))) = h

-- one counter set
each_set : (P : Counter → Type 0) (l : List Counter) (c : ℕ) (v : Counter) → P v → ((i : ℕ) → P (get_or l i free)) → (i : ℕ) → P (get_or (set l c v) i free)
each_set P [] c v h g i = g i
each_set P (x ∷ l) zero v h g zero = h
each_set P (x ∷ l) zero v h g (suc i) = g (suc i)
each_set P (x ∷ l) (suc c) v h g zero = g zero
each_set P (x ∷ l) (suc c) v h g (suc i) = each_set P l c v h (λ j. g (suc j)) i

abbrev pub LineOk : Counter → Type 0
LineOk c = c.line < 199

abbrev pub CountOk : Counter → Type 0
CountOk c = c.count ≤ 9999

-- ---- a run that goes on

pub record Going (r : Run) : Type 0 where
  pub on : r.on ≡ true
  pub in_program : r.line < 200
  pub for_line : (i : ℕ) → LineOk (get_or r.counters i free)
  pub count : (i : ℕ) → CountOk (get_or r.counters i free)
  pub time : r.wait ≤ 9999

pub record GoingStep (s : Step) : Type 0 where
  pub going : Going s.run

pub still : {r : Run} → Going r → RunInvariant r
still g = record { line_in_program = g.in_program; for_line = g.for_line; count = g.count; time = g.time; idle = λ e. absurd (true≢false (sym g.on ∙ e)) }

-- a run that is on and has the invariant goes on
pub goes_on : (r : Run) → r.on ≡ true → RunInvariant r → Going r
goes_on r on i = record { on = on; in_program = i.line_in_program; for_line = i.for_line; count = i.count; time = i.time }

-- a stop frees the loops and keeps the line
pub stopped_kept : (r : Run) → r.line < 200 → RunInvariant (stopped r)
unfolding stopped
stopped_kept r lt =
    record {
      line_in_program = lt;
      for_line = each_free LineOk (omega arith);
      count = each_free CountOk (omega arith);
      time = omega arith;
      idle = λ e. refl;
    }

-- ---- one line

ends_going : (e : ℕ) (r : Run) → Going r → GoingStep (ends e r)
ends_going e r g = record { going = g }

at_going : (k : ℕ) (r : Run) → k < 200 → Going r → Going (at_line k r)
at_going k r lt g = record { on = g.on; in_program = lt; for_line = g.for_line; count = g.count; time = g.time }

goes_going : (k : ℕ) (r : Run) → k < 200 → Going r → GoingStep (goes_to k r)
goes_going k r lt g = record { going = at_going k r lt g }

pub onward_going : (r : Run) → Going r → GoingStep (onward r)
onward_going r g = onward_ways GoingStep r (λ lt. goes_going (r.line + 1) r (omega arith) g) (λ _. ends_going 9 r g)

state_going : (o t : ℕ) (r : Run) → t ≤ 9999 → Going r → Going (waiting t (with_outputs o r))
state_going o t r le g = record { on = g.on; in_program = g.in_program; for_line = g.for_line; count = g.count; time = le }

outputs_going : (o : ℕ) (r : Run) → Going r → Going (with_outputs o r)
outputs_going o r g = record { on = g.on; in_program = g.in_program; for_line = g.for_line; count = g.count; time = g.time }

counter_going : (c : ℕ) (v : Counter) (r : Run) → v.line < 199 → v.count ≤ 9999 → Going r → Going (with_counter c v r)
counter_going c v r l n g =
    record {
      on = g.on;
      in_program = g.in_program;
      for_line = each_set LineOk r.counters (c - 1) v l g.for_line;
      count = each_set CountOk r.counters (c - 1) v n g.count;
      time = g.time;
    }

line_going : (p : List ℕ) (l : Line) (r : Run) → Ranged l → Going r → GoingStep (run_line p l r)
line_going p (State o t) r q g =
    state_ways GoingStep p r o t (λ _. record { going = state_going o t r q.range g }) (λ _. ends_going 11 _ (outputs_going o r g))
line_going p (For c n) r q g =
    let first = next_first p c r.line g.in_program in
    for_ways GoingStep p r c n
    (λ _. ends_going 6 r g)
    (λ _ _. ends_going 7 r g)
    (λ _ found _. onward_going _ (at_going _ r (first found).in_program g))
    (λ _ found _. onward_going _ (counter_going c _ r (omega (arith, (first found).not_before, (first found).in_program)) q.range.1 g))
line_going p (Next c) r q g =
    let l : (counter r c).line < 199 = g.for_line (c - 1) in
    let n : (counter r c).count ≤ 9999 = g.count (c - 1) in
    next_ways GoingStep p r c
    (λ _. ends_going 8 r g)
    (λ _. goes_going _ _ (omega arith) (counter_going c _ r l (omega arith) g))
    (λ _. onward_going _ (counter_going c free r (omega arith) (omega arith) g))
line_going p Bad r q g = bad_way GoingStep p r (ends_going 14 r g)

pub step_going : (p : List ℕ) (r : Run) → Going r → GoingStep (step p r)
unfolding step
step_going p r g = line_going p (line_at p r.line) r (line_ranged p r.line) g

-- ---- the lines of one call

follow_kept : (h : How) (n : ℕ) (r : Run) (go : Run → Ran) → Going r → ((s : Run) → Going s → RunInvariant (go s).run) → RunInvariant (follow h n r go).run
follow_kept Holds n r go g k = still g
follow_kept (Ends e) n r go g k = stopped_kept r g.in_program
follow_kept GoesOn n r go g k = k r g

due_kept : (p : List ℕ) (left n : ℕ) (r : Run) → Going r → RunInvariant (run_due p left n r).run
unfolding run_due
due_kept p zero n r g =
    if_case (λ (x : Ran). RunInvariant x.run) (is_for_or_next (line_at p r.line))
    (λ _. stopped_kept r g.in_program)
    (λ _. follow_kept (step p r).how n (step p r).run _ (step_going p r g).going (λ s k. still k))
due_kept p (suc left) n r g =
    follow_kept (step p r).how _ (step p r).run _ (step_going p r g).going (λ s k. due_kept p left _ s k)

-- what holds of the run that a start begins with
pub begun_going : (k o : ℕ) → k < 200 → Going (begun k o)
begun_going k o lt =
    record { on = refl; in_program = lt; for_line = each_free LineOk (omega arith); count = each_free CountOk (omega arith); time = omega arith }

-- A start at a line of the program gives the invariant.
pub start_kept : (p : List ℕ) (k o : ℕ) → k < 200 → RunInvariant (start p k o).run
unfolding start
start_kept p k o lt =
    due_kept p most 0 (begun k o) (begun_going k o lt)

-- A tick keeps it.
pub tick_kept : (p : List ℕ) (r : Run) → RunInvariant r → RunInvariant (tick p r).run
unfolding tick
tick_kept p r i =
    if_case (λ (x : Ran). RunInvariant x.run) (not r.on) (λ _. i) λ e.
    let g : Going r = goes_on r (not-false r.on e) i in
    if_case (λ (x : Ran). RunInvariant x.run) (is_held r)
    (λ _. still (record { on = g.on; in_program = g.in_program; for_line = g.for_line; count = g.count; time = omega (arith, g.time) }))
    (λ _. follow_kept (onward r).how 0 (onward r).run _ (onward_going r g).going (λ s k. due_kept p most 0 s k))
