-- How the code follows a run: State by State, until the program has stopped or the limit comes before its next line.
-- Assumes nothing.
use Prim.Native.Nat.{ℕ, ◌+◌, ◌-◌, ◌≤◌, ◌<◌}
use native.Mathlib.Omega.{arith}
use mathlib.Core.Path.{◌≡◌, sym, ap, subst, ◌∙◌}
use mathlib.Core.Logic.{◌≢◌}
use mathlib.Core.Bool.{true, false}
use mathlib.Core.List.{List}
use borrow.Author.Tests.{ne_eqb}
use Rattle.running.specs.declared.Run.{Run}
use Rattle.running.specs.declared.Ran.{Ran}
use Rattle.running.specs.Running.{begun, waiting, stopped, onward, run_due, start, tick}
use Rattle.running.specs.Invariant.{RunInvariant}
use Rattle.running.specs.Moments.{last_due}
use Rattle.running.specs.Due.{freed, Due}
use Rattle.running.proofs.Freeing.{freed_rests, freed_ends, freed_line}
use Rattle.running.proofs.Invariant.{goes_on, still}
use Rattle.std.specs.Prelude.{None, Some}
use Rattle.explanation.specs.Report.{did, held_at, first_due, stop_of, outcome}
use Rattle.explanation.specs.NextDue.{NextDue}
use Rattle.explanation.proofs.Ticks.{did_start, did_kept, told_on, waits_some, skips_to, skips_held, skips_runs}
use Rattle.explanation.proofs.Searched.{stops_there, still_there, outcome_stops, outcome_runs}

-- The run was followed to tick n: what that tick did, its loops not freed yet, the run before it, and that the program ran until then; and if the tick ended
-- with 006, the run of its last moment.
pub record Followed (p : List ℕ) (k limit : ℕ) (held : Run) (ran : Ran) (n : ℕ) : Type 0 where
  pub within : n ≤ limit
  pub now : freed ran ≡ did p k 0 n
  pub before : (m : ℕ) → m < n → (did p k 0 m).run.on ≡ true
  pub last : held ≡ held_at p k 0 n
  pub busy : ran.event ≡ 6 → ran.run ≡ last_due p 400 (first_due n held)

-- the first line of a tick falls due behind the State line that was held
due_later : (n : ℕ) (held : Run) → 0 < n → (onward held).run ≡ first_due n held
unfolding first_due
due_later n held above = rw (ne_eqb n 0 (λ z. omega arith))

module _ (p : List ℕ) (k limit : ℕ) where
  pub at_start : {held : Run} {ran : Ran} → held ≡ begun k 0 → Due p held ran → Followed p k limit held ran 0
  unfolding start first_due
  at_start is so =
      record {
        within = omega arith;
        now = so.ran ∙ ap (run_due p 400 0) is ∙ sym (did_start p k 0);
        before = λ m lt. absurd (omega arith);
        last = is;
        busy = so.last;
      }

  module _ {held : Run} {ran : Ran} {n : ℕ} (f : Followed p k limit held ran n) where
    pub in_program_lem : k < 200 → ran.run.line < 200
    in_program_lem lt = let is = freed_line ran ∙ ap (λ (x : Ran). x.run.line) f.now in omega (arith, (did_kept p k 0 lt n).line_in_program)

    -- ---- without an event

    module _ (none : ran.event ≡ 0) where
      is_did : ran ≡ did p k 0 n
      is_did = sym (freed_rests ran none) ∙ f.now

      did_on : (did p k 0 n).run.on ≡ true
      did_on = told_on p k 0 n f.before (ap (λ (x : Ran). x.event) (sym is_did) ∙ none)

      wait_is : ran.run.wait ≡ (did p k 0 n).run.wait
      wait_is = ap (λ (x : Ran). x.run.wait) is_did

      pub runs : ran.run.on ≡ true
      runs = ap (λ (x : Ran). x.run.on) is_did ∙ did_on

      pub waits : 0 < ran.run.wait
      waits = omega (arith, wait_is, waits_some p k 0 n did_on)

      -- with one tick left to wait, it has the invariant
      pub one_good : k < 200 → RunInvariant (waiting 1 ran.run)
      one_good lt =
          let g = goes_on ran.run runs (subst (λ (x : Ran). RunInvariant x.run) (sym is_did) (did_kept p k 0 lt n)) in
          still (record { on = g.on; in_program = g.in_program; for_line = g.for_line; count = g.count; time = omega arith })

      -- all its ticks at once, where they are within the limit
      pub at_next : ran.run.wait ≤ limit - n → {next : Ran} → NextDue p (waiting 1 ran.run) next
          → Followed p k limit (waiting 1 ran.run) next (n + ran.run.wait)
      at_next le so =
          record {
            within = omega (arith, f.within);
            now = so.ran ∙ ap (λ (x : Ran). tick p (waiting 1 x.run)) is_did ∙ sym (skips_to p k 0 n did_on) ∙ ap (λ w. did p k 0 (n + w)) (sym wait_is);
            before = λ m lt. skips_runs p k 0 n did_on f.before m (omega (arith, wait_is));
            last = ap (λ (x : Ran). waiting 1 x.run) is_did ∙ sym (skips_held p k 0 n did_on) ∙ ap (λ w. held_at p k 0 (n + w)) (sym wait_is);
            busy = λ six. so.last six ∙ ap (last_due p 400) (due_later (n + ran.run.wait) (waiting 1 ran.run) (omega (arith, waits)));
          }

      -- else it still runs
      pub still_running : limit - n < ran.run.wait → None ≡ outcome p k 0 limit
      still_running lt =
          sym (outcome_runs p k 0 limit (still_there p k 0 limit λ m le. skips_runs p k 0 n did_on f.before m (omega (arith, wait_is, f.within))))

    -- ---- with one

    pub has_stopped : ran.event ≢ 0 → Some (stop_of p n held (freed ran)) ≡ outcome p k 0 limit
    unfolding stopped
    has_stopped some =
        let off : (did p k 0 n).run.on ≡ false = ap (λ (x : Ran). x.run.on) (sym f.now ∙ freed_ends ran some) in
        let there = stops_there p k 0 limit n f.within off f.before in
        ap Some (ap (λ (h : Run). stop_of p n h (freed ran)) f.last ∙ ap (stop_of p n (held_at p k 0 n)) f.now)
        ∙ sym (outcome_stops p k 0 limit n there f.within)
