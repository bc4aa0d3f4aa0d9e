-- A plan on the box: what is seen of a program that was made from an inclining plan.
-- Assumes nothing.
use mathlib.Core.Path.{◌≡◌, sym, ap, subst, ◌∙◌}
use Prim.Native.Nat.{ℕ, ◌+◌, ◌≤◌, ◌<◌}
use native.Mathlib.Omega.{arith}
use mathlib.Core.Bool.{true, false}
use mathlib.Core.List.{List}
use lib.ListN.{length}
use lib.Dec.{eqb}
use Rattle.std.specs.Prelude.{if◌then◌else◌}
use Rattle.formats.specs.Checks.{passed}
use Rattle.running.specs.declared.Run.{Run}
use Rattle.running.specs.declared.Ran.{Ran}
use Rattle.running.specs.Running.{start}
use Rattle.running.specs.Ticking as Ticking
use Rattle.running.specs.Ticking.{EndsAfter}
use Rattle.running.proofs.Reaching.{after_ticks, tick_after}
use Rattle.planner.specs.Plan.{moves_of, total, word_at, are_words}
use Rattle.planner.specs.Lines.{plan_lines}
use Rattle.planner.specs.Planned.{planned}
use Rattle.planner.specs.ByTheRule.{CarriesOut}
use Rattle.planner.proofs.Planning.{carried_out, sum_some}
use Rattle.controller.specs.Controller.{Areas}
use Rattle.demands.specs.Histories.{ticking}
use Rattle.demands.specs.Seen.{seen, outputs}
use Rattle.demands.specs.Told.{told}
use Rattle.demands.specs.Started.{Course, begun, now, Started, program_of, start_of, count, ruled, Ticks, ticked, ShowsStop}
use Rattle.demands.specs.Undisturbed.{SameOrNone}
use Rattle.demands.proofs.History.AsTold.{outputs_as_told}
use Rattle.demands.proofs.Runs.ByTheRules.{starts_by_the_rules, events_by_the_rules, outputs_by_the_rules, ends_by_the_rules}
use Rattle.demands.proofs.Runs.Ends.{shows_stop, runs_so_long, ends_there}

-- 02, item 10: "the outputs at every tick are the plan's" and "event 011 comes at the sum of the times". The box was started at line 000, and its program area
-- then held what comes of the plan, however it came there.
module _ (c : Course) (so : Started c) (first : c.line ≡ 0) (ns area : List ℕ) (words : are_words ns ≡ true) (is : planned ns area ≡ passed (program_of c)) where
  carries : CarriesOut (moves_of ns) (program_of c) (outputs c.before)
  carries = carried_out ns area (program_of c) words is (outputs c.before)

  start_is : start_of c ≡ start (program_of c) 0 (outputs c.before)
  start_is = ap (λ k. start (program_of c) k (outputs c.before)) first

  lasts : EndsAfter (program_of c) (total (moves_of ns)) 11 (start_of c)
  lasts = rw first carries.ends

  -- the outputs after so many ticks of the rules
  ruled_outputs : (n : ℕ) → (Ticking.after (program_of c) n (start_of c)).run.outputs
      ≡ (Ticking.after (program_of c) n (start (program_of c) 0 (outputs c.before))).run.outputs
  ruled_outputs n = ap (λ (x : Ran). (Ticking.after (program_of c) n x).run.outputs) start_is

  ruled_few : (n : ℕ) → (Ticking.after (program_of c) n (start_of c)).lines ≤ 2
  ruled_few n = subst (λ (x : Ran). (Ticking.after (program_of c) n x).lines ≤ 2) (sym start_is) (carries.few n)

  rule_runs : count c < total (moves_of ns) → (ruled c).on ≡ true
  rule_runs lt = ap (λ (r : Run). r.on) (sym (after_ticks (program_of c) (count c) (start_of c))) ∙ (lasts.before (count c) lt).on

  -- As long as fewer ticks than the sum of the times were taken unpaused, whatever the traffic and the pauses, the program runs,
  pub runs_as_planned : count c < total (moves_of ns) → (told (now c)).run.on ≡ true
  runs_as_planned = runs_so_long c so (total (moves_of ns)) 11 lasts

  -- and the outputs are the plan's word at that tick.
  pub outputs_as_planned : count c < total (moves_of ns) → outputs (now c) ≡ word_at (moves_of ns) (count c)
  outputs_as_planned lt =
      outputs_by_the_rules c so (rule_runs lt)
      ∙ ap (λ (r : Run). r.outputs) (sym (after_ticks (program_of c) (count c) (start_of c)))
      ∙ ruled_outputs (count c) ∙ carries.words (count c) lt

  -- No event comes before: the start raises none,
  start_raises_none : (told (begun c)).event ≡ (told c.before).event
  unfolding Ticking.after
  start_raises_none =
      let some = sum_some ns area (program_of c) words is in
      (starts_by_the_rules c so).1 ∙ ap (λ e. if eqb e 0 then (told c.before).event else e) (lasts.before 0 (omega arith)).event

  -- nor does any call as long as fewer ticks were taken: 212 has what it had before the start, or 0, where that was read;
  pub no_event_before : count c < total (moves_of ns) → SameOrNone (told (now c)).event (told c.before).event
  no_event_before lt = subst (SameOrNone (told (now c)).event) start_raises_none (events_by_the_rules c so (rule_runs lt))

  module _ (last : count c + 1 ≡ total (moves_of ns)) (a : Areas) (t : Ticks c a) where
    -- with the last one event 011 comes: the program has ended, all outputs are off, and 212 and 211 show so.
    pub ends_as_planned : ((told (ticked c a)).run.on ≡ false) × (outputs (ticked c a) ≡ 0)
        × ShowsStop (ticked c a) 11 (length (plan_lines (moves_of ns)))
    ends_as_planned =
        let end = ends_there c so (total (moves_of ns)) 11 lasts last a t in
        let x = tick_after (program_of c) (count c) (start_of c) ∙ ap (λ n. Ticking.after (program_of c) n (start_of c)) last in (
          end.1,
          outputs_as_told (ticked c a)
              ∙ ap (λ (r : Run). r.outputs) (ends_by_the_rules c so (rule_runs (omega arith)) a t).0
              ∙ ap (λ (y : Ran). y.run.outputs) x ∙ ruled_outputs (total (moves_of ns)) ∙ carries.off,
          shows_stop (ticked c a) end.1 11 (length (plan_lines (moves_of ns))) end.0
              (end.2 ∙ ap (λ (y : Ran). (Ticking.after (program_of c) (total (moves_of ns)) y).run.line) start_is ∙ carries.there),
        )

  -- The start runs at most two For and Next lines, and so does every tick until then.
  pub start_runs_few : (seen c.before c.starting).lines ≤ 2
  unfolding Ticking.after
  start_runs_few = let e = (starts_by_the_rules c so).2 in let few = ruled_few 0 in omega arith

  pub tick_runs_few : count c < total (moves_of ns) → (a : Areas) → Ticks c a → (seen (now c) (ticking a)).lines ≤ 2
  tick_runs_few lt a t =
      let e = (ends_by_the_rules c so (rule_runs lt) a t).2 in
      let x = ap (λ (y : Ran). y.lines) (tick_after (program_of c) (count c) (start_of c)) in
      let few = ruled_few (count c + 1) in
      omega arith
