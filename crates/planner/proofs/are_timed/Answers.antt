-- `planner::are_timed` meets its contract: the moves before number k are in their range, so that those from it on decide.
-- Assumes nothing.
use mathlib.Core.Path.{sym, ap, ◌∙◌}
use native.Mathlib.Omega.{arith}
use Rattle.planner.specs.Plan.{is_timed}
use Rattle.planner.proofs.Moves.{counted_is, timed_not, timed_on, timed_over}
use Rattle.planner.proofs.are_timed.Goals as goal

pub returns-then-not-is_timed : goal.returns-then-not-is_timed
returns-then-not-is_timed c =
    let so = counted_is c.args.plan.now c.requires in
    record {
      test = timed_not c.loop-k.invariant (omega (arith, so.0, c.loop-k-test.true)) (ap is_timed (sym c.move_at.ensures.numbers) ∙ sym c.is_timed.ensures.test ∙ c.if-not-is_timed.true);
    }

pub loop-k-preserved : goal.loop-k-preserved
loop-k-preserved c =
    let so = counted_is c.args.plan.now c.requires in
    timed_on c.loop-k.invariant (omega (arith, so.0, c.loop-k-test.true)) (ap is_timed (sym c.move_at.ensures.numbers) ∙ sym c.is_timed.ensures.test ∙ c.if-not-is_timed.false)

pub returns : goal.returns
returns c =
    let so = counted_is c.args.plan.now c.requires in
    record { test = timed_over c.loop-k.invariant (omega (arith, so.0, c.loop-k-test.false)) }
