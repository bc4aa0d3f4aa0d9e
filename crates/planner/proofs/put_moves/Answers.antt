-- `planner::put_moves` meets its contract: the lines of the moves before number k are laid.
-- Assumes nothing.
use native.Mathlib.Omega.{arith}
use mathlib.Core.Path.{refl, sym, subst, ◌∙◌}
use borrow.Author.Rules.{rules}
use Rattle.planner.specs.Plan.{Timed}
use Rattle.planner.proofs.Moves.{counted_is, plan_begins, plan_on, plan_over, move_timed}
use Rattle.planner.proofs.put_moves.Goals as goal

pub loop-k-init : goal.loop-k-init
loop-k-init c = (plan_begins _ _ c.requires.2, search rules, refl, refl)

pub move_of-requires : goal.move_of-requires
move_of-requires c =
    let so = counted_is c.args.plan.now c.requires.1 in (
      c.loop-k.invariant.2 ∙ c.requires.0,
      omega (arith, c.loop-k.invariant.1, so.2, c.loop-k-test.true),
      subst Timed (sym c.move_at.ensures.numbers) (move_timed c.loop-k.invariant.0 (omega (arith, so.0, c.loop-k-test.true))),
    )

pub loop-k-preserved : goal.loop-k-preserved
loop-k-preserved c =
    let so = counted_is c.args.plan.now c.requires.1 in (
      plan_on c.loop-k.invariant.0 (omega (arith, so.0, c.loop-k-test.true))
          (omega (arith, c.loop-k.invariant.1, so.2, c.loop-k-test.true, c.requires.0)) c.move_at.ensures.numbers c.move_of.ensures.lays.lays,
      omega (arith, c.move_of.ensures.near, c.loop-k.invariant.1),
      c.move_of.ensures.lays.size ∙ c.loop-k.invariant.2,
      c.move_of.ensures.same_reference ∙ c.loop-k.invariant.3,
    )

pub returns-clause-lays : goal.returns-clause-lays
returns-clause-lays c =
    let so = counted_is c.args.plan.now c.requires.1 in
    let over = plan_over c.loop-k.invariant.0 (omega (arith, so.0, c.loop-k-test.false)) in
    search rules
