-- `explanation::followed` meets its contract: each turn follows the run to the next tick at which a line falls due.
-- Assumes nothing.
use mathlib.Core.Path.{ap, ◌∙◌}
use Rattle.std.specs.Prelude.{Some}
use Rattle.explanation.proofs.Following.{at_start, in_program_lem, runs, waits, one_good, at_next, still_running, has_stopped}
use borrow.Author.Rules.{rules}
use native.Mathlib.Omega.{arith}
use Rattle.explanation.proofs.followed.Goals as goal

pub loop-ran-init : goal.loop-ran-init
loop-ran-init c = at_start _ _ _ c.begun-held.ensures.run c.due-ran.ensures.due

pub returns-then-limit-tick : goal.returns-then-limit-tick
returns-then-limit-tick c = record { answer = still_running _ _ _ c.loop-ran.invariant c.loop-ran-test.true c.if-limit-tick.true }

pub next_due-ran-requires : goal.next_due-ran-requires
next_due-ran-requires c = (
  c.requires.0,
  runs _ _ _ c.loop-ran.invariant c.loop-ran-test.true,
  search rules,
  one_good _ _ _ c.loop-ran.invariant c.loop-ran-test.true c.requires.1,
  c.known_of-table.ensures.known,
)

pub loop-ran-smaller : goal.loop-ran-smaller
loop-ran-smaller c =
    let w = waits _ _ _ c.loop-ran.invariant c.loop-ran-test.true in
    omega (arith, c.if-limit-tick.false)

pub loop-ran-preserved : goal.loop-ran-preserved
loop-ran-preserved c =
    at_next _ _ _ c.loop-ran.invariant c.loop-ran-test.true c.if-limit-tick.false c.next_due-ran.ensures.due

pub stop_of-requires : goal.stop_of-requires
stop_of-requires c =
    (c.requires.0, in_program_lem _ _ _ c.loop-ran.invariant c.requires.1, c.loop-ran.invariant.busy)

pub returns : goal.returns
returns c = record { answer = ap Some c.stop_of.ensures.stop ∙ has_stopped _ _ _ c.loop-ran.invariant c.loop-ran-test.false }
