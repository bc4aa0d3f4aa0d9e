-- `trials::turns` meets what each call requires.
-- Assumes nothing.
use Rattle.controller.specs.Invariant.{Invariant}
use Rattle.trials.proofs.turns.Given as goal

abbrev pub invariant-loop : goal.invariant-loop
invariant-loop l = Invariant l.held.controller
