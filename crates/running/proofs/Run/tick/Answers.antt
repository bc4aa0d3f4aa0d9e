-- `running::Run::tick` meets its contract: by the tests, and by what going on led to.
-- Assumes nothing.
use mathlib.Core.Path.{◌≡◌, ◌∙◌}
use mathlib.Core.Bool.{true}
use borrow.Author.Tests.{lt-ltb}
use borrow.Author.Rules.{rules}
use Rattle.running.proofs.Turns.{tick_ends, tick_runs, tick_going}
use Rattle.running.proofs.Invariant.{goes_on, still}
use Rattle.running.specs.Running.{tick}
use Rattle.running.proofs.Run.tick.Goals as goal

pub returns-then-not-self : goal.returns-then-not-self
unfolding tick
returns-then-not-self c = record { ran = simp c.if-not-self.true }

pub returns-then-self-gt1 : goal.returns-then-self-gt1
unfolding tick
returns-then-self-gt1 c =
    let on : c.args.self.on ≡ true = search rules in
    record { ran = simp (on, lt-ltb _ _ c.if-self-gt1.true) }

pub run_due-requires : goal.run_due-requires
run_due-requires c =
    let on : c.args.self.on ≡ true = search rules in
    let g = tick_going c.args.p.now _ _ on c.if-self-gt1.false c.onward-s.ensures.step (goes_on _ on c.requires.1) in
    (c.requires.0, g.on, still g)

pub returns-in-Ends : goal.returns-in-Ends
returns-in-Ends c = record { ran = c.ended.ensures.ran ∙ tick_ends _ _ _ (search rules) c.if-self-gt1.false c.onward-s.ensures.step c.in-Ends.is }

pub returns-in_default : goal.returns-in_default
returns-in_default c = record { ran = c.run_due.ensures.ran ∙ tick_runs _ _ _ (search rules) c.if-self-gt1.false c.onward-s.ensures.step c.in_default.not-Ends }
