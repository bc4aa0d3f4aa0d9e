-- `explanation::next_due` meets its contract: by what going on led to.
-- Assumes nothing.
use mathlib.Core.Path.{ap, ◌∙◌}
use Rattle.running.specs.declared.Step.{Step}
use Rattle.running.specs.Running.{most}
use Rattle.running.specs.Moments.{last_due}
use Rattle.running.proofs.Freeing.{freed_ends}
use Rattle.running.proofs.Turns.{tick_ends, tick_runs, tick_going}
use Rattle.running.proofs.Invariant.{goes_on, still}
use Rattle.explanation.proofs.Onward.{onward_nine}
use native.Mathlib.Omega.{arith}
use Rattle.explanation.proofs.next_due.Goals as goal

pub due-requires : goal.due-requires
due-requires c =
    let g = tick_going c.args.p.now _ _ c.requires.1 c.requires.2 c.onward-step.ensures.step (goes_on _ c.requires.1 c.requires.3) in
    (c.requires.0, g.on, still g, c.requires.4)

pub returns-in_default : goal.returns-in_default
returns-in_default c =
    record {
      due =
          record {
            ran = c.due.ensures.due.ran ∙ tick_runs _ _ _ c.requires.1 c.requires.2 c.onward-step.ensures.step c.in_default.not-Ends;
            last = λ six. c.due.ensures.due.last six ∙ ap (λ (s : Step). last_due c.args.p.now most s.run) c.onward-step.ensures.step;
          };
    }

pub returns-in-Ends : goal.returns-in-Ends
returns-in-Ends c =
    record {
      due =
          let nine = onward_nine _ c.onward-step.ensures.step c.in-Ends.is in
          record {
            ran = freed_ends _ (λ z. omega (arith, nine)) ∙ tick_ends _ _ _ c.requires.1 c.requires.2 c.onward-step.ensures.step c.in-Ends.is;
            last = λ six. absurd (omega (arith, nine));
          };
    }
