-- `running::Run::run_due` meets its contract: the loop keeps what is left to run equal to what was to run; each turn counts one line, and
-- by both ways out what is left is what the last line leads to.
-- Assumes nothing.
use mathlib.Core.Path.{◌≡◌, refl, sym, ap, ◌∙◌}
use native.Mathlib.Omega.{arith}
use borrow.Author.Rules.{rules}
use Rattle.std.specs.Option.{is_some}
use Rattle.lines.specs.Line.{OneToFour}
use Rattle.running.proofs.Turns.{named_few, due_ends, due_goes_on, due_going, none_left}
use Rattle.running.proofs.Run.run_due.Goals as goal

-- the counter is one of the four
few : (c : goal.In-Some) → OneToFour c.in-Some.counter
few c = named_few _ _ c.line_at-line.ensures.line (sym c.counter_of.ensures.counter ∙ c.in-Some.is)

pub overflow_sub-c : goal.overflow_sub-c
overflow_sub-c c = (few c).0

pub bounds-run-c : goal.bounds-run-c
bounds-run-c c = omega (arith, (few c).1)

pub bounds-run-c-in-loop-n : goal.bounds-run-c-in-loop-n
bounds-run-c-in-loop-n c = omega (arith, (named_few _ _ c.line_at-line.ensures.line (sym c.counter_of.ensures.counter ∙ c.in-Some.is)).1)

pub returns-in_default : goal.returns-in_default
returns-in_default c =
    record {
      ran =
          c.last_due.ensures.ran
          ∙ none_left _ _ _ c.line_at-line.ensures.line (ap is_some (sym c.counter_of.ensures.counter ∙ c.in_default.is)) _
          ∙ sym c.loop-n.invariant.1;
    }

pub returns-in-Ends : goal.returns-in-Ends
returns-in-Ends c =
    record {
      ran =
          c.ended.ensures.ran
          ∙ due_ends _ _ _ _ _ _ c.loop-n-test.true c.line_at-line.ensures.line (sym c.counter_of.ensures.counter ∙ c.in-Some.is) c.turn_of-t.ensures.turn c.in-Ends.is
          ∙ sym c.loop-n.invariant.1;
    }

pub loop-n-preserved : goal.loop-n-preserved
loop-n-preserved c =
    let names = sym c.counter_of.ensures.counter ∙ c.in-Some.is in (
      due_going _ _ _ _ _ _ c.loop-n-test.true c.line_at-line.ensures.line names c.turn_of-t.ensures.turn c.loop-n.invariant.0,
      c.loop-n.invariant.1 ∙ due_goes_on _ _ _ _ _ _ c.loop-n-test.true c.line_at-line.ensures.line names c.turn_of-t.ensures.turn c.in_default-how.not-Ends,
    )

pub returns : goal.returns
returns c =
    let all : c.loop-n.n ≡ 400 = omega arith in
    record { ran = c.last_due-2.ensures.ran ∙ rw all refl ∙ sym c.loop-n.invariant.1 }
