-- `planner::write` meets its contract: check by check, and the lines one behind the other.
-- Assumes nothing.
use mathlib.Core.Path.{sym, ◌∙◌}
use Rattle.planner.proofs.Answers.{no_area, no_count, no_time, all_laid}
use Rattle.planner.proofs.write.Goals as goal

pub returns-then-program-ne-PROGRAM : goal.returns-then-program-ne-PROGRAM
returns-then-program-ne-PROGRAM c =
    let r =
    no_area _ _ c.if-program-ne-PROGRAM.true in
    record { answer = r.0; area = r.1 }

pub returns-then-not-is_counted : goal.returns-then-not-is_counted
returns-then-not-is_counted c =
    let r =
    no_count _ _ c.if-program-ne-PROGRAM.false (sym c.is_counted.ensures.test ∙ c.if-not-is_counted.true) in
    record { answer = r.0; area = r.1 }

pub returns-then-not-are_timed : goal.returns-then-not-are_timed
returns-then-not-are_timed c =
    let r =
    no_time _ _ c.if-program-ne-PROGRAM.false (sym c.is_counted.ensures.test ∙ c.if-not-is_counted.false) (sym c.are_timed.ensures.test ∙ c.if-not-are_timed.true) in
    record { answer = r.0; area = r.1 }

pub returns : goal.returns
returns c =
    let r =
    all_laid _ _ c.if-program-ne-PROGRAM.false (sym c.is_counted.ensures.test ∙ c.if-not-is_counted.false) (sym c.are_timed.ensures.test ∙ c.if-not-are_timed.false)
    c.put_moves-at.ensures.lays c.put_moves-at.ensures.near c.put_ends.ensures.lays in
    record { answer = r.0; area = r.1 }
