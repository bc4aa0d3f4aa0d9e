-- `texts::line_in` meets its contract: the first letter sets the length, then the format is read.
-- Assumes nothing.
use Rattle.std.proofs.Common.{◌≡◌, ◌∙◌, Some, sym, arith}
use Rattle.std.specs.List.{slice_get}
use Rattle.std.proofs.lemmas.Result.{err_from_is_err_and}
use Rattle.formats.specs.Errors.{number_of}
use Rattle.formats.specs.declared.Error.TheVariants.{Malformed, NotInFormat}
use Rattle.texts.proofs.LinesRead.{no_line, wrong_length, no_letter, right_length, told_or}
use Rattle.texts.proofs.line_in.Goals.{in-83-eq15, in-70-eq6, in-78-eq2, in_default}
use Rattle.texts.proofs.line_in.Goals as goal

pub returns-in_err-letter : goal.returns-in_err-letter
returns-in_err-letter c =
    let p = err_from_is_err_and c.from_residual.result c.from_residual.ensures.1 in
    let which : c.in_err-letter.field-0.0 ≡ Malformed = grind arith in
    record { line = rw (p.1, p.2, which) (sym (no_line _ (sym (rw c.in_err-letter.ensures.ok_part at c.first.ensures.value)))) }

pub returns-in-83-default : goal.returns-in-83-default
returns-in-83-default c =
    record { line = sym (wrong_length _ 83 (sym (rw (c.in_ok-letter.ensures.ok_part, c.in-83-default.is-0) at c.first.ensures.value)) (omega arith) c.in-83-default.is-1.1) }

pub returns-in-83-default-2 : goal.returns-in-83-default-2
returns-in-83-default-2 c =
    record { line = sym (wrong_length _ 70 (sym (rw (c.in_ok-letter.ensures.ok_part, c.in-83-default.is-0) at c.first.ensures.value)) (omega arith) c.in-83-default.is-1.1) }

pub returns-in-83-default-3 : goal.returns-in-83-default-3
returns-in-83-default-3 c =
    record { line = sym (wrong_length _ 78 (sym (rw (c.in_ok-letter.ensures.ok_part, c.in-83-default.is-0) at c.first.ensures.value)) (omega arith) c.in-83-default.is-1.1) }

pub returns : goal.returns
returns c =
    let s : slice_get c.args.cs.now 0 ≡ Some c.in_ok-letter.field-0.now = sym (rw c.in_ok-letter.ensures.ok_part at c.first.ensures.value) in
    record {
      line =
          told_or number_of NotInFormat c.match-letter.line c.ok_or-2.ensures.value
          ∙ elim c.match-letter.branch [
            | in-83-eq15 w ↦ rw w.line-is (w.state_in-line.ensures.line ∙ sym (right_length _ 83 (rw w.in-83-eq15.is-0 at s) (omega arith) w.in-83-eq15.is-1))
            | in-70-eq6 w ↦ rw w.line-is (w.for_in-line.ensures.line ∙ sym (right_length _ 70 (rw w.in-70-eq6.is-0 at s) (omega arith) w.in-70-eq6.is-1))
            | in-78-eq2 w ↦ rw w.line-is (w.next_in-line.ensures.line ∙ sym (right_length _ 78 (rw w.in-78-eq2.is-0 at s) (omega arith) w.in-78-eq2.is-1))
            | in_default w ↦ rw w.line-is (sym (no_letter _ _ s w.in_default.is-0.0.0.1 w.in_default.is-0.0.1 w.in_default.is-0.1))
          ];
    }
