-- `duration::report` meets its contract: check by check, by the laws of `Answers`.
-- Assumes nothing.
use mathlib.Core.Path.{◌≡◌, refl, sym, ◌∙◌}
use native.Mathlib.Omega.{arith}
use borrow.Author.Rules.{rules}
use Rattle.std.proofs.Common.{None, Some}
use Rattle.std.proofs.lemmas.Result.{err_from_is_err_and}
use Rattle.duration.specs.declared.Refusal.TheVariants.{Tangled, NoEnd}
use Rattle.duration.proofs.Answers.{no_program, end_found, no_end_found, no_end, tangled, ends_inside_lem, nests_so, sum_told}
use Rattle.duration.proofs.report.Goals as goal

pub returns-then-p-ne-PROGRAM : goal.returns-then-p-ne-PROGRAM
returns-then-p-ne-PROGRAM c = record { answer = sym (no_program _ c.if-p-ne-PROGRAM.true) }

pub returns-in_err-end : goal.returns-in_err-end
returns-in_err-end c =
    let none : c.end_line.result ≡ None = grind arith in
    let p = err_from_is_err_and c.from_residual.result c.from_residual.ensures.1 in
    let which : c.in_err-end.field-0.0 ≡ NoEnd = grind arith in
    record { answer = rw (p.1, p.2, which) (sym (no_end _ c.if-p-ne-PROGRAM.false 200 (no_end_found _ _ c.end_line.ensures.line none) refl)) }

pub returns-in_err-nexts : goal.returns-in_err-nexts
returns-in_err-nexts c =
    let some : c.end_line.result ≡ Some c.in_ok-end.end = grind arith in
    let end = end_found _ _ c.end_line.ensures.line c.end_line.ensures.within some in
    let none : c.walked.result ≡ None = grind arith in
    let p = err_from_is_err_and c.from_residual-in_err-nexts.result c.from_residual-in_err-nexts.ensures.1 in
    let which : c.in_err-nexts.field-0.0 ≡ Tangled = grind arith in
    record { answer = rw (p.1, p.2, which) (sym (tangled _ c.if-p-ne-PROGRAM.false _ end.0 end.1 _ c.walked.ensures.walk none)) }

pub returns-then-is_across_one : goal.returns-then-is_across_one
returns-then-is_across_one c =
    let some : c.end_line.result ≡ Some c.in_ok-end.end = grind arith in
    let end = end_found _ _ c.end_line.ensures.line c.end_line.ensures.within some in
    let open_loops : c.walked.result ≡ Some c.in_ok-nexts.nexts = grind arith in
    record {
      answer = sym
          (ends_inside_lem _ c.if-p-ne-PROGRAM.false _ end.0 end.1 _ c.walked.ensures.walk _ open_loops _ c.is_across_one.ensures.test c.if-is_across_one.true);
    }

pub sequence-requires : goal.sequence-requires
sequence-requires c =
    let some : c.end_line.result ≡ Some c.in_ok-end.end = grind arith in
    let end = end_found _ _ c.end_line.ensures.line c.end_line.ensures.within some in
    let open_loops : c.walked.result ≡ Some c.in_ok-nexts.nexts = grind arith in (
      search rules,
      omega (arith, end.1),
      nests_so _ c.if-p-ne-PROGRAM.false _ end.0 end.1 _ c.walked.ensures.walk _ open_loops _ c.is_across_one.ensures.test c.if-is_across_one.false,
    )

pub returns : goal.returns
returns c =
    let some : c.end_line.result ≡ Some c.in_ok-end.end = grind arith in
    let end = end_found _ _ c.end_line.ensures.line c.end_line.ensures.within some in
    let open_loops : c.walked.result ≡ Some c.in_ok-nexts.nexts = grind arith in
    record {
      answer = c.told.ensures.answer
          ∙ sum_told _ c.if-p-ne-PROGRAM.false _ end.0 end.1 _ c.walked.ensures.walk _ open_loops _ c.is_across_one.ensures.test c.if-is_across_one.false _
          c.sequence.ensures.sum;
    }
