-- `answers::asked` meets its contract: by what the checks were heard to say, and for a read by the line that stands there.
-- Assumes nothing.
use Rattle.std.proofs.Common.{sym, ap, ◌∙◌, rules}
use Rattle.std.proofs.lemmas.Result.{err_from_is_err_and}
use Rattle.formats.specs.Checks.{passed}
use Rattle.variables.specs.Variables.{is_bad_at}
use Rattle.controller.proofs.Legible.{error_stays, read_stays, read_illegible}
use Rattle.answers.proofs.Hearing.{stays, write_kept, heard_of_state}
use Rattle.answers.proofs.asked.Goals as goal

pub returns-in_err-q : goal.returns-in_err-q
returns-in_err-q c =
    let p = err_from_is_err_and c.from_residual.result c.from_residual.ensures.1 in
    record { heard = rw (p.1, p.2) (λ k e f g. heard_of_state k c.args.program.now e f g (stays _ c.in_err-q.ensures.command (error_stays _ _))) }

pub returns-in-Read : goal.returns-in-Read
returns-in-Read c =
    record {
      heard =
          λ k e f g. heard_of_state k c.args.program.now e f g
          (stays _ (ap passed (sym c.in-Read.is) ∙ c.in_ok-q.ensures.command) (read_illegible _ _ (sym c.if-is_bad_at.ensures.test)));
    }

pub returns-in_default : goal.returns-in_default
returns-in_default c =
    record {
      heard =
          λ k e f g. heard_of_state k c.args.program.now e f g
          (stays _ (ap passed (sym c.in-Read.is) ∙ c.in_ok-q.ensures.command) (read_stays _ _ (sym c.if-is_bad_at.ensures.test)));
    }

pub returns-in_default-2 : goal.returns-in_default-2
returns-in_default-2 c =
    record { heard = λ k e f g. heard_of_state k c.args.program.now e f g (stays (is_bad_at c.args.panel c.args.program.now) c.in_ok-q.ensures.command (search (rules, write_kept))) }
