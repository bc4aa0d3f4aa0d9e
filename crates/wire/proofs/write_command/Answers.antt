-- `wire::write_command` meets its contract, check by check.
-- Assumes nothing.
use Rattle.std.proofs.Common.{sym, ◌∙◌}
use Rattle.std.proofs.lemmas.Result.{err_from_is_err_and}
use Rattle.formats.specs.Checks.{◌>>=◌, ◌>>◌, ◌or_else◌}
use Rattle.wire.specs.Command.{write_command}
use Rattle.wire.proofs.DataHeard.{data_behind}
use Rattle.wire.proofs.write_command.Goals as goal

pub returns-in_err-k : goal.returns-in_err-k
unfolding write_command ◌>>=◌
returns-in_err-k c =
    let p = err_from_is_err_and c.from_residual.result c.from_residual.ensures.1 in
    record { write = rw (p.1, p.2) (simp (sym c.in_err-k.ensures.address)) }

pub returns-then-not-is_writable : goal.returns-then-not-is_writable
unfolding write_command ◌>>=◌ ◌>>◌ ◌or_else◌
returns-then-not-is_writable c = record { write = simp (sym c.in_ok-k.ensures.address, sym c.is_writable.ensures.writable ∙ c.if-not-is_writable.true) }

pub returns-then-not-is_open : goal.returns-then-not-is_open
unfolding write_command ◌>>=◌ ◌>>◌ ◌or_else◌
returns-then-not-is_open c =
    record {
      write =
          simp (
            sym c.in_ok-k.ensures.address,
            sym c.is_writable.ensures.writable ∙ c.if-not-is_writable.false,
            sym c.is_open.ensures.«open» ∙ c.if-not-is_open.true,
          );
    }

pub returns-in_err-data : goal.returns-in_err-data
unfolding write_command ◌>>=◌ ◌>>◌ ◌or_else◌
returns-in_err-data c =
    let p = err_from_is_err_and c.from_residual-in_err-data.result c.from_residual-in_err-data.ensures.1 in
    record {
      write =
          rw (p.1, p.2)
          (simp (
            sym c.in_ok-k.ensures.address,
            sym c.is_writable.ensures.writable ∙ c.if-not-is_writable.false,
            sym c.is_open.ensures.«open» ∙ c.if-not-is_open.false,
            sym (data_behind c.args.mode c.args.parameter c.in_ok-k.k _ c.args.cs.now c.rest_at.ensures.rest.1 c.in_err-data.ensures.«data»),
          ));
    }

pub returns : goal.returns
unfolding write_command ◌>>=◌ ◌>>◌ ◌or_else◌
returns c =
    record {
      write =
          simp (
            sym c.in_ok-k.ensures.address,
            sym c.is_writable.ensures.writable ∙ c.if-not-is_writable.false,
            sym c.is_open.ensures.«open» ∙ c.if-not-is_open.false,
            sym (data_behind c.args.mode c.args.parameter c.in_ok-k.k _ c.args.cs.now c.rest_at.ensures.rest.1 c.in_ok-data.ensures.«data»),
          );
    }
