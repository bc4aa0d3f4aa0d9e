-- `wire::read_command` meets its contract.
-- Assumes nothing.
use Rattle.std.proofs.Common.{sym}
use Rattle.std.proofs.lemmas.Result.{err_from_is_err_and}
use Rattle.formats.specs.Checks.{◌>>=◌, ◌>>◌, ◌or_else◌}
use Rattle.wire.specs.Command.{read_command}
use Rattle.wire.proofs.Addresses.{rest_some, rest_none}
use Rattle.wire.proofs.read_command.Goals as goal

pub returns-in_err-k : goal.returns-in_err-k
unfolding read_command ◌>>=◌
returns-in_err-k c =
    let p = err_from_is_err_and c.from_residual.result c.from_residual.ensures.1 in
    record { read = rw (p.1, p.2) (simp (sym c.in_err-k.ensures.address)) }

pub returns-then-rest_at-cs : goal.returns-then-rest_at-cs
unfolding read_command ◌>>=◌ ◌>>◌ ◌or_else◌
returns-then-rest_at-cs c = record { read = simp (sym c.in_ok-k.ensures.address, rest_some _ _ c.rest_at.ensures.rest.1 c.if-rest_at-cs.true) }

pub returns : goal.returns
unfolding read_command ◌>>=◌ ◌>>◌ ◌or_else◌
returns c = record { read = simp (sym c.in_ok-k.ensures.address, rest_none _ _ c.rest_at.ensures.rest.1 c.if-rest_at-cs.false) }
