-- `lines::put_line` meets its contract: what comes back of the lent part stands between what was before it and after it.
-- Assumes nothing.
use Prim.Native.Nat.{◌*◌}
use mathlib.Core.Path.{◌∙◌}
use Rattle.formats.proofs.Parts.{given_back_lem}
use Rattle.formats.specs.Bytes.{placed}
use Rattle.lines.proofs.put_line.Goals as goal

pub returns : goal.returns
unfolding placed
returns c = record { program = given_back_lem (8 * c.args.k) 8 c.args.p.now c.write_line.new.to ∙ simp c.write_line.ensures.bytes }
