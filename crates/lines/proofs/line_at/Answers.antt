-- `lines::line_at` meets its contract: what is lent from byte 8 k on is the program without its first k lines.
-- Assumes nothing.
use Prim.Native.Nat.{◌*◌}
use mathlib.Core.Path.{ap, ◌∙◌}
use Rattle.formats.proofs.Parts.{rest_of}
use Rattle.lines.specs.Line.{read_line}
use Rattle.lines.specs.Program.{line_at}
use Rattle.lines.proofs.line_at.Goals as goal

pub returns : goal.returns
unfolding line_at
returns c = record { line = c.read_line.ensures.line ∙ ap read_line (rest_of (8 * c.args.k) c.args.p.now) }
