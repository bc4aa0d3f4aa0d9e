-- `lines::copy_program` meets its contract: all 1,600 bytes are copied.
-- Assumes nothing.
use mathlib.Core.Path.{◌∙◌}
use Rattle.formats.proofs.Parts.{copied_whole}
use Rattle.lines.proofs.copy_program.Goals as goal

pub returns : goal.returns
returns c = record { program = c.copy.ensures.copied ∙ copied_whole 1600 c.args.from.now c.args.to.now c.requires.0 c.requires.1 }
