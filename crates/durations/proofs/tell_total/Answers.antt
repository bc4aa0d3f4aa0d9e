-- `durations::tell_total` meets its contract: what is kept tells what the grand total tells.
-- Assumes nothing.
use mathlib.Core.Path.{ap, ◌∙◌}
use Rattle.duration.specs.Total.{told_total, grand_total}
use Rattle.duration.proofs.Totals.{total_told}
use Rattle.durations.proofs.tell_total.Goals as goal

pub returns : goal.returns
returns c =
    record {
      total =
          let ended = c.requires in
          let total = c.total_told.ensures.answer ∙ ap told_total ended.sum ∙ total_told (grand_total ended.pieces) in
          record { ended = ended; line = rw total at c.put_answer.ensures.line };
    }
