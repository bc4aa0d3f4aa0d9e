-- `variables::put_value` meets its contract, address by address.
-- Assumes nothing.
use Rattle.std.proofs.Common.{◌≤◌, ◌∙◌, ap, arith}
use Rattle.formats.proofs.TextWritten.{writes_as}
use Rattle.texts.specs.Text.{line_text}
use Rattle.variables.specs.Variables.{value}
use Rattle.variables.proofs.Addresses.{shows_line, shows_zero, shows_outputs, shows_count, counter_place}
use Rattle.variables.proofs.put_value.Goals.{in-201, in-202, in-208, in-209, in-210, in-211, in-212, in-203-to-206, in_default}
use Rattle.variables.proofs.put_value.Goals as goal

pub returns-in-0-to-200-clause-wrote : goal.returns-in-0-to-200-clause-wrote
returns-in-0-to-200-clause-wrote c = writes_as c.put_line_text.ensures.wrote (ap line_text c.line_of.ensures.line ∙ shows_line _ _ _ _ _ (omega arith))

pub returns-clause-wrote : goal.returns-clause-wrote
unfolding value
returns-clause-wrote c =
    writes_as c.digits.ensures.wrote elim c.match-k.branch [
      | in-201 w ↦ rw (w.base-is, w.in-201.is, w.status.ensures.bits)
      | in-202 w ↦ rw w.base-is (shows_zero c.args.panel c.args.run _ _ _ w.in-202.is)
      | in-208 w ↦ rw (w.base-is, w.in-208.is)
      | in-209 w ↦ rw (w.base-is, w.in-209.is)
      | in-210 w ↦ rw (w.base-is, w.in-210.is)
      | in-211 w ↦ rw (w.base-is, w.in-211.is)
      | in-212 w ↦ rw (w.base-is, w.in-212.is)
      | in-203-to-206 w ↦ let low : 203 ≤ c.args.k = grind arith in rw (w.base-is, w.output_byte.ensures.byte) (shows_outputs c.args.panel c.args.run _ _ _ low (omega arith))
      | in_default w ↦ let low : 213 ≤ c.args.k = grind arith in rw (w.base-is, counter_place c.args.k) (shows_count c.args.panel c.args.run _ _ _ low)
    ]
