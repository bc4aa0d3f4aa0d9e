-- The worked points marked P and the tables hold of the definitions: every rule that they touch is computed.
use mathlib.Core.Path.{◌≡◌, refl}
use mathlib.Core.List.{[]}
use Rattle.formats.specs.Checks as Checks
use Rattle.formats.specs.Digits as Digits
use Rattle.formats.specs.Bytes as Bytes
use Rattle.lines.specs.Line as Line
use Rattle.lines.specs.Program as Program
use Rattle.texts.specs.Text as Text
use Rattle.running.specs.Running as Running
use Rattle.variables.specs.Variables as Variables
use Rattle.boxlog.specs.Record as Record
use Rattle.boxlog.specs.Log as Log
use Rattle.wire.specs.Collecting as Collecting
use Rattle.special.specs.Special as Special
use Rattle.wire.specs.Command as Command
use Rattle.controller.specs.Controller as Controller
use Rattle.controller.specs.Deeds as Deeds
use Rattle.controller.specs.Refusals as Refusals
use Rattle.controller.specs.Effects as Effects
use Rattle.controller.specs.Calls as Calls
use Rattle.demands.specs.Exchanges as Exchanges
use Rattle.demands.specs.Exchanges.{failing}
use Rattle.demands.specs.Points.{points}
use Rattle.demands.specs.CallsTable.{calls}
use Rattle.demands.specs.WireTable.{wire}
use Rattle.demands.specs.VariablesTable.{variables}
use Rattle.demands.specs.RunningTable.{commands, running}
use Rattle.demands.specs.LogTable.{logs}
use Rattle.demands.specs.Tables.{tables}

-- both lists, since what computes them is the same
both : (failing 1 points ≡ []) × (failing 1 tables ≡ [])
unfolding failing points tables calls wire variables commands running logs Exchanges.first_reply Exchanges.later_replies Exchanges.wrote Exchanges.judged
    Exchanges.heard Exchanges.exchanged Exchanges.expecting Exchanges.completed Exchanges.answered Exchanges.called Exchanges.emptied_to Exchanges.stepped
    Exchanges.tried Exchanges.begun Exchanges.passes Checks.◌>>=◌ Checks.◌>>◌ Checks.◌or_else◌ Checks.text Digits.digits Digits.number_after Digits.shown
    Digits.number_in Digits.h_in Digits.d_in Digits.error_text Bytes.placed Line.read_line Line.bytes_of Program.line_at Program.first_next Program.next_after
    Text.line_text Text.counter_in Text.state_in Text.for_in Text.next_in Text.line_in Running.stopped Running.onward Running.run_line Running.step Running.run_due
    Running.start Running.tick Record.record_of Record.change_record Record.gap_record Log.add_change Log.records Log.emptied Collecting.collect Collecting.sent
    Special.forbidden Special.special_of Command.address_in Command.special_in Command.data_in Command.read_command Command.write_command Command.command_in
    Command.command Controller.fresh Variables.line_of Variables.is_bad_at Variables.output_byte Variables.with_output_byte Variables.value Deeds.writing
    Deeds.raise Deeds.moved Deeds.start_at Deeds.stop Deeds.load Deeds.save Deeds.special Deeds.write Deeds.legible Deeds.answer Deeds.byte Deeds.ticked
    Deeds.pressed Deeds.empty_log Deeds.power_up Refusals.lent Refusals.check Effects.finished Effects.start_line Effects.replaces Calls.does Calls.logged
    Calls.call
both = (refl, refl)

pub worked_points : failing 1 points ≡ []
worked_points = both.0

-- each rule of 01 at its edges
pub tables_computed : failing 1 tables ≡ []
tables_computed = both.1
