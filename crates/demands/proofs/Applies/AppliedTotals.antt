-- Promises that apply, the switching totals: every script passes its tests, computed. That these tests are the theorems' own premises, so that the
-- theorems are put to use, is `PutToUse`.
-- Assumes nothing.
use mathlib.Core.Path.{◌≡◌, refl}
use mathlib.Core.List.{[]}
use Rattle.formats.specs.Checks as Checks
use Rattle.formats.specs.Digits as Digits
use Rattle.formats.specs.Bytes as Bytes
use Rattle.lines.specs.Line as Line
use Rattle.lines.specs.Program as Program
use Rattle.texts.specs.Text as Text
use Rattle.running.specs.Running as Running
use Rattle.variables.specs.Variables as Variables
use Rattle.boxlog.specs.Record as Record
use Rattle.boxlog.specs.Log as Log
use Rattle.wire.specs.Collecting as Collecting
use Rattle.special.specs.Special as Special
use Rattle.wire.specs.Command as Command
use Rattle.controller.specs.Controller as Controller
use Rattle.controller.specs.Deeds as Deeds
use Rattle.controller.specs.Refusals as Refusals
use Rattle.controller.specs.Effects as Effects
use Rattle.controller.specs.Calls as Calls
use Rattle.reader.specs.Reading as Reading
use Rattle.reader.specs.Layout as Layout
use Rattle.reader.specs.Possible as Possible
use Rattle.channels.specs.Totals as Totals
use Rattle.channels.specs.Bringing as Bringing
use Rattle.demands.specs.Histories as Histories
use Rattle.demands.specs.Capitals as Capitals
use Rattle.demands.specs.Told as Told
use Rattle.demands.specs.Walks as Walks
use Rattle.demands.specs.TotalScripts as TotalScripts
use Rattle.demands.specs.Applying as Applying
use Rattle.demands.specs.Applying.{failing}
use Rattle.demands.specs.Scripts.{total_scripts}

-- On each history the premises hold, its logs are taken, and the totals are what they should be.
pub totals_pass : failing 1 total_scripts ≡ []
unfolding failing total_scripts Applying.failing_of TotalScripts.partly TotalScripts.totals Bringing.bring_all Walks.asks_of
    Walks.refusals_of Walks.written_of Walks.next_by Walks.note_by Walks.went_on Walks.moment Walks.trail Walks.written_in Walks.is_as_said Histories.outcome
    Told.with_byte Told.said Told.afterwards Told.tell Capitals.counts_as Checks.◌>>=◌ Checks.◌>>◌ Checks.◌or_else◌ Checks.text Digits.digits
    Digits.number_after Digits.shown Digits.number_in Digits.h_in Digits.d_in Digits.error_text Bytes.placed Line.read_line Line.bytes_of Program.line_at
    Program.first_next Program.next_after Text.line_text Text.counter_in Text.state_in Text.for_in Text.next_in Text.line_in Running.stopped Running.onward
    Running.run_line Running.step Running.run_due Running.start Running.tick Running.ticks Reading.own_words Reading.is_change_record Reading.is_gap
    Reading.joins Reading.can_hold Reading.may_follow Reading.is_possible Reading.may_stand Reading.read_after Reading.reading_as Reading.changes_in
    Layout.layout_of Layout.record_in Possible.in_one_byte Possible.leads_to Record.record_of Record.change_record Record.gap_record Log.add_change Log.records
    Log.emptied Collecting.collect Collecting.sent Special.forbidden Special.special_of Command.address_in Command.special_in Command.data_in
    Command.read_command Command.write_command Command.command_in Command.command Controller.fresh Variables.line_of Variables.is_bad_at Variables.output_byte
    Variables.with_output_byte Variables.value Deeds.writing Deeds.raise Deeds.moved Deeds.start_at Deeds.stop Deeds.load Deeds.save Deeds.special Deeds.write
    Deeds.legible Deeds.answer Deeds.byte Deeds.ticked Deeds.pressed Deeds.empty_log Deeds.power_up Refusals.lent Refusals.check Effects.finished
    Effects.start_line Effects.replaces Calls.does Calls.logged Calls.call Totals.is_closed Totals.word_from Totals.closes Totals.opens Totals.lost_in
    Totals.is_or_more Totals.ticks_closed Totals.beside_after Totals.forward_one Bringing.log_for Bringing.is_later Bringing.matches Bringing.are_totals
    Bringing.are_in_reach Bringing.brought_by Bringing.bringing
totals_pass = refl
