-- Promises that apply: each theorem with a premise about calls is put to use on histories in which the premise holds, which are those of the scripts.
-- Nobody has to believe what is said here: it is said of each script by the theorems themselves.
-- Assumes nothing.
use mathlib.Core.Path.{refl}
use mathlib.Core.List.{List, [], ◌∷◌}
use Rattle.formats.specs.Checks.{text, same}
use Rattle.demands.specs.FirstSteps.{has_written}
use Rattle.demands.specs.Applying.{runs, ends_so, at_once, reads_end, at_start, at_tick, first_by, logs, lend, Script, tests_of}
use Rattle.demands.specs.Applying.{back, running, unpausing, ending, start_shown, tick_shown, first_read, first_write, logging, listing, one_read, totalling}
use Rattle.demands.specs.TotalScripts.{without_gap}
use Rattle.demands.specs.Scripts.{scripts, total_scripts}
use Rattle.demands.proofs.Applies.Walked.{AllTrue, true_front, EachPasses, each_passes}
use Rattle.demands.proofs.Applies.BackApplies.{BackSo, back_applies}
use Rattle.demands.proofs.Applies.RunsApply.{RunsSo, EndsSo, runs_apply, ends_apply, OnceSo, once_applies, PausesSo, pauses_apply}
use Rattle.demands.proofs.Applies.EndsApply.{StartShown, start_shown_lem, TickShown, tick_shown_lem}
use Rattle.demands.proofs.Applies.FirstApplies.{
  FirstReadSo,
  first_read_applies,
  FirstWriteSo,
  first_write_applies,
  ReadSo,
  read_applies,
}
use Rattle.demands.proofs.Applies.LogsApply.{LogsSo, logs_apply, ListsSo, lists_apply}
use Rattle.demands.proofs.Applies.TotalsApply.{TotalsSo, totals_apply, SeenSo, seen_apply}
use Rattle.demands.proofs.Applies.Applied.{scripts_pass}
use Rattle.demands.proofs.Applies.AppliedTotals.{totals_pass}

-- of a script, the conclusions of the theorems that it is for, at its calls
abbrev pub Applies : Script → Type 0
Applies (back x) = BackSo x
Applies (running kind x) = RunsSo x × EndsSo x kind
Applies (unpausing x) = PausesSo x
Applies (ending x) = OnceSo x
Applies (start_shown x e) = OnceSo x × StartShown x e
Applies (tick_shown x e) = RunsSo x × TickShown x e
Applies (first_read x) = FirstReadSo x
Applies (first_write line x) = FirstWriteSo x line
Applies (logging x) = LogsSo x
Applies (listing x) = LogsSo x × ListsSo x
Applies (one_read x) = ReadSo x
Applies (totalling x) = TotalsSo x

-- They have them from the premises alone, which are the tests that the script passes.
pub applies : (s : Script) → AllTrue (tests_of s) → Applies s
applies (back x) e = back_applies x e
applies (running kind x) e = let two = true_front (runs x) (ends_so kind x) e in (runs_apply x two.0, ends_apply x two.0 kind two.1)
applies (unpausing x) e = pauses_apply x e
applies (ending x) e = once_applies x e
applies (start_shown x r) e = let two = true_front (at_once x) (reads_end (at_start x) r) e in (once_applies x two.0, start_shown_lem x r two.0 two.1)
applies (tick_shown x r) e = let two = true_front (runs x) (reads_end (at_tick x) r) e in (runs_apply x two.0, tick_shown_lem x r two.0 two.1)
applies (first_read x) e = first_read_applies x e
applies (first_write line x) e =
    let two = true_front (first_by x "CW" line has_written) (same (text x.reply) (text "OK") ∷ []) e in
    first_write_applies x line two.0 two.1.0
applies (logging x) e = logs_apply x e
applies (listing x) e = let two = true_front (logs x) (lend x) e in (logs_apply x two.0, lists_apply x two.0 two.1)
applies (one_read x) e = read_applies x e
applies (totalling x) e = totals_apply x e

abbrev pub EachApplies : List Script → Type 0
EachApplies [] = Unit {0}
EachApplies (s ∷ ss) = Applies s × EachApplies ss

each_applies : (ss : List Script) → EachPasses ss → EachApplies ss
each_applies [] e = tt
each_applies (s ∷ ss) e = (applies s e.0, each_applies ss e.1)

-- Each theorem, put to use on each history of its own.
pub promises_apply : EachApplies scripts
promises_apply = each_applies scripts (each_passes 1 scripts scripts_pass)

-- And those of the switching totals.
pub totals_apply_too : EachApplies total_scripts
totals_apply_too = each_applies total_scripts (each_passes 1 total_scripts totals_pass)

-- In the first of these no gap is met: its totals are what is seen of the calls.
pub seen_without_gap : SeenSo without_gap
unfolding total_scripts
seen_without_gap = seen_apply without_gap refl totals_apply_too.0
