-- `planner::Writer::stretch` meets its contract: one State, or a loop and what is left.
-- Assumes nothing.
use Prim.Native.Nat.{◌/◌}
use native.Mathlib.Omega.{arith}
use mathlib.Core.Path.{sym, ap, ◌∙◌}
use mathlib.Core.List.{◌++◌, append-nil}
use Rattle.planner.specs.Lines.{loop_lines}
use Rattle.planner.proofs.Laying.{short_lines, long_lines, no_remainder, some_remainder, laid_as, laid_more}
use Rattle.planner.proofs.Writer.stretch.Goals as goal

pub returns-then-time-le-LONGEST-clause-lays : goal.returns-then-time-le-LONGEST-clause-lays
returns-then-time-le-LONGEST-clause-lays c = laid_as c.state.ensures.lays (sym (short_lines c.args.word c.args.time c.if-time-le-LONGEST.true))

pub returns-then-rest-ne0-clause-lays : goal.returns-then-rest-ne0-clause-lays
returns-then-rest-ne0-clause-lays c =
    laid_as (laid_more c.looped.ensures.lays (omega (arith, c.looped.ensures.near, c.requires.0, c.requires.1)) c.state-then-rest-ne0.ensures.lays)
    (sym (long_lines c.args.word c.args.time c.if-time-le-LONGEST.false
    ∙ ap (λ l. loop_lines c.args.word (c.args.time / 9999) ++ l) (some_remainder c.args.word _ c.if-rest-ne0.true)))

pub returns-else-rest-ne0-clause-lays : goal.returns-else-rest-ne0-clause-lays
returns-else-rest-ne0-clause-lays c =
    laid_as c.looped.ensures.lays
    (sym (long_lines c.args.word c.args.time c.if-time-le-LONGEST.false
    ∙ ap (λ l. loop_lines c.args.word (c.args.time / 9999) ++ l) (no_remainder c.args.word _ c.if-rest-ne0.false) ∙ append-nil _))
