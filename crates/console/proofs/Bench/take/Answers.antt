-- `console::Bench::take` meets its contract: by the byte, the call that it is.
-- Assumes nothing.
use mathlib.Core.List.{[], ◌∷◌}
use mathlib.Core.Path.{sym, ◌∙◌}
use borrow.Author.Rules.{rules}
use Rattle.controller.specs.Refusals as Calls
use Rattle.console.specs.Inputs.{call_of, Does}
use Rattle.console.proofs.Inputs.{silent_does, rest_goes}
use Rattle.console.proofs.Bench.take.Goals as goal
use Rattle.console.proofs.Bench.take.Goals.{in-1, in-2, in-3, in_default}

does : (c : goal.After-is_open) → Does 4096 (call_of c.args.x ∷ []) c.args.self.now c.args.output.now c.match-x.self c.match-x.output
does c =
    let inside = c.is_open.ensures.within in
    elim c.match-x.branch [
      | in-1 w ↦ rw (w.in-1.is, w.self-is, w.output-is) (silent_does Calls.tick (rw w.output-is at inside) w.tick.ensures.held w.tick.ensures.silent)
      | in-2 w ↦ rw (w.in-2.is, w.self-is, w.output-is) (silent_does (Calls.press 1) (rw w.output-is at inside) w.press.ensures.held w.press.ensures.silent)
      | in-3 w ↦ rw (w.in-3.is, w.self-is, w.output-is) (silent_does (Calls.press 2) (rw w.output-is at inside) w.press-in-3.ensures.held w.press-in-3.ensures.silent)
      | in_default w ↦ let h = w.in_default in rw (rest_goes c.args.x (search rules) (search rules) (search rules), w.self-is, w.output-is) w.byte.ensures.does
    ]

pub returns : goal.returns
returns c = record { takes = record { does = does c; ends = λ off. sym c.is_open.ensures.is ∙ off } }
