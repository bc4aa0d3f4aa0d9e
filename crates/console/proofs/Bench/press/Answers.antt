-- `console::Bench::press` meets its contract: by that of the call.
-- Assumes nothing.
use Rattle.controller.specs.Refusals as Calls
use Rattle.calls.proofs.Kept.{call_kept}
use Rattle.console.proofs.Inputs.{press_silently}
use Rattle.console.proofs.Bench.press.Goals as goal

pub invariant_of-self : goal.invariant_of-self
invariant_of-self c = call_kept (Calls.press c.args.n) _ _ c.press-a.result c.press-a.ensures.call c.self.invariant

pub returns : goal.returns
returns c = let s = press_silently c.args.n c.press-a.result c.press-a.ensures.call in rw (← c.self.view_is) record { held = s.held; silent = s.silent }
