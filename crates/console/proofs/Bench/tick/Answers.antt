-- `console::Bench::tick` meets its contract: by that of the call.
-- Assumes nothing.
use Rattle.controller.specs.Refusals as Calls
use Rattle.calls.proofs.Kept.{call_kept}
use Rattle.console.proofs.Inputs.{tick_silently}
use Rattle.console.proofs.Bench.tick.Goals as goal

pub invariant_of-self : goal.invariant_of-self
invariant_of-self c = call_kept Calls.tick _ _ c.tick-a.result c.tick-a.ensures.call c.self.invariant

pub returns : goal.returns
returns c = let s = tick_silently c.tick-a.result c.tick-a.ensures.call in rw (← c.self.view_is) record { held = s.held; silent = s.silent }
