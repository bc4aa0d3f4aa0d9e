-- `console::Bench::byte` meets its contract: by that of the call, and its reply is put behind what waits.
-- Assumes nothing.
use Rattle.controller.specs.Refusals as Calls
use Rattle.calls.proofs.Kept.{call_kept}
use Rattle.console.proofs.Inputs.{byte_does}
use Rattle.console.proofs.Bench.byte.Goals as goal

pub invariant_of-self : goal.invariant_of-self
invariant_of-self c = call_kept (Calls.byte c.args.x) _ _ c.byte-a.result c.byte-a.ensures.call c.self.invariant

pub returns : goal.returns
returns c = rw (← c.self.view_is) record { does = byte_does c.byte-a.result c.args.x c.byte-a.ensures.call (rw c.written.ensures.written at c.put_first.ensures.puts) }
