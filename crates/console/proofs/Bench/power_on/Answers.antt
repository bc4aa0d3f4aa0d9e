-- `console::Bench::power_on` meets its contract: by a power-on with zeros.
-- Assumes nothing.
use Rattle.calls.proofs.Kept.{power_on_gives}
use Rattle.console.proofs.Inputs.{power_on_begins}
use Rattle.console.proofs.Bench.power_on.Goals as goal

pub invariant_of-result : goal.invariant_of-result
invariant_of-result c = power_on_gives _ c.power_on-a.result c.power_on-a.ensures.call

pub returns : goal.returns
returns c = record { begins = power_on_begins c.power_on-a.result c.power_on-a.ensures.call }
