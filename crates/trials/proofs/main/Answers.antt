-- `trials::main` is safe: a refused power-on gives the invariant that the calls require.
-- Assumes nothing.
use Rattle.calls.proofs.Kept.{power_on_gives}
use Rattle.trials.proofs.main.Goals as goal

pub turns-requires : goal.turns-requires
turns-requires c = power_on_gives _ c.power_on-a.result c.power_on-a.ensures.call
