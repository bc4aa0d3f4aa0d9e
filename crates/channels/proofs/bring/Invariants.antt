-- `channels::bring` meets its contract: the turns that are left, from here on, come to what all turns come to.
-- Assumes nothing.
use Rattle.std.proofs.Common.{◌≡◌, ◌-◌}
use Rattle.channels.specs.Totals.{unused}
use Rattle.channels.specs.Walk.{next_of}
use Rattle.channels.proofs.Turns.{go_on}
use Rattle.channels.proofs.bring.Given as goal

abbrev pub invariant-loop-i : goal.invariant-loop-i
invariant-loop-i l = go_on (next_of l.gains) unused l.channels (32 - l.i) l.i ≡ go_on (next_of l.gains) unused l.initial.channels 32 0
