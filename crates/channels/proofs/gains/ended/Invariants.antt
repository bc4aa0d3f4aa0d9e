-- `channels::gains::ended` meets its contract: the gains that the loop has passed are ended.
-- Assumes nothing.
use Rattle.channels.proofs.Ending.{Ending}
use Rattle.channels.proofs.gains.ended.Given as goal

abbrev pub invariant-loop-i : goal.invariant-loop-i
invariant-loop-i l = Ending l.initial.gain-items l.last l.i l.gain-items
