-- `totals::told` meets its contract: what is told is what comes of the logs that were read.
-- Assumes nothing.
use Rattle.totals.proofs.Chains.{tells_refused, tells_taken}
use Rattle.totals.proofs.told.Goals as goal

pub returns-in-Some : goal.returns-in-Some
returns-in-Some c = record { tells = rw c.in-Some.is (tells_refused (rw c.in-Some.is at c.requires.1) c.refusal_whole.ensures.«open» c.refusal_whole.ensures.whole) }

pub returns-in-None : goal.returns-in-None
returns-in-None c = record { tells = rw c.in-None.is (tells_taken (rw c.in-None.is at c.requires.1) c.table_whole.ensures.«open» c.table_whole.ensures.whole) }
