-- 02, item 1: the changes since power-on or the last emptying are such as the reader of the log takes for possible, whatever calls are
-- made, if what is lent is bytes.
-- Assumes nothing.
use mathlib.Core.Path.{◌≡◌}
use mathlib.Core.Bool.{true}
use mathlib.Core.List.{List}
use Rattle.reader.specs.Possible.{are_possible}
use Rattle.reader.proofs.Possible.{next_possible}
use Rattle.demands.specs.Histories.{Made}
use Rattle.demands.specs.Changes.{changes}
use Rattle.demands.specs.LentBytes.{lend_bytes}
use Rattle.demands.proofs.Logs.Leading.{changes_lead}

-- After any calls whose lent areas hold bytes, the changes since power-on or the last emptying are possible ones.
pub changes_possible : (ms : List Made) → lend_bytes ms ≡ true → are_possible (changes ms) ≡ true
changes_possible ms bytes = let l = (changes_lead ms bytes).0 in next_possible l.from (changes ms) l.reached.next
