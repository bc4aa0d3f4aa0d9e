-- `totals::tell_refused` meets its contract: the log and its first record are there.
-- Assumes nothing.
use Rattle.totals.proofs.Chains.{ends_first}
use borrow.Author.Rules.{rules}
use Rattle.totals.proofs.tell_refused.Goals as goal

pub message_whole-message-requires : goal.message_whole-message-requires
message_whole-message-requires c = (search rules, ends_first c.requires.1)
