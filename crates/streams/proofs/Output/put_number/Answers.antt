-- `streams::Output::put_number` meets its contract: twenty digits have room, and the byte behind them.
-- Assumes nothing.
use Rattle.formats.proofs.Decimals.{decimal_long}
use borrow.Author.Rules.{rules}
use Rattle.streams.proofs.Output.put_number.Goals as goal

pub decimal-requires : goal.decimal-requires
decimal-requires g c = search (rules, decimal_long 19 c.args.v (search rules))

pub char-requires : goal.char-requires
char-requires g c = search (rules, decimal_long 19 c.args.v (search rules))
