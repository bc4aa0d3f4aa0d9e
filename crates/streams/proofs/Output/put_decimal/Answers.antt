-- `streams::Output::put_decimal` meets its contract: twenty digits have room.
-- Assumes nothing.
use Rattle.formats.proofs.Decimals.{decimal_long}
use borrow.Author.Rules.{rules}
use Rattle.streams.proofs.Output.put_decimal.Goals as goal

pub decimal-requires : goal.decimal-requires
decimal-requires g c = search (rules, decimal_long 19 c.args.v (search rules))
