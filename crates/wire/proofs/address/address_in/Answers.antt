-- `wire::address::address_in` meets its contract where three characters are a number; the other ways are `address_ways`.
-- Assumes nothing.
use Rattle.std.proofs.Common.{sym, arith}
use Rattle.wire.proofs.Addresses.{by_number, beyond}
use Rattle.wire.proofs.address.address_in.Goals as goal

pub returns-in-Some : goal.returns-in-Some
returns-in-Some c =
    record { address = sym (by_number _ _ (λ z. omega arith) (λ z. omega arith) _ (sym (c.in-Some.ensures.number 4)) c.if-k-le216.true) }

pub returns-in_default-number_in : goal.returns-in_default-number_in
returns-in_default-number_in c =
    record { address = sym (beyond _ _ (λ z. omega arith) (λ z. omega arith) _ (sym (c.in-Some.ensures.number 4)) c.if-k-le216.false) }
