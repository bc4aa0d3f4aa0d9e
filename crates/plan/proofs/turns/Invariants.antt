-- `plan::turns` meets its contract: what was read so far is some bytes.
-- Assumes nothing.
use Rattle.plan.specs.Reading.{ReadOn}
use Rattle.plan.proofs.turns.Given as goal

abbrev pub invariant-loop : goal.invariant-loop
invariant-loop l = ReadOn l.initial.reader l.reader
