-- `channels::join` meets its contract.
-- Assumes nothing.
use Rattle.channels.proofs.Counting.{join_none, join_early, join_other, join_well}
use Rattle.channels.proofs.join.Goals as goal

pub returns-then-n-eq0 : goal.returns-then-n-eq0
returns-then-n-eq0 c = record { joins = join_none _ _ _ c.if-n-eq0.true }

pub returns-then-first-beside : goal.returns-then-first-beside
returns-then-first-beside c = record { joins = join_early _ _ _ c.if-n-eq0.false c.record_at-first.ensures.«record» c.if-first-beside.true }

pub returns-then-first-beside-2 : goal.returns-then-first-beside-2
returns-then-first-beside-2 c =
    record { joins = join_other _ _ _ c.if-n-eq0.false c.record_at-first.ensures.«record» c.if-first-beside.false c.if-first-beside-2.true }

pub returns : goal.returns
returns c =
    record { joins = join_well _ _ _ c.if-n-eq0.false c.record_at-first.ensures.«record» c.if-first-beside.false c.if-first-beside-2.false }
