-- Promises that apply: calls that are refused, for the scripts. The log has 64 bytes and holds a record.
use Rattle.std.specs.Prelude.{List, [], ◌∷◌}
use Rattle.controller.specs.Refusals.{byte, tick, press, emptying}
use Rattle.demands.specs.CallsTable.{lent}
use Rattle.demands.specs.Walks.{Act, lends}

-- a tick, each button and an emptying
abbrev pub others : List Act
others =
    lends tick (lent 1599 0 64 0) 30
    ∷ lends tick (lent 1600 0 63 0) 31
    ∷ lends (press 1) (lent 1601 0 64 0) 30
    ∷ lends (press 1) (lent 1600 0 32 0) 31
    ∷ lends (press 2) (lent 0 0 64 0) 30
    ∷ lends (press 3) (lent 1600 0 64 0) 34
    ∷ lends emptying (lent 0 0 65 64) 31
    ∷ lends emptying (lent 0 0 64 15) 35
    ∷ []

-- byte 13, of whatever command has arrived
abbrev pub ends : List Act
ends =
    lends (byte 13) (lent 1599 1600 64 16) 30
    ∷ lends (byte 13) (lent 1600 0 64 16) 30
    ∷ lends (byte 13) (lent 1600 1600 48 16) 31
    ∷ lends (byte 13) (lent 1600 1600 64 15) 32
    ∷ []
