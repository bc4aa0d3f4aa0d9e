-- What a call by reference leaves: the box in the record, the rest said beside it.
use Rattle.controller.specs.Controller.{Areas}
use Rattle.controller.specs.Calls.{After}
use Rattle.calls.specs.declared.SwitchBox.{SwitchBox}
use Rattle.nizhalepu.specs.declared.Said.{Said}

-- the state from the record, the numbers that were said, and the areas after the call
abbrev pub in_record : Said → SwitchBox → Areas → After
in_record s b a = record { state = b.controller; refusal = s.refusal; lines = s.lines; written = s.written; areas = a }
