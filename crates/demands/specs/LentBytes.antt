-- Every lent area holds bytes, as any area of a machine does.
-- 01, 'Calls and what is lent', speaks of areas of so many bytes; the definitions of the calls take lists of any numbers.
use Rattle.std.specs.Prelude.{Bool, ◌&&◌, List}
use Rattle.formats.specs.Checks.{all}
use Rattle.formats.specs.Bytes.{are_bytes}
use Rattle.controller.specs.Controller.{Areas}
use Rattle.demands.specs.Histories.{Made}

abbrev pub are_of_bytes : Areas → Bool
are_of_bytes a = are_bytes a.program && are_bytes a.saved && are_bytes a.log && are_bytes a.out

-- what is lent to the call m is of bytes; so is what is lent to each of the calls ms
abbrev pub lends_bytes : Made → Bool
lends_bytes m = are_of_bytes m.areas

abbrev pub lend_bytes : List Made → Bool
lend_bytes ms = all lends_bytes ms
