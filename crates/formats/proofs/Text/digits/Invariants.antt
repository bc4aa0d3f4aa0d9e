-- `formats::Text::digits` meets its contract. The invariant of its loop: the digits from number i on stand there, and `rest` has those before. The measure
-- is how many are left.
-- Assumes nothing.
use Rattle.formats.proofs.DigitsWritten.{Left}
use lib.ListN.{length}
use mathlib.Core.Path.{◌≡◌}
use Rattle.formats.proofs.Text.digits.Given as goal

abbrev pub invariant-loop-i : goal.invariant-loop-i
invariant-loop-i l =
    (l.self.area.ghost_name ≡ l.initial.self.area.ghost_name)
    × (l.self.at ≡ l.initial.self.at)
    × (length l.self.area.now ≡ length l.initial.self.area.now)
    × Left l.base l.initial.self.area.now l.initial.self.at l.n l.v l.i l.rest l.self.area.now

abbrev pub decreases-loop-i : goal.decreases-loop-i
decreases-loop-i l = l.i
