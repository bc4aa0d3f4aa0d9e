-- Nobody has to believe this: it says how the code goes, and no theorem speaks of it.
-- Text that is written into a lent area, piece behind piece.
use Rattle.std.specs.Prelude.{ℕ, List, ◌≡◌, ◌≤◌, length}
use Rattle.formats.specs.Writing.{Wrote}
use Rattle.formats.specs.declared.Text.{Text}

-- bytes were written behind a text, into the area that it has, and every other byte of the area stays
pub record Writes (bytes : List ℕ) (before after : Text) : Type 0 where
  pub size : length after.area.now ≡ length before.area.now
  pub room : after.at ≤ length before.area.now
  pub wrote : Wrote before.at bytes before.area.now after.at after.area.now
