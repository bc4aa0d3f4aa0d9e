-- What holds of the wire after power-on and is kept by every call.
use Rattle.std.specs.Prelude.{◌≤◌, ◌≡◌, length}
use Rattle.wire.specs.declared.Wire.{Wire}
use Rattle.wire.specs.Collecting.{most_chars}

pub record WireInvariant (w : Wire) : Type 0 where
  pub whole : length w.chars ≡ most_chars
  pub fits : w.len ≤ most_chars
  -- the last address of each direction is one of 000-216 or "before 000", and the one after it is kept
  pub next_read : w.nextread ≤ 217
  pub next_write : w.nextwrite ≤ 217
