-- What a log brings, apart from what is carried.
use Rattle.std.specs.Prelude.{ℕ, ◌+◌, ◌<◌, ◌≡◌, false, ◌||◌, List, get_or, replicate}
use Rattle.formats.specs.Checks.{passed}
use Rattle.channels.specs.declared.Channel.{Channel}
use Rattle.channels.specs.declared.Beside.{Beside}
use Rattle.channels.specs.Totals.{unused}
use Rattle.channels.specs.Bringing.{bringing}

-- two records of a channel added up
abbrev pub plus : Channel → Channel → Channel
plus c d = record { closings = c.closings + d.closings; openings = c.openings + d.openings; ticks = c.ticks + d.ticks }

-- the same tick and word read last, and nothing unknown so far
abbrev pub uncarried : Beside → Beside
uncarried b = record { tick = b.tick; word = b.word; unknown = 0; more = false }

-- A log that brings the records cs to ds, and what is kept beside them from b to d, brings unused ones to zs: each record is then the sum of what it was and
-- of what the log brings an unused one, and so is the number unknown.
pub record Adds (cs : List Channel) (log : List ℕ) (b : Beside) (ds : List Channel) (d : Beside) : Type 0 where
  pub zs : List Channel
  pub z : Beside
  pub unused_ones : bringing (replicate 32 unused) log (uncarried b) ≡ passed (zs, z)
  pub channels : (i : ℕ) → i < 32 → get_or ds i unused ≡ plus (get_or cs i unused) (get_or zs i unused)
  pub tick : d.tick ≡ z.tick
  pub word : d.word ≡ z.word
  pub unknown : d.unknown ≡ b.unknown + z.unknown
  pub more : d.more ≡ (b.more || z.more)
