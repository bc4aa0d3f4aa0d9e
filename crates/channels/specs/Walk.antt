-- How the code goes about it: one walk over the records of a log for all channels, and then each channel's record by itself. Nobody has to believe this.
use Rattle.std.specs.Prelude.{ℕ, ◌+◌, ◌-◌, ◌%◌, ◌≤◌, ◌<◌, ◌≡◌, Bool, true, false, ◌||◌, List, length, get_or, eqb, Option, Some, None}
use Rattle.std.specs.Prelude.{if◌then◌else◌}
use Rattle.formats.specs.Checks.{Res, refused, passed, ◌>>◌, ◌or_else◌}
use Rattle.reader.specs.declared.Record.{Record}
use Rattle.reader.specs.declared.Told.{Told}
use Rattle.reader.specs.declared.Gap.{Gap}
use Rattle.reader.specs.declared.Layout.TheVariants.{Sixteen}
use Rattle.reader.specs.Layout.{records_in}
use Rattle.reader.specs.Reading.{record_at, reading_as, told}
use Rattle.channels.specs.declared.Channel.{Channel}
use Rattle.channels.specs.declared.Beside.{Beside}
use Rattle.channels.specs.declared.Gain.{Gain}
use Rattle.channels.specs.declared.Counts.{Counts}
use Rattle.channels.specs.Totals.{is_closed, is_change, word_from, closes, opens, count_of, ticks_closed, beside_after}
use Rattle.channels.specs.Bringing.{log_for, is_later, matches, is_total, are_totals}

-- ---- the log

-- the records that the code goes by
abbrev pub first_of : ℕ → List ℕ → List Record
first_of n log = records_in Sixteen n log

-- what the reader told of a log of 16-byte records
pub record Reads (t : Told) (log : List ℕ) : Type 0 where
  pub read : reading_as Sixteen log ≡ passed (first_of t.records log)
  pub told : t ≡ told Sixteen (first_of t.records log)

-- 072 and 073, where one is told
unfoldable pub joining : Beside → List Record → Res (Unit {0})
joining b rs = is_later b rs or_else 72 >> matches b rs or_else 73

-- the number lost, by what the reader told of a gap
abbrev pub lost_told : Option Gap → ℕ
lost_told None = 0
lost_told (Some g) = g.lost

-- what is kept beside the totals, by what the reader told of the last record and of a gap, where the number unknown does not pass the end
abbrev pub beside_told : Beside → Option Record → ℕ → Option Beside
beside_told b None lost = Some b
beside_told b (Some r) lost =
    if is_total (b.unknown + lost)
    then Some (record { tick = r.tick; word = word_from r; unknown = b.unknown + lost; more = b.more || eqb lost 4294967295 })
    else None

-- the record r joins to what was read last
pub record Joins (b : Beside) (r : Record) : Type 0 where
  pub later : b.tick ≤ r.tick
  pub word : is_change r ≡ true → r.word ≡ b.word

-- so does each of the first n records of a log to the one before it
abbrev pub Joined : Beside → ℕ → List ℕ → Type 0
Joined b n log = (k : ℕ) → k < n → Joins (beside_after b (first_of k log)) (record_at Sixteen k log)

-- ---- the gains of the channels

abbrev pub no_gain : Gain
no_gain = record { closings = 0; openings = 0; ticks = 0; since = 0 }

-- a channel that is switched by a record at that tick, and whose bit is the lowest of w then; `counted` is 1 for a change
unfoldable pub switched_of : Gain → ℕ → ℕ → ℕ → Gain
switched_of g w tick counted =
    if eqb (w % 2) 1 then record { closings = g.closings + counted; openings = g.openings; ticks = g.ticks; since = tick }
    else record { closings = g.closings; openings = g.openings + counted; ticks = g.ticks + (tick - g.since); since = tick }

-- the ticks of a channel's gain, up to the last record
unfoldable pub closed_for : Gain → Beside → ℕ → ℕ
closed_for g last i = g.ticks + (if is_closed i last.word then last.tick - g.since else 0)

-- the gain of channel i by the records rs
pub record Stands (i : ℕ) (b : Beside) (rs : List Record) (g : Gain) : Type 0 where
  pub closings : g.closings ≡ count_of (closes i) rs
  pub openings : g.openings ≡ count_of (opens i) rs
  pub ticks : closed_for g (beside_after b rs) i ≡ ticks_closed i b.tick b.word rs
  pub since : g.since ≤ (beside_after b rs).tick
  pub within : g.ticks ≤ g.since

-- of all channels
pub record AllStand (b : Beside) (rs : List Record) (gains : List Gain) : Type 0 where
  pub count : length gains ≡ 32
  pub each : (i : ℕ) → i < 32 → Stands i b rs (get_or gains i no_gain)

-- within a record: `altered` are the bits that are still to be gone through, and the channels of all others are brought over it
pub record PartStand (b : Beside) (rs ss : List Record) (altered : ℕ) (gains : List Gain) : Type 0 where
  pub count : length gains ≡ 32
  pub due : (i : ℕ) → i < 32 → is_closed i altered ≡ true → Stands i b rs (get_or gains i no_gain)
  pub done : (i : ℕ) → i < 32 → is_closed i altered ≡ false → Stands i b ss (get_or gains i no_gain)

-- before the first record
pub record Begun (tick : ℕ) (gains : List Gain) : Type 0 where
  pub count : length gains ≡ 32
  pub each : (i : ℕ) → i < 32 → get_or gains i no_gain ≡ record { closings = 0; openings = 0; ticks = 0; since = tick }

-- what is asked of gains that end at the last record, and what they are then
pub record AllWithin (last : Beside) (gains : List Gain) : Type 0 where
  pub since : (i : ℕ) → i < 32 → (get_or gains i no_gain).since ≤ last.tick
  pub ticks : (i : ℕ) → i < 32 → (get_or gains i no_gain).ticks ≤ (get_or gains i no_gain).since

abbrev pub ended_of : Gain → Beside → ℕ → Gain
ended_of g last i = record { closings = g.closings; openings = g.openings; ticks = closed_for g last i; since = g.since }

pub record AllEnded (gains : List Gain) (last : Beside) (ended : List Gain) : Type 0 where
  pub count : length ended ≡ 32
  pub each : (i : ℕ) → i < 32 → get_or ended i no_gain ≡ ended_of (get_or gains i no_gain) last i

-- what the records rs bring channel i
pub record Brings (i : ℕ) (b : Beside) (rs : List Record) (g : Gain) : Type 0 where
  pub closings : g.closings ≡ count_of (closes i) rs
  pub openings : g.openings ≡ count_of (opens i) rs
  pub ticks : g.ticks ≡ ticks_closed i b.tick b.word rs

abbrev pub AllBring : Beside → List Record → List Gain → Type 0
AllBring b rs gains = (i : ℕ) → i < 32 → Brings i b rs (get_or gains i no_gain)

-- ---- what a log brings, where there are n channel records

pub record Counting (n : ℕ) (log : List ℕ) (b : Beside) (k : Counts) : Type 0 where
  pub records : List Record
  pub read : log_for n log ≡ passed records
  pub joins : joining b records ≡ passed tt
  pub total : is_total (beside_after b records).unknown ≡ true
  pub bring : AllBring b records k.gains
  pub beside : k.beside ≡ beside_after b records

-- or why it brings nothing
pub data Stopped (n : ℕ) (log : List ℕ) (b : Beside) (e : ℕ) : Type 0 where
  unread : log_for n log ≡ refused e → Stopped n log b e
  apart : (rs : List Record) → log_for n log ≡ passed rs → joining b rs ≡ refused e → Stopped n log b e
  lost : (rs : List Record) → log_for n log ≡ passed rs → joining b rs ≡ passed tt → is_total (beside_after b rs).unknown ≡ false → e ≡ 74
      → Stopped n log b e

abbrev pub Counted : ℕ → List ℕ → Beside → Res Counts → Type 0
Counted n log b (refused e) = Stopped n log b e
Counted n log b (passed k) = Counting n log b k

-- ---- one channel's record

abbrev pub sum_with : Channel → Gain → Channel
sum_with c g = record { closings = c.closings + g.closings; openings = c.openings + g.openings; ticks = c.ticks + g.ticks }

abbrev pub moved_of : Channel → Gain → Option Channel
moved_of c g = if are_totals (sum_with c g) then Some (sum_with c g) else None

-- ---- the record of the channel at place i

abbrev pub fits_of : List Gain → Channel → ℕ → Bool
fits_of gains c i = are_totals (sum_with c (get_or gains i no_gain))

abbrev pub next_of : List Gain → Channel → ℕ → Channel
next_of gains c i = if fits_of gains c i then sum_with c (get_or gains i no_gain) else c
