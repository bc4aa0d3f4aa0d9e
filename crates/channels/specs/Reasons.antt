-- The reasons of refusals, in the words of the sentences.
-- 02, item 11: "Refusals, in order: those of the reader, and 051 for a 12-byte log it accepts; 072 a log whose first tick is earlier than the last one
-- read; 073 a log whose first earlier word doesn't match the last word read; 074 any total would pass 18,446,744,073,709,551,615; 075 other than 32
-- records, checked first."
use Rattle.std.specs.Prelude.{ℕ, ◌+◌, ◌/◌, ◌≤◌, ◌<◌, ◌≡◌, ◌≢◌, List, length, get_or}
use Rattle.reader.specs.declared.Record.{Record}
use Rattle.reader.specs.declared.Layout.TheVariants.{Twelve, Sixteen}
use Rattle.reader.specs.Layout.{records_in}
use Rattle.reader.specs.Reading.{record_at}
use Rattle.reader.specs.Produced.{AcceptedLog}
use Rattle.reader.specs.Reasons.{GoesBy, First}
use Rattle.channels.specs.declared.Channel.{Channel}
use Rattle.channels.specs.declared.Beside.{Beside}
use Rattle.channels.specs.Totals.{unused, closes, opens, count_of, ticks_closed, beside_after}

-- the records of a log of 16-byte records
abbrev pub records_of_log : List ℕ → List Record
records_of_log log = records_in Sixteen (length log / 16) log

abbrev pub most_total : ℕ
most_total = 18446744073709551615

-- "any total would pass" it: one of a channel's three, or the number unknown
pub data PassesEnd (cs : List Channel) (b : Beside) (rs : List Record) : Type 0 where
  closings : (i : ℕ) → i < length cs → most_total < (get_or cs i unused).closings + count_of (closes i) rs → PassesEnd cs b rs
  openings : (i : ℕ) → i < length cs → most_total < (get_or cs i unused).openings + count_of (opens i) rs → PassesEnd cs b rs
  ticks : (i : ℕ) → i < length cs → most_total < (get_or cs i unused).ticks + ticks_closed i b.tick b.word rs → PassesEnd cs b rs
  unknown : most_total < (beside_after b rs).unknown → PassesEnd cs b rs

-- A reason for the number e, at its place in the order.
pub data Reason (cs : List Channel) (log : List ℕ) (b : Beside) (place e : ℕ) : Type 0 where
  -- "other than 32 records, checked first"
  e075 : place ≡ 0 → e ≡ 75 → length cs ≢ 32 → Reason cs log b place e
  -- "those of the reader", of which it tells the first
  by_reader : place ≡ 1 → First log e → Reason cs log b place e
  -- "051 for a 12-byte log it accepts"
  e051 : place ≡ 2 → e ≡ 51 → AcceptedLog log → GoesBy log Twelve → Reason cs log b place e
  -- "a log whose first tick is earlier than the last one read"
  e072 : place ≡ 3 → e ≡ 72 → 16 ≤ length log → (record_at Sixteen 0 log).tick < b.tick → Reason cs log b place e
  -- "a log whose first earlier word doesn't match the last word read"
  e073 : place ≡ 4 → e ≡ 73 → 16 ≤ length log → (record_at Sixteen 0 log).word ≢ b.word → Reason cs log b place e
  -- "any total would pass 18,446,744,073,709,551,615"
  e074 : place ≡ 5 → e ≡ 74 → PassesEnd cs b (records_of_log log) → Reason cs log b place e

-- It has a reason, and no reason is of an earlier place.
pub record FirstReason (cs : List Channel) (log : List ℕ) (b : Beside) (e : ℕ) : Type 0 where
  pub place : ℕ
  pub reason : Reason cs log b place e
  pub none_before : (p f : ℕ) → p < place → Reason cs log b p f → ⊥
