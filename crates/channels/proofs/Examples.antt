-- Logs small enough to count by hand, and what comes of them: every rule of 02, item 11, shows in one of them.
-- Assumes nothing.
use mathlib.Core.Path.{◌≡◌, refl}
use Prim.Native.Nat.{ℕ, suc}
use mathlib.Core.Bool.{Bool, true, false}
use mathlib.Core.List.{List, [], ◌∷◌, ◌++◌}
use lib.ListN.{get_or, set, replicate}
use Rattle.std.specs.Prelude.{if◌then◌else◌}
use Rattle.formats.specs.Checks.{Res, refused, passed, ◌>>=◌, ◌>>◌, ◌or_else◌, same}
use Rattle.formats.specs.Digits.{digits, number_after}
use Rattle.boxlog.specs.Record.{record_of}
use Rattle.reader.specs.Possible.{in_one_byte, leads_to}
use Rattle.reader.specs.Layout.{older_record_of, layout_of, record_in}
use Rattle.reader.specs.Reading.{own_words, is_change_record, is_gap, joins, can_hold, may_follow, is_possible, may_stand, read_after, reading_as}
use Rattle.channels.specs.declared.Channel.{Channel}
use Rattle.channels.specs.declared.Beside.{Beside}
use Rattle.channels.specs.Totals.{is_closed, unused, at_start, word_from, closes, opens, lost_in, is_or_more, ticks_closed, beside_after, forward_one}
use Rattle.channels.specs.Bringing.{log_for, is_later, matches, are_totals, are_in_reach, brought_by, bringing}

-- ---- logs, by tick, word and the word before; by the first lost tick, the number lost and the word after

abbrev change : ℕ → ℕ → ℕ → List ℕ
change tick word before = record_of 1 254 tick word before

abbrev gap : ℕ → ℕ → ℕ → List ℕ
gap first lost word = record_of 2 0 first lost word

-- 32 records of which nothing is counted, and one channel's
abbrev fresh : List Channel
fresh = replicate 32 unused

abbrev of : ℕ → ℕ → ℕ → Channel
of c o t = record { closings = c; openings = o; ticks = t }

abbrev beside : ℕ → ℕ → ℕ → Bool → Beside
beside t w u m = record { tick = t; word = w; unknown = u; more = m }

-- ---- what comes of it: the records of channels 1, 2 and 32, and what is kept beside, as numbers; or the refusal

abbrev one : Bool → ℕ
one true = 1
one false = 0

abbrev numbers : Channel → Channel → Channel → Beside → List ℕ
numbers a b c k =
    a.closings ∷ a.openings ∷ a.ticks ∷ b.closings ∷ b.openings ∷ b.ticks ∷ c.closings ∷ c.openings ∷ c.ticks
    ∷ k.tick ∷ k.word ∷ k.unknown ∷ one k.more ∷ []

abbrev told : Res (List Channel × Beside) → List ℕ
told (refused e) = e ∷ []
told (passed a) = numbers (get_or a.0 0 unused) (get_or a.0 1 unused) (get_or a.0 31 unused) a.1

record Example : Type 0 where
  records : List Channel
  before : Beside
  log : List ℕ
  says : List ℕ

failing : ℕ → List Example → List ℕ
failing n [] = []
failing n (e ∷ es) = if same (told (bringing e.records e.log e.before)) e.says then failing (suc n) es else n ∷ failing (suc n) es

-- from the start; from what was read before; and from records that are brought so far
abbrev anew : List ℕ → List ℕ → Example
anew log says = record { records = fresh; before = at_start; log = log; says = says }

abbrev behind : Beside → List ℕ → List ℕ → Example
behind b log says = record { records = fresh; before = b; log = log; says = says }

abbrev from : List Channel → Beside → List ℕ → List ℕ → Example
from cs b log says = record { records = cs; before = b; log = log; says = says }

abbrev refusal : ℕ → List ℕ
refusal e = e ∷ []

abbrev most : ℕ
most = 18446744073709551615

-- the 32nd channel's totals
abbrev last : Channel → List Channel
last c = set fresh 31 c

abbrev examples : List Example
examples =
    -- 1: a log with no record changes nothing
    anew [] (numbers unused unused unused at_start)
    -- 2: channel 1 closes at tick 3, channel 2 for it at 5, and 1 and 32 close at 9: "Ticks closed count to the last record read"
    ∷ anew (change 3 1 0 ++ (change 5 2 1 ++ change 9 0x80000003 2)) (numbers (of 2 1 2) (of 1 0 4) (of 1 0 0) (beside 9 0x80000003 0 false))
    -- 3: the next log, whose first tick is the last one read: channel 1 opens
    ∷ behind (beside 9 0x80000003 0 false) (change 9 0x80000002 0x80000003) (numbers (of 0 1 0) unused unused (beside 9 0x80000002 0 false))
    -- 4: ticks from the last record of the log before
    ∷ behind (beside 9 0x80000003 0 false) (change 20 0x80000002 0x80000003) (numbers (of 0 1 11) (of 0 0 11) (of 0 0 11) (beside 20 0x80000002 0 false))
    -- 5, 6: a gap counts no closing or opening; the time up to it is by the word before it, and from it on its word counts as the state
    ∷ anew (change 3 1 0 ++ gap 8 2 0x80000002) (numbers (of 1 0 5) unused unused (beside 8 0x80000002 2 false))
    ∷ behind (beside 8 0x80000002 2 false) (change 10 0 0x80000002) (numbers unused (of 0 1 2) (of 0 1 2) (beside 10 0 2 false))
    -- 7, 8: "added up exactly; 4,294,967,295 makes it 'or more'", and it stays so
    ∷ behind (beside 0 0 5 false) (change 3 1 0 ++ gap 8 4294967295 1) (numbers (of 1 0 5) unused unused (beside 8 1 4294967300 true))
    ∷ behind (beside 8 1 4294967300 true) (change 9 0 1 ++ gap 9 4294967294 0) (numbers (of 0 1 1) unused unused (beside 9 0 8589934594 true))
    -- 9 to 11: 31 and 33 records, before what is wrong with the log
    ∷ from (replicate 31 unused) at_start (change 3 1 0) (refusal 75)
    ∷ from (unused ∷ fresh) at_start (change 3 1 0) (refusal 75)
    ∷ from [] at_start (0 ∷ []) (refusal 75)
    -- 12 to 15: those of the reader, before 072; a 12-byte log that it accepts
    ∷ behind (beside 9 0 0 false) (0 ∷ []) (refusal 50)
    ∷ behind (beside 9 0 0 false) (change 3 1 0 ++ change 2 0 1) (refusal 52)
    ∷ behind (beside 9 0 0 false) (older_record_of 1 254 3 1) (refusal 51)
    ∷ behind (beside 9 0 0 false) (older_record_of 1 254 3 1 ++ (0 ∷ [])) (refusal 50)
    -- 16 to 19: 072 before 073; 073, also on the first log after power-on
    ∷ behind (beside 4 0 0 false) (change 3 1 0) (refusal 72)
    ∷ behind (beside 4 2 0 false) (change 3 1 0) (refusal 72)
    ∷ behind (beside 3 2 0 false) (change 3 1 0) (refusal 73)
    ∷ anew (change 3 0 1) (refusal 73)
    -- 20 to 23: each total of a channel, at its end and one more
    ∷ from (last (of 18446744073709551614 0 0)) at_start (change 3 0x80000000 0) (numbers unused unused (of most 0 0) (beside 3 0x80000000 0 false))
    ∷ from (last (of most 0 0)) at_start (change 3 0x80000000 0) (refusal 74)
    ∷ from (last (of 0 most 0)) (beside 0 0x80000000 0 false) (change 3 0 0x80000000) (refusal 74)
    ∷ from (last (of 0 0 18446744073709551613)) (beside 0 0x80000000 0 false) (change 3 0 0x80000000) (refusal 74)
    -- 24, 25: the number unknown, likewise; 073 before it
    ∷ behind (beside 0 0 18446744073709551614 false) (change 3 1 0 ++ gap 3 1 0) (numbers (of 1 0 0) unused unused (beside 3 0 most false))
    ∷ behind (beside 0 0 most false) (change 3 1 0 ++ gap 3 1 0) (refusal 74)
    ∷ behind (beside 0 1 most false) (change 3 1 0 ++ gap 3 1 0) (refusal 73)
    ∷ []

all_hold : failing 1 examples ≡ []
unfolding bringing log_for brought_by are_in_reach are_totals is_later matches forward_one ticks_closed beside_after closes opens word_from lost_in is_or_more is_closed ◌>>=◌
    ◌>>◌ ◌or_else◌ reading_as record_of older_record_of digits layout_of read_after may_stand is_possible is_change_record record_in own_words leads_to number_after may_follow
    joins is_gap can_hold in_one_byte failing
all_hold = refl
