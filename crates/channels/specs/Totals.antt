-- What the records of a log say of each channel.
-- 02, item 11, sentence by sentence.
use Rattle.std.specs.Prelude.{ℕ, zero, suc, ◌+◌, ◌-◌, ◌*◌, ◌/◌, ◌%◌, ◌^◌, Bool, true, false, not, ◌&&◌, ◌||◌, List, [], ◌∷◌, eqb}
use Rattle.std.specs.Prelude.{if◌then◌else◌}
use Rattle.reader.specs.declared.Record.{Record}
use Rattle.channels.specs.declared.Channel.{Channel}
use Rattle.channels.specs.declared.Beside.{Beside}

-- ---- a channel

-- The channel at place i of the 32, which is channel i + 1, is closed in an output word: 01, 'The box': "Output n is bit n-1".
unfoldable pub is_closed : ℕ → ℕ → Bool
is_closed i w = eqb (w / 2 ^ i % 2) 1

-- "All channels start open at tick 0", with nothing counted and nothing lost
abbrev pub unused : Channel
unused = record { closings = 0; openings = 0; ticks = 0 }

abbrev pub at_start : Beside
at_start = record { tick = 0; word = 0; unknown = 0; more = false }

-- ---- one record

-- "Kind 1: value is the new word", and a gap is of kind 2
abbrev pub is_change : Record → Bool
is_change r = eqb r.kind 1

-- the word from a record on: of a change its new one; "From a gap's tick on its stored word counts as the state"
unfoldable pub word_from : Record → ℕ
word_from r = if is_change r then r.value else r.word

-- a change closes a channel that is open in the word before it and closed in its own, and opens one the other way round; "no closing or opening is
-- counted for the gap"
unfoldable pub closes : ℕ → Record → Bool
closes i r = is_change r && (not (is_closed i r.word) && is_closed i r.value)

unfoldable pub opens : ℕ → Record → Bool
opens i r = is_change r && (is_closed i r.word && not (is_closed i r.value))

-- "a number of changes unknown is kept beside the totals, added up exactly; 4,294,967,295 makes it 'or more'"
unfoldable pub lost_in : Record → ℕ
lost_in r = if is_change r then 0 else r.value

unfoldable pub is_or_more : Record → Bool
is_or_more r = eqb (lost_in r) 4294967295

-- ---- the records of a log, in their order

-- how many of them pass the test
abbrev pub one_if : Bool → ℕ
one_if b = if b then 1 else 0

abbrev pub count_of : (Record → Bool) → List Record → ℕ
count_of test [] = 0
count_of test (r ∷ rs) = one_if (test r) + count_of test rs

-- the ticks for which a channel was closed, from tick t, at which the word w stands: "Ticks closed count to the last record read."
unfoldable pub ticks_closed : ℕ → ℕ → ℕ → List Record → ℕ
ticks_closed i t w [] = 0
ticks_closed i t w (r ∷ rs) = (if is_closed i w then r.tick - t else 0) + ticks_closed i r.tick (word_from r) rs

-- what is kept beside the totals: tick and word of the last record read, and the number unknown
abbrev pub beside_one : Beside → Record → Beside
beside_one b r = record { tick = r.tick; word = word_from r; unknown = b.unknown + lost_in r; more = b.more || is_or_more r }

unfoldable pub beside_after : Beside → List Record → Beside
beside_after b [] = b
beside_after b (r ∷ rs) = beside_after (beside_one b r) rs

-- ---- the 32 records of the channels

-- f of each element and its place, from place i on
abbrev pub map_from : {A : Type 0} → (A → ℕ → A) → List A → ℕ → List A
map_from f [] i = []
map_from f (c ∷ cs) i = f c i ∷ map_from f cs (i + 1)

-- g of each element and its place, from place i on
abbrev pub all_from : {A : Type 0} → (A → ℕ → Bool) → List A → ℕ → Bool
all_from g [] i = true
all_from g (c ∷ cs) i = g c i && all_from g cs (i + 1)

-- the record of the channel at place i, brought forward
unfoldable pub forward_one : Beside → List Record → Channel → ℕ → Channel
forward_one b rs c i = record {
  closings = c.closings + count_of (closes i) rs;
  openings = c.openings + count_of (opens i) rs;
  ticks = c.ticks + ticks_closed i b.tick b.word rs;
}

-- ---- a word, by its channels: `channels/Places.word_is`

-- the places of the closed ones of the first n channels, added up
abbrev pub places_of : ℕ → ℕ → ℕ
places_of zero w = 0
places_of (suc n) w = one_if (is_closed n w) * 2 ^ n + places_of n w
