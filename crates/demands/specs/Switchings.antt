-- Switching totals: what the calls since a power-on say of each channel by themselves, and the logs that are emptied among them.
-- 02, item 11: "From one log or many in order of emptying, keep for each of the 32 channels a record of closings, openings and ticks spent closed."
-- The calls are taken from their notes, that is from what is seen of them; no record of a log is read here.
use Rattle.std.specs.Prelude.{ℕ, zero, suc, ◌+◌, ◌<◌, ◌≡◌, Bool, true, false, not, ◌&&◌, List, [], ◌∷◌, ◌++◌, length, get_or, eqb, ltb}
use Rattle.std.specs.Prelude.{if◌then◌else◌}
use Rattle.formats.specs.Checks.{passed}
use Rattle.reader.specs.declared.Record.{Record}
use Rattle.reader.specs.Reading.{reading}
use Rattle.channels.specs.declared.Channel.{Channel}
use Rattle.channels.specs.declared.Beside.{Beside}
use Rattle.channels.specs.Totals.{is_closed, one_if, unused}
use Rattle.controller.specs.Controller.{Areas}
use Rattle.controller.specs.Effects.{is_tick}
use Rattle.demands.specs.Histories.{Made, emptying_to, unpowered, after}
use Rattle.demands.specs.Seen.{is_taken, seen, emptied_by, outputs, Note, notes}
use Rattle.demands.specs.Changes.{none_begins}

-- ---- calls, by their notes; w are the outputs before the first of them, and t the ticks taken since power-on

-- "A tick first adds one to the count": the call is a tick that is taken; and the count after it
abbrev pub is_tick_taken : Note → Bool
is_tick_taken n = is_tick n.call && is_taken n.seen

abbrev pub ticks_after : ℕ → Note → ℕ
ticks_after t n = if is_tick_taken n then t + 1 else t

-- from the outputs v to the outputs w the channel at place i closes: its bit is set in w and was not in v; or opens
unfoldable pub is_closing : ℕ → ℕ → ℕ → Bool
is_closing i v w = not (is_closed i v) && is_closed i w

unfoldable pub is_opening : ℕ → ℕ → ℕ → Bool
is_opening i v w = is_closed i v && not (is_closed i w)

-- how many of the calls close it, and how many open it
unfoldable pub closings : ℕ → ℕ → List Note → ℕ
closings i w [] = 0
closings i w (n ∷ ns) = one_if (is_closing i w n.seen.outputs) + closings i n.seen.outputs ns

unfoldable pub openings : ℕ → ℕ → List Note → ℕ
openings i w [] = 0
openings i w (n ∷ ns) = one_if (is_opening i w n.seen.outputs) + openings i n.seen.outputs ns

-- The ticks before tick `last` at whose end it was closed. A tick ends when the next one is taken: the outputs are then those before that call. For the
-- word that counts there, where a log has a gap, see `SwitchingGaps`.
unfoldable pub ticks_by : (ℕ → ℕ → ℕ) → ℕ → ℕ → ℕ → ℕ → List Note → ℕ
ticks_by word i last t w [] = 0
ticks_by word i last t w (n ∷ ns) =
    one_if (is_tick_taken n && (ltb t last && is_closed i (word t w))) + ticks_by word i last (ticks_after t n) n.seen.outputs ns

-- the outputs themselves
abbrev pub as_seen : ℕ → ℕ → ℕ
as_seen t w = w

abbrev pub ticks : ℕ → ℕ → ℕ → ℕ → List Note → ℕ
ticks i last t w ns = ticks_by as_seen i last t w ns

-- the tick count after the last call by which the outputs differ; l where there is none
unfoldable pub last_switched : ℕ → ℕ → ℕ → List Note → ℕ
last_switched l t w [] = l
last_switched l t w (n ∷ ns) =
    last_switched (if eqb w n.seen.outputs then l else ticks_after t n) (ticks_after t n) n.seen.outputs ns

-- ---- the calls since a power-on, cut at the emptyings that are taken

-- calls, and the areas that are lent to the emptying behind them
pub record Stretch : Type 0 where
  pub calls : List Made
  pub lent : Areas

-- the calls up to its emptying and those with it, the calls zs being all before it
abbrev pub up_to : List Made → Stretch → List Made
up_to zs s = zs ++ s.calls

abbrev pub through : List Made → Stretch → List Made
through zs s = up_to zs s ++ (emptying_to s.lent ∷ [])

-- all calls of some stretches
unfoldable pub calls_of : List Stretch → List Made
calls_of [] = []
calls_of (s ∷ ss) = s.calls ++ (emptying_to s.lent ∷ calls_of ss)

-- No emptying is left out: in each stretch none of the calls begins a list of changes, and the emptying behind them is taken.
pub record IsStretch (zs : List Made) (s : Stretch) : Type 0 where
  pub none : none_begins (notes (after unpowered zs) s.calls) ≡ true
  pub taken : is_taken (seen (up_to zs s) (emptying_to s.lent)) ≡ true

abbrev pub Chain : List Made → List Stretch → Type 0
Chain zs [] = Unit {0}
Chain zs (s ∷ ss) = IsStretch zs s × Chain (through zs s) ss

-- the logs that are emptied, in order
unfoldable pub logs_of : List Made → List Stretch → List (List ℕ)
logs_of zs [] = []
logs_of zs (s ∷ ss) = emptied_by (up_to zs s) s.lent ∷ logs_of (through zs s) ss

-- the records of all of them, as they are read
abbrev pub AllRead : List (List ℕ) → List Record → Type 0
AllRead [] all = all ≡ []
AllRead (log ∷ logs) all = (rs : List Record) × ((rest : List Record) × ((reading log ≡ passed rs) × (all ≡ rs ++ rest) × AllRead logs rest))

-- ---- what the totals say, where no gap was met: `on` are the calls up to a power-on, after which all outputs are off, and ss the stretches behind it

pub record TotalsSeen (on : List Made) (ss : List Stretch) (cs : List Channel) (b : Beside) : Type 0 where
  pub count : length cs ≡ 32
  -- of each channel the calls that close it, the calls that open it, and the ticks before the last record's at whose end it was closed
  pub closings : (i : ℕ) → i < 32 → (get_or cs i unused).closings ≡ closings i 0 (notes (after unpowered on) (calls_of ss))
  pub openings : (i : ℕ) → i < 32 → (get_or cs i unused).openings ≡ openings i 0 (notes (after unpowered on) (calls_of ss))
  pub ticks : (i : ℕ) → i < 32 → (get_or cs i unused).ticks ≡ ticks i b.tick 0 0 (notes (after unpowered on) (calls_of ss))
  -- the last record's tick is that of the last call by which the outputs differ, 0 where there is none; and the last word is that of the outputs
  pub tick : b.tick ≡ last_switched 0 0 0 (notes (after unpowered on) (calls_of ss))
  pub word : b.word ≡ outputs (on ++ calls_of ss)
  pub more : b.more ≡ false

-- "The sum of closings less openings is the number of channels closed wherever no gap was met.": a sum over channel records, and how many of n channels from
-- place i on are closed in the word w
unfoldable pub sum_of : (Channel → ℕ) → List Channel → ℕ
sum_of f [] = 0
sum_of f (c ∷ cs) = f c + sum_of f cs

unfoldable pub closed_from : ℕ → ℕ → ℕ → ℕ
closed_from i zero w = 0
closed_from i (suc n) w = one_if (is_closed i w) + closed_from (i + 1) n w
