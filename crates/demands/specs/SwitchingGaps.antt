-- Switching totals, where changes were lost: what the stretches between the emptyings say then.
-- 02, item 11: "From a gap's tick on its stored word counts as the state, no closing or opening is counted for the gap, and a number of changes unknown is
-- kept beside the totals, added up exactly; 4,294,967,295 makes it "or more"."
use Rattle.std.specs.Prelude.{ℕ, ◌+◌, ◌-◌, ◌≤◌, ◌<◌, min, ◌≡◌, Bool, false, ◌||◌, List, [], ◌∷◌, ◌++◌, length, get_or, take, drop, leb}
use Rattle.std.specs.Prelude.{if◌then◌else◌}
use Rattle.boxlog.specs.declared.Change.{Change}
use Rattle.boxlog.specs.Log.{places}
use Rattle.channels.specs.declared.Channel.{Channel}
use Rattle.channels.specs.declared.Beside.{Beside}
use Rattle.channels.specs.Totals.{one_if, unused}
use Rattle.demands.specs.Histories.{Made, unpowered, after}
use Rattle.demands.specs.Seen.{outputs, notes}
use Rattle.demands.specs.Told.{told}
use Rattle.demands.specs.Changes.{changes}
use Rattle.demands.specs.Switchings.{is_closing, is_opening, ticks_by, Stretch, up_to, through, calls_of}

-- ---- one stretch: its log of R places holds the first R - 1 of its changes, and the others are lost

abbrev pub kept_of : List Made → Stretch → List Change
kept_of zs s = take (places (told (up_to zs s)).log_length - 1) (changes (up_to zs s))

abbrev pub lost_of : List Made → Stretch → List Change
lost_of zs s = drop (places (told (up_to zs s)).log_length - 1) (changes (up_to zs s))

-- how many of the changes close the channel at place i, and how many open it
unfoldable pub closings_in : ℕ → List Change → ℕ
closings_in i [] = 0
closings_in i (c ∷ cs) = one_if (is_closing i c.before c.word) + closings_in i cs

unfoldable pub openings_in : ℕ → List Change → ℕ
openings_in i [] = 0
openings_in i (c ∷ cs) = one_if (is_opening i c.before c.word) + openings_in i cs

-- "From a gap's tick on its stored word counts as the state": the word g, from the tick of the first change lost on
abbrev pub with_gap : List Change → ℕ → ℕ → ℕ → ℕ
with_gap [] g t w = w
with_gap (c ∷ lost) g t w = if leb c.tick t then g else w

-- the tick of the last record of a log: of the gap, or of the last change kept; l where there is none
abbrev pub last_tick_of : ℕ → List Change → List Change → ℕ
last_tick_of l (k ∷ kept) lost = last_tick_of k.tick kept lost
last_tick_of l [] [] = l
last_tick_of l [] (c ∷ lost) = c.tick

-- ---- the sums over the stretches, the calls zs being all before them

unfoldable pub kept_closings : ℕ → List Made → List Stretch → ℕ
kept_closings i zs [] = 0
kept_closings i zs (s ∷ ss) = closings_in i (kept_of zs s) + kept_closings i (through zs s) ss

unfoldable pub kept_openings : ℕ → List Made → List Stretch → ℕ
kept_openings i zs [] = 0
kept_openings i zs (s ∷ ss) = openings_in i (kept_of zs s) + kept_openings i (through zs s) ss

unfoldable pub gapped_ticks : ℕ → ℕ → List Made → List Stretch → ℕ
gapped_ticks i last zs [] = 0
gapped_ticks i last zs (s ∷ ss) =
    ticks_by (with_gap (lost_of zs s) (outputs (up_to zs s))) i last (told zs).ticks (outputs zs) (notes (after unpowered zs) s.calls)
    + gapped_ticks i last (through zs s) ss

unfoldable pub last_read : ℕ → List Made → List Stretch → ℕ
last_read l zs [] = l
last_read l zs (s ∷ ss) = last_read (last_tick_of l (kept_of zs s) (lost_of zs s)) (through zs s) ss

unfoldable pub lost_number_of : List Made → List Stretch → ℕ
lost_number_of zs [] = 0
lost_number_of zs (s ∷ ss) = length (lost_of zs s) + lost_number_of (through zs s) ss

-- and where each stretch counts for no more than 4,294,967,295, which is as many as a gap tells
unfoldable pub capped_of : List Made → List Stretch → ℕ
capped_of zs [] = 0
capped_of zs (s ∷ ss) = min (length (lost_of zs s)) 4294967295 + capped_of (through zs s) ss

-- some stretch loses 4,294,967,295 changes or more, which its gap tells by that number alone
unfoldable pub is_some_at_cap : List Made → List Stretch → Bool
is_some_at_cap zs [] = false
is_some_at_cap zs (s ∷ ss) = leb 4294967295 (length (lost_of zs s)) || is_some_at_cap (through zs s) ss

-- ---- what the totals say: `on` are the calls up to a power-on, and ss the stretches behind it

pub record TotalsKept (on : List Made) (ss : List Stretch) (cs : List Channel) (b : Beside) : Type 0 where
  pub count : length cs ≡ 32
  -- of each channel the changes kept that close it and that open it, and the ticks before the last record's at whose end it was closed, or by the gap's word
  pub closings : (i : ℕ) → i < 32 → (get_or cs i unused).closings ≡ kept_closings i on ss
  pub openings : (i : ℕ) → i < 32 → (get_or cs i unused).openings ≡ kept_openings i on ss
  pub ticks : (i : ℕ) → i < 32 → (get_or cs i unused).ticks ≡ gapped_ticks i b.tick on ss
  -- the last record's tick, of a gap that of the first change lost; and the last word is that of the outputs
  pub tick : b.tick ≡ last_read 0 on ss
  pub word : b.word ≡ outputs (on ++ calls_of ss)
  -- the number unknown is the sum of what the gaps tell: that of all changes lost, unless a gap was at its cap; then that many were lost or more
  pub told : b.unknown ≡ capped_of on ss
  pub unknown : is_some_at_cap on ss ≡ false → b.unknown ≡ lost_number_of on ss
  pub least : b.unknown ≤ lost_number_of on ss
  pub more : b.more ≡ is_some_at_cap on ss
