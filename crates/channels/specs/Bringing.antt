-- What comes of the caller's channel records and a log: the records brought forward, or a refusal, and nothing changes then.
-- 02, item 11: "Refusals, in order: those of the reader, and 051 for a 12-byte log it accepts; 072 a log whose first tick is earlier than the last one
-- read; 073 a log whose first earlier word doesn't match the last word read; 074 any total would pass 18,446,744,073,709,551,615; 075 other than 32
-- records, checked first. Nothing changes."
use Rattle.std.specs.Prelude.{ℕ, Bool, true, false, ◌&&◌, List, [], ◌∷◌, length, replicate, leb, eqb}
use Rattle.formats.specs.Checks.{Res, refused, passed, ◌>>=◌, ◌>>◌, ◌or_else◌}
use Rattle.reader.specs.declared.Record.{Record}
use Rattle.reader.specs.declared.Layout.{Layout}
use Rattle.reader.specs.declared.Layout.TheVariants.{Twelve, Sixteen}
use Rattle.reader.specs.Layout.{layout_of}
use Rattle.reader.specs.Reading.{reading}
use Rattle.channels.specs.declared.Channel.{Channel}
use Rattle.channels.specs.declared.Beside.{Beside}
use Rattle.channels.specs.declared.Answer.{Answer}
use Rattle.channels.specs.declared.Held.{Held}
use Rattle.channels.specs.Totals.{unused, at_start, beside_after, map_from, all_from, forward_one}

-- "051 for a 12-byte log it accepts"
abbrev pub is_sixteen : Layout → Bool
is_sixteen Twelve = false
is_sixteen Sixteen = true

-- the records of a log, where there are n channel records
unfoldable pub log_for : ℕ → List ℕ → Res (List Record)
log_for n log = do
  eqb n 32 or_else 75
  rs ← reading log
  is_sixteen (layout_of log) or_else 51
  passed rs

-- not "072 a log whose first tick is earlier than the last one read"
unfoldable pub is_later : Beside → List Record → Bool
is_later b [] = true
is_later b (r ∷ rs) = leb b.tick r.tick

-- not "073 a log whose first earlier word doesn't match the last word read"
unfoldable pub matches : Beside → List Record → Bool
matches b [] = true
matches b (r ∷ rs) = eqb r.word b.word

-- not "074 any total would pass 18,446,744,073,709,551,615"; the number unknown is a total too
abbrev pub is_total : ℕ → Bool
is_total v = leb v 18446744073709551615

unfoldable pub are_totals : Channel → Bool
are_totals c = is_total c.closings && (is_total c.openings && is_total c.ticks)

unfoldable pub are_in_reach : List Channel → Beside → List Record → Bool
are_in_reach cs b rs = is_total (beside_after b rs).unknown && all_from (λ c i. are_totals (forward_one b rs c i)) cs 0

-- the channel records cs and what is kept beside them, by the records rs of a log
unfoldable pub brought_by : List Channel → Beside → List Record → Res (List Channel × Beside)
brought_by cs b rs = do
  is_later b rs or_else 72
  matches b rs or_else 73
  are_in_reach cs b rs or_else 74
  passed (map_from (forward_one b rs) cs 0, beside_after b rs)

unfoldable pub bringing : List Channel → List ℕ → Beside → Res (List Channel × Beside)
bringing cs log b = do
  rs ← log_for (length cs) log
  brought_by cs b rs

-- ---- logs, "in order of emptying"

-- "has them brought forward log by log": each brings forward what the one before it left, and the first that is refused ends it
unfoldable pub bring_all : List Channel → Beside → List (List ℕ) → Res (List Channel × Beside)
bring_all cs b [] = passed (cs, b)
bring_all cs b (log ∷ logs) = bringing cs log b >>= λ a. bring_all a.0 a.1 logs

-- "All channels start open at tick 0."
abbrev pub totals_of : List (List ℕ) → Res (List Channel × Beside)
totals_of logs = bring_all (replicate 32 unused) at_start logs

-- ---- what the code answers and leaves

abbrev pub answer_of : Beside → Res (List Channel × Beside) → Answer
answer_of b (refused e) = record { refusal = e; beside = b }
answer_of b (passed a) = record { refusal = 0; beside = a.1 }

-- what is kept beside the records, or the refusal
abbrev pub beside_of : Res (List Channel × Beside) → Res Beside
beside_of (refused e) = refused e
beside_of (passed a) = passed a.1

abbrev pub records_of : List Channel → Res (List Channel × Beside) → List Channel
records_of cs (refused e) = cs
records_of cs (passed a) = a.0

-- both, of records held by value
abbrev pub held_of : List Channel → Beside → Res (List Channel × Beside) → Held
held_of cs b r = record { channels = records_of cs r; answer = answer_of b r }
