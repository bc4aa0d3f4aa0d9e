-- What the answer is proved to be: how the run by the rules stops, and the cause as a fact of it.
-- 02, item 9: "Prove that the run by the rules stops so, and that the cause is a fact of it."
use Rattle.std.specs.Prelude.{ℕ, suc, ◌+◌, ◌≤◌, ◌<◌, ◌≡◌, ◌≢◌, ◌⊎◌, true, false, Some, None, List}
use Rattle.lines.specs.declared.Line.TheVariants.{For, Next}
use Rattle.lines.specs.Program.{line_at, NoneFrom}
use Rattle.running.specs.declared.Run.{Run}
use Rattle.running.specs.declared.How.TheVariants.{Ends}
use Rattle.running.specs.Running.{begun, is_for_or_next, step, start}
use Rattle.running.specs.Ticking.{after, Runs, EndsAfter}
use Rattle.running.specs.Gone.{Gone, HeldBy, LoopLines, LastState}
use Rattle.explanation.specs.declared.Cause.TheVariants.{ForLine, Sought, ForAbove, StateLine}
use Rattle.explanation.specs.declared.Stop.{Stop}

-- ---- the cause

-- The cause that is told of a stop is a fact of the run that a start at line k begins with the outputs o.
pub data Fact (p : List ℕ) (k o : ℕ) (s : Stop) : Type 0 where
  -- "for 006 the line of the For that holds the counter": the run came to a For of counter c and ended there, and the For on line j holds that counter
  in_use : {c x j n : ℕ} {gone : List ℕ} {last : Run} → s.event ≡ 6 → s.cause ≡ Some (ForLine j) → line_at p s.line ≡ For c x
      → Gone p (begun k o) n gone last → last.line ≡ s.line → (step p last).how ≡ Ends 6 → HeldBy p c j gone → Fact p k o s
  -- "for 007 the counter sought": no later line is a Next of it
  no_next : {c x : ℕ} → s.event ≡ 7 → s.cause ≡ Some (Sought c) → line_at p s.line ≡ For c x → NoneFrom p c (s.line + 1) → Fact p k o s
  -- "for 008 whether some For of that counter stands above"
  for_above : {c j x : ℕ} → s.event ≡ 8 → s.cause ≡ Some (ForAbove true) → line_at p s.line ≡ Next c → j < s.line → line_at p j ≡ For c x → Fact p k o s
  no_for : {c : ℕ} → s.event ≡ 8 → s.cause ≡ Some (ForAbove false) → line_at p s.line ≡ Next c → ((j x : ℕ) → j < s.line → line_at p j ≢ For c x) → Fact p k o s
  -- "for 013 the State line last held": that which was held when the tick came, as 211 shows it; it is the last State of the lines gone through.
  -- Behind it come the 400 For and Next lines of that tick, and a 401st is due
  state_held : {j n : ℕ} {gone : List ℕ} {last : Run} → s.event ≡ 13 → s.cause ≡ Some (StateLine j) → s.tick ≡ suc n → (after p n (start p k o)).run.line ≡ j
      → Gone p (begun k o) 400 gone last → last.line ≡ s.line → is_for_or_next (line_at p s.line) ≡ true → LastState p j 400 gone → Fact p k o s
  -- "if any": there is none exactly if the start itself stopped; all lines gone through are For and Next lines, 400 of them, and a 401st is due
  in_the_start : {gone : List ℕ} {last : Run} → s.event ≡ 13 → s.cause ≡ None → s.tick ≡ 0
      → Gone p (begun k o) 400 gone last → last.line ≡ s.line → is_for_or_next (line_at p s.line) ≡ true → LoopLines p gone → Fact p k o s
  -- "for others none"
  other : (s.event ≡ 9) ⊎ (s.event ≡ 11) ⊎ (s.event ≡ 14) → s.cause ≡ None → Fact p k o s

-- ---- the stop

-- A start at line k with the outputs o stops so, within the limit: until that tick it runs, without an event; there it ends, with this event and on this line.
pub record StopsSo (p : List ℕ) (k o limit : ℕ) (s : Stop) : Type 0 where
  pub within : s.tick ≤ limit
  pub ends : EndsAfter p s.tick s.event (start p k o)
  pub there : (after p s.tick (start p k o)).run.line ≡ s.line
  pub fact : Fact p k o s

-- "still running": at no tick up to the limit, its own among them, has it ended
abbrev pub StillRuns : List ℕ → ℕ → ℕ → ℕ → Type 0
StillRuns p k o limit = (n : ℕ) → n ≤ limit → Runs (after p n (start p k o))
