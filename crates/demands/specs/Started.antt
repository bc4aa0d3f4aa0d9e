-- Demand 3: a program that was started and is not broken off, and what is read when it has ended.
use Rattle.std.specs.Prelude.{ℕ, ◌≤◌, ◌≡◌, true, false, List, [], ◌∷◌, ◌++◌}
use Rattle.std.proofs.Math.Option.{some}
use Rattle.formats.specs.Checks.{text}
use Rattle.formats.specs.Digits.{d}
use Rattle.lines.specs.declared.Line.TheVariants.{State, Bad}
use Rattle.lines.specs.Program.{line_at}
use Rattle.running.specs.declared.Run.{Run}
use Rattle.running.specs.declared.Ran.{Ran}
use Rattle.running.specs.Running.{start, ticks}
use Rattle.controller.specs.Controller.{Areas}
use Rattle.demands.specs.Histories.{Made, ending, ticking, unpowered, after, HandsOn, AllHandOn}
use Rattle.demands.specs.Seen.{is_taken, reply, seen, outputs, note, notes}
use Rattle.demands.specs.Told.{said, starts, told}
use Rattle.demands.specs.ReadBack.{ReadOf}
use Rattle.demands.specs.Replies.{ended}
use Rattle.demands.specs.Undisturbed.{Unbroken, Untouched, unpaused}

-- calls, a start at a line, and the calls after it
pub record Course : Type 0 where
  pub before : List Made
  pub starting : Made
  pub line : ℕ
  pub later : List Made

-- the calls up to the start, and up to now
abbrev pub begun : Course → List Made
begun c = c.before ++ (c.starting ∷ [])

abbrev pub now : Course → List Made
now c = begun c ++ c.later

-- It is an accepted start at that line: by 003, by 005 at the parameter, or by the button. None of the calls after it stops the program or is a
-- power-on. The caller hands on both areas throughout.
pub record Started (c : Course) : Type 0 where
  pub taken : is_taken (seen c.before c.starting) ≡ true
  pub begins : starts c.starting.call (said (told c.before) (note (after unpowered c.before) c.starting)) c.starting.areas (told c.before)
      ≡ some c.line
  pub hands : AllHandOn (after unpowered c.before) (c.starting ∷ c.later)
  pub unbroken : Unbroken (told (begun c)) (notes (after unpowered (begun c)) c.later)

-- the program, as the caller holds it
abbrev pub program_of : Course → List ℕ
program_of c = (after unpowered c.before).program

-- the rules' start, for the program, the start line and the outputs at the start
abbrev pub start_of : Course → Ran
start_of c = start (program_of c) c.line (outputs c.before)

-- the number of ticks taken while not paused
abbrev pub count : Course → ℕ
count c = unpaused (told (begun c)) (notes (after unpowered (begun c)) c.later)

-- the run that the rules give now: that start, and so many ticks
abbrev pub ruled : Course → Run
ruled c = ticks (program_of c) (count c) (start_of c).run

-- the next call is a tick that is taken, while not paused, by a caller who hands on
pub record Ticks (c : Course) (a : Areas) : Type 0 where
  pub taken : is_taken (seen (now c) (ticking a)) ≡ true
  pub hands : HandsOn (after unpowered (now c)) (ticking a)
  pub unpaused : (told (now c)).paused ≡ false

abbrev pub ticked : Course → Areas → List Made
ticked c a = now c ++ (ticking a ∷ [])

-- ---- at the end

-- After the calls `gone`, with which a program ended, and any others that touch nothing of it, a read of address k is answered with r.
pub record Answers (gone : List Made) (k : ℕ) (r : List ℕ) : Type 0 where
  pub later : List Made
  pub untouched : Untouched (told gone) (notes (after unpowered gone) later)
  pub lent : Areas
  pub read : ReadOf (gone ++ later) k lent
  pub is : reply (seen (gone ++ later) (ending lent)) ≡ ended r

-- After the calls `gone`, with which a program ended, and any others that touch nothing of it, a read of 212 is answered with event e and one of 211 with
-- line k.
pub record ShowsStop (gone : List Made) (e k : ℕ) : Type 0 where
  pub event : (later : List Made) → Untouched (told gone) (notes (after unpowered gone) later) → (lent : Areas) → ReadOf (gone ++ later) 212 lent
      → reply (seen (gone ++ later) (ending lent)) ≡ ended (d e)
  pub line : (later : List Made) → Untouched (told gone) (notes (after unpowered gone) later) → (lent : Areas) → ReadOf (gone ++ later) 211 lent
      → reply (seen (gone ++ later) (ending lent)) ≡ ended (d k)

-- 02, item 4: "A bad stored line must not look like an end." Where 212 is answered with 011, an end mark stands at the line with which 211 is
-- answered, and the outputs are its; where 212 is answered with 014, a Bad line stands there.
pub record ShowsEnd (program : List ℕ) (gone : List Made) : Type 0 where
  pub well : (k : ℕ) → k ≤ 199 → Answers gone 212 (text "011") → Answers gone 211 (d k) → line_at program k ≡ State (outputs gone) 0
  pub badly : (k : ℕ) → k ≤ 199 → Answers gone 212 (text "014") → Answers gone 211 (d k) → line_at program k ≡ Bad
