-- What the program tells of a program that was read.
-- 02, item 6: "prints each number or refusal, then the grand total, a line each"; and item 1: "a refusal is printed as E and three digits, here
-- and later."
use Rattle.std.specs.Prelude.{ℕ, ◌+◌, ◌≤◌, ◌<◌, ◌≡◌, Bool, true, false, List, [], ◌∷◌, ◌++◌, length, Result, Ok, Err}
use Rattle.formats.specs.Checks.{Res, refused, passed}
use Rattle.formats.specs.Digits.{decimal, error_text}
use Rattle.streams.specs.declared.input.Failed.{Failed}
use Rattle.streams.specs.Gathering.{Waiting, nothing_gathered, Puts, Passes}
use Rattle.duration.specs.Report.{report}
use Rattle.duration.specs.Total.{adds, capped_total, grand_total, told_total}

-- an answer as a line, which byte 10 ends
abbrev pub line_of : Res ℕ → List ℕ
line_of (passed n) = decimal n ++ (10 ∷ [])
line_of (refused e) = error_text e ++ (10 ∷ [])

-- the line of a program, and the total with it; the output has a block of a size
pub record Tells (size : ℕ) (o : Waiting) (before : ℕ) (p : List ℕ) (o' : Waiting) (after : ℕ) : Type 0 where
  pub line : Puts size o (line_of (report p)) o'
  pub total : after ≡ capped_total (before + adds (report p))

-- behind a failure there is no more
abbrev pub may_go_on : Result Bool Failed → Bool
may_go_on (Ok on) = on
may_go_on (Err e) = false

-- what a turn does: a piece is told, or none is, and the total stays. Which bytes a piece has, and that none that was read is left out, is in no
-- contract, since what a read gives is in none
pub record Turns (size : ℕ) (o : Waiting) (before : ℕ) (on : Bool) (o' : Waiting) (after : ℕ) : Type 0 where
  pub passed : Waiting
  pub passes : Passes o passed
  pub tells : on ≡ true → (p : List ℕ) × (0 < length p) × Tells size passed before p o' after
  pub ends : on ≡ false → (o' ≡ passed) × (after ≡ before)

-- turns one after the other: the pieces that were told, each behind the one before it, the total with them, and what they left of the output. The first
-- has an output of which nothing waits
pub data Ran (size : ℕ) : List (List ℕ) → ℕ → Waiting → Type 0 where
  begun : Ran size [] 0 nothing_gathered
  turned : {ps : List (List ℕ)} {p : List ℕ} {t t' : ℕ} {o m o' : Waiting}
      → Ran size ps t o → Passes o m → 0 < length p → Tells size m t p o' t' → Ran size (ps ++ (p ∷ [])) t' o'

-- what they end with: the total is the grand total of all pieces that were told, up to one more than is told. Either the last turn says that there is no
-- more, or so many were told as no input has
pub record Ends (size : ℕ) (on : Bool) (o : Waiting) (total : ℕ) : Type 0 where
  pub pieces : List (List ℕ)
  pub last : Waiting
  pub ran : Ran size pieces total last
  pub passes : Passes last o
  pub sum : total ≡ capped_total (grand_total pieces)
  pub end : on ≡ true → 18446744073709551615 ≤ length pieces

-- the last line: the grand total of all pieces that were told
pub record TellsTotal (size : ℕ) (on : Bool) (o : Waiting) (total : ℕ) (o' : Waiting) : Type 0 where
  pub ended : Ends size on o total
  pub line : Puts size o (line_of (told_total (grand_total ended.pieces))) o'
