-- How the report of a stop is passed to C: a number for each part, and what these numbers have to be.
use Rattle.std.specs.Prelude.{ℕ, suc, ◌+◌, ◌<◌, ◌≡◌, ◌≢◌, ◌⊎◌, true, Option, Some, None, List}
use Rattle.formats.specs.Checks.{Res, refused, passed}
use Rattle.lines.specs.declared.Line.TheVariants.{For, Next}
use Rattle.lines.specs.Program.{line_at, NoneFrom}
use Rattle.running.specs.declared.Run.{Run}
use Rattle.running.specs.declared.How.TheVariants.{Ends}
use Rattle.running.specs.Running.{begun, is_for_or_next, step, start}
use Rattle.running.specs.Ticking.{after, EndsAfter}
use Rattle.running.specs.Gone.{Gone, HeldBy, LoopLines, LastState}
use Rattle.explanation.specs.declared.Stop.{Stop}
use Rattle.explanation.specs.Report.{cause_number}
use Rattle.nizhalepu.specs.declared.Explained.{Explained}

-- Refusal 0, which is no refusal's number (`explanation/Refusing.zero_not_told`), says that there is none; event 0, which no stop has
-- (`nizhalepu/Explaining.said_so`), that none stopped the program: it is refused or still runs, and the cause is 255, for none.
abbrev pub explained_of : Res (Option Stop) → Explained
explained_of (refused e) = record { tick = 0; refusal = e; event = 0; line = 0; cause = 255 }
explained_of (passed None) = record { tick = 0; refusal = 0; event = 0; line = 0; cause = 255 }
explained_of (passed (Some s)) = record { tick = s.tick; refusal = 0; event = s.event; line = s.line; cause = cause_number s.cause }

-- The cause as a number is a fact of the run that a start at line k begins with the outputs o (`explanation/Facts.Fact`, in numbers).
pub data SaidFact (p : List ℕ) (k o : ℕ) (x : Explained) : Type 0 where
  said006 : {c y n : ℕ} {gone : List ℕ} {last : Run} → x.event ≡ 6 → line_at p x.line ≡ For c y → Gone p (begun k o) n gone last → last.line ≡ x.line
      → (step p last).how ≡ Ends 6 → HeldBy p c x.cause gone → SaidFact p k o x
  said007 : {y : ℕ} → x.event ≡ 7 → line_at p x.line ≡ For x.cause y → NoneFrom p x.cause (x.line + 1) → SaidFact p k o x
  said008yes : {c j y : ℕ} → x.event ≡ 8 → x.cause ≡ 1 → line_at p x.line ≡ Next c → j < x.line → line_at p j ≡ For c y → SaidFact p k o x
  said008no : {c : ℕ} → x.event ≡ 8 → x.cause ≡ 0 → line_at p x.line ≡ Next c → ((j y : ℕ) → j < x.line → line_at p j ≢ For c y) → SaidFact p k o x
  said013 : {n : ℕ} {gone : List ℕ} {last : Run} → x.event ≡ 13 → x.tick ≡ suc n → Gone p (begun k o) 400 gone last → last.line ≡ x.line
      → is_for_or_next (line_at p x.line) ≡ true → LastState p x.cause 400 gone → SaidFact p k o x
  said013start : {gone : List ℕ} {last : Run} → x.event ≡ 13 → x.tick ≡ 0 → x.cause ≡ 255 → Gone p (begun k o) 400 gone last → last.line ≡ x.line
      → is_for_or_next (line_at p x.line) ≡ true → LoopLines p gone → SaidFact p k o x
  said_none : (x.event ≡ 9) ⊎ (x.event ≡ 11) ⊎ (x.event ≡ 14) → x.cause ≡ 255 → SaidFact p k o x

-- a start at line k with the outputs o ends so, as the numbers say
pub record SaysSo (p : List ℕ) (k o : ℕ) (x : Explained) : Type 0 where
  pub ends : EndsAfter p x.tick x.event (start p k o)
  pub there : (after p x.tick (start p k o)).run.line ≡ x.line
  pub fact : SaidFact p k o x
