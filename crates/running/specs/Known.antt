-- Nobody has to believe this: it says how the code goes, and no theorem speaks of it.
-- What is known of a program whose lines were read once: each of them, and of a For the line of its Next.
use Rattle.std.specs.Prelude.{ℕ, ◌<◌, ◌≡◌, List, length, get_or, None, IfSome}
use Rattle.std.specs.Option.{unwrap_or}
use Rattle.lines.specs.declared.Line.TheVariants.{State, For}
use Rattle.lines.specs.Program.{line_at, next_after}
use Rattle.running.specs.declared.known.Known.{Known}

-- of line k
pub record IsKnown (p : List ℕ) (k : ℕ) (x : Known) : Type 0 where
  pub line : x.line ≡ line_at p k
  pub next : (c n : ℕ) → x.line ≡ For c n → unwrap_or x.next 200 ≡ next_after p c k
  pub within : IfSome x.next (λ n. n < 200)
  pub other : ((c n : ℕ) → x.line ≡ For c n → ⊥) → x.next ≡ None

-- what stands behind the table
abbrev pub unknown : Known
unknown = record { line = State 0 0; next = None }

-- of the lines before line n
abbrev pub Below : List ℕ → ℕ → List Known → Type 0
Below p n ts = (k : ℕ) → k < n → IsKnown p k (get_or ts k unknown)

-- of all of them
pub record Tabled (p : List ℕ) (ts : List Known) : Type 0 where
  pub below : Below p 200 ts
  pub many : length ts ≡ 200
