-- Where a program ends, and the loops that begin in it: a For and the Next that it pairs with.
-- 02, item 6: "no State with time 0; a For before the first such line pairs with the first later Next of its counter anywhere".
use Rattle.std.specs.Prelude.{ℕ, ◌<◌, ◌≡◌, ◌≢◌, List}
use Rattle.lines.specs.declared.Line.{Line}
use Rattle.lines.specs.declared.Line.TheVariants.{State, For, Next, Bad}
use Rattle.lines.specs.Line.{is_end, for_counter}
use Rattle.lines.specs.Program.{line_at, next_after}
use Rattle.lines.specs.Searches.{first_of}

-- ---- the end

-- "the first such line"; 200 where there is none
unfoldable pub end_line : List ℕ → ℕ
end_line p = first_of (λ k. is_end (line_at p k)) 200 0

-- the same in words: "no State with time 0" on a line before n
abbrev pub NoEnd : List ℕ → ℕ → Type 0
NoEnd p n = (k o : ℕ) → k < n → line_at p k ≢ State o 0

-- "the first such line" is line e
pub record End (p : List ℕ) (e : ℕ) : Type 0 where
  pub in_program : e < 200
  pub outputs : ℕ
  pub mark : line_at p e ≡ State outputs 0
  pub first : NoEnd p e

-- ---- the loop that begins on line k, if a For stands there

abbrev pub next_for : List ℕ → ℕ → Line → ℕ
next_for p k (State outputs time) = 0
next_for p k (For counter count) = next_after p counter k
next_for p k (Next counter) = 0
next_for p k Bad = 0

-- the line of its Next, "the first later Next of its counter anywhere"; 200 where it has none, 0 where no For stands on line k
unfoldable pub next_of : List ℕ → ℕ → ℕ
next_of p k = next_for p k (line_at p k)

-- its counter, 0 where no For stands on line k
unfoldable pub counter_at : List ℕ → ℕ → ℕ
counter_at p k = for_counter (line_at p k)
