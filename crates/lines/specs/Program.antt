-- The program area: 200 lines of eight bytes, numbered from 000.
use Rattle.std.specs.Prelude.{ℕ, zero, suc, ◌+◌, ◌*◌, ◌-◌, ◌≤◌, ◌<◌, ◌≡◌, ◌≢◌, Bool, true, false, List, length, drop, eqb}
use Rattle.formats.specs.Bytes.{placed}
use Rattle.lines.specs.declared.Line.{Line}
use Rattle.lines.specs.declared.Line.TheVariants.{State, For, Next, Bad}
use Rattle.lines.specs.Line.{read_line, bytes_of}

-- 01, 'Variables': 200 lines of 8 bytes
abbrev pub program_size : ℕ
program_size = 1600

abbrev pub is_program : List ℕ → Bool
is_program area = eqb (length area) program_size

abbrev pub IsProgram : List ℕ → Type 0
IsProgram area = length area ≡ program_size

-- line k
unfoldable pub line_at : List ℕ → ℕ → Line
line_at p k = read_line (drop (8 * k) p)

-- line k is written; every other byte stays
abbrev pub put_line : ℕ → Line → List ℕ → List ℕ
put_line k l p = placed 8 k (bytes_of l) p

abbrev pub is_next_of : ℕ → Line → Bool
is_next_of c (State outputs time) = false
is_next_of c (For counter count) = false
is_next_of c (Next counter) = eqb c counter
is_next_of c Bad = false

-- the first Next of counter c among n lines, the first of which is number k; k + n where there is none
unfoldable pub first_next : ℕ → ℕ → ℕ → List ℕ → ℕ
first_next c zero k p = k
first_next c (suc n) k p = elim (is_next_of c (read_line p)) [ true ↦ k | false ↦ first_next c n (k + 1) (drop 8 p) ]

-- The search for a Next: the first Next of counter c on a line later than k; 200 where there is none. 02, item 4: "The search for a Next
-- passes over" a Bad line, as over any other that is no Next of counter c.
unfoldable pub next_after : List ℕ → ℕ → ℕ → ℕ
next_after p c k = first_next c (199 - k) (k + 1) (drop (8 * (k + 1)) p)

-- What the search is for, in the paper's words. 02, item 2: "the first later Next of that counter" is line n, if the first later line is i.
pub record FirstFrom (p : List ℕ) (c i n : ℕ) : Type 0 where
  pub not_before : i ≤ n
  pub in_program : n < 200
  pub next : line_at p n ≡ Next c
  pub none_between : (j : ℕ) → i ≤ j → j < n → line_at p j ≢ Next c

-- 01: "no Next C on any later line"
abbrev pub NoneFrom : List ℕ → ℕ → ℕ → Type 0
NoneFrom p c i = (j : ℕ) → i ≤ j → j < 200 → line_at p j ≢ Next c
