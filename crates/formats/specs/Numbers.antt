-- What the code answers, as the answer of a chain of checks: a Result with its error by number, or an Option with the error that it stands for.
use Rattle.std.specs.Prelude.{ℕ, ◌≡◌, Option, Some, None, Result, Ok, Err}
use Rattle.std.proofs.Common.{sym, ap, ◌∙◌}
use Rattle.formats.specs.Checks.{Res, refused, passed}

-- the numbers of a kind of errors are `number`
abbrev pub res_of : {A E : Type 0} → (E → ℕ) → Result A E → Res A
res_of number (Ok a) = passed a
res_of number (Err e) = refused (number e)

-- what is read back from its number has a number of its own
pub read_back : {E : Type 0} (number : E → ℕ) (of : ℕ → E) → ((e : E) → of (number e) ≡ e) → (a b : E) → number a ≡ number b → a ≡ b
read_back number of back a b same = sym (back a) ∙ ap of same ∙ back b

-- Which error a None stands for depends on what was asked for, so whoever asks says it: E004 for an address, E003 for data.
abbrev pub res_or : {A : Type 0} → ℕ → Option A → Res A
res_or e None = refused e
res_or e (Some a) = passed a

-- the largest number of eight bytes
abbrev pub most_written : ℕ
most_written = 18446744073709551615
