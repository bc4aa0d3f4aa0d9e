-- Laws that turn the answer of a reading function into what its definition says.
-- Assumes nothing.
use mathlib.Core.Path.{◌≡◌, sym, ap, ◌∙◌}
use Prim.Native.Nat.{ℕ, ◌^◌, ◌<◌}
use mathlib.Core.List.{List}
use lib.ListN.{length}
use Rattle.std.specs.Prelude.{Option}
use Rattle.formats.specs.Numbers.{res_or}
use Rattle.formats.specs.Checks.{Res, passed}
use Rattle.formats.specs.Digits.{number_in}
use Rattle.formats.proofs.Checks.{ok_at}
use Rattle.formats.proofs.Characters.{read_fits}

-- what was answered says what was read, with the number that the caller gives where it was none
pub number_told : (e : ℕ) {x : Res ℕ} {r a : Option ℕ} → r ≡ a → res_or e r ≡ x → x ≡ res_or e a
number_told e is h = sym h ∙ ap (res_or e) is

-- a number that was read fits its characters
pub number_fits : (base e : ℕ) (cs : List ℕ) (v : ℕ) → number_in base e cs ≡ passed v → v < base ^ length cs
number_fits base e cs v h = ok_at (λ w. w < base ^ length cs) (read_fits base e cs) h

-- an answer that stands for a result says what the result is, if it can be read back
pub told : {R A : Type 0} (of : R → A) (back : A → R) → ((x : R) → back (of x) ≡ x) → (x : R) {a : A} → a ≡ of x → x ≡ back a
told of back inverse x e = sym (inverse x) ∙ ap back (sym e)
