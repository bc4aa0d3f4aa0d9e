-- Laws of the codes of the special commands.
-- Assumes nothing.
use mathlib.Core.Path.{◌≡◌, refl, sym}
use Prim.Native.Nat.{ℕ, ◌≤◌}
use lib.Dec.{lit≤, eqb}
use borrow.Author.Tests.{eqb-true}
use Rattle.formats.specs.Checks.{Res, refused, passed, Ok}
use Rattle.formats.proofs.Checks.{if_case, Err}
use Rattle.special.specs.declared.Special.{Special}
use Rattle.special.specs.declared.Special.TheVariants.{Stop, Pause, Start, Continue, StartAt, Execute, Load, Save}
use Rattle.special.specs.Special.{code_of, special_of}

-- the codes are 001 to 008
pub code_low : (s : Special) → 1 ≤ code_of s
code_low Stop = lit≤ tt
code_low Pause = lit≤ tt
code_low Start = lit≤ tt
code_low Continue = lit≤ tt
code_low StartAt = lit≤ tt
code_low Execute = lit≤ tt
code_low Load = lit≤ tt
code_low Save = lit≤ tt

pub code_high : (s : Special) → code_of s ≤ 8
code_high Stop = lit≤ tt
code_high Pause = lit≤ tt
code_high Start = lit≤ tt
code_high Continue = lit≤ tt
code_high StartAt = lit≤ tt
code_high Execute = lit≤ tt
code_high Load = lit≤ tt
code_high Save = lit≤ tt

-- a code names its command
pub code_back : (s : Special) → special_of (code_of s) ≡ passed s
unfolding special_of
code_back Stop = refl
code_back Pause = refl
code_back Start = refl
code_back Continue = refl
code_back StartAt = refl
code_back Execute = refl
code_back Load = refl
code_back Save = refl

-- a number names the command whose code it is, or is refused with 3
pub code_cases : (P : Res Special → Type 0) (n : ℕ) → ((s : Special) → code_of s ≡ n → P (passed s)) → P (refused 3) → P (special_of n)
unfolding special_of
code_cases P n named none =
    if_case P (eqb n 1) (λ e. named Stop (sym (eqb-true n 1 e))) λ _. if_case P (eqb n 2) (λ e. named Pause (sym (eqb-true n 2 e))) λ _.
    if_case P (eqb n 3) (λ e. named Start (sym (eqb-true n 3 e))) λ _. if_case P (eqb n 4) (λ e. named Continue (sym (eqb-true n 4 e))) λ _.
    if_case P (eqb n 5) (λ e. named StartAt (sym (eqb-true n 5 e))) λ _. if_case P (eqb n 6) (λ e. named Execute (sym (eqb-true n 6 e))) λ _.
    if_case P (eqb n 7) (λ e. named Load (sym (eqb-true n 7 e))) λ _. if_case P (eqb n 8) (λ e. named Save (sym (eqb-true n 8 e))) λ _. none

-- what a code names has that code
pub code_named : (n : ℕ) → Ok (λ s. code_of s ≡ n) (special_of n)
code_named n = code_cases (Ok (λ s. code_of s ≡ n)) n (λ s e. e) tt

pub code_err : (P : ℕ → Type 0) → P 3 → (n : ℕ) → Err P (special_of n)
code_err P three n = code_cases (Err P) n (λ s e. tt) three
