-- The rule of the table of special commands, by tests that antt computes at its 24 places: the entry of a command in a state is the answer that it
-- gets there, and its error says why.
-- Assumes nothing.
use mathlib.Core.Path.{◌≡◌, refl, sym, ap, ap₂, ◌∙◌}
use Prim.Native.Nat.{ℕ, ◌+◌, ◌-◌, ◌*◌, ◌/◌, ◌%◌, ◌<◌}
use native.Mathlib.Omega.{arith}
use mathlib.Core.Bool.{Bool, true, false, not, ◌&&◌, false≢true}
use mathlib.Core.List.{[]}
use lib.Dec.{eqb, lit<}
use lib.ListN.{get_or}
use borrow.Author.Tests.{eqb-true}
use Rattle.std.specs.Prelude.{if◌then◌else◌, Ok}
use Rattle.formats.specs.Checks.{Res, refused, passed, ◌or_else◌}
use Rattle.formats.specs.Errors.{number_of}
use Rattle.formats.specs.Numbers.{res_of}
use Rattle.formats.proofs.Checks.{all_below, below}
use Rattle.special.specs.declared.TheConstants.{ALLOWED}
use Rattle.special.specs.declared.Mode.{Mode}
use Rattle.special.specs.declared.Mode.TheVariants.{Stop, Pause, Auto}
use Rattle.special.specs.declared.Special.{Special}
use Rattle.special.specs.Special.{forbidden, allowed, code_of, special_of}
use Rattle.special.proofs.Codes.{code_low, code_high, code_back}

-- ---- its places: three for each code, in the order of the codes

abbrev pub column_of : Mode → ℕ
column_of Stop = 0
column_of Pause = 1
column_of Auto = 2

column_below : (mode : Mode) → column_of mode < 3
column_below Stop = lit< tt
column_below Pause = lit< tt
column_below Auto = lit< tt

abbrev mode_at : ℕ → Mode
mode_at column = if eqb column 0 then Stop else if eqb column 1 then Pause else Auto

column_back : (mode : Mode) → mode_at (column_of mode) ≡ mode
column_back Stop = refl
column_back Pause = refl
column_back Auto = refl

abbrev pub place_of : Special → Mode → ℕ
place_of s mode = 3 * (code_of s - 1) + column_of mode

pub place_within : (s : Special) (mode : Mode) → place_of s mode < 24
place_within s mode = omega (arith, code_low s, code_high s, column_below mode)

-- ---- what is said of a command in a state

abbrev of_named : {A : Type 0} → A → Res Special → (Special → A) → A
of_named other (refused e) f = other
of_named other (passed s) f = f s

-- place k is that of the command of code 1 + k / 3 in column k % 3
abbrev at_place : {A : Type 0} → A → (Special → Mode → A) → ℕ → A
at_place other f k = of_named other (special_of (k / 3 + 1)) (λ s. f s (mode_at (k % 3)))

-- What is so at the 24 places is so of every command in every state.
pub every : (test : Special → Mode → Bool) → all_below (at_place false test) 24 ≡ true → (s : Special) (mode : Mode) → test s mode ≡ true
every test holds s mode =
    let row : place_of s mode / 3 + 1 ≡ code_of s = omega (arith, code_low s, column_below mode) in
    let column : place_of s mode % 3 ≡ column_of mode = omega (arith, column_below mode) in
    sym (ap₂ (λ r m. of_named false r (λ x. test x m)) (ap special_of row ∙ code_back s) (ap mode_at column ∙ column_back mode))
    ∙ below (at_place false test) 24 holds (place_of s mode) (place_within s mode)

-- ---- the table

-- the entry of a command in a state
abbrev entry : Special → Mode → Res (Unit {0})
entry s mode = res_of number_of (get_or (get_or ALLOWED (code_of s - 1) []) (column_of mode) (Ok tt))

abbrev same_check : Res (Unit {0}) → Res (Unit {0}) → Bool
same_check (passed _) (passed _) = true
same_check (passed _) (refused e) = false
same_check (refused e) (passed _) = false
same_check (refused e) (refused f) = eqb e f

same_check_true : (a b : Res (Unit {0})) → same_check a b ≡ true → a ≡ b
same_check_true (passed _) (passed _) e = refl
same_check_true (passed _) (refused f) e = absurd (false≢true e)
same_check_true (refused f) (passed _) e = absurd (false≢true e)
same_check_true (refused f) (refused g) e = ap refused (eqb-true f g e)

-- The entry of a command in a state is whether it is allowed there, and else the error that it gets.
pub entry_tells : (s : Special) (mode : Mode) → entry s mode ≡ (allowed s mode or_else forbidden s mode)
unfolding forbidden special_of ◌or_else◌
entry_tells s mode =
    same_check_true (entry s mode) (allowed s mode or_else forbidden s mode)
    (every (λ s mode. same_check (entry s mode) (allowed s mode or_else forbidden s mode)) refl s mode)

-- 02, item 3: the error e, or 0, says in which states the command is allowed
abbrev pub is_reason : ℕ → Special → Bool
is_reason e s =
    if eqb e 0 then true
    -- "E020 needs a stopped program": when the program is stopped, and in no other state
    else if eqb e 20 then allowed s Stop && not (allowed s Pause) && not (allowed s Auto)
    -- "E021 needs a pause": in a pause, and in no other state
    else if eqb e 21 then not (allowed s Stop) && allowed s Pause && not (allowed s Auto)
    -- "E022 nothing is running to pause": whenever a program runs, paused or not
    else if eqb e 22 then not (allowed s Stop) && allowed s Pause && allowed s Auto
    -- there is no other
    else false

-- The error that a command gets says in which states it is allowed.
pub says_why : (s : Special) (mode : Mode) → is_reason (forbidden s mode) s ≡ true
unfolding forbidden special_of
says_why = every (λ s mode. is_reason (forbidden s mode) s) refl
