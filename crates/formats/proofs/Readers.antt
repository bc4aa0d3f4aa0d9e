-- Laws of readers of a text: what each answers is right both ways. E002 is told of a wrong length and of nothing else, E003 of a text of the right
-- length that shows no value, and a value that is read is shown so.
-- Assumes nothing.
use mathlib.Core.Path.{◌≡◌, refl, sym, ap, subst, ◌∙◌}
use mathlib.Core.Logic.{◌≢◌}
use mathlib.Core.Bool.{Bool, true, false}
use mathlib.Core.List.{List}
use Prim.Native.Nat.{ℕ, ◌≤◌, ◌<◌, ◌^◌}
use native.Mathlib.Omega.{arith}
use lib.ListN.{length}
use lib.Dec.{eqb, leb}
use borrow.Author.Tests.{eqb-true, eqb-false, leb-true}
use Rattle.formats.specs.Checks.{Res, refused, passed, ◌>>=◌, ◌>>◌, ◌or_else◌}
use Rattle.formats.specs.Digits.{number_in, h, h_in, d, d_in, shown}
use Rattle.formats.proofs.Checks.{not_passed, passed_same, err_at, ok_at}
use Rattle.formats.proofs.Characters.{read_shows, read_fits, h_back, d_back, number_err}

-- what a reader answers, where a length can be wrong and some values are shown by the text
pub data Reader {A : Type 0} (Wrong : Type 0) (Shows : A → Type 0) : Res A → Type 0 where
  wrong_length : Wrong → Reader Wrong Shows (refused 2)
  no_format : (Wrong → ⊥) → ((a : A) → Shows a → ⊥) → Reader Wrong Shows (refused 3)
  reads : (Wrong → ⊥) → (a : A) → Shows a → Reader Wrong Shows (passed a)

-- a text that is refused shows no value, if those that show one are read
pub none_shown : {A : Type 0} (Shows : A → Type 0) {e : ℕ} (r : Res A) → r ≡ refused e → ((a : A) → Shows a → r ≡ passed a) → (a : A) → Shows a → ⊥
none_shown Shows r f back a s = not_passed (sym f ∙ back a s)

-- two hex digits
pub h_reads : (cs : List ℕ) → Reader (length cs ≢ 2) (λ x. (x ≤ 255) × (cs ≡ h x)) (h_in cs)
unfolding h_in ◌>>◌ ◌or_else◌
h_reads cs = go (eqb (length cs) 2) refl
  where
    Shows : ℕ → Type 0
    Shows x = (x ≤ 255) × (cs ≡ h x)

    back : (x : ℕ) → Shows x → h_in cs ≡ passed x
    back x s = ap h_in s.1 ∙ h_back x (omega (arith, s.0))

    of : length cs ≡ 2 → (r : Res ℕ) → h_in cs ≡ r → number_in 16 3 cs ≡ r → Reader (length cs ≢ 2) Shows r
    of l (refused e) is n =
        let three : e ≡ 3 = err_at (λ i. i ≡ 3) (number_err (λ i. i ≡ 3) 16 3 refl cs) n in
        subst (λ i. Reader (length cs ≢ 2) Shows (refused i)) (sym three) (no_format (λ w. w l) (none_shown Shows (h_in cs) is back))
    of l (passed v) is n =
        let fits : v < 16 ^ 2 = subst (λ i. v < 16 ^ i) l (ok_at (λ u. u < 16 ^ length cs) (read_fits 16 3 cs) n) in
        let shows : h v ≡ cs = ap (λ i. shown 16 i v) (sym l) ∙ ok_at (λ u. shown 16 (length cs) u ≡ cs) (read_shows 16 (omega arith) (omega arith) 3 cs) n in
        reads (λ w. w l) v (omega arith, sym shows)

    go : (t : Bool) → eqb (length cs) 2 ≡ t → Reader (length cs ≢ 2) Shows (h_in cs)
    go true e = let is : h_in cs ≡ number_in 16 3 cs = rw e in subst (Reader (length cs ≢ 2) Shows) (sym is) (of (eqb-true _ _ e) (number_in 16 3 cs) is refl)
    go false e = rw e (wrong_length (eqb-false _ _ e))

-- three decimal digits to 255
pub d_reads : (cs : List ℕ) → Reader (length cs ≢ 3) (λ v. (v ≤ 255) × (cs ≡ d v)) (d_in cs)
unfolding d_in ◌>>=◌ ◌>>◌ ◌or_else◌
d_reads cs = go (eqb (length cs) 3) refl (number_in 10 3 cs) refl
  where
    Shows : ℕ → Type 0
    Shows v = (v ≤ 255) × (cs ≡ d v)

    back : (v : ℕ) → Shows v → d_in cs ≡ passed v
    back v s = ap d_in s.1 ∙ d_back v s.0

    none : length cs ≡ 3 → d_in cs ≡ refused 3 → Reader (length cs ≢ 3) Shows (d_in cs)
    none l is = subst (Reader (length cs ≢ 3) Shows) (sym is) (no_format (λ w. w l) (none_shown Shows (d_in cs) is back))

    small : length cs ≡ 3 → (v : ℕ) → number_in 10 3 cs ≡ passed v → (t : Bool) → leb v 255 ≡ t → Reader (length cs ≢ 3) Shows (d_in cs)
    small l v n true e =
        let is : d_in cs ≡ passed v = rw (l, n, e) in
        let shows : d v ≡ cs = ap (λ i. shown 10 i v) (sym l) ∙ ok_at (λ u. shown 10 (length cs) u ≡ cs) (read_shows 10 (omega arith) (omega arith) 3 cs) n in
        subst (Reader (length cs ≢ 3) Shows) (sym is) (reads (λ w. w l) v (leb-true v 255 e, sym shows))
    small l v n false e = none l (rw (l, n, e))

    go : (t : Bool) → eqb (length cs) 3 ≡ t → (r : Res ℕ) → number_in 10 3 cs ≡ r → Reader (length cs ≢ 3) Shows (d_in cs)
    go true e (refused i) n =
        let three : i ≡ 3 = err_at (λ j. j ≡ 3) (number_err (λ j. j ≡ 3) 10 3 refl cs) n in
        none (eqb-true _ _ e) (rw (e, n) (ap refused three))
    go true e (passed v) n = small (eqb-true _ _ e) v n (leb v 255) refl
    go false e r n = rw e (wrong_length (eqb-false _ _ e))

-- d shows numbers to 255 apart
pub d_same : (v w : ℕ) → v ≤ 255 → w ≤ 255 → d v ≡ d w → v ≡ w
d_same v w a b e = passed_same (sym (d_back v a) ∙ ap d_in e ∙ d_back w b)
