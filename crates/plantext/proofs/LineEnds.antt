-- The reader goes through lines: an LF ends one, with a CR directly before it; every other CR is a character of its line.
-- Assumes nothing.
use mathlib.Core.Path.{◌≡◌, refl, sym, ap, ◌∙◌}
use Prim.Native.Nat.{ℕ}
use mathlib.Core.Bool.{Bool, true, false, not, false≢true}
use mathlib.Core.List.{List, [], ◌∷◌, ◌++◌}
use lib.Dec.{eqb}
use borrow.Author.Tests.{eqb-true}
use Rattle.std.specs.Prelude.{if◌then◌else◌, is_some}
use Rattle.formats.specs.Checks.{all}
use Rattle.formats.proofs.Checks.{if_case, both_true}
use Rattle.plantext.specs.declared.Number.TheVariants.{Few, Whole, Never}
use Rattle.plantext.specs.declared.Place.{Place}
use Rattle.plantext.specs.declared.Place.TheVariants.{In, Past, Remark}
use Rattle.plantext.specs.declared.Reader.{Reader}
use Rattle.plantext.specs.Text.{is_blank, is_hash, NoLF, line_of}
use Rattle.plantext.specs.Reading.{with_cr, character_at, character, field_end_at, field_end, closed, hash, letter, line_end, resolved}
use Rattle.plantext.specs.Reading.{byte_after, step, fed}
use Rattle.plantext.proofs.Walking.{letters}

-- ---- no character of a line makes a CR wait

abbrev Waits : Bool → Reader → Type 0
Waits b q = q.cr ≡ b

ends_cr : (r : Reader) → (field_end r).cr ≡ r.cr
unfolding field_end
ends_cr r = go r.place
  where
    go : (p : Place) → (field_end_at r p).cr ≡ r.cr
    go (In k (Few n v)) = if_case (Waits r.cr) (eqb n 0) (λ _. refl) (λ _. refl)
    go (In k (Whole v)) = refl
    go (In k Never) = refl
    go Past = refl
    go Remark = refl

closed_cr : (r : Reader) → (closed r).cr ≡ r.cr
unfolding closed
closed_cr r =
    if_case (Waits r.cr) (is_some r.fault) (λ _. refl)
    (λ _. if_case (Waits r.cr) (is_some (field_end r).fault) (λ _. ends_cr r) (λ _. ends_cr r))

hash_cr : (r : Reader) → (hash r).cr ≡ r.cr
unfolding hash
hash_cr r = if_case (Waits r.cr) (is_some (closed r).fault) (λ _. closed_cr r) (λ _. closed_cr r)

character_cr : (c : ℕ) (r : Reader) → (character c r).cr ≡ r.cr
unfolding character
character_cr c r = go r.place
  where
    go : (p : Place) → (character_at c r p).cr ≡ r.cr
    go (In k m) = refl
    go Past = refl
    go Remark = refl

pub letter_cr : (c : ℕ) (r : Reader) → (letter c r).cr ≡ r.cr
unfolding letter
letter_cr c r =
    if_case (Waits r.cr) (is_some r.fault) (λ _. refl) λ _.
    if_case (Waits r.cr) (is_blank c) (λ _. ends_cr r) λ _.
    if_case (Waits r.cr) (is_hash c) (λ _. hash_cr r) (λ _. character_cr c r)

-- ---- one byte

-- none waits
calm : (r : Reader) → r.cr ≡ false → with_cr false r ≡ r
calm r e = sym (ap (λ b. with_cr b r) e)

resolved_calm : (r : Reader) → r.cr ≡ false → resolved r ≡ r
unfolding resolved
resolved_calm r e = go r.cr e
  where
    go : (b : Bool) → b ≡ false → (if b then letter 13 (with_cr false r) else r) ≡ r
    go true h = absurd (false≢true (sym h))
    go false h = refl

-- one waits
resolved_waiting : (r : Reader) → r.cr ≡ false → resolved (with_cr true r) ≡ letter 13 r
unfolding resolved
resolved_waiting r e = ap (letter 13) (calm r e)

module _ (r : Reader) (e : r.cr ≡ false) where
  step_LF : step 10 r ≡ line_end r
  unfolding step
  step_LF = ap line_end (calm r e)

  step_CR : step 13 r ≡ with_cr true r
  unfolding step byte_after
  step_CR = ap (with_cr true) (resolved_calm r e)

  step_CR_LF : step 10 (with_cr true r) ≡ line_end r
  unfolding step
  step_CR_LF = ap line_end (calm r e)

  step_other : (c : ℕ) → eqb c 10 ≡ false → eqb c 13 ≡ false → step c r ≡ letter c r
  unfolding step byte_after
  step_other c a b = rw (a, b) (ap (letter c) (resolved_calm r e))

  -- a CR, and then no LF
  step_CR_other : (c : ℕ) → eqb c 10 ≡ false → step c (with_cr true r) ≡ step c (letter 13 r)
  unfolding step
  step_CR_other c a =
      rw a (ap (byte_after c) (resolved_waiting r e ∙ sym (resolved_calm (letter 13 r) (letter_cr 13 r ∙ e))))

-- ---- the bytes of a line

not_LF : (c : ℕ) (cs : List ℕ) → NoLF (c ∷ cs) → (eqb c 10 ≡ false) × NoLF cs
not_LF c cs e = let p = both_true (not (eqb c 10)) (all (λ x. not (eqb x 10)) cs) e in (go (eqb c 10) p.0, p.1)
  where
    go : (b : Bool) → not b ≡ true → b ≡ false
    go true h = absurd (false≢true h)
    go false h = refl

-- What stands before an LF is read as its line.
pub line_read_lem : (l t : List ℕ) (r : Reader) → r.cr ≡ false → NoLF l → fed r (l ++ 10 ∷ t) ≡ fed (line_end (letters r (line_of l))) t
unfolding fed letters line_of
line_read_lem [] t r e are = ap (λ q. fed q t) (step_LF r e)
line_read_lem (c ∷ []) t r e are = go (eqb c 13) refl
  where
    go : (b : Bool) → eqb c 13 ≡ b → fed (step 10 (step c r)) t ≡ fed (line_end (letters r (if eqb c 13 then [] else c ∷ []))) t
    go true h =
        let is : c ≡ 13 = eqb-true c 13 h in
        rw is (ap (λ q. fed (step 10 q) t) (step_CR r e) ∙ ap (λ q. fed q t) (step_CR_LF r e))
    go false h =
        rw h (ap (λ q. fed (step 10 q) t) (step_other r e c (not_LF c [] are).0 h) ∙ ap (λ q. fed q t) (step_LF (letter c r) (letter_cr c r ∙ e)))
line_read_lem (c ∷ d ∷ l) t r e are =
    go (eqb c 13) refl (line_read_lem (d ∷ l) t (letter c r) (letter_cr c r ∙ e) (not_LF c (d ∷ l) are).1)
  where
    rest : NoLF (d ∷ l)
    rest = (not_LF c (d ∷ l) are).1

    after_CR : c ≡ 13 → step d (step c r) ≡ step d (letter c r)
    after_CR is = rw is (ap (step d) (step_CR r e) ∙ step_CR_other r e d (not_LF d l rest).0)

    go : (b : Bool) → eqb c 13 ≡ b → fed (letter c r) (d ∷ l ++ 10 ∷ t) ≡ fed (line_end (letters (letter c r) (line_of (d ∷ l)))) t
        → fed (step d (step c r)) (l ++ 10 ∷ t) ≡ fed (line_end (letters (letter c r) (line_of (d ∷ l)))) t
    go true h more = ap (λ q. fed q (l ++ 10 ∷ t)) (after_CR (eqb-true c 13 h)) ∙ more
    go false h more = ap (λ q. fed (step d q) (l ++ 10 ∷ t)) (step_other r e c (not_LF c (d ∷ l) are).0 h) ∙ more

-- What stands behind the last LF is read as it stands.
pub last_read : (l : List ℕ) (r : Reader) → r.cr ≡ false → NoLF l → resolved (fed r l) ≡ letters r l
unfolding fed letters
last_read [] r e are = resolved_calm r e
last_read (c ∷ []) r e are = go (eqb c 13) refl
  where
    go : (b : Bool) → eqb c 13 ≡ b → resolved (step c r) ≡ letter c r
    go true h = let is : c ≡ 13 = eqb-true c 13 h in rw is (ap resolved (step_CR r e) ∙ resolved_waiting r e)
    go false h = ap resolved (step_other r e c (not_LF c [] are).0 h) ∙ resolved_calm (letter c r) (letter_cr c r ∙ e)
last_read (c ∷ d ∷ l) r e are = go (eqb c 13) refl (last_read (d ∷ l) (letter c r) (letter_cr c r ∙ e) rest)
  where
    rest : NoLF (d ∷ l)
    rest = (not_LF c (d ∷ l) are).1

    after_CR : c ≡ 13 → step d (step c r) ≡ step d (letter c r)
    after_CR is = rw is (ap (step d) (step_CR r e) ∙ step_CR_other r e d (not_LF d l rest).0)

    go : (b : Bool) → eqb c 13 ≡ b → resolved (fed (letter c r) (d ∷ l)) ≡ letters (letter c r) (d ∷ l)
        → resolved (fed (step d (step c r)) l) ≡ letters (letter c r) (d ∷ l)
    go true h more = ap (λ q. resolved (fed q l)) (after_CR (eqb-true c 13 h)) ∙ more
    go false h more = ap (λ q. resolved (fed (step d q) l)) (step_other r e c (not_LF c (d ∷ l) are).0 h) ∙ more
