-- A line is closed: a right line leaves its numbers, a wrong one its fault.
-- Assumes nothing.
use mathlib.Core.Path.{◌≡◌, refl, sym, ap, subst, ◌∙◌}
use Prim.Native.Nat.{ℕ}
use native.Mathlib.Omega.{arith}
use mathlib.Core.Bool.{Bool, true, false, not, ◌||◌, false≢true}
use mathlib.Core.List.{List, [], ◌∷◌, ◌++◌}
use lib.Dec.{eqb}
use Rattle.std.specs.Prelude.{None, Some, is_some, if◌then◌else◌}
use Rattle.formats.specs.Checks.{all}
use Rattle.formats.proofs.Checks.{both_true}
use Rattle.plantext.specs.declared.Fault.{Fault}
use Rattle.plantext.specs.declared.Fault.TheVariants.{Behind}
use Rattle.plantext.specs.declared.Kind.{Kind}
use Rattle.plantext.specs.declared.Kind.TheVariants.{MoveWord, Settling, ReadingWord, Reading}
use Rattle.plantext.specs.declared.Number.{Number}
use Rattle.plantext.specs.declared.Number.TheVariants.{Few, Whole, Never}
use Rattle.plantext.specs.declared.Reader.{Reader}
use Rattle.plantext.specs.Text.{is_blank, is_hash, Comment, none, remark, OnLine, nothing, move}
use Rattle.plantext.specs.Faults.{is_plain, is_over, Field, word, settling, reading_word, reading, WrongLine, no_word, no_settling, no_reading_word, no_reading}
use Rattle.plantext.specs.Faults.{settling_missing, reading_word_missing, reading_missing, behind}
use Rattle.plantext.specs.Reading.{with_fault, base, character, wrong, missing, number_end, field_end, closed, hash, letter}
use Rattle.plantext.proofs.Fields.{number_behind, is_whole, is_begun, begun, word_wrong, time_wrong}
use Rattle.plantext.proofs.Storing.{put_all}
use Rattle.plantext.proofs.Walking.{inside, place_of, at, letters, letters_then, three_parts, fault_stays, fault_closed, Stands, stands_at}
use Rattle.plantext.proofs.Walking.{blanks_read, between_read, blanks_stand, plain_neither, field_read, stored_of, right_read}

stands_closed : {r : Reader} {st : List ℕ} {n k : ℕ} → Stands r st n k → closed r ≡ with_fault (missing (place_of k)) (at st n k)
unfolding closed
stands_closed s = rw (s.sound, s.ends)

-- ---- right lines

-- closed with no fault, in whatever field
pub record Closes (r : Reader) (st : List ℕ) (n : ℕ) : Type 0 where
  pub field : ℕ
  pub is : closed r ≡ at st n field

remark_letter : (st : List ℕ) (n c : ℕ) → letter c (at st n 5) ≡ at st n 5
unfolding letter field_end closed hash character
remark_letter st n c = go (is_blank c) refl (is_hash c) refl
  where
    go : (t : Bool) → is_blank c ≡ t → (u : Bool) → is_hash c ≡ u → letter c (at st n 5) ≡ at st n 5
    go true e u h = rw e
    go false e true h = rw (e, h)
    go false e false h = rw (e, h)

remark_stays : (st : List ℕ) (n : ℕ) (cs : List ℕ) → letters (at st n 5) cs ≡ at st n 5
unfolding letters
remark_stays st n [] = refl
remark_stays st n (c ∷ cs) = ap (λ r. letters r cs) (remark_letter st n c) ∙ remark_stays st n cs

remark_begins : (r : Reader) → is_some r.fault ≡ false → letter 35 r ≡ hash r
unfolding letter
remark_begins r e = rw e

comment_closes : {r : Reader} {st : List ℕ} {n k : ℕ} {c : List ℕ} → missing (place_of k) ≡ None → Stands r st n k → Comment c → Closes (letters r c) st n
unfolding letters hash
comment_closes {st = st} {n} {k} whole s none = record { field = k; is = stands_closed s ∙ ap (λ e. with_fault e (at st n k)) whole }
comment_closes {r} {st} {n} {k} whole s (remark cs) = record { field = 5; is = ap closed stays ∙ closes_there }
  where
    opened : (q : Reader) → closed q ≡ at st n k → hash q ≡ at st n 5
    opened q e = rw e

    stays : letters (letter 35 r) cs ≡ at st n 5
    stays =
        ap (λ q. letters q cs) (remark_begins r s.sound ∙ opened r (stands_closed s ∙ ap (λ e. with_fault e (at st n k)) whole))
        ∙ remark_stays st n cs

    closes_there : closed (at st n 5) ≡ at st n 5
    closes_there = stands_closed (stands_at st n 5)

-- A right line leaves its numbers.
pub right_line : (st : List ℕ) (n : ℕ) {l ns : List ℕ} → OnLine l ns → Closes (letters (at st n 0) l) (put_all st ns) n
unfolding put_all
right_line st n (nothing b c are rest) =
    rw (letters_then (at st n 0) b c) (comment_closes refl (blanks_stand b are (stands_at st n 0)) rest)
right_line st n (move b₀ w b₁ s b₂ v b₃ r b₄ c x y z u are₀ is₀ are₁ is₁ are₂ is₂ are₃ is₃ are₄ rest) =
    let p₁ = word b₀ w x are₀ is₀ in
    let p₂ = settling (b₀ ++ w) b₁ s y p₁ are₁ is₁ in
    let p₃ = reading_word (b₀ ++ w ++ b₁ ++ s) b₂ v z p₂ are₂ is₂ in
    let p₄ = reading (b₀ ++ w ++ b₁ ++ s ++ b₂ ++ v) b₃ r u p₃ are₃ is₃ in
    rw (three_parts (at st n 0) (b₀ ++ w ++ b₁ ++ s ++ b₂ ++ v ++ b₃ ++ r) b₄ c)
    (comment_closes refl (blanks_stand b₄ are₄ (right_read st n p₄)) rest)

-- ---- wrong lines

-- a fault is told, of line n
pub record Told (r : Reader) (e : Fault) (n : ℕ) : Type 0 where
  pub fault : r.fault ≡ Some e
  pub line : r.line ≡ n

pub told_some : {r : Reader} {e : Fault} {n : ℕ} → Told r e n → is_some r.fault ≡ true
told_some t = ap is_some t.fault

-- it stays, and so it does when the line is closed
pub told_stays : {r : Reader} {e : Fault} {n : ℕ} (cs : List ℕ) → Told r e n → Told (letters r cs) e n
told_stays {r} {e} {n} cs t = subst (λ q. Told q e n) (sym (fault_stays r cs (told_some t))) t

pub told_closed : {r : Reader} {e : Fault} {n : ℕ} → Told r e n → Told (closed r) e n
told_closed {r} {e} {n} t = subst (λ q. Told q e n) (sym (fault_closed r (told_some t))) t

told_hash : (r : Reader) {e : Fault} {n : ℕ} → Told (closed r) e n → Told (hash r) e n
unfolding hash
told_hash r t = rw (told_some t) t

-- fields are missing
missing_told : {r : Reader} {st : List ℕ} {n k : ℕ} {c : List ℕ} {e : Fault} → missing (place_of k) ≡ Some e → Stands r st n k → Comment c
    → Told (closed (letters r c)) e n
unfolding letters
missing_told {r} {st} {n} {k} {e = e} is s rest = go rest
  where
    closes : Told (closed r) e n
    closes = subst (λ q. Told q e n) (sym (stands_closed s)) (record { fault = is; line = refl })

    go : {c : List ℕ} → Comment c → Told (closed (letters r c)) e n
    go none = closes
    go (remark cs) =
        told_closed (told_stays cs (subst (λ q. Told q e n) (sym (remark_begins r s.sound)) (told_hash r closes)))

-- a field that has begun and is not right
wrong_number : (r : Reader) (k : Kind) (m : Number) → is_begun m ≡ true → (is_whole m ≡ true → ⊥) → number_end r k m ≡ with_fault (Some (wrong k)) r
wrong_number r k (Few d v) any other = go (eqb d 0) any
  where
    go : (t : Bool) → not t ≡ true → (if t then r else with_fault (Some (wrong k)) r) ≡ with_fault (Some (wrong k)) r
    go true h = absurd (false≢true h)
    go false h = refl
wrong_number r k (Whole v) any other = absurd (other refl)
wrong_number r k Never any other = refl

module _ (st : List ℕ) (n : ℕ) (k : Kind) (m : Number) (any : is_begun m ≡ true) (other : is_whole m ≡ true → ⊥) where
  wrong_ends : Told (field_end (inside st n k m)) (wrong k) n
  unfolding field_end
  wrong_ends =
      subst (λ q. Told q (wrong k) n) (sym (wrong_number (inside st n k m) k m any other)) (record { fault = refl; line = refl })

  wrong_closed : Told (closed (inside st n k m)) (wrong k) n
  unfolding closed
  wrong_closed = rw (told_some wrong_ends) wrong_ends

  wrong_letter : (c : ℕ) → (is_blank c || is_hash c) ≡ true → Told (letter c (inside st n k m)) (wrong k) n
  unfolding letter
  wrong_letter c over = go (is_blank c) refl (is_hash c) refl over
    where
      go : (t : Bool) → is_blank c ≡ t → (u : Bool) → is_hash c ≡ u → (t || u) ≡ true → Told (letter c (inside st n k m)) (wrong k) n
      go true e u h o = rw e wrong_ends
      go false e true h o = rw (e, h) (told_hash (inside st n k m) wrong_closed)
      go false e false h o = absurd (false≢true o)

  wrong_told : (rest : List ℕ) → is_over rest ≡ true → Told (closed (letters (inside st n k m) rest)) (wrong k) n
  unfolding letters
  wrong_told [] over = wrong_closed
  wrong_told (c ∷ cs) over = told_closed (told_stays cs (wrong_letter c over))

field_told : (st : List ℕ) (n : ℕ) (k : Kind) (f rest : List ℕ) → Field f rest → (is_whole (number_behind (base k) (Few 0 0) f) ≡ true → ⊥)
    → Told (closed (letters (letters (inside st n k (Few 0 0)) f) rest)) (wrong k) n
field_told st n k f rest is other =
    rw (field_read st n k (Few 0 0) f is.plain)
    (wrong_told st n k (number_behind (base k) (Few 0 0) f) (begun (base k) (Few 0 0) f is.some) other rest is.over)

-- something stands behind the fourth
more_told : (st : List ℕ) (n : ℕ) (f rest : List ℕ) → Field f rest → Told (closed (letters (letters (at st n 4) f) rest)) Behind n
unfolding letters letter character
more_told st n [] rest is = absurd (omega (arith, is.some))
more_told st n (c ∷ f) rest is = told_closed (told_stays rest (told_stays f first))
  where
    first : Told (letter c (at st n 4)) Behind n
    first =
        let p = plain_neither c (both_true (is_plain c) (all is_plain f) is.plain).0 in
        rw (p.0, p.1) (record { fault = refl; line = refl })

four_parts : (r : Reader) (ws xs ys zs : List ℕ) → letters r (ws ++ xs ++ ys ++ zs) ≡ letters (letters (letters (letters r ws) xs) ys) zs
four_parts r ws xs ys zs = three_parts r (ws ++ xs) ys zs ∙ ap (λ q. letters (letters q ys) zs) (letters_then r ws xs)

-- A wrong line is told with its fault.
pub wrong_line : (st : List ℕ) (n : ℕ) {l : List ℕ} {e : Fault} → WrongLine l e → Told (closed (letters (at st n 0) l)) e n
wrong_line st n (no_word b f rest are is never) =
    rw (three_parts (at st n 0) b f rest, blanks_read st n 0 b are)
    (field_told st n MoveWord f rest is (word_wrong f never))
wrong_line st n (no_settling a b f rest p are is never) =
    rw (four_parts (at st n 0) a b f rest, between_read b are (right_read st n p))
    (field_told (stored_of st p) n Settling f rest is (time_wrong f is.some never))
wrong_line st n (no_reading_word a b f rest p are is never) =
    rw (four_parts (at st n 0) a b f rest, between_read b are (right_read st n p))
    (field_told (stored_of st p) n ReadingWord f rest is (word_wrong f never))
wrong_line st n (no_reading a b f rest p are is never) =
    rw (four_parts (at st n 0) a b f rest, between_read b are (right_read st n p))
    (field_told (stored_of st p) n Reading f rest is (time_wrong f is.some never))
wrong_line st n (settling_missing a b c p are rest) =
    rw (three_parts (at st n 0) a b c) (missing_told {k = 1} refl (blanks_stand b are (right_read st n p)) rest)
wrong_line st n (reading_word_missing a b c p are rest) =
    rw (three_parts (at st n 0) a b c) (missing_told {k = 2} refl (blanks_stand b are (right_read st n p)) rest)
wrong_line st n (reading_missing a b c p are rest) =
    rw (three_parts (at st n 0) a b c) (missing_told {k = 3} refl (blanks_stand b are (right_read st n p)) rest)
wrong_line st n (behind a b f rest p are is) =
    rw (four_parts (at st n 0) a b f rest, between_read b are (right_read st n p)) (more_told (stored_of st p) n f rest is)
