-- The reader goes through the fields of a line: what it holds behind each part of a right line, and what it tells of a wrong one.
-- Assumes nothing.
use mathlib.Core.Path.{◌≡◌, refl, sym, ap, subst, ◌∙◌}
use Prim.Native.Nat.{ℕ, zero, suc}
use native.Mathlib.Omega.{arith}
use mathlib.Core.Bool.{Bool, true, false, not, ◌&&◌, false≢true}
use mathlib.Core.List.{List, [], ◌∷◌, ◌++◌}
use Rattle.std.specs.Prelude.{None, is_some}
use Rattle.formats.specs.Checks.{all}
use Rattle.formats.proofs.Checks.{both_true}
use Rattle.plantext.specs.declared.Kind.{Kind}
use Rattle.plantext.specs.declared.Kind.TheVariants.{MoveWord, Settling, ReadingWord, Reading}
use Rattle.plantext.specs.declared.Number.{Number}
use Rattle.plantext.specs.declared.Number.TheVariants.{Few, Whole}
use Rattle.plantext.specs.declared.Place.{Place}
use Rattle.plantext.specs.declared.Place.TheVariants.{In, Past, Remark}
use Rattle.plantext.specs.declared.Reader.{Reader}
use Rattle.plantext.specs.Text.{is_blank, is_hash, hex_value, Word, Time, Blanks, Between}
use Rattle.plantext.specs.Faults.{is_plain, Right, none as no_field, word, settling, reading_word, reading}
use Rattle.plantext.specs.Kept.{capped}
use Rattle.plantext.specs.Reading.{before, behind, base, grown, reader, character, put, field_end_at, field_end, closed, letter}
use Rattle.plantext.proofs.Fields.{number_behind, word_right, time_right, word_plain, time_plain}

-- ---- where the reader stands on a line

abbrev pub inside : List ℕ → ℕ → Kind → Number → Reader
inside st n k m = reader st n None (In k m) false

-- behind k fields, before the next; 5 is behind a `#`
abbrev pub place_of : ℕ → Place
place_of zero = before MoveWord
place_of (suc zero) = before Settling
place_of (suc (suc zero)) = before ReadingWord
place_of (suc (suc (suc zero))) = before Reading
place_of (suc (suc (suc (suc zero)))) = Past
place_of (suc (suc (suc (suc (suc k))))) = Remark

-- before a field, or behind the last, on line n, with the numbers that are stored
abbrev pub at : List ℕ → ℕ → ℕ → Reader
at st n k = reader st n None (place_of k) false

-- ---- characters of a line one after the other

unfoldable pub letters : Reader → List ℕ → Reader
letters r [] = r
letters r (c ∷ cs) = letters (letter c r) cs

pub letters_then : (r : Reader) (xs ys : List ℕ) → letters r (xs ++ ys) ≡ letters (letters r xs) ys
unfolding letters
letters_then r [] ys = refl
letters_then r (x ∷ xs) ys = letters_then (letter x r) xs ys

pub three_parts : (r : Reader) (xs ys zs : List ℕ) → letters r (xs ++ ys ++ zs) ≡ letters (letters (letters r xs) ys) zs
three_parts r xs ys zs = letters_then r (xs ++ ys) zs ∙ ap (λ q. letters q zs) (letters_then r xs ys)

-- a fault stays
pub fault_stays : (r : Reader) (cs : List ℕ) → is_some r.fault ≡ true → letters r cs ≡ r
unfolding letters letter
fault_stays r [] e = refl
fault_stays r (c ∷ cs) e = rw e (fault_stays r cs e)

pub fault_closed : (r : Reader) → is_some r.fault ≡ true → closed r ≡ r
unfolding closed
fault_closed r e = rw e

-- ---- blanks

-- a field is over at r, or there was none; the next is number k
pub record Stands (r : Reader) (st : List ℕ) (n k : ℕ) : Type 0 where
  pub sound : is_some r.fault ≡ false
  pub ends : field_end r ≡ at st n k

no_field_ends : (r : Reader) (k : ℕ) → field_end_at r (place_of k) ≡ r
no_field_ends r zero = refl
no_field_ends r (suc zero) = refl
no_field_ends r (suc (suc zero)) = refl
no_field_ends r (suc (suc (suc zero))) = refl
no_field_ends r (suc (suc (suc (suc zero)))) = refl
no_field_ends r (suc (suc (suc (suc (suc k))))) = refl

pub stands_at : (st : List ℕ) (n k : ℕ) → Stands (at st n k) st n k
unfolding field_end
stands_at st n k = record { sound = refl; ends = no_field_ends (at st n k) k }

blank_read : {r : Reader} {st : List ℕ} {n k : ℕ} (c : ℕ) → is_blank c ≡ true → Stands r st n k → letter c r ≡ at st n k
unfolding letter
blank_read c is s = rw (s.sound, is) s.ends

pub blanks_read : (st : List ℕ) (n k : ℕ) (b : List ℕ) → Blanks b → letters (at st n k) b ≡ at st n k
unfolding letters
blanks_read st n k [] are = refl
blanks_read st n k (c ∷ b) are =
    let p = both_true (is_blank c) (all is_blank b) are in
    ap (λ r. letters r b) (blank_read c p.0 (stands_at st n k)) ∙ blanks_read st n k b p.1

pub between_read : {r : Reader} {st : List ℕ} {n k : ℕ} (b : List ℕ) → Between b → Stands r st n k → letters r b ≡ at st n k
unfolding letters
between_read [] are s = absurd (omega (arith, are.some))
between_read {st = st} {n} {k} (c ∷ b) are s =
    let p = both_true (is_blank c) (all is_blank b) are.blanks in
    ap (λ r. letters r b) (blank_read c p.0 s) ∙ blanks_read st n k b p.1

pub blanks_stand : {r : Reader} {st : List ℕ} {n k : ℕ} (b : List ℕ) → Blanks b → Stands r st n k → Stands (letters r b) st n k
unfolding letters
blanks_stand [] are s = s
blanks_stand {st = st} {n} {k} (c ∷ b) are s =
    let e = between_read (c ∷ b) (record { some = omega arith; blanks = are }) s in
    subst (λ r. Stands r st n k) (sym e) (stands_at st n k)

-- ---- fields

pub plain_neither : (c : ℕ) → is_plain c ≡ true → (is_blank c ≡ false) × (is_hash c ≡ false)
plain_neither c e = go (is_blank c) (is_hash c) e
  where
    go : (t u : Bool) → (not t && not u) ≡ true → (t ≡ false) × (u ≡ false)
    go true u h = absurd (false≢true h)
    go false true h = absurd (false≢true h)
    go false false h = (refl, refl)

plain_read : (st : List ℕ) (n : ℕ) (k : Kind) (m : Number) (c : ℕ) → is_plain c ≡ true
    → letter c (inside st n k m) ≡ inside st n k (grown (base k) (hex_value c) m)
unfolding letter character
plain_read st n k m c e = let p = plain_neither c e in rw (p.0, p.1)

pub field_read : (st : List ℕ) (n : ℕ) (k : Kind) (m : Number) (f : List ℕ) → all is_plain f ≡ true
    → letters (inside st n k m) f ≡ inside st n k (number_behind (base k) m f)
unfolding letters number_behind
field_read st n k m [] e = refl
field_read st n k m (c ∷ f) e =
    let p = both_true (is_plain c) (all is_plain f) e in
    ap (λ r. letters r f) (plain_read st n k m c p.0) ∙ field_read st n k (grown (base k) (hex_value c) m) f p.1

-- a field that is right
right_stands : (st : List ℕ) (n v : ℕ) (kind : Kind) (k : ℕ) → behind kind ≡ place_of k → Stands (inside st n kind (Whole v)) (put st v) n k
unfolding field_end
right_stands st n v kind k e = record { sound = refl; ends = ap (λ p. reader (put st v) n None p false) e }

field_stands : (st : List ℕ) (n x : ℕ) (kind : Kind) (k : ℕ) (f : List ℕ) → all is_plain f ≡ true → behind kind ≡ place_of k
    → number_behind (base kind) (Few 0 0) f ≡ Whole (capped x) → Stands (letters (inside st n kind (Few 0 0)) f) (put st (capped x)) n k
field_stands st n x kind k f plain next is = rw (field_read st n kind (Few 0 0) f plain, is) (right_stands st n (capped x) kind k next)

word_stands : (st : List ℕ) (n : ℕ) (kind : Kind) (k : ℕ) (f : List ℕ) (x : ℕ) → base kind ≡ 16 → behind kind ≡ place_of k → Word f x
    → Stands (letters (inside st n kind (Few 0 0)) f) (put st (capped x)) n k
word_stands st n kind k f x is next is_IsWord = field_stands st n x kind k f (word_plain f is_IsWord.digits) next (rw is (word_right f x is_IsWord))

time_stands : (st : List ℕ) (n : ℕ) (kind : Kind) (k : ℕ) (f : List ℕ) (x : ℕ) → base kind ≡ 10 → behind kind ≡ place_of k → Time f x
    → Stands (letters (inside st n kind (Few 0 0)) f) (put st (capped x)) n k
time_stands st n kind k f x is next is-time = field_stands st n x kind k f (time_plain f is-time.digits) next (rw is (time_right f x is-time))

-- ---- the fields of a line

-- what is stored of the fields that are right
abbrev pub stored_of : List ℕ → {k : ℕ} {a : List ℕ} → Right k a → List ℕ
stored_of st no_field = st
stored_of st (word b w x are is) = put st (capped x)
stored_of st (settling a b s x p are is) = put (stored_of st p) (capped x)
stored_of st (reading_word a b v x p are is) = put (stored_of st p) (capped x)
stored_of st (reading a b r x p are is) = put (stored_of st p) (capped x)

pub right_read : (st : List ℕ) (n : ℕ) {k : ℕ} {a : List ℕ} (p : Right k a) → Stands (letters (at st n 0) a) (stored_of st p) n k
unfolding letters
right_read st n no_field = stands_at st n 0
right_read st n (word b w x are is) =
    rw (letters_then (at st n 0) b w, blanks_read st n 0 b are) (word_stands st n MoveWord 1 w x refl refl is)
right_read st n (settling a b s x p are is) =
    rw (three_parts (at st n 0) a b s, between_read b are (right_read st n p)) (time_stands (stored_of st p) n Settling 2 s x refl refl is)
right_read st n (reading_word a b v x p are is) =
    rw (three_parts (at st n 0) a b v, between_read b are (right_read st n p)) (word_stands (stored_of st p) n ReadingWord 3 v x refl refl is)
right_read st n (reading a b r x p are is) =
    rw (three_parts (at st n 0) a b r, between_read b are (right_read st n p)) (time_stands (stored_of st p) n Reading 4 r x refl refl is)
