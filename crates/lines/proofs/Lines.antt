-- Laws of a line's eight bytes: what is read lies in its ranges, a line written is the line read, and the outputs that a line sets.
-- Assumes nothing.
use mathlib.Core.Path.{◌≡◌, refl, sym}
use Prim.Native.Nat.{ℕ, ◌^◌, ◌≤◌, ◌<◌}
use mathlib.Core.Bool.{true, false, ◌&&◌, true≢false}
use mathlib.Core.List.{List, ◌++◌}
use lib.ListN.{length, get_or, replicate}
use lib.Dec.{leb, ltb, eqb}
use native.Mathlib.Omega.{arith}
use borrow.Author.Tests.{le-leb, leb-true, lt-ltb}
use Rattle.formats.specs.Checks.{all}
use Rattle.formats.specs.Digits.{digits, number_after, number}
use Rattle.formats.specs.Bytes.{field, bytes}
use Rattle.formats.proofs.Checks.{if_case, both_true, all_append}
use Rattle.formats.proofs.Digits.{is_below, digits_below}
use Rattle.formats.proofs.Bytes.{number_bytes, field_below}
use Rattle.lines.specs.declared.Line.{Line}
use Rattle.lines.specs.declared.Line.TheVariants.{State, For, Next, Bad}
use Rattle.lines.specs.Line.{is_counter, says_state, says_for, says_next, is_bad, set_by, read_line, bytes_of, OneToFour, Ranges, Fits}

-- ---- the ranges

pub record Ranged (l : Line) : Type 0 where
  pub range : Ranges l

-- the test of a counter says that it is 1 to 4, both ways
pub counter_is : (c : ℕ) → is_counter c ≡ true → OneToFour c
counter_is c e = let b = both_true (leb 1 c) (leb c 4) e in (leb-true 1 c b.0, leb-true c 4 b.1)

pub counter_so : (c : ℕ) → OneToFour c → is_counter c ≡ true
counter_so c x = rw (le-leb 1 c x.0, le-leb c 4 x.1)

for_ranged : {c n : ℕ} → is_counter c ≡ true → n ≤ 9999 → Ranged (For c n)
for_ranged {c} e le = record { range = (counter_is c e, le) }

-- Whatever the eight bytes are, the line that they are read as lies in the ranges.
pub read_ranged : (bs : List ℕ) → Ranged (read_line bs)
unfolding read_line
read_ranged bs =
    let first : ℕ = get_or bs 0 0 in
    let second : ℕ = get_or bs 1 0 in
    if_case Ranged (says_state bs)
    (λ e. record { range = leb-true (field 6 2 bs) 9999 (both_true (eqb first 0x53 && eqb second 0) (leb (field 6 2 bs) 9999) e).1 }) λ _.
    if_case Ranged (says_for bs)
    (λ e.
    let p = both_true (eqb first 0x46 && is_counter second && leb (field 2 2 bs) 9999) _ e in
    let q = both_true (eqb first 0x46 && is_counter second) (leb (field 2 2 bs) 9999) p.0 in
    for_ranged (both_true (eqb first 0x46) (is_counter second) q.0).1 (leb-true (field 2 2 bs) 9999 q.1)) λ _.
    if_case Ranged (says_next bs)
    (λ e.
    let p = both_true (eqb first 0x4E && is_counter second) _ e in
    record { range = counter_is second (both_true (eqb first 0x4E) (is_counter second) p.0).1 }) λ _.
    record { range = tt }

-- ---- a line written and read

-- what the test says
pub is_bad_lem : (l : Line) → is_bad l ≡ true → l ≡ Bad
is_bad_lem (State o t) e = absurd (true≢false (sym e))
is_bad_lem (For c n) e = absurd (true≢false (sym e))
is_bad_lem (Next c) e = absurd (true≢false (sym e))
is_bad_lem Bad e = refl

-- a line whose values fit is not Bad
pub fits_good : (l : Line) → Fits l → is_bad l ≡ false
fits_good (State o t) f = refl
fits_good (For c n) f = refl
fits_good (Next c) f = refl
fits_good Bad f = absurd f

-- a time or a count fits two bytes
two : (v : ℕ) → v ≤ 9999 → number 256 (bytes 2 v) ≡ v
two v le = number_bytes 2 v (omega arith)

-- The eight bytes of a line, whatever follows them, are read as that line.
pub bytes_back : (l : Line) (r : List ℕ) → Fits l → read_line (bytes_of l ++ r) ≡ l
unfolding read_line bytes_of digits number_after
bytes_back (State o t) r f = let a = number_bytes 4 o f.0 in let b = two t f.1 in rw (a, b, le-leb t 9999 f.1)
bytes_back (For c n) r f = let b = two n f.1 in rw (counter_so c f.0, b, le-leb n 9999 f.1)
bytes_back (Next c) r f = rw (counter_so c f)
bytes_back Bad r f = absurd f

pub length_bytes : (l : Line) → length (bytes_of l) ≡ 8
unfolding bytes_of digits
length_bytes (State o t) = refl
length_bytes (For c n) = refl
length_bytes (Next c) = refl
length_bytes Bad = refl

-- a loop counter is a byte
counter_byte : (c : ℕ) → OneToFour c → ltb c 256 ≡ true
counter_byte c x = lt-ltb c 256 (omega (arith, x.1))

-- A line is stored in bytes.
pub line_bytes : (l : Line) → Ranged l → all (is_below 256) (bytes_of l) ≡ true
unfolding bytes_of
line_bytes (State o t) r =
    all_append (is_below 256) (bytes 4 o) (bytes 2 t) (digits_below 256 (omega arith) 4 o) (digits_below 256 (omega arith) 2 t)
line_bytes (For c n) r =
    rw (counter_byte c r.range.0) (all_append (is_below 256) (bytes 2 n) (replicate 4 0) (digits_below 256 (omega arith) 2 n) refl)
line_bytes (Next c) r = rw (counter_byte c r.range) refl
line_bytes Bad r = refl

-- ---- the outputs that a line sets

-- P holds of them, if the line is a State
abbrev pub Sets : (ℕ → Type 0) → Line → Type 0
Sets P (State outputs time) = P outputs
Sets P (For counter count) = Unit {0}
Sets P (Next counter) = Unit {0}
Sets P Bad = Unit {0}

-- "006 sets the outputs of a State line and ignores its time", and a line that sets none leaves them
pub sets_own : (o t before : ℕ) → set_by (State o t) before ≡ o
sets_own o t before = refl

pub sets_none : (l : Line) (before : ℕ) → Sets (λ _. ⊥) l → set_by l before ≡ before
sets_none (State o t) before none = absurd none
sets_none (For c n) before none = refl
sets_none (Next c) before none = refl
sets_none Bad before none = refl

-- what holds of those that stood and of those that a line sets holds after it is executed
pub set_by_lem : (P : ℕ → Type 0) (l : Line) (o : ℕ) → Sets P l → P o → P (set_by l o)
set_by_lem P (State outputs time) o s h = s
set_by_lem P (For c n) o s h = h
set_by_lem P (Next c) o s h = h
set_by_lem P Bad o s h = h

-- a word is a number of four bytes
abbrev pub Word : ℕ → Type 0
Word w = w < 256 ^ 4

pub fits_word : (l : Line) → Fits l → Sets Word l
fits_word (State o t) f = f.0
fits_word (For c n) f = tt
fits_word (Next c) f = tt
fits_word Bad f = tt

-- A line that is read in bytes sets a word, if it sets any.
pub read_word : (bs : List ℕ) → all (is_below 256) bs ≡ true → Sets Word (read_line bs)
unfolding read_line
read_word bs are =
    if_case (Sets Word) (says_state bs) (λ _. field_below 2 4 bs are) λ _.
    if_case (Sets Word) (says_for bs) (λ _. tt) λ _.
    if_case (Sets Word) (says_next bs) (λ _. tt) (λ _. tt)
