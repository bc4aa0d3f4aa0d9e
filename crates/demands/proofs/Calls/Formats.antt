-- Laws of replies: a value is shown in the format of its address, and no such reply is an error's.
-- Assumes nothing.
use mathlib.Core.Path.{◌≡◌, refl, sym, ap, ◌∙◌}
use Prim.Native.Nat.{ℕ, ◌+◌, ◌≤◌, ◌<◌}
use Prim.Native.Char.{code}
use native.Mathlib.Omega.{arith}
use mathlib.Core.Bool.{Bool, true, false, ◌&&◌, true≢false}
use mathlib.Core.List.{List, [], ◌∷◌}
use lib.ListN.{length, get_or, take, drop, length-append}
use lib.Dec.{eqb, leb}
use borrow.Author.Tests.{eq-eqb, ne_eqb, eqb-true, eqb-false, leb-true, leb-false}
use Rattle.formats.specs.Checks.{passed, text, all}
use Rattle.formats.specs.Digits.{is_digit, digits, shown, number_in, h, d, error_text}
use Rattle.formats.proofs.Checks.{if_case, both_true, and_false, passed_same}
use Rattle.formats.proofs.Characters.{length_shown, shown_digits, shown_back}
use Rattle.lines.specs.declared.Line.{Line}
use Rattle.lines.specs.Line.{is_bad, Ranges}
use Rattle.lines.specs.Program.{line_at}
use Rattle.lines.proofs.Lines.{Ranged, read_ranged}
use Rattle.texts.specs.Text.{line_text}
use Rattle.texts.proofs.Texts.{no_error}
use Rattle.running.specs.declared.Run.{Run}
use Rattle.variables.specs.declared.Panel.{Panel}
use Rattle.variables.specs.Variables.{line_of, is_bad_at, value}
use Rattle.demands.specs.Seen.{is_error}
use Rattle.demands.specs.Replies.{ended}

-- ---- what is looked at

-- n digits to a base
abbrev pub is_digits : ℕ → ℕ → List ℕ → Bool
is_digits base n cs = eqb (length cs) n && all (is_digit base) cs

-- what a read of address k shows looks so: that many digits to that base
pub data Printed (k : ℕ) (cs : List ℕ) : Type 0 where
  a_line : k ≤ 200 → (l : Line) → is_bad l ≡ false → Ranges l → cs ≡ line_text l → Printed k cs
  in_h : 201 ≤ k → k ≤ 207 → is_digits 16 2 cs ≡ true → Printed k cs
  in_d : 208 ≤ k → k ≤ 212 → is_digits 10 3 cs ≡ true → Printed k cs
  in2_d : 213 ≤ k → k ≤ 216 → is_digits 10 4 cs ≡ true → Printed k cs

-- ---- values

digits_shown : (base n v : ℕ) → 0 < base → base ≤ 16 → is_digits base n (shown base n v) ≡ true
digits_shown base n v pos le = rw (eq-eqb _ _ (length_shown base n v), shown_digits base pos le n v)

line_ranged : (panel : Panel) (program : List ℕ) (k : ℕ) → Ranged (line_of panel program k)
unfolding line_of line_at
line_ranged panel program k = if_case Ranged (eqb k 200) (λ _. read_ranged panel.single) (λ _. read_ranged _)

-- What a read shows is in the format of its address, where no Bad line stands there.
pub value_in_format : (panel : Panel) (run : Run) (paused : Bool) (program : List ℕ) (k : ℕ) → k ≤ 216 → is_bad_at panel program k ≡ false
    → Printed k (value panel run paused program k)
unfolding value is_bad_at
value_in_format panel run paused program k le good =
    if_case (Printed k) (leb k 200)
    (λ e. a_line (leb-true k 200 e) (line_of panel program k) (rw e at good) (line_ranged panel program k).range refl) λ n.
    let above : 200 < k = leb-false k 200 n in
    if_case (Printed k) (eqb k 201) (λ e. hex 201 _ (eqb-true k 201 e) (omega arith) (omega arith)) λ _.
    if_case (Printed k) (eqb k 202) (λ e. hex 202 _ (eqb-true k 202 e) (omega arith) (omega arith)) λ _.
    if_case (Printed k) (leb k 206) (λ e. let is = leb-true k 206 e in in_h (omega arith) (omega arith) (digits_shown 16 2 _ (omega arith) (omega arith))) λ m.
    let over : 206 < k = leb-false k 206 m in
    if_case (Printed k) (eqb k 207) (λ e. hex 207 _ (eqb-true k 207 e) (omega arith) (omega arith)) λ a.
    let ne : (k ≡ 207 → ⊥) = eqb-false k 207 a in
    if_case (Printed k) (eqb k 208) (λ e. three 208 _ (eqb-true k 208 e) (omega arith) (omega arith)) λ b.
    let nf : (k ≡ 208 → ⊥) = eqb-false k 208 b in
    if_case (Printed k) (eqb k 209) (λ e. three 209 _ (eqb-true k 209 e) (omega arith) (omega arith)) λ c.
    let ng : (k ≡ 209 → ⊥) = eqb-false k 209 c in
    if_case (Printed k) (eqb k 210) (λ e. three 210 _ (eqb-true k 210 e) (omega arith) (omega arith)) λ c.
    let nh : (k ≡ 210 → ⊥) = eqb-false k 210 c in
    if_case (Printed k) (eqb k 211) (λ e. three 211 _ (eqb-true k 211 e) (omega arith) (omega arith)) λ c.
    let ni : (k ≡ 211 → ⊥) = eqb-false k 211 c in
    if_case (Printed k) (eqb k 212) (λ e. three 212 _ (eqb-true k 212 e) (omega arith) (omega arith)) λ c.
    let nj : (k ≡ 212 → ⊥) = eqb-false k 212 c in
    in2_d (omega arith) le (digits_shown 10 4 _ (omega arith) (omega arith))
  where
    hex : (j v : ℕ) → k ≡ j → 201 ≤ j → j ≤ 207 → Printed k (h v)
    hex j v is lo hi = in_h (omega arith) (omega arith) (digits_shown 16 2 _ (omega arith) (omega arith))

    three : (j v : ℕ) → k ≡ j → 208 ≤ j → j ≤ 212 → Printed k (d v)
    three j v is lo hi = in_d (omega arith) (omega arith) (digits_shown 10 3 _ (omega arith) (omega arith))

-- ---- errors

ended_length : (cs : List ℕ) (n : ℕ) → length cs ≡ n → (n ≡ 4 → ⊥) → eqb (length (ended cs)) 5 ≡ false
ended_length cs n e ne =
    let l : length (ended cs) ≡ length cs + 1 = length-append cs (13 ∷ []) in
    ne_eqb (length (ended cs)) 5 (λ (z : length (ended cs) ≡ 5). ne (omega arith))

-- "Errors are E and three digits", and byte 13.
pub error_is_error : (e : ℕ) → is_error (ended (error_text e)) ≡ true
unfolding error_text text
error_is_error e =
    let l : length (ended (error_text e)) ≡ 5 = simp (length-append, length_shown) in
    ap (λ b. b && true) (eq-eqb (length (ended (error_text e))) 5 l)

-- its number is read off it
pub error_same : (e e' : ℕ) → e < 1000 → e' < 1000 → ended (error_text e) ≡ ended (error_text e') → e ≡ e'
unfolding error_text text shown digits
error_same e e' lt lt' f =
    let back : (v : ℕ) → v < 1000 → number_in 10 3 (d v) ≡ passed v = λ v small. shown_back 10 (omega arith) (omega arith) 3 3 v small in
    passed_same (sym (back e lt) ∙ ap (λ cs. number_in 10 3 (take 3 (drop 1 cs))) f ∙ back e' lt')

-- and so is a number in the format d
pub shown_same : (v w : ℕ) → v < 1000 → w < 1000 → ended (d v) ≡ ended (d w) → v ≡ w
unfolding shown digits
shown_same v w lt lt' f =
    let back : (u : ℕ) → u < 1000 → number_in 10 3 (d u) ≡ passed u = λ u small. shown_back 10 (omega arith) (omega arith) 3 3 u small in
    passed_same (sym (back v lt) ∙ ap (λ cs. number_in 10 3 (take 3 cs)) f ∙ back w lt')

-- a decimal digit is not the letter E
digit_not_e : (c : ℕ) → is_digit 10 c ≡ true → eqb c (code "E") ≡ false
digit_not_e c e = ne_eqb c 69 (λ z. true≢false (sym e ∙ rw z))

first_digit : (cs : List ℕ) → length cs ≡ 4 → all (is_digit 10) cs ≡ true → eqb (get_or (ended cs) 0 0) (code "E") ≡ false
first_digit [] l e = absurd (omega arith)
first_digit (c ∷ cs) l e = digit_not_e c (both_true (is_digit 10 c) (all (is_digit 10) cs) e).0

-- A reply in the format of an address is no error's.
pub format_no_error : (k : ℕ) (cs : List ℕ) → Printed k cs → is_error (ended cs) ≡ false
format_no_error k cs (a_line le l good r e) = rw (e, no_error l (13 ∷ []) good) (and_false (eqb (length (ended (line_text l))) 5))
format_no_error k cs (in_h lo hi e) = rw (ended_length cs 2 (eqb-true _ _ (both_true (eqb (length cs) 2) _ e).0) (λ z. omega arith))
format_no_error k cs (in_d lo hi e) = rw (ended_length cs 3 (eqb-true _ _ (both_true (eqb (length cs) 3) _ e).0) (λ z. omega arith))
format_no_error k cs (in2_d lo hi e) =
    let b = both_true (eqb (length cs) 4) (all (is_digit 10) cs) e in
    rw (first_digit cs (eqb-true _ _ b.0) b.1) (and_false (eqb (length (ended cs)) 5))

-- nor is OK
pub ok_no_error : is_error (ended (text "OK")) ≡ false
unfolding text
ok_no_error = refl
