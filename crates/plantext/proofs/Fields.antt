-- Laws of the characters of a field: what they are behind the last of them.
-- Assumes nothing.
use mathlib.Core.Path.{◌≡◌, refl, sym, ap, ◌∙◌}
use Prim.Native.Nat.{ℕ, ◌+◌, ◌*◌, ◌≤◌, ◌<◌}
use native.Mathlib.Omega.{arith}
use mathlib.Core.Bool.{Bool, true, false, not, true≢false, false≢true}
use mathlib.Core.List.{List, [], ◌∷◌, map}
use lib.ListN.{length}
use lib.Dec.{leb, ltb, eqb}
use borrow.Author.Tests.{leb-false, eqb-true, ltb-true, ltb-false, lt-ltb, le-ltb, lt-leb, ne_eqb}
use Rattle.std.specs.Prelude.{if◌then◌else◌}
use Rattle.formats.specs.Checks.{all}
use Rattle.formats.specs.Digits.{number_after, number}
use Rattle.formats.proofs.Checks.{if_case, both_true}
use Rattle.plantext.specs.declared.Number.{Number}
use Rattle.plantext.specs.declared.Number.TheVariants.{Few, Whole, Never}
use Rattle.plantext.specs.Text.{hex_value, is_digit_to, Word, Time}
use Rattle.plantext.specs.Faults.{is_plain}
use Rattle.plantext.specs.Kept.{capped}
use Rattle.plantext.specs.declared.Kind.{Kind}
use Rattle.plantext.specs.declared.Kind.TheVariants.{MoveWord, Settling, ReadingWord, Reading}
use Rattle.plantext.specs.Reading.{base, value_after, with_digit, grown}

-- ---- the characters one after the other

-- those of a field of digits to the base b, behind what stands before them
unfoldable pub number_behind : ℕ → Number → List ℕ → Number
number_behind b n [] = n
number_behind b n (c ∷ f) = number_behind b (grown b (hex_value c) n) f

-- it is right as it stands
abbrev pub is_whole : Number → Bool
is_whole (Few n v) = false
is_whole (Whole v) = true
is_whole Never = false

-- it has begun
abbrev pub is_begun : Number → Bool
is_begun (Few n v) = not (eqb n 0)
is_begun (Whole v) = true
is_begun Never = true

-- ---- one character

-- it is no digit
after_other : (b x : ℕ) (n : Number) → leb b x ≡ true → grown b x n ≡ Never
unfolding grown
after_other b x n e = rw e

-- what has no value is none in any field
pub no_value : (k : Kind) (n : Number) → grown (base k) 16 n ≡ Never
no_value MoveWord n = after_other 16 16 n refl
no_value Settling n = after_other 10 16 n refl
no_value ReadingWord n = after_other 16 16 n refl
no_value Reading n = after_other 10 16 n refl

-- it is one
after_digit : (b x : ℕ) (n : Number) → leb b x ≡ false → grown b x n ≡ with_digit b x n
unfolding grown
after_digit b x n e = rw e

digit_begins : (b x : ℕ) (n : Number) → is_begun (with_digit b x n) ≡ true
digit_begins b x (Few n v) =
    if_case (λ m. is_begun m ≡ true) (eqb b 16)
    (λ _. if_case (λ m. is_begun m ≡ true) (ltb n 7) (λ _. rw (ne_eqb (n + 1) 0 (λ z. omega arith))) (λ _. refl))
    (λ _. refl)
digit_begins b x (Whole v) = if_case (λ m. is_begun m ≡ true) (eqb b 10) (λ _. refl) (λ _. refl)
digit_begins b x Never = refl

after_some : (b x : ℕ) (n : Number) → is_begun (grown b x n) ≡ true
unfolding grown
after_some b x n = if_case (λ m. is_begun m ≡ true) (leb b x) (λ _. refl) (λ _. digit_begins b x n)

-- ---- all of them

-- what is no number stays none
never_stays : (b : ℕ) (f : List ℕ) → number_behind b Never f ≡ Never
unfolding number_behind grown
never_stays b [] = refl
never_stays b (c ∷ f) = if_case (λ n. number_behind b n f ≡ Never) (leb b (hex_value c)) (λ _. never_stays b f) (λ _. never_stays b f)

some_stay : (b : ℕ) (n : Number) (f : List ℕ) → is_begun n ≡ true → is_begun (number_behind b n f) ≡ true
unfolding number_behind
some_stay b n [] e = e
some_stay b n (c ∷ f) e = some_stay b (grown b (hex_value c) n) f (after_some b (hex_value c) n)

-- A field has begun behind its first character.
pub begun : (b : ℕ) (n : Number) (f : List ℕ) → 0 < length f → is_begun (number_behind b n f) ≡ true
unfolding number_behind
begun b n [] lt = absurd (omega arith)
begun b n (c ∷ f) lt = some_stay b (grown b (hex_value c) n) f (after_some b (hex_value c) n)

-- a character that is no digit leaves no number
not_whole : (b x : ℕ) (n : Number) (f : List ℕ) → grown b x n ≡ Never → is_whole (number_behind b (grown b x n) f) ≡ true → ⊥
not_whole b x n f never e = false≢true (sym (ap (λ m. is_whole (number_behind b m f)) never ∙ ap is_whole (never_stays b f)) ∙ e)

-- a test from the other side
digit_below : (b x : ℕ) → ltb x b ≡ true → leb b x ≡ false
digit_below b x e = lt-leb b x (ltb-true x b e)

other_above : (b x : ℕ) → leb b x ≡ false → ltb x b ≡ true
other_above b x e = lt-ltb x b (leb-false b x e)

-- ---- words

-- d digits of a word, of the value v, where there are at most eight
abbrev so_far : ℕ → ℕ → Number
so_far d v = if ltb d 8 then Few d v else Whole v

one_more : (d v x : ℕ) → leb 16 x ≡ false → d < 8 → grown 16 x (so_far d v) ≡ so_far (d + 1) (value_after 16 v x)
one_more d v x e lt = rw (lt-ltb d 8 lt) (after_digit 16 x (Few d v) e ∙ go (ltb d 7) refl)
  where
    go : (t : Bool) → ltb d 7 ≡ t → (if t then Few (d + 1) (value_after 16 v x) else Whole (value_after 16 v x)) ≡ so_far (d + 1) (value_after 16 v x)
    go true h = let few : d < 7 = ltb-true d 7 h in rw (lt-ltb (d + 1) 8 (omega arith))
    go false h = let most : 7 ≤ d = ltb-false d 7 h in rw (le-ltb (d + 1) 8 (omega arith))

-- the largest number stands for every larger one, with more digits behind it too
capped_more : (v x : ℕ) → value_after 16 (capped v) x ≡ capped (v * 16 + x)
capped_more v x = omega arith

-- eight hex digits make a word right
word_digits : (d v : ℕ) (f : List ℕ) → all (is_digit_to 16) f ≡ true → d + length f ≤ 8
    → number_behind 16 (so_far d (capped v)) f ≡ so_far (d + length f) (capped (number_after 16 v (map hex_value f)))
unfolding number_behind number_after
word_digits d v [] e le = let same : d + 0 ≡ d = omega arith in rw same
word_digits d v (c ∷ f) e le =
    let p = both_true (is_digit_to 16 c) (all (is_digit_to 16) f) e in
    let x = hex_value c in
    let long : d + 1 + length f ≡ d + length (c ∷ f) = omega arith in
    ap (λ n. number_behind 16 n f) (one_more d (capped v) x (digit_below 16 x p.0) (omega arith) ∙ ap (so_far (d + 1)) (capped_more v x))
    ∙ word_digits (d + 1) (v * 16 + x) f p.1 (omega arith)
    ∙ ap (λ n. so_far n (capped (number_after 16 (v * 16 + x) (map hex_value f)))) long

-- and only these do
word_back : (d v : ℕ) (f : List ℕ) → d ≤ 8 → is_whole (number_behind 16 (so_far d v) f) ≡ true → (all (is_digit_to 16) f ≡ true) × (d + length f ≡ 8)
unfolding number_behind
word_back d v [] le e = (refl, go (ltb d 8) refl e)
  where
    go : (t : Bool) → ltb d 8 ≡ t → is_whole (if t then Few d v else Whole v) ≡ true → d + 0 ≡ 8
    go true h w = absurd (false≢true w)
    go false h w = let ge : 8 ≤ d = ltb-false d 8 h in omega arith
word_back d v (c ∷ f) le e = go (leb 16 (hex_value c)) refl (ltb d 8) refl (word_back (d + 1) (value_after 16 v (hex_value c)) f)
  where
    x : ℕ
    x = hex_value c

    -- one too many
    ninth : ltb d 8 ≡ false → leb 16 x ≡ false → grown 16 x (so_far d v) ≡ Never
    ninth g h = rw g (after_digit 16 x (Whole v) h)

    go : (t : Bool) → leb 16 x ≡ t → (u : Bool) → ltb d 8 ≡ u
        → (d + 1 ≤ 8 → is_whole (number_behind 16 (so_far (d + 1) (value_after 16 v x)) f) ≡ true → (all (is_digit_to 16) f ≡ true) × (d + 1 + length f ≡ 8))
        → (all (is_digit_to 16) (c ∷ f) ≡ true) × (d + length (c ∷ f) ≡ 8)
    go true h u g more = absurd (not_whole 16 x (so_far d v) f (after_other 16 x (so_far d v) h) e)
    go false h false g more = absurd (not_whole 16 x (so_far d v) f (ninth g h) e)
    go false h true g more =
        let few : d < 8 = ltb-true d 8 g in
        let p = more (omega arith) (sym (ap (λ n. is_whole (number_behind 16 n f)) (one_more d v x h few)) ∙ e) in
        (rw (other_above 16 x h) p.0, omega (arith, p.1))

-- ---- times

capped_later : (v x : ℕ) → value_after 10 (capped v) x ≡ capped (v * 10 + x)
capped_later v x = omega arith

more_time : (v : ℕ) (f : List ℕ) → all (is_digit_to 10) f ≡ true
    → number_behind 10 (Whole (capped v)) f ≡ Whole (capped (number_after 10 v (map hex_value f)))
unfolding number_behind number_after
more_time v [] e = refl
more_time v (c ∷ f) e =
    let p = both_true (is_digit_to 10 c) (all (is_digit_to 10) f) e in
    let x = hex_value c in
    ap (λ n. number_behind 10 n f) (after_digit 10 x (Whole (capped v)) (digit_below 10 x p.0) ∙ ap Whole (capped_later v x))
    ∙ more_time (v * 10 + x) f p.1

-- one decimal digit or more make a time right
time_digits : (f : List ℕ) → 0 < length f → all (is_digit_to 10) f ≡ true → number_behind 10 (Few 0 0) f ≡ Whole (capped (number 10 (map hex_value f)))
unfolding number_behind number_after
time_digits [] lt e = absurd (omega arith)
time_digits (c ∷ f) lt e =
    let p = both_true (is_digit_to 10 c) (all (is_digit_to 10) f) e in
    let x = hex_value c in
    ap (λ n. number_behind 10 n f) (after_digit 10 x (Few 0 0) (digit_below 10 x p.0) ∙ ap Whole (capped_later 0 x))
    ∙ more_time (0 * 10 + x) f p.1

-- and only these do
time_back : (n : Number) (f : List ℕ) → is_whole (number_behind 10 n f) ≡ true → all (is_digit_to 10) f ≡ true
unfolding number_behind
time_back n [] e = refl
time_back n (c ∷ f) e = go (leb 10 (hex_value c)) refl (time_back (grown 10 (hex_value c) n) f e)
  where
    x : ℕ
    x = hex_value c

    go : (t : Bool) → leb 10 x ≡ t → all (is_digit_to 10) f ≡ true → all (is_digit_to 10) (c ∷ f) ≡ true
    go true h more = absurd (not_whole 10 x n f (after_other 10 x n h) e)
    go false h more = rw (other_above 10 x h) more

-- ---- fields that are right, and others

pub word_right : (f : List ℕ) (w : ℕ) → Word f w → number_behind 16 (Few 0 0) f ≡ Whole (capped w)
word_right f w is =
    let long : 0 + length f ≡ 8 = omega (arith, is.eight) in
    word_digits 0 0 f is.digits (omega (arith, is.eight))
    ∙ ap (λ d. so_far d (capped (number 16 (map hex_value f)))) long
    ∙ ap (λ n. Whole (capped n)) (sym is.value)

pub time_right : (f : List ℕ) (t : ℕ) → Time f t → number_behind 10 (Few 0 0) f ≡ Whole (capped t)
time_right f t is = time_digits f is.some is.digits ∙ ap (λ n. Whole (capped n)) (sym is.value)

pub word_wrong : (f : List ℕ) → ((w : ℕ) → Word f w → ⊥) → is_whole (number_behind 16 (Few 0 0) f) ≡ true → ⊥
word_wrong f never e =
    let p = word_back 0 0 f (omega arith) e in
    never (number 16 (map hex_value f)) (record { eight = omega (arith, p.1); digits = p.0; value = refl })

pub time_wrong : (f : List ℕ) → 0 < length f → ((t : ℕ) → Time f t → ⊥) → is_whole (number_behind 10 (Few 0 0) f) ≡ true → ⊥
time_wrong f some never e = never (number 10 (map hex_value f)) (record { some = some; digits = time_back (Few 0 0) f e; value = refl })

-- ---- a digit is no blank and no `#`

digit_plain : (c : ℕ) → is_digit_to 16 c ≡ true → is_plain c ≡ true
unfolding hex_value
digit_plain c e = go (eqb c 32) refl (eqb c 9) refl (eqb c 35) refl
  where
    other : (n : ℕ) → is_digit_to 16 n ≡ false → eqb c n ≡ true → ⊥
    other n none h = true≢false (sym e ∙ ap (is_digit_to 16) (eqb-true c n h) ∙ none)

    go : (t : Bool) → eqb c 32 ≡ t → (u : Bool) → eqb c 9 ≡ u → (v : Bool) → eqb c 35 ≡ v → is_plain c ≡ true
    go true h u i v j = absurd (other 32 refl h)
    go false h true i v j = absurd (other 9 refl i)
    go false h false i true j = absurd (other 35 refl j)
    go false h false i false j = rw (h, i, j)

pub word_plain : (f : List ℕ) → all (is_digit_to 16) f ≡ true → all is_plain f ≡ true
word_plain [] e = refl
word_plain (c ∷ f) e =
    let p = both_true (is_digit_to 16 c) (all (is_digit_to 16) f) e in
    rw (digit_plain c p.0) (word_plain f p.1)

pub time_plain : (f : List ℕ) → all (is_digit_to 10) f ≡ true → all is_plain f ≡ true
time_plain [] e = refl
time_plain (c ∷ f) e =
    let p = both_true (is_digit_to 10 c) (all (is_digit_to 10) f) e in
    let less : hex_value c < 10 = ltb-true (hex_value c) 10 p.0 in
    rw (digit_plain c (lt-ltb (hex_value c) 16 (omega arith))) (time_plain f p.1)
