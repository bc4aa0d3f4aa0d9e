-- Every line is right or wrong, and so every text either says numbers or has a first wrong line. The reader is not known here.
-- Assumes nothing.
use mathlib.Core.Path.{◌≡◌, refl, sym, ap, subst, ◌∙◌}
use Prim.Native.Nat.{ℕ, suc, ◌<◌}
use native.Mathlib.Omega.{arith}
use mathlib.Core.Bool.{Bool, true, false, not, ◌&&◌, ◌||◌, true≢false, false≢true}
use mathlib.Core.List.{List, [], ◌∷◌, ◌++◌, map, append_assoc}
use lib.ListN.{length}
use lib.Dec.{eqb}
use borrow.Author.Tests.{eqb-true, eq-eqb}
use Rattle.formats.specs.Checks.{all}
use Rattle.formats.specs.Digits.{number}
use Rattle.formats.proofs.Checks.{both_true}
use Rattle.plantext.specs.declared.Fault.{Fault}
use Rattle.plantext.specs.declared.Fault.TheVariants.{NoWord, NoSettling, NoReadingWord, NoReading, SettlingMissing, ReadingWordMissing, ReadingMissing, Behind}
use Rattle.plantext.specs.Text.{is_blank, is_hash, hex_value, is_digit_to, Word, Time, Blanks, Between, Comment, none, remark, OnLine, nothing, move, NoLF}
use Rattle.plantext.specs.Text.{line_of, Says, last, line}
use Rattle.plantext.specs.Faults.{is_plain, is_over, Field, Right, word, settling, reading_word, reading}
use Rattle.plantext.specs.Faults.{WrongLine, no_word, no_settling, no_reading_word, no_reading}
use Rattle.plantext.specs.Faults.{settling_missing, reading_word_missing, reading_missing, behind, Wrong, last as last_wrong, here, later}

pub data Judged (l : List ℕ) : Type 0 where
  right : (ns : List ℕ) → OnLine l ns → Judged l
  wrong : (e : Fault) → WrongLine l e → Judged l

-- ---- the parts of a line

-- blanks, and what follows them: a comment or nothing, or a field
data Parts (t : List ℕ) : Type 0 where
  closing : (b c : List ℕ) → Blanks b → Comment c → b ++ c ≡ t → Parts t
  going : (b f rest : List ℕ) → Blanks b → Field f rest → b ++ (f ++ rest) ≡ t → Parts t

record Cut (t : List ℕ) : Type 0 where
  pub field : List ℕ
  pub rest : List ℕ
  pub whole : field ++ rest ≡ t
  pub plain : all is_plain field ≡ true
  pub over : is_over rest ≡ true

-- the characters up to where a field is over
cut : (t : List ℕ) → Cut t
cut [] = record { field = []; rest = []; whole = refl; plain = refl; over = refl }
cut (c ∷ t) = go (is_blank c) refl (is_hash c) refl (cut t)
  where
    go : (u : Bool) → is_blank c ≡ u → (v : Bool) → is_hash c ≡ v → Cut t → Cut (c ∷ t)
    go true e v h x = record { field = []; rest = c ∷ t; whole = refl; plain = refl; over = rw e }
    go false e true h x = record { field = []; rest = c ∷ t; whole = refl; plain = refl; over = rw (e, h) }
    go false e false h x =
        record { field = c ∷ x.field; rest = x.rest; whole = ap (λ l. c ∷ l) x.whole; plain = rw (e, h) x.plain; over = x.over }

blank_more : (c : ℕ) {t : List ℕ} → is_blank c ≡ true → Parts t → Parts (c ∷ t)
blank_more c is (closing b d are rest e) = closing (c ∷ b) d (rw is are) rest (ap (λ l. c ∷ l) e)
blank_more c is (going b f rest are field e) = going (c ∷ b) f rest (rw is are) field (ap (λ l. c ∷ l) e)

parts : (t : List ℕ) → Parts t
parts [] = closing [] [] refl none refl
parts (c ∷ t) = go (is_blank c) refl (is_hash c) refl (parts t)
  where
    begins : c ≡ 35 → Comment (c ∷ t)
    begins is = subst (λ x. Comment (x ∷ t)) (sym is) (remark t)

    go : (u : Bool) → is_blank c ≡ u → (v : Bool) → is_hash c ≡ v → Parts t → Parts (c ∷ t)
    go true e v h p = blank_more c e p
    go false e true h p = closing [] (c ∷ t) refl (begins (eqb-true c 35 h)) refl
    go false e false h p =
        let x = cut t in
        going [] (c ∷ x.field) x.rest refl (record { some = omega arith; plain = rw (e, h) x.plain; over = x.over }) (ap (λ l. c ∷ l) x.whole)

-- where a field was over, there are blanks before the next
between : (b f rest : List ℕ) → is_over (b ++ (f ++ rest)) ≡ true → Blanks b → Field f rest → Between b
between [] [] rest over are is = absurd (omega (arith, is.some))
between [] (c ∷ f) rest over are is = absurd (go (is_blank c) (is_hash c) (both_true (is_plain c) (all is_plain f) is.plain).0 over)
  where
    go : (t u : Bool) → (not t && not u) ≡ true → (t || u) ≡ true → ⊥
    go true u h o = false≢true h
    go false true h o = false≢true h
    go false false h o = false≢true o
between (c ∷ b) f rest over are is = record { some = omega arith; blanks = are }

-- ---- what a field is

word_case : {X : Type 0} (f : List ℕ) → ((w : ℕ) → Word f w → X) → (((w : ℕ) → Word f w → ⊥) → X) → X
word_case {X} f found never = go (eqb (length f) 8) refl (all (is_digit_to 16) f) refl
  where
    go : (t : Bool) → eqb (length f) 8 ≡ t → (u : Bool) → all (is_digit_to 16) f ≡ u → X
    go true e true h = found (number 16 (map hex_value f)) (record { eight = eqb-true (length f) 8 e; digits = h; value = refl })
    go true e false h = never (λ w is. true≢false (sym is.digits ∙ h))
    go false e u h = never (λ w is. true≢false (sym (eq-eqb (length f) 8 is.eight) ∙ e))

time_case : {X : Type 0} (f : List ℕ) → 0 < length f → ((t : ℕ) → Time f t → X) → (((t : ℕ) → Time f t → ⊥) → X) → X
time_case {X} f some found never = go (all (is_digit_to 10) f) refl
  where
    go : (u : Bool) → all (is_digit_to 10) f ≡ u → X
    go true h = found (number 10 (map hex_value f)) (record { some = some; digits = h; value = refl })
    go false h = never (λ t is. true≢false (sym is.digits ∙ h))

-- ---- a line, field by field

-- behind the characters a, of which the last is a field's
next_part : (a t : List ℕ) → is_over t ≡ true → ((b c : List ℕ) → Blanks b → Comment c → Judged (a ++ b ++ c))
    → ((b f rest : List ℕ) → Between b → Field f rest → Judged (a ++ b ++ f ++ rest)) → Judged (a ++ t)
next_part a t over closes goes = go (parts t)
  where
    go : Parts t → Judged (a ++ t)
    go (closing b c are rest e) = subst Judged (append_assoc a b c ∙ ap (λ l. a ++ l) e) (closes b c are rest)
    go (going b f rest are is e) =
        let whole = append_assoc (a ++ b) f rest ∙ append_assoc a b (f ++ rest) ∙ ap (λ l. a ++ l) e in
        subst Judged whole (goes b f rest (between b f rest (ap is_over e ∙ over) are is) is)

module _ (b₀ w : List ℕ) (x : ℕ) (are₀ : Blanks b₀) (is₀ : Word w x) where
  p₁ : Right 1 (b₀ ++ w)
  p₁ = word b₀ w x are₀ is₀

  module _ (b₁ s : List ℕ) (y : ℕ) (are₁ : Between b₁) (is₁ : Time s y) where
    p₂ : Right 2 (b₀ ++ w ++ b₁ ++ s)
    p₂ = settling (b₀ ++ w) b₁ s y p₁ are₁ is₁

    module _ (b₂ v : List ℕ) (z : ℕ) (are₂ : Between b₂) (is₂ : Word v z) where
      p₃ : Right 3 (b₀ ++ w ++ b₁ ++ s ++ b₂ ++ v)
      p₃ = reading_word (b₀ ++ w ++ b₁ ++ s) b₂ v z p₂ are₂ is₂

      module _ (b₃ r : List ℕ) (u : ℕ) (are₃ : Between b₃) (is₃ : Time r u) where
        behind_reading : (t : List ℕ) → is_over t ≡ true → Judged (b₀ ++ w ++ b₁ ++ s ++ b₂ ++ v ++ b₃ ++ r ++ t)
        behind_reading t over =
            let a = b₀ ++ w ++ b₁ ++ s ++ b₂ ++ v ++ b₃ ++ r in
            let p₄ = reading (b₀ ++ w ++ b₁ ++ s ++ b₂ ++ v) b₃ r u p₃ are₃ is₃ in
            next_part a t over
            (λ b c are rest. right (x ∷ y ∷ z ∷ u ∷ []) (move b₀ w b₁ s b₂ v b₃ r b c x y z u are₀ is₀ are₁ is₁ are₂ is₂ are₃ is₃ are rest))
            (λ b f rest are is. wrong Behind (behind a b f rest p₄ are is))

      behind_back : (t : List ℕ) → is_over t ≡ true → Judged (b₀ ++ w ++ b₁ ++ s ++ b₂ ++ v ++ t)
      behind_back t over =
          let a = b₀ ++ w ++ b₁ ++ s ++ b₂ ++ v in
          next_part a t over
          (λ b c are rest. wrong ReadingMissing (reading_missing a b c p₃ are rest))
          (λ b f rest are is. time_case f is.some
          (λ n is-time. behind_reading b f n are is-time rest is.over)
          (λ never. wrong NoReading (no_reading a b f rest p₃ are is never)))

    behind_settling : (t : List ℕ) → is_over t ≡ true → Judged (b₀ ++ w ++ b₁ ++ s ++ t)
    behind_settling t over =
        let a = b₀ ++ w ++ b₁ ++ s in
        next_part a t over
        (λ b c are rest. wrong ReadingWordMissing (reading_word_missing a b c p₂ are rest))
        (λ b f rest are is. word_case f
        (λ n is_IsWord. behind_back b f n are is_IsWord rest is.over)
        (λ never. wrong NoReadingWord (no_reading_word a b f rest p₂ are is never)))

  behind_word : (t : List ℕ) → is_over t ≡ true → Judged (b₀ ++ w ++ t)
  behind_word t over =
      next_part (b₀ ++ w) t over
      (λ b c are rest. wrong SettlingMissing (settling_missing (b₀ ++ w) b c p₁ are rest))
      (λ b f rest are is. time_case f is.some
      (λ n is-time. behind_settling b f n are is-time rest is.over)
      (λ never. wrong NoSettling (no_settling (b₀ ++ w) b f rest p₁ are is never)))

-- A line is right or wrong.
pub judged : (l : List ℕ) → Judged l
judged l = go (parts l)
  where
    go : Parts l → Judged l
    go (closing b c are rest e) = subst Judged e (right [] (nothing b c are rest))
    go (going b f rest are is e) =
        subst Judged (append_assoc b f rest ∙ e)
        (word_case f (λ n is_IsWord. behind_word b f n are is_IsWord rest is.over) (λ never. wrong NoWord (no_word b f rest are is never)))

-- ---- texts

-- the lines of a text
data Lines : List ℕ → Type 0 where
  one : (l : List ℕ) → NoLF l → Lines l
  more : (l t : List ℕ) → NoLF l → Lines t → Lines (l ++ 10 ∷ t)

char_more : (c : ℕ) → eqb c 10 ≡ false → {t : List ℕ} → Lines t → Lines (c ∷ t)
char_more c e (one l are) = one (c ∷ l) (rw e are)
char_more c e (more l t are rest) = more (c ∷ l) t (rw e are) rest

lines_of : (t : List ℕ) → Lines t
lines_of [] = one [] refl
lines_of (c ∷ t) = go (eqb c 10) refl (lines_of t)
  where
    go : (b : Bool) → eqb c 10 ≡ b → Lines t → Lines (c ∷ t)
    go true e rest = subst (λ x. Lines (x ∷ t)) (sym (eqb-true c 10 e)) (more [] t refl rest)
    go false e rest = char_more c e rest

pub data JudgedText (t : List ℕ) : Type 0 where
  says : (ns : List ℕ) → Says t ns → JudgedText t
  fails : (n : ℕ) (e : Fault) → Wrong t n e → JudgedText t

by_lines : {t : List ℕ} → Lines t → JudgedText t
by_lines (one l are) = go (judged l)
  where
    go : Judged l → JudgedText l
    go (right ns is) = says ns (last l ns are is)
    go (wrong e is) = fails 1 e (last_wrong l e are is)
by_lines (more l t are rest) = go (judged (line_of l)) (by_lines rest)
  where
    go : Judged (line_of l) → JudgedText t → JudgedText (l ++ 10 ∷ t)
    go (right ns is) (says ms more-says) = says (ns ++ ms) (line l t ns ms are is more-says)
    go (right ns is) (fails n e more-fails) = fails (suc n) e (later l t ns n e are is more-fails)
    go (wrong e is) _ = fails 1 e (here l t e are is)

-- A text says numbers, or it is wrong.
pub judged_text : (t : List ℕ) → JudgedText t
judged_text t = by_lines (lines_of t)
