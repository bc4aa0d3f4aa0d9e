-- A text says one list of numbers at most: its lines, the fields of a line and their numbers can be taken apart in one way only.
-- Assumes nothing.
use mathlib.Core.Path.{◌≡◌, refl, sym, ap, ap₂, ◌∙◌}
use Prim.Native.Nat.{ℕ, ◌<◌}
use native.Mathlib.Omega.{arith}
use mathlib.Core.Bool.{Bool, true, false, not, ◌&&◌, ◌||◌, true≢false, false≢true}
use mathlib.Core.List.{List, [], ◌∷◌, ◌++◌, map, append_assoc}
use lib.ListN.{length, drop, get_or}
use lib.Dec.{eqb}
use Rattle.formats.specs.Checks.{all}
use Rattle.formats.specs.Digits.{number}
use Rattle.formats.proofs.Checks.{both_true}
use Rattle.plantext.specs.Text.{is_blank, is_hash, hex_value, Word, Time, Blanks, Between, Comment, none, remark, OnLine, nothing, move, NoLF, line_of}
use Rattle.plantext.specs.Text.{Says, last, line}
use Rattle.plantext.specs.Faults.{is_plain, is_over, Field}
use Rattle.plantext.proofs.Fields.{word_plain, time_plain}
use Rattle.plantext.proofs.Walking.{plain_neither}

-- ---- the longest front that a test holds of

abbrev head_is : (ℕ → Bool) → List ℕ → Bool
head_is p [] = false
head_is p (c ∷ cs) = p c

peel : (p : ℕ → Bool) (xs ys t u : List ℕ) → all p xs ≡ true → all p ys ≡ true → head_is p t ≡ false → head_is p u ≡ false → xs ++ t ≡ ys ++ u
    → (xs ≡ ys) × (t ≡ u)
peel p [] [] t u a b h k e = (refl, e)
peel p [] (y ∷ ys) t u a b h k e = absurd (true≢false (sym (both_true (p y) (all p ys) b).0 ∙ sym (ap (head_is p) e) ∙ h))
peel p (x ∷ xs) [] t u a b h k e = absurd (true≢false (sym (both_true (p x) (all p xs) a).0 ∙ ap (head_is p) e ∙ k))
peel p (x ∷ xs) (y ∷ ys) t u a b h k e =
    let more = peel p xs ys t u (both_true (p x) (all p xs) a).1 (both_true (p y) (all p ys) b).1 h k (ap (drop 1) e) in
    (ap₂ (λ z zs. z ∷ zs) (ap (λ l. get_or l 0 0) e) more.0, more.1)

-- ---- fields

over_head : (t : List ℕ) → is_over t ≡ true → head_is is_plain t ≡ false
over_head [] e = refl
over_head (c ∷ cs) e = go (is_blank c) (is_hash c) e
  where
    go : (t u : Bool) → (t || u) ≡ true → (not t && not u) ≡ false
    go true u h = refl
    go false true h = refl
    go false false h = absurd (false≢true h)

plain_head : (f t : List ℕ) → 0 < length f → all is_plain f ≡ true → head_is is_plain (f ++ t) ≡ true
plain_head [] t some e = absurd (omega arith)
plain_head (c ∷ f) t some e = (both_true (is_plain c) (all is_plain f) e).0

blank_head : (t : List ℕ) → head_is is_plain t ≡ true → head_is is_blank t ≡ false
blank_head [] e = refl
blank_head (c ∷ cs) e = (plain_neither c e).0

-- the next field of a line, and what follows it
same_field : (b f t b' f' t' : List ℕ) → Blanks b → Blanks b' → Field f t → Field f' t' → b ++ (f ++ t) ≡ b' ++ (f' ++ t') → (f ≡ f') × (t ≡ t')
same_field b f t b' f' t' are are' is is' e =
    let starts = blank_head (f ++ t) (plain_head f t is.some is.plain) in
    let starts' = blank_head (f' ++ t') (plain_head f' t' is'.some is'.plain) in
    peel is_plain f f' t t' is.plain is'.plain (over_head t is.over) (over_head t' is'.over)
    (peel is_blank b b' (f ++ t) (f' ++ t') are are' starts starts' e).1

word_field : {w t : List ℕ} {x : ℕ} → Word w x → is_over t ≡ true → Field w t
word_field {w} is over = record { some = omega (arith, is.eight); plain = word_plain w is.digits; over = over }

time_field : {s t : List ℕ} {x : ℕ} → Time s x → is_over t ≡ true → Field s t
time_field {s} is over = record { some = is.some; plain = time_plain s is.digits; over = over }

between_over : (b t : List ℕ) → Between b → is_over (b ++ t) ≡ true
between_over [] t are = absurd (omega (arith, are.some))
between_over (c ∷ b) t are = rw (both_true (is_blank c) (all is_blank b) are.blanks).0

closing_over : (b c : List ℕ) → Blanks b → Comment c → is_over (b ++ c) ≡ true
closing_over [] [] are none = refl
closing_over [] (_ ∷ _) are (remark cs) = refl
closing_over (x ∷ b) c are rest = rw (both_true (is_blank x) (all is_blank b) are).0

same_word : {w w' : List ℕ} {x x' : ℕ} → Word w x → Word w' x' → w ≡ w' → x ≡ x'
same_word is is' e = is.value ∙ ap (λ f. number 16 (map hex_value f)) e ∙ sym is'.value

same_time : {s s' : List ℕ} {x x' : ℕ} → Time s x → Time s' x' → s ≡ s' → x ≡ x'
same_time is is' e = is.value ∙ ap (λ f. number 10 (map hex_value f)) e ∙ sym is'.value

-- ---- lines

-- the parts of a move's line, each with all that follows it
parts : (b₀ w b₁ s b₂ v b₃ r b₄ c : List ℕ)
    → b₀ ++ w ++ b₁ ++ s ++ b₂ ++ v ++ b₃ ++ r ++ b₄ ++ c ≡ b₀ ++ (w ++ (b₁ ++ (s ++ (b₂ ++ (v ++ (b₃ ++ (r ++ (b₄ ++ c))))))))
parts b₀ w b₁ s b₂ v b₃ r b₄ c = simp append_assoc

comment_head : {c : List ℕ} → Comment c → head_is is_blank c ≡ false
comment_head none = refl
comment_head (remark cs) = refl

-- nothing on a line is no move
no_move : (b c b' f t : List ℕ) → Blanks b → Comment c → Blanks b' → Field f t → b ++ c ≡ b' ++ (f ++ t) → ⊥
no_move b c b' f t are rest are' is e =
    let starts = plain_head f t is.some is.plain in
    let tails = (peel is_blank b b' c (f ++ t) are are' (comment_head rest) (blank_head (f ++ t) starts) e).1 in
    true≢false (sym starts ∙ ap (head_is is_plain) (sym tails) ∙ over_head c (closing_over [] c refl rest))

-- A line says one list of numbers.
one_line : {l l' ns ms : List ℕ} → OnLine l ns → OnLine l' ms → l ≡ l' → ns ≡ ms
one_line (nothing b c are rest) (nothing b' c' are' rest') e = refl
one_line (nothing b c are rest) (move b₀ w b₁ s b₂ v b₃ r b₄ c' x y z u are₀ is₀ are₁ is₁ are₂ is₂ are₃ is₃ are₄ rest') e =
    absurd (no_move b c b₀ w _ are rest are₀ (word_field is₀ (between_over b₁ _ are₁)) (e ∙ parts b₀ w b₁ s b₂ v b₃ r b₄ c'))
one_line (move b₀ w b₁ s b₂ v b₃ r b₄ c' x y z u are₀ is₀ are₁ is₁ are₂ is₂ are₃ is₃ are₄ rest') (nothing b c are rest) e =
    absurd (no_move b c b₀ w _ are rest are₀ (word_field is₀ (between_over b₁ _ are₁)) (sym e ∙ parts b₀ w b₁ s b₂ v b₃ r b₄ c'))
one_line (move b₀ w b₁ s b₂ v b₃ r b₄ c x y z u are₀ is₀ are₁ is₁ are₂ is₂ are₃ is₃ are₄ rest)
    (move b₀' w' b₁' s' b₂' v' b₃' r' b₄' c' x' y' z' u' are₀' is₀' are₁' is₁' are₂' is₂' are₃' is₃' are₄' rest') e =
    let whole = sym (parts b₀ w b₁ s b₂ v b₃ r b₄ c) ∙ e ∙ parts b₀' w' b₁' s' b₂' v' b₃' r' b₄' c' in
    let e₀ = same_field b₀ w _ b₀' w' _ are₀ are₀' (word_field is₀ (between_over b₁ _ are₁)) (word_field is₀' (between_over b₁' _ are₁')) whole in
    let e₁ = same_field b₁ s _ b₁' s' _ are₁.blanks are₁'.blanks (time_field is₁ (between_over b₂ _ are₂))
    (time_field is₁' (between_over b₂' _ are₂')) e₀.1 in
    let e₂ = same_field b₂ v _ b₂' v' _ are₂.blanks are₂'.blanks (word_field is₂ (between_over b₃ _ are₃))
    (word_field is₂' (between_over b₃' _ are₃')) e₁.1 in
    let e₃ = same_field b₃ r _ b₃' r' _ are₃.blanks are₃'.blanks (time_field is₃ (closing_over b₄ c are₄ rest))
    (time_field is₃' (closing_over b₄' c' are₄' rest')) e₂.1 in
    ap₂ (λ n ns. n ∷ ns) (same_word is₀ is₀' e₀.0)
    (ap₂ (λ n ns. n ∷ ns) (same_time is₁ is₁' e₁.0)
    (ap₂ (λ n ns. n ∷ ns) (same_word is₂ is₂' e₂.0)
    (ap (λ n. n ∷ []) (same_time is₃ is₃' e₃.0))))

-- ---- texts

-- a line that has an LF behind it is not the last
not_last : (l l' t : List ℕ) → NoLF l → l ≡ l' ++ 10 ∷ t → ⊥
not_last [] [] t are e = absurd (omega (arith, ap length e))
not_last [] (c ∷ l') t are e = absurd (omega (arith, ap length e))
not_last (c ∷ l) [] t are e =
    let is = ap (λ x. get_or x 0 0) e in
    false≢true (ap (λ x. not (eqb x 10)) (sym is) ∙ (both_true (not (eqb c 10)) _ are).0)
not_last (c ∷ l) (d ∷ l') t are e = not_last l l' t (both_true (not (eqb c 10)) _ are).1 (ap (drop 1) e)

one_text : {t t' ns ms : List ℕ} → Says t ns → Says t' ms → t ≡ t' → ns ≡ ms
one_text (last l ns are is) (last l' ms are' is') e = one_line is is' e
one_text (last l ns are is) (line l' t' ns' ms' are' is' rest') e = absurd (not_last l l' t' are e)
one_text (line l t ns ms are is rest) (last l' ns' are' is') e = absurd (not_last l' l t are' (sym e))
one_text (line l t ns ms are is rest) (line l' t' ns' ms' are' is' rest') e =
    let p = peel (λ c. not (eqb c 10)) l l' (10 ∷ t) (10 ∷ t') are are' refl refl e in
    ap₂ (λ xs ys. xs ++ ys) (one_line is is' (ap line_of p.0)) (one_text rest rest' (ap (drop 1) p.1))

-- A text says one list of numbers.
pub one_meaning : (t ns ms : List ℕ) → Says t ns → Says t ms → ns ≡ ms
one_meaning t ns ms s s' = one_text s s' refl
