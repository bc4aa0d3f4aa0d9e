-- Laws of a number that is written into an area, its digits from the last to the first.
-- Assumes nothing.
use mathlib.Core.Path.{◌≡◌, sym, ap, ◌∙◌}
use Prim.Native.Nat.{ℕ, zero, suc, ◌+◌, ◌-◌, ◌/◌, ◌%◌, ◌≤◌, ◌<◌}
use native.Mathlib.Omega.{arith}
use native.Mathlib.Nat.{mod-lt}
use mathlib.Core.List.{List, [], ◌∷◌, ◌++◌, append_assoc}
use lib.ListN.{length, take, drop, set, get_or, length-drop}
use lib.Seq.{length-take-le, take_at, drop_at, take_all, drop-length, take-suc, take-suc-set, take-set-lt, set-append_left, drop-cons}
use Rattle.formats.specs.Digits.{digits, digit_char, shown}
use Rattle.formats.specs.Writing.{Wrote}
use Rattle.formats.proofs.Loops.{map_snoc}
use Rattle.formats.proofs.Characters.{length_shown}
use Rattle.formats.proofs.Writing.{wrote_nothing, wrote_as}

-- a digit is below its base
pub digit_below : (v base : ℕ) → 2 ≤ base → v % base < base
digit_below v base le = mod-lt v (omega arith)

-- the last digit stands behind the others
shown_snoc : (base n v : ℕ) → shown base (suc n) v ≡ shown base n (v / base) ++ (digit_char (v % base) ∷ [])
unfolding shown digits
shown_snoc base n v = map_snoc digit_char (digits base n (v / base)) (v % base)

-- n digits of v are written from the last to the first: i of them are left, of the number rest
module _ (base : ℕ) (area₀ : List ℕ) (at n v : ℕ) where
  abbrev all_digits_lem : List ℕ
  all_digits_lem = shown base n v

  pub record Left (i rest : ℕ) (area : List ℕ) : Type 0 where
    pub inside : i ≤ n
    pub first : shown base i rest ≡ take i all_digits_lem
    pub others : Wrote (at + i) (drop i all_digits_lem) area₀ (at + n) area

  long : length all_digits_lem ≡ n
  long = length_shown base n v

  -- at first all are left
  pub left_all : Left n v area₀
  left_all =
      let none : drop n all_digits_lem ≡ [] = ap (λ i. drop i all_digits_lem) (sym long) ∙ drop-length all_digits_lem in
      record {
        inside = omega arith;
        first = sym (take_all n all_digits_lem (omega (arith, long)));
        others = wrote_as (wrote_nothing (at + n) area₀) (sym none);
      }

  module _ (room : at + n ≤ length area₀) (j rest c : ℕ) (area : List ℕ) (l : Left (suc j) rest area) (is : c ≡ digit_char (rest % base)) where
    last : take (suc j) all_digits_lem ≡ take j all_digits_lem ++ (get_or all_digits_lem j 0 ∷ [])
    last = take-suc all_digits_lem j 0 (omega (arith, long, l.inside))

    -- the digits that are left, and the one that is written now
    both : shown base j (rest / base) ++ (c ∷ []) ≡ take j all_digits_lem ++ (get_or all_digits_lem j 0 ∷ [])
    both =
        ap (λ x. shown base j (rest / base) ++ (x ∷ [])) is ∙ sym (shown_snoc base j rest) ∙ l.first ∙ last

    as_many : length (take j all_digits_lem) ≡ j
    as_many = length-take-le j all_digits_lem (omega (arith, long, l.inside))

    first_left : shown base j (rest / base) ≡ take j all_digits_lem
    first_left =
        sym (take_at (shown base j (rest / base)) (c ∷ []) j (length_shown base j (rest / base))) ∙ ap (take j) both
        ∙ take_at (take j all_digits_lem) (get_or all_digits_lem j 0 ∷ []) j as_many

    now_written : c ≡ get_or all_digits_lem j 0
    now_written =
        ap (λ l. get_or l 0 0)
        (sym (drop_at (shown base j (rest / base)) (c ∷ []) j (length_shown base j (rest / base))) ∙ ap (drop j) both
        ∙ drop_at (take j all_digits_lem) (get_or all_digits_lem j 0 ∷ []) j as_many)

    there_now : set area (at + j) c ≡ take (at + j) area₀ ++ (c ∷ (drop (suc j) all_digits_lem ++ drop (at + suc j + length (drop (suc j) all_digits_lem)) area₀))
    there_now =
        let up : at + suc j ≡ suc (at + j) = omega arith in
        let behind = drop (suc j) all_digits_lem ++ drop (at + suc j + length (drop (suc j) all_digits_lem)) area₀ in
        let before : set (take (at + suc j) area₀) (at + j) c ≡ take (at + j) area₀ ++ (c ∷ []) =
        ap (λ m. set (take m area₀) (at + j) c) up ∙ sym (take-set-lt (suc (at + j)) area₀ (at + j) c (omega arith))
        ∙ take-suc-set area₀ (at + j) c (omega (arith, l.inside)) in
        let fits : length (take (at + suc j) area₀) ≡ at + suc j = length-take-le (at + suc j) area₀ (omega (arith, l.inside)) in
        ap (λ t. set t (at + j) c) l.others.there ∙ set-append_left (take (at + suc j) area₀) behind (at + j) c (omega (arith, fits))
        ∙ ap (λ t. t ++ behind) before ∙ append_assoc (take (at + j) area₀) (c ∷ []) behind

    left_one_less : Left j (rest / base) (set area (at + j) c)
    left_one_less =
        let now : c ∷ drop (suc j) all_digits_lem ≡ drop j all_digits_lem =
        ap (λ x. x ∷ drop (suc j) all_digits_lem) now_written ∙ sym (drop-cons all_digits_lem j 0 (omega (arith, long, l.inside))) in
        let far : at + suc j + length (drop (suc j) all_digits_lem) ≡ at + j + length (c ∷ drop (suc j) all_digits_lem) = omega arith in
        let written : Wrote (at + j) (c ∷ drop (suc j) all_digits_lem) area₀ (at + n) (set area (at + j) c) = record {
          behind = omega (arith, length-drop (suc j) all_digits_lem, long, l.inside);
          there = there_now ∙ ap (λ m. take (at + j) area₀ ++ (c ∷ (drop (suc j) all_digits_lem ++ drop m area₀))) far;
        } in
        record { inside = omega (arith, l.inside); first = first_left; others = wrote_as written now }

  -- one digit more
  pub left_less : (i rest c : ℕ) (area : List ℕ) → at + n ≤ length area₀ → 0 < i → Left i rest area → c ≡ digit_char (rest % base)
      → Left (i - 1) (rest / base) (set area (at + (i - 1)) c)
  left_less zero rest c area room some l is = absurd (omega arith)
  left_less (suc j) rest c area room some l is =
      let one : suc j - 1 ≡ j = omega arith in
      rw one (left_one_less room j rest c area l is)
