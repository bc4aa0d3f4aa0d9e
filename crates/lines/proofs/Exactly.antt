-- Eight bytes are Bad exactly if they are the bytes of no line: a reader that takes too much for a line fails this, and one that takes too
-- little.
-- Assumes nothing.
use mathlib.Core.Path.{◌≡◌, refl, sym, ap, ap₂, subst, ◌∙◌}
use mathlib.Core.Logic.{◌≢◌}
use Prim.Native.Nat.{ℕ, ◌+◌, ◌≤◌}
use native.Mathlib.Omega.{arith}
use mathlib.Core.Bool.{Bool, true, false, ◌&&◌, true≢false}
use mathlib.Core.List.{List, [], ◌∷◌, ◌++◌, append-nil}
use lib.ListN.{length, take, drop, get_or}
use lib.Seq.{drop-cons, drop-drop, take-add}
use lib.Dec.{leb, eqb}
use borrow.Author.Tests.{eqb-true}
use Rattle.formats.specs.Checks.{all}
use Rattle.formats.specs.Digits.{digits}
use Rattle.formats.specs.Bytes.{part, field, bytes}
use Rattle.formats.proofs.Checks.{if_case, both_true}
use Rattle.formats.proofs.Digits.{is_below}
use Rattle.formats.proofs.Bytes.{field_back}
use Rattle.lines.specs.declared.Line.{Line}
use Rattle.lines.specs.declared.Line.TheVariants.{State, For, Next, Bad}
use Rattle.lines.specs.Line.{is_counter, says_state, says_for, says_next, is_bad, read_line, bytes_of, Ranges, Fits}
use Rattle.lines.proofs.Lines.{read_ranged, bytes_back, is_bad_lem, Sets, Word, read_word}
use Rattle.lines.proofs.Places.{eight}

-- ---- what is read as a line is written as those bytes

module _ (bs : List ℕ) (are : all (is_below 256) bs ≡ true) (long : 8 ≤ length bs) where
  abbrev first : ℕ
  first = get_or bs 0 0

  abbrev second : ℕ
  second = get_or bs 1 0

  -- the eight are the first two, and six; the six are some of them, and the others
  first_two : take 8 bs ≡ first ∷ second ∷ part 2 6 bs
  first_two = ap (take 8) (drop-cons bs 0 0 (omega arith) ∙ ap (λ r. first ∷ r) (drop-cons bs 1 0 (omega arith)))

  six_as : (m n : ℕ) → m + n ≡ 6 → part 2 6 bs ≡ part 2 m bs ++ part (2 + m) n bs
  six_as m n e = ap (λ k. part 2 k bs) (sym e) ∙ take-add m n (drop 2 bs) ∙ ap (λ r. part 2 m bs ++ take n r) (drop-drop m 2 bs)

  -- some of them whose number is v
  these : (i n v : ℕ) → i + n ≤ length bs → field i n bs ≡ v → part i n bs ≡ bytes n v
  these i n v inside e = sym (field_back i n bs are inside) ∙ ap (bytes n) e

  eight_as : {a b : ℕ} {r : List ℕ} → first ≡ a → second ≡ b → part 2 6 bs ≡ r → take 8 bs ≡ a ∷ b ∷ r
  eight_as e f g = first_two ∙ rw (e, f, g)

  state_exact : says_state bs ≡ true → take 8 bs ≡ bytes_of (State (field 2 4 bs) (field 6 2 bs))
  unfolding bytes_of
  state_exact e =
      let p = both_true (eqb first 0x53 && eqb second 0) (leb (field 6 2 bs) 9999) e in
      let q = both_true (eqb first 0x53) (eqb second 0) p.0 in
      eight_as (eqb-true first 0x53 q.0) (eqb-true second 0 q.1)
      (six_as 4 2 refl ∙ ap₂ (λ x y. x ++ y) (these 2 4 _ (omega arith) refl) (these 6 2 _ (omega arith) refl))

  for_exact : says_for bs ≡ true → take 8 bs ≡ bytes_of (For second (field 2 2 bs))
  unfolding bytes_of digits
  for_exact e =
      let p = both_true (eqb first 0x46 && is_counter second && leb (field 2 2 bs) 9999) (eqb (field 4 4 bs) 0) e in
      let q = both_true (eqb first 0x46 && is_counter second) (leb (field 2 2 bs) 9999) p.0 in
      eight_as (eqb-true first 0x46 (both_true (eqb first 0x46) (is_counter second) q.0).0) refl
      (six_as 2 4 refl ∙ ap₂ (λ x y. x ++ y) (these 2 2 _ (omega arith) refl) (these 4 4 0 (omega arith) (eqb-true (field 4 4 bs) 0 p.1)))

  next_exact : says_next bs ≡ true → take 8 bs ≡ bytes_of (Next second)
  unfolding bytes_of digits
  next_exact e =
      let p = both_true (eqb first 0x4E && is_counter second) (eqb (field 2 6 bs) 0) e in
      eight_as (eqb-true first 0x4E (both_true (eqb first 0x4E) (is_counter second) p.0).0) refl
      (these 2 6 0 (omega arith) (eqb-true (field 2 6 bs) 0 p.1))

  -- What is read as a line is written as those eight bytes,
  pub read_exact : is_bad (read_line bs) ≡ false → take 8 bs ≡ bytes_of (read_line bs)
  unfolding read_line
  read_exact =
      let P : Line → Type 0 = λ l. is_bad l ≡ false → take 8 bs ≡ bytes_of l in
      if_case P (says_state bs) (λ e _. state_exact e) λ _.
      if_case P (says_for bs) (λ e _. for_exact e) λ _.
      if_case P (says_next bs) (λ e _. next_exact e) (λ _ good. absurd (true≢false good))

  -- and its values fit.
  pub read_fits : is_bad (read_line bs) ≡ false → Fits (read_line bs)
  read_fits good = fits (read_line bs) (read_ranged bs).range (read_word bs are) good
    where
      fits : (l : Line) → Ranges l → Sets Word l → is_bad l ≡ false → Fits l
      fits (State o t) r w good = (w, r)
      fits (For c n) r w good = r
      fits (Next c) r w good = r
      fits Bad r w good = absurd (true≢false good)

  -- Bytes that are those of no line are Bad,
  pub none_bad : ((l : Line) → Fits l → take 8 bs ≢ bytes_of l) → read_line bs ≡ Bad
  none_bad none = go (is_bad (read_line bs)) refl
    where
      go : (b : Bool) → is_bad (read_line bs) ≡ b → read_line bs ≡ Bad
      go true e = is_bad_lem (read_line bs) e
      go false e = absurd (none (read_line bs) (read_fits e) (read_exact e))

-- and the bytes of a line are not.
pub bad_none : (bs : List ℕ) → read_line bs ≡ Bad → (l : Line) → Fits l → take 8 bs ≢ bytes_of l
bad_none bs bad l fits e =
    let is : l ≡ Bad = sym (bytes_back l [] fits) ∙ ap read_line (append-nil (bytes_of l) ∙ sym e) ∙ eight bs ∙ bad in
    subst Fits is fits
