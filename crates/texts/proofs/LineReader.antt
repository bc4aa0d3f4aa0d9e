-- The reader of a line is right both ways: E002 is told of a wrong length, E003 of characters that are no line, and what is read is a line in its
-- characters.
-- Assumes nothing.
use mathlib.Core.Path.{◌≡◌, refl, sym, ap, subst, ◌∙◌}
use mathlib.Core.Logic.{◌≢◌}
use mathlib.Core.Bool.{Bool, true, false}
use mathlib.Core.List.{List, [], ◌∷◌}
use Prim.Native.Nat.{ℕ, ◌≤◌, ◌<◌}
use Prim.Native.Char.{code}
use native.Mathlib.Omega.{arith}
use lib.ListN.{length, get_or}
use lib.Dec.{eqb, ltb}
use borrow.Author.Tests.{eqb-true, eqb-false, ltb-true, ltb-false}
use Rattle.formats.specs.Checks.{Res, refused, passed, ◌>>=◌, ◌>>◌, ◌or_else◌}
use Rattle.formats.proofs.Checks.{if_case, Err, err_at, ok_at}
use Rattle.formats.proofs.Readers.{Reader, wrong_length, no_format, reads, none_shown}
use Rattle.lines.specs.declared.Line.{Line}
use Rattle.lines.specs.Line.{Fits}
use Rattle.texts.specs.Text.{line_text, line_length, line_in, Sent, WrongLineLength, no_data, of_state, of_for, of_next}
use Rattle.texts.proofs.Texts.{accepted_shows, text_accepted, state_err, for_err, next_err}

module _ (cs : List ℕ) where
  abbrev first : ℕ
  first = get_or cs 0 0

  abbrev Shows : Line → Type 0
  Shows l = Fits l × (cs ≡ line_text l)

  abbrev Answer : Res Line → Type 0
  Answer = Reader (WrongLineLength cs) Shows

  back : (l : Line) → Shows l → line_in cs ≡ passed l
  back l s = ap line_in s.1 ∙ text_accepted l s.0

  -- E003
  none : (WrongLineLength cs → ⊥) → line_in cs ≡ refused 3 → Answer (line_in cs)
  none right is = subst Answer (sym is) (no_format right (none_shown Shows (line_in cs) is back))

  -- the length that the letter sets
  of_letter : 0 < line_length first → length cs ≢ line_length first → WrongLineLength cs
  of_letter known ne = go (eqb first (code "S")) refl (eqb first (code "F")) refl (eqb first (code "N")) refl
    where
      go : (s : Bool) → eqb first (code "S") ≡ s → (f : Bool) → eqb first (code "F") ≡ f → (n : Bool) → eqb first (code "N") ≡ n → WrongLineLength cs
      go true e f p n q = let c = eqb-true first 83 e in of_state c (rw c at ne)
      go false e true p n q = let c = eqb-true first 70 p in of_for c (rw c at ne)
      go false e false p true q = let c = eqb-true first 78 q in of_next c (rw c at ne)
      go false e false p false q = let z : 0 < 0 = rw (e, p, q) at known in absurd (omega arith)

  right_length : 0 < length cs → length cs ≡ line_length first → WrongLineLength cs → ⊥
  right_length some l (no_data e) = let z : 0 < 0 = rw e at some in omega arith
  right_length some l (of_state c ne) = ne (rw c at l)
  right_length some l (of_for c ne) = ne (rw c at l)
  right_length some l (of_next c ne) = ne (rw c at l)

  unknown_letter : 0 < length cs → line_length first ≤ 0 → WrongLineLength cs → ⊥
  unknown_letter some z (no_data e) = let x : 0 < 0 = rw e at some in omega arith
  unknown_letter some z (of_state c ne) = let x : 15 ≤ 0 = rw c at z in omega arith
  unknown_letter some z (of_for c ne) = let x : 6 ≤ 0 = rw c at z in omega arith
  unknown_letter some z (of_next c ne) = let x : 2 ≤ 0 = rw c at z in omega arith

  in_format : (WrongLineLength cs → ⊥) → Err (λ e. e ≡ 3) (line_in cs) → Answer (line_in cs)
  in_format right err = go (line_in cs) refl
    where
      go : (r : Res Line) → line_in cs ≡ r → Answer (line_in cs)
      go (refused e) is = none right (is ∙ ap refused (err_at (λ i. i ≡ 3) err is))
      go (passed l) is = let s = ok_at (Sent cs) (accepted_shows cs) is in subst Answer (sym is) (reads right l (s.fits, sym s.shows))

  -- The sentence at the top.
  pub line_reads : Reader (WrongLineLength cs) (λ l. Fits l × (cs ≡ line_text l)) (line_in cs)
  unfolding line_in ◌>>=◌ ◌>>◌ ◌or_else◌
  line_reads = go (ltb 0 (length cs)) refl (ltb 0 (line_length first)) refl (eqb (length cs) (line_length first)) refl
    where
      Three : ℕ → Type 0
      Three e = e ≡ 3

      empty : (xs : List ℕ) → length xs ≤ 0 → xs ≡ []
      empty [] le = refl
      empty (x ∷ xs) le = absurd (omega arith)

      go : (s : Bool) → ltb 0 (length cs) ≡ s → (k : Bool) → ltb 0 (line_length first) ≡ k → (l : Bool)
          → eqb (length cs) (line_length first) ≡ l → Answer (line_in cs)
      go false e k f l g = rw e (wrong_length (no_data (empty cs (ltb-false 0 (length cs) e))))
      go true e false f l g = none (unknown_letter (ltb-true 0 _ e) (ltb-false 0 _ f)) (rw (e, f))
      go true e true f false g = rw (e, f, g) (wrong_length (of_letter (ltb-true 0 _ f) (eqb-false (length cs) (line_length first) g)))
      go true e true f true g =
          in_format (right_length (ltb-true 0 _ e) (eqb-true (length cs) (line_length first) g))
          (rw (e, f, g) (if_case (Err Three) (eqb first (code "S")) (λ _. state_err Three refl cs) λ _.
          if_case (Err Three) (eqb first (code "F")) (λ _. for_err Three refl cs) λ _. next_err Three refl cs))
