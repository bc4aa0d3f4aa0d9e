-- Laws of an address that passes check 3: it is one that the characters name, and a writable one is none of those that are only read.
-- Assumes nothing.
use mathlib.Core.Path.{◌≡◌, refl, sym, ap, ap₂, ◌∙◌}
use mathlib.Core.Logic.{◌≢◌}
use Prim.Native.Nat.{ℕ, ◌-◌, ◌≤◌}
use Prim.Native.Char.{code}
use native.Mathlib.Omega.{arith}
use mathlib.Core.Bool.{Bool, true, false, not, ◌||◌, true≢false}
use mathlib.Core.List.{List, ◌∷◌, ◌++◌}
use lib.ListN.{length, drop, take-append-drop}
use lib.Seq.{drop-cons, drop-drop}
use lib.Dec.{eqb, leb}
use borrow.Author.Tests.{eqb-true, eqb-false, leb-true, ne_eqb, not-true}
use Rattle.formats.specs.Checks.{Res, refused, passed, ◌>>=◌, ◌>>◌, ◌or_else◌, text}
use Rattle.formats.specs.Digits.{shown, number_in}
use Rattle.formats.specs.Bytes.{part}
use Rattle.formats.proofs.Checks.{if_case, either_true, below, both_passed, rule_holds, passed_same, ok_at, not_passed, Err, err_at, err_bind, err_guard}
use Rattle.formats.proofs.Characters.{read_shows, number_err}
use Rattle.formats.proofs.Parts.{length_part}
use Rattle.wire.specs.Command.{char, has_address, rest, address_in, is_writable}
use Rattle.wire.specs.Naming.{Names, by_digits, by_i, by_d}
use Rattle.wire.proofs.Addresses.{five_long, writable_inside}

-- the characters cs are two, an address that names k, and the rest
pub record Named (next k : ℕ) (cs : List ℕ) : Type 0 where
  pub address : List ℕ
  pub names : Names next k address
  pub is : cs ≡ char cs 0 ∷ char cs 1 ∷ (address ++ rest cs)

module _ (next k : ℕ) (cs : List ℕ) (three : 3 ≤ length cs) where
  -- two characters, and what stands behind them
  behind_two : {r : List ℕ} → drop 2 cs ≡ r → cs ≡ char cs 0 ∷ char cs 1 ∷ r
  behind_two e =
      drop-cons cs 0 0 (omega arith) ∙ ap (λ r. char cs 0 ∷ r) (drop-cons cs 1 0 (omega arith)) ∙ ap (λ r. char cs 0 ∷ char cs 1 ∷ r) e

  -- one character, and what stands behind it
  behind_three : {c : ℕ} → char cs 2 ≡ c → drop 2 cs ≡ c ∷ drop 3 cs
  behind_three e = drop-cons cs 2 0 (omega arith) ∙ ap (λ c. c ∷ drop 3 cs) e

  by_step_on : char cs 2 ≡ code "I" → address_in next cs ≡ passed k → Named next k cs
  unfolding address_in text
  by_step_on c e =
      let p = both_passed (leb next 216 or_else 4) (passed next) (rw c at e) in
      record { address = text "I"; names = by_i refl (sym (passed_same p.1)); is = behind_two (behind_three c ∙ rw c) }

  by_step_back : char cs 2 ≡ code "D" → address_in next cs ≡ passed k → Named next k cs
  unfolding address_in text
  by_step_back c e =
      let p = both_passed (leb 2 next or_else 4) (passed (next - 2)) (rw c at e) in
      let two = leb-true 2 next (rule_holds (leb 2 next) 4 p.0.1) in
      let is : next - 2 ≡ k = passed_same p.1 in
      record { address = text "D"; names = by_d refl (omega arith); is = behind_two (behind_three c ∙ rw c) }

  by_three_digits : (char cs 2 ≡ code "I" → ⊥) → (char cs 2 ≡ code "D" → ⊥) → 5 ≤ length cs → address_in next cs ≡ passed k → Named next k cs
  unfolding address_in ◌>>=◌
  by_three_digits i d five e = go (number_in 10 4 (part 2 3 cs)) refl (rw (ne_eqb _ _ i, ne_eqb _ _ d) at e)
    where
      go : (r : Res ℕ) → number_in 10 4 (part 2 3 cs) ≡ r → (r >>= (λ v. (leb v 216 or_else 4) >> passed v)) ≡ passed k → Named next k cs
      go (refused x) n f = absurd (not_passed f)
      go (passed v) n f =
          let is : v ≡ k = passed_same (both_passed (leb v 216 or_else 4) (passed v) f).1 in
          let shows : shown 10 (length (part 2 3 cs)) v ≡ part 2 3 cs =
          ok_at (λ u. shown 10 (length (part 2 3 cs)) u ≡ part 2 3 cs) (read_shows 10 (omega arith) (omega arith) 4 (part 2 3 cs)) n in
          let long : length (part 2 3 cs) ≡ 3 = length_part 2 3 cs (omega arith) in
          record {
            address = part 2 3 cs;
            names = by_digits (sym shows ∙ ap₂ (λ m u. shown 10 m u) long is);
            is = behind_two (sym (take-append-drop 3 (drop 2 cs)) ∙ ap (λ r. part 2 3 cs ++ r) (drop-drop 3 2 cs ∙ rw (ne_eqb _ _ i, ne_eqb _ _ d)));
          }

  -- What passes check 3 is an address that the characters name.
  pub named : has_address cs ≡ true → address_in next cs ≡ passed k → Named next k cs
  named has e = go (eqb (char cs 2) (code "I")) refl (eqb (char cs 2) (code "D")) refl
    where
      go : (a : Bool) → eqb (char cs 2) (code "I") ≡ a → (b : Bool) → eqb (char cs 2) (code "D") ≡ b → Named next k cs
      go true f b g = by_step_on (eqb-true _ _ f) e
      go false f true g = by_step_back (eqb-true _ _ g) e
      go false f false g = let i = eqb-false _ _ f in let d = eqb-false _ _ g in by_three_digits i d (five_long cs has i d) e

-- an address that is refused is refused with 4
address_err : (next : ℕ) (cs : List ℕ) → Err (λ e. e ≡ 4) (address_in next cs)
unfolding address_in
address_err next cs =
    let Four : ℕ → Type 0 = λ e. e ≡ 4 in
    if_case (Err Four) (eqb (char cs 2) (code "I")) (λ _. err_guard Four (leb next 216) _ _ (λ _. refl) λ _. tt) λ _.
    if_case (Err Four) (eqb (char cs 2) (code "D")) (λ _. err_guard Four (leb 2 next) _ _ (λ _. refl) λ _. tt) λ _.
    err_bind Four (number_in 10 4 (part 2 3 cs)) _ (number_err Four 10 4 refl _) λ k _. err_guard Four (leb k 216) _ _ (λ _. refl) λ _. tt

pub refused_four : (next : ℕ) (cs : List ℕ) (e : ℕ) → address_in next cs ≡ refused e → e ≡ 4
refused_four next cs e f = err_at (λ i. i ≡ 4) (address_err next cs) f

-- 01: "a write to 201, 202, 207, 208 or 211-216"
pub writable_so : (k : ℕ) → is_writable k ≡ true → (k ≤ 210) × (k ≢ 201) × (k ≢ 202) × (k ≢ 207) × (k ≢ 208)
writable_so k can = (
  leb-true k 210 (either_true (not (is_writable k)) (leb k 210) (below (λ j. not (is_writable j) || leb j 210) 217 refl k (omega (arith, writable_inside k can)))
      (λ e. absurd (true≢false (sym can ∙ not-true (is_writable k) e))) (λ e. e)),
  not_at 201 refl,
  not_at 202 refl,
  not_at 207 refl,
  not_at 208 refl,
)
  where
    not_at : (j : ℕ) → is_writable j ≡ false → k ≢ j
    not_at j e z = true≢false (sym can ∙ ap is_writable z ∙ e)

-- and those that are none of them can be written
pub so_writable : (k : ℕ) → k ≤ 210 → k ≢ 201 → k ≢ 202 → k ≢ 207 → k ≢ 208 → is_writable k ≡ true
so_writable k le a b c d =
    by_four (eqb k 201) (eqb k 202) (eqb k 207) (eqb k 208) (is_writable k) (ne_eqb k 201 a) (ne_eqb k 202 b) (ne_eqb k 207 c) (ne_eqb k 208 d)
    (below (λ j. eqb j 201 || eqb j 202 || eqb j 207 || eqb j 208 || is_writable j) 211 refl k (omega arith))
  where
    by_four : (a b c d x : Bool) → a ≡ false → b ≡ false → c ≡ false → d ≡ false → (a || b || c || d || x) ≡ true → x ≡ true
    by_four a b c d x e f g h is = rw (e, f, g, h) at is
