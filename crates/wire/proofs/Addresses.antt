-- Laws of addresses: where none is named it is E004, a named one is found, and none lies outside 000-216.
-- Assumes nothing.
use mathlib.Core.Path.{◌≡◌, refl, sym, ap, ◌∙◌}
use mathlib.Core.Logic.{inl, inr}
use Prim.Native.Nat.{ℕ, suc, ◌-◌, ◌/◌, ◌%◌, ◌≤◌, ◌<◌}
use Prim.Native.Char.{code}
use native.Mathlib.Omega.{arith}
use mathlib.Core.Bool.{Bool, true, false, not, ◌&&◌, ◌||◌, true≢false}
use mathlib.Core.List.{List, ◌∷◌, ◌++◌, head-eq_of_cons-eq}
use lib.ListN.{length, drop, length-drop}
use lib.Dec.{eqb, leb}
use borrow.Author.Tests.{eq-eqb, ne_eqb, le-leb, lt-leb, leb-true, leb-false, not-true}
use Rattle.formats.specs.Checks.{refused, passed, ◌>>=◌, ◌>>◌, ◌or_else◌, text, Ok}
use Rattle.formats.specs.Digits.{digits, digit_char, shown, number_in}
use Rattle.formats.proofs.Checks.{if_case, both_true, and_false, not_so, below, ok_passed, ok_guard}
use Rattle.formats.proofs.Characters.{shown_back, length_shown}
use Rattle.formats.specs.Bytes.{part}
use Rattle.wire.specs.Command.{char, is_read, is_write, is_stepwise, has_address, in_format, rest, address_in, is_writable}
use Rattle.wire.specs.Naming.{Names, by_digits, by_i, by_d, IsStep, NamesNone}

-- the ways of the check, one law for each: I, D, and three digits
module _ (next : ℕ) (cs : List ℕ) where
  pub onward : char cs 2 ≡ code "I" → next ≤ 216 → address_in next cs ≡ passed next
  unfolding address_in ◌>>◌ ◌or_else◌
  onward i le = rw (i, le-leb next 216 le)

  pub not_onward : char cs 2 ≡ code "I" → 216 < next → address_in next cs ≡ refused 4
  unfolding address_in ◌>>◌ ◌or_else◌
  not_onward i lt = rw (i, lt-leb next 216 lt)

  pub backward : char cs 2 ≡ code "D" → 2 ≤ next → address_in next cs ≡ passed (next - 2)
  unfolding address_in ◌>>◌ ◌or_else◌
  backward d le = rw (d, le-leb 2 next le)

  pub not_backward : char cs 2 ≡ code "D" → next < 2 → address_in next cs ≡ refused 4
  unfolding address_in ◌>>◌ ◌or_else◌
  not_backward d lt = rw (d, lt-leb 2 next lt)

  module _ (i : char cs 2 ≡ code "I" → ⊥) (d : char cs 2 ≡ code "D" → ⊥) where
    pub not_digits : number_in 10 4 (part 2 3 cs) ≡ refused 4 → address_in next cs ≡ refused 4
    unfolding address_in ◌>>=◌
    not_digits n = rw (ne_eqb _ _ i, ne_eqb _ _ d, n)

    pub by_number : (k : ℕ) → number_in 10 4 (part 2 3 cs) ≡ passed k → k ≤ 216 → address_in next cs ≡ passed k
    unfolding address_in ◌>>=◌ ◌>>◌ ◌or_else◌
    by_number k n le = rw (ne_eqb _ _ i, ne_eqb _ _ d, n, le-leb k 216 le)

    pub beyond : (k : ℕ) → number_in 10 4 (part 2 3 cs) ≡ passed k → 216 < k → address_in next cs ≡ refused 4
    unfolding address_in ◌>>=◌ ◌>>◌ ◌or_else◌
    beyond k n lt = rw (ne_eqb _ _ i, ne_eqb _ _ d, n, lt-leb k 216 lt)

pub ruleset address_ways = (onward, not_onward, backward, not_backward, not_digits, beyond)

-- no digit is the letter I or D
digit_no_letter : (v : ℕ) → v < 10 → (eqb (digit_char v) (code "I") ≡ false) × (eqb (digit_char v) (code "D") ≡ false)
digit_no_letter v lt =
    let e = below (λ v. not (eqb (digit_char v) (code "I")) && not (eqb (digit_char v) (code "D"))) 10 refl v lt in
    let p = both_true (not (eqb (digit_char v) (code "I"))) (not (eqb (digit_char v) (code "D"))) e in
    (not-true _ p.0, not-true _ p.1)

-- 02, item 7: from before 000, where `next` is 000, D names none; nor does it from 000.
pub none_before_lem : (next : ℕ) → next ≤ 1 → NamesNone next (text "D")
unfolding text
none_before_lem next few k le (by_digits d) = let n : ◌≡◌ {A = ℕ} 1 3 = ap length d ∙ length_shown 10 3 k in omega arith
none_before_lem next few k le (by_i i n) = let z : ◌≡◌ {A = ℕ} 68 73 = head-eq_of_cons-eq i in omega arith
none_before_lem next few k le (by_d d n) = omega arith

-- I or D where it names none is E004, whatever stands behind it.
module _ (x y next : ℕ) (more : List ℕ) (le : next ≤ 217) where
  none_onward : NamesNone next (text "I") → address_in next (x ∷ y ∷ (text "I" ++ more)) ≡ refused 4
  unfolding address_in text ◌>>◌ ◌or_else◌
  none_onward none = rw (not_so (leb next 216) (λ e. none next (leb-true next 216 e) (by_i refl refl)))

  none_back : NamesNone next (text "D") → address_in next (x ∷ y ∷ (text "D" ++ more)) ≡ refused 4
  unfolding address_in text ◌>>◌ ◌or_else◌
  none_back none =
      rw (not_so (leb 2 next) (λ e. let two = leb-true 2 next e in none (next - 2) (omega arith) (by_d refl (omega arith))))

  pub unnamed : (a : List ℕ) → IsStep a → NamesNone next a → address_in next (x ∷ y ∷ (a ++ more)) ≡ refused 4
  unnamed a (inl i) none = rw i (none_onward (rw i at none))
  unnamed a (inr d) none = rw d (none_back (rw d at none))

-- the characters x y, an address and more
module _ (x y next k : ℕ) (inside : k ≤ 216) (more : List ℕ) where
  abbrev after : List ℕ → List ℕ
  after a = x ∷ y ∷ (a ++ more)

  -- the address that a command names, and what stands behind it
  pub record Found (a : List ℕ) : Type 0 where
    pub address : address_in next (after a) ≡ passed k
    pub behind : rest (after a) ≡ more
    pub three : leb 3 (length (after a)) ≡ true
    pub long : (is_stepwise (after a) || leb 5 (length (after a))) ≡ true

  found_digits : Found (shown 10 3 k)
  unfolding address_in shown digits ◌>>=◌ ◌>>◌ ◌or_else◌
  found_digits =
      let n = digit_no_letter (k / 10 / 10 % 10) (omega arith) in
      let b : number_in 10 4 (shown 10 3 k) ≡ passed k = shown_back 10 (omega arith) (omega arith) 4 3 k (omega arith) in
      record {
        address = rw (n.0, n.1, b, le-leb k 216 inside);
        behind = rw (n.0, n.1);
        three = le-leb 3 (length (after (shown 10 3 k))) (omega arith);
        long = rw (n.0, n.1, le-leb 5 (length (after (shown 10 3 k))) (omega arith));
      }

  pub found : {a : List ℕ} → Names next k a → Found a
  unfolding address_in text ◌>>◌ ◌or_else◌
  found (by_digits e) = rw e found_digits
  found (by_i e n) =
      rw e (record { address = rw (← n, le-leb k 216 inside); behind = refl; three = le-leb 3 (suc (suc (suc (length more)))) (omega arith); long = refl })
  found (by_d e n) =
      rw e (record {
        address = rw (le-leb 2 next (omega arith)) (ap passed (omega arith));
        behind = refl;
        three = le-leb 3 (suc (suc (suc (length more)))) (omega arith);
        long = refl;
      })

-- Every address that passes the check lies in 000-216.
pub address_inside : (next : ℕ) (cs : List ℕ) → next ≤ 217 → Ok (λ k. k ≤ 216) (address_in next cs)
unfolding address_in
address_inside next cs le =
    if_case (Ok (λ k. k ≤ 216)) (eqb (char cs 2) (code "I"))
    (λ _. ok_guard (λ k. k ≤ 216) (leb next 216) _ _ λ e. leb-true next 216 e) λ _.
    if_case (Ok (λ k. k ≤ 216)) (eqb (char cs 2) (code "D"))
    (λ _. ok_guard (λ k. k ≤ 216) (leb 2 next) _ _ λ _. omega arith) λ _.
    ok_passed (λ k. k ≤ 216) (number_in 10 4 (part 2 3 cs)) _ λ k _.
    ok_guard (λ k. k ≤ 216) (leb k 216) _ _ λ e. leb-true k 216 e

-- a command whose address is neither I nor D has five characters
pub five_long : (cs : List ℕ) → (is_stepwise cs || leb 5 (length cs)) ≡ true → (char cs 2 ≡ code "I" → ⊥) → (char cs 2 ≡ code "D" → ⊥) → 5 ≤ length cs
five_long cs e i d =
    let f : (eqb (char cs 2) (code "I") || eqb (char cs 2) (code "D") || leb 5 (length cs)) ≡ true = e in
    leb-true 5 (length cs) (rw (ne_eqb _ _ i, ne_eqb _ _ d) at f)

-- something stands behind the address, or nothing
pub rest_some : (cs : List ℕ) (at : ℕ) → drop at cs ≡ rest cs → at < length cs → eqb (length (rest cs)) 0 ≡ false
rest_some cs at e lt = ne_eqb _ _ (λ z. let n : length cs - at ≡ 0 = sym (length-drop at cs) ∙ ap length e ∙ z in omega arith)

pub rest_none : (cs : List ℕ) (at : ℕ) → drop at cs ≡ rest cs → length cs ≤ at → eqb (length (rest cs)) 0 ≡ true
rest_none cs at e le = eq-eqb (length (rest cs)) 0 (let n : length (rest cs) ≡ length cs - at = sym (ap length e) ∙ length-drop at cs in omega arith)

-- an address that can be written is one of the 217
pub writable_inside : (k : ℕ) → is_writable k ≡ true → k ≤ 216
writable_inside k can = go (leb k 216) refl
  where
    beyond : 216 < k → is_writable k ≡ false
    beyond lt =
        rw (lt-leb k 200 (omega arith), lt-leb k 206 (omega arith), ne_eqb k 209 (λ z. omega arith), ne_eqb k 210 (λ z. omega arith), and_false (leb 203 k))

    go : (b : Bool) → leb k 216 ≡ b → k ≤ 216
    go true e = leb-true k 216 e
    go false e = absurd (true≢false (sym can ∙ beyond (leb-false k 216 e)))

-- the outputs begin at 203: 201 and 202 cannot be written
pub outputs_from : (k : ℕ) → is_writable k ≡ true → leb k 200 ≡ false → k ≤ 206 → 203 ≤ k
outputs_from k can above le =
    let e = below (λ j. not (is_writable j) || leb j 200 || leb 203 j) 207 refl k (omega arith) in
    leb-true 203 k (rw (can, above) at e)
