-- Laws of the variables: the box's table and its bytes of the output word are the demands' own, at every address.
-- Assumes nothing.
use mathlib.Core.Path.{◌≡◌, refl, ap}
use Prim.Native.Nat.{ℕ, ◌+◌, ◌≤◌}
use native.Mathlib.Omega.{arith}
use mathlib.Core.Bool.{Bool, true, false, not}
use mathlib.Core.List.{List}
use lib.Dec.{eqb, leb}
use borrow.Author.Tests.{eqb-true, eqb-false, leb-true, leb-false, le-leb}
use Rattle.formats.specs.Digits.{digits, number_after, h}
use Rattle.lines.specs.Line.{Fits}
use Rattle.texts.specs.Text.{line_text}
use Rattle.running.specs.declared.Run.{Run}
use Rattle.variables.specs.Variables.{line_of, output_byte, with_output_byte, status_bits, value}
use Rattle.controller.proofs.Lines.{single_back}
use Rattle.demands.specs.Told.{Told, with_byte}
use Rattle.demands.specs.Shown.{bit_of, shown_of}
use Rattle.demands.proofs.History.Asked.{panel_of}

-- what holds at each of four numbers holds from the first to the last
one_of_four : (P : ℕ → Type 0) (k n : ℕ) → n ≤ k → k ≤ n + 3 → P n → P (n + 1) → P (n + 2) → P (n + 3) → P k
one_of_four P k n lo hi a b c d = go (eqb k n) refl (eqb k (n + 1)) refl (eqb k (n + 2)) refl
  where
    go : (x : Bool) → eqb k n ≡ x → (y : Bool) → eqb k (n + 1) ≡ y → (z : Bool) → eqb k (n + 2) ≡ z → P k
    go true e y f z g = rw (eqb-true k n e) a
    go false e true f z g = rw (eqb-true k (n + 1) f) b
    go false e false f true g = rw (eqb-true k (n + 2) g) c
    go false e false f false g =
        let last : k ≡ n + 3 = omega (arith, eqb-false k n e, eqb-false k (n + 1) f, eqb-false k (n + 2) g) in
        rw last d

pub with_byte_lem : (k x word : ℕ) → 203 ≤ k → k ≤ 206 → with_output_byte k x word ≡ with_byte k x word
unfolding with_output_byte with_byte digits number_after
with_byte_lem k x word lo hi =
    one_of_four (λ j. with_output_byte j x word ≡ with_byte j x word) k 203 lo (omega arith) (omega arith) (omega arith) (omega arith) (omega arith)

-- ---- the table

bits_same : (u r p : Bool) → status_bits u r p ≡ bit_of 128 u + bit_of 2 r + bit_of 1 p
bits_same true true true = refl
bits_same true true false = refl
bits_same true false true = refl
bits_same true false false = refl
bits_same false true true = refl
bits_same false true false = refl
bits_same false false true = refl
bits_same false false false = refl

module _ (t : Told) (fits : Fits t.single) (r : Run) (program : List ℕ) where
  abbrev Same : ℕ → Type 0
  Same k = value (panel_of t) r t.paused program k ≡ shown_of r t program k

  -- the lines, in the program area and at 200
  line_shown : (k : ℕ) → k ≤ 200 → Same k
  unfolding value shown_of line_of
  line_shown k le = go (eqb k 200) refl
    where
      go : (b : Bool) → eqb k 200 ≡ b → Same k
      go true e = rw (eqb-true k 200 e) (ap line_text (single_back t.single fits))
      go false e =
          let ne : (k ≡ 200 → ⊥) = eqb-false k 200 e in
          rw (le-leb k 200 le, le-leb k 199 (omega arith), e)

  -- What the box shows is what the demands' table has.
  pub value_shown : (k : ℕ) → k ≤ 216 → Same k
  unfolding value shown_of output_byte digits
  value_shown k inside = go (leb k 200) refl (leb k 204) refl (leb k 208) refl (leb k 212) refl
    where
      byte : {v w : ℕ} → v ≡ w → h v ≡ h w
      byte e = ap h e

      go : (a : Bool) → leb k 200 ≡ a → (b : Bool) → leb k 204 ≡ b → (c : Bool) → leb k 208 ≡ c → (d : Bool) → leb k 212 ≡ d → Same k
      go true a b b' c c' d d' = line_shown k (leb-true k 200 a)
      go false a true b c c' d d' =
          one_of_four Same k 201 (leb-false k 200 a) (leb-true k 204 b) (byte (bits_same (not (eqb t.event 0)) r.on t.paused)) refl
          (byte (omega arith)) (byte (omega arith))
      go false a false b true c d d' =
          one_of_four Same k 205 (leb-false k 204 b) (leb-true k 208 c) (byte (omega arith)) (byte (omega arith)) refl refl
      go false a false b false c true d = one_of_four Same k 209 (leb-false k 208 c) (leb-true k 212 d) refl refl refl refl
      go false a false b false c false d = one_of_four Same k 213 (leb-false k 212 d) inside refl refl refl refl
