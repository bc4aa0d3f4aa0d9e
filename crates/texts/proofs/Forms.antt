-- The wire forms of a line in a reader's words: "`S 00 X4 X3 X2 X1 TTTT`, `F C XXXX`, `N C`", each field in digits that are worth its value.
-- Assumes nothing.
use mathlib.Core.Path.{◌≡◌, refl}
use Prim.Native.Nat.{ℕ, ◌^◌, ◌≤◌, ◌<◌}
use native.Mathlib.Omega.{arith}
use mathlib.Core.List.{List, ◌∷◌, ◌++◌}
use Rattle.formats.specs.Checks.{text}
use Rattle.formats.specs.Digits.{shown}
use Rattle.formats.specs.Worth.{ReadAs}
use Rattle.formats.proofs.Worth.{shown_read}
use Rattle.lines.specs.declared.Line.TheVariants.{State, For, Next}
use Rattle.lines.specs.Line.{OneToFour}
use Rattle.texts.specs.Text.{line_text}

-- S, 00, the outputs in eight hex digits and the time in four
pub state_form : (o t : ℕ) → o < 256 ^ 4 → t ≤ 9999
    → (a b : List ℕ) × (line_text (State o t) ≡ 0x53 ∷ 0x30 ∷ 0x30 ∷ (a ++ b)) × ReadAs 16 8 o a × ReadAs 10 4 t b
unfolding line_text text
state_form o t lt le =
    (shown 16 8 o, shown 10 4 t, refl, shown_read 16 (omega arith) (omega arith) 8 o (omega arith), shown_read 10 (omega arith) (omega arith) 4 t (omega arith))

-- F, the counter and the count in four digits
pub for_form : (c n : ℕ) → OneToFour c → n ≤ 9999
    → (a b : List ℕ) × (line_text (For c n) ≡ 0x46 ∷ (a ++ b)) × ReadAs 10 1 c a × ReadAs 10 4 n b
unfolding line_text text
for_form c n x le = (
  shown 10 1 c,
  shown 10 4 n,
  refl,
  shown_read 10 (omega arith) (omega arith) 1 c (omega (arith, x.1)),
  shown_read 10 (omega arith) (omega arith) 4 n (omega arith),
)

-- N and the counter
pub next_form : (c : ℕ) → OneToFour c → (a : List ℕ) × (line_text (Next c) ≡ 0x4E ∷ a) × ReadAs 10 1 c a
unfolding line_text text
next_form c x = (shown 10 1 c, refl, shown_read 10 (omega arith) (omega arith) 1 c (omega (arith, x.1)))
