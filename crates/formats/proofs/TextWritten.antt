-- Laws of text that is written into a lent area.
-- Assumes nothing.
use mathlib.Core.Path.{◌≡◌, refl, ◌∙◌}
use Prim.Native.Nat.{ℕ, ◌≤◌}
use native.Mathlib.Omega.{arith}
use mathlib.Core.List.{List, [], ◌++◌}
use lib.ListN.{length}
use Rattle.formats.specs.declared.Text.{Text}
use Rattle.formats.specs.Writing.{Wrote}
use Rattle.formats.specs.TextWritten.{Writes}
use Rattle.formats.proofs.Writing.{wrote_nothing, wrote_more}

-- no bytes: the text stays
pub writes_nothing : (t : Text) → t.at ≤ length t.area.now → Writes [] t t
writes_nothing t room = record { size = refl; room = room; wrote = wrote_nothing _ _ }

-- more bytes right behind
pub writes_more : {xs ys : List ℕ} {a b c : Text} → Writes xs a b → Writes ys b c → Writes (xs ++ ys) a c
writes_more w v =
    record {
      size = v.size ∙ w.size;
      room = omega (arith, v.room, w.size);
      wrote = wrote_more w.wrote w.room v.wrote;
    }

-- the same bytes, said otherwise
pub writes_as : {xs ys : List ℕ} {a b : Text} → Writes xs a b → xs ≡ ys → Writes ys a b
writes_as w e = rw (← e) w

-- what was written into a text that began at the start of an area is what was written into that area
pub written : {xs area whole : List ℕ} {first last : Text} → (first.area.now ≡ area) × (first.at ≡ 0) → Writes xs first last → whole ≡ last.area.now
    → Wrote 0 xs area last.at whole
written (same, zero) w e = rw e (rw same at (rw zero at w.wrote))
