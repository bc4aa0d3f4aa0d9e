-- Laws of collecting: the invariant is kept, and what is kept is what was received, in capitals.
-- Assumes nothing.
use mathlib.Core.Path.{◌≡◌, refl, ◌∙◌}
use Prim.Native.Nat.{ℕ, ◌≤◌, ◌<◌}
use native.Mathlib.Omega.{arith}
use mathlib.Core.Bool.{true, false}
use mathlib.Core.List.{[], ◌∷◌, ◌++◌, map}
use lib.ListN.{length-set}
use lib.Seq.{take-suc-set}
use lib.Dec.{eqb, ltb}
use borrow.Author.Tests.{ltb-true, lt-ltb, le-ltb}
use native.Mathlib.Numerals.{add-one}
use Rattle.formats.specs.Checks.{text}
use Rattle.formats.proofs.Checks.{if_case}
use Rattle.wire.specs.declared.Wire.{Wire}
use Rattle.wire.specs.Collecting.{most_chars, capital, too_long, collect, cleared, sent}
use Rattle.wire.specs.Invariant.{WireInvariant}

pub collect_kept : (x : ℕ) (w : Wire) → WireInvariant w → WireInvariant (collect x w)
unfolding collect
collect_kept x w i =
    if_case WireInvariant (eqb x 32) (λ _. i) λ _.
    if_case WireInvariant (ltb w.len most_chars)
    (λ e.
    record {
      whole = length-set w.chars w.len _ ∙ i.whole;
      fits = omega (arith, ltb-true w.len most_chars e);
      next_read = i.next_read;
      next_write = i.next_write;
    })
    (λ _. record { whole = i.whole; fits = i.fits; next_read = i.next_read; next_write = i.next_write })

pub cleared_kept : (w : Wire) → WireInvariant w → WireInvariant (cleared w)
cleared_kept w i = record { whole = i.whole; fits = omega arith; next_read = i.next_read; next_write = i.next_write }

-- A character for which there is room stands behind those kept before, as a capital.
pub kept_last : (x : ℕ) (w : Wire) → WireInvariant w → eqb x 32 ≡ false → w.len < most_chars → sent (collect x w) ≡ sent w ++ (capital x ∷ [])
unfolding collect sent
kept_last x w i other lt =
    rw (other, lt-ltb w.len most_chars lt, add-one w.len)
    (take-suc-set w.chars w.len (capital x) (omega (arith, i.whole)))

-- and the command is not overlong for it
pub kept_short : (x : ℕ) (w : Wire) → eqb x 32 ≡ false → w.len < most_chars → (collect x w).overlong ≡ w.overlong
unfolding collect
kept_short x w other lt = rw (other, lt-ltb w.len most_chars lt)

-- Overlong or not, the command is the same.
pub overlong_sent : (w : Wire) → sent (too_long w) ≡ sent w
unfolding sent
overlong_sent w = refl

-- A character for which there is no room makes it overlong, and alters nothing else.
pub kept_none : (x : ℕ) (w : Wire) → eqb x 32 ≡ false → most_chars ≤ w.len → collect x w ≡ too_long w
unfolding collect
kept_none x w other le = rw (other, le-ltb w.len most_chars le)

-- Byte 32 is dropped.
pub space_dropped : (x : ℕ) (w : Wire) → eqb x 32 ≡ true → collect x w ≡ w
unfolding collect
space_dropped x w e = rw e

-- a-z count as A-Z, and their neighbours stay what they are.
pub capitals_at_edges : map capital (text "`az{@AZ[") ≡ text "`AZ{@AZ["
unfolding text
capitals_at_edges = refl
