-- Laws of the wire: it keeps the first 32 of the characters received, in capitals, and is overlong exactly if there were more.
-- Assumes nothing.
use mathlib.Core.Path.{◌≡◌, refl, sym, ap, ap₂, ◌∙◌}
use Prim.Native.Nat.{ℕ, ◌+◌, ◌≤◌, ◌<◌}
use native.Mathlib.Omega.{arith}
use mathlib.Core.Bool.{Bool, true, false}
use mathlib.Core.List.{List, [], ◌∷◌, ◌++◌}
use lib.ListN.{length, take, length-append, length-take, length-map}
use lib.Seq.{take-append-le, take_all, length-take-le}
use lib.Dec.{eqb, ltb}
use borrow.Author.Tests.{ltb-true, ltb-false, lt-ltb, le-ltb}
use Rattle.std.specs.Prelude.{if◌then◌else◌}
use Rattle.formats.proofs.Loops.{map_snoc}
use Rattle.wire.specs.declared.Wire.{Wire}
use Rattle.wire.specs.Collecting.{most_chars, collect, sent}
use Rattle.wire.specs.Invariant.{WireInvariant}
use Rattle.wire.proofs.Collecting.{kept_last, kept_short, overlong_sent, kept_none, space_dropped}
use Rattle.demands.specs.Capitals.{counts_as, in_capitals}
use Rattle.controller.proofs.Wires.{Empty}
use Rattle.demands.proofs.History.Capitals.{counts_as_lem}

-- the wire holds the first 32 of the characters cs, in capitals, and whether there are more
pub record Collects (cs : List ℕ) (w : Wire) : Type 0 where
  pub first : sent w ≡ in_capitals (take most_chars cs)
  pub more : w.overlong ≡ ltb most_chars (length cs)

pub nothing_collected : (w : Wire) → Empty w → Collects [] w
unfolding sent
nothing_collected w e = record { first = ap (λ n. take n w.chars) e.none; more = e.short }

module _ (cs : List ℕ) (w : Wire) (i : WireInvariant w) (h : Collects cs w) where
  -- as many are kept as fit
  kept_length : w.len ≡ length (take most_chars cs)
  unfolding sent
  kept_length =
      sym (length-take-le w.len w.chars (omega (arith, i.whole, i.fits))) ∙ ap (λ (l : List ℕ). length l) h.first
      ∙ length-map (take most_chars cs) counts_as

  longer : (x : ℕ) → length (cs ++ (x ∷ [])) ≡ length cs + 1
  longer x = length-append cs (x ∷ [])

  room_left : (x : ℕ) → eqb x 32 ≡ false → length cs < most_chars → Collects (cs ++ (x ∷ [])) (collect x w)
  room_left x other lt =
      let short : w.len < most_chars = omega (arith, kept_length, length-take most_chars cs) in
      record {
        first =
            kept_last x w i other short ∙ ap₂ (λ l c. l ++ (c ∷ [])) (h.first ∙ ap in_capitals (take_all most_chars cs (omega arith))) (counts_as_lem x)
            ∙ sym (ap in_capitals (take_all most_chars (cs ++ (x ∷ [])) (omega (arith, longer x))) ∙ map_snoc counts_as cs x);
        more =
            kept_short x w other short ∙ h.more ∙ le-ltb most_chars (length cs) (omega arith)
            ∙ sym (le-ltb most_chars (length (cs ++ (x ∷ []))) (omega (arith, longer x)));
      }

  none_left : (x : ℕ) → eqb x 32 ≡ false → most_chars ≤ length cs → Collects (cs ++ (x ∷ [])) (collect x w)
  none_left x other le =
      let full : most_chars ≤ w.len = omega (arith, kept_length, length-take most_chars cs) in
      rw (kept_none x w other full)
      (record {
        first = overlong_sent w ∙ h.first ∙ ap in_capitals (sym (take-append-le most_chars cs (x ∷ []) le));
        more = sym (lt-ltb most_chars (length (cs ++ (x ∷ []))) (omega (arith, longer x)));
      })

  -- one byte more that does not end the command
  pub byte_collects : (x : ℕ) → Collects (if eqb x 32 then cs else cs ++ (x ∷ [])) (collect x w)
  byte_collects x = go (eqb x 32) refl (ltb (length cs) most_chars) refl
    where
      go : (t : Bool) → eqb x 32 ≡ t → (u : Bool) → ltb (length cs) most_chars ≡ u → Collects (if eqb x 32 then cs else cs ++ (x ∷ [])) (collect x w)
      go true e u f = rw (e, space_dropped x w e) h
      go false e true f = rw e (room_left x e (ltb-true (length cs) most_chars f))
      go false e false f = rw e (none_left x e (ltb-false (length cs) most_chars f))

-- a command that was not overlong is all that was received, in capitals
pub sent_whole : (cs : List ℕ) (w : Wire) → Collects cs w → w.overlong ≡ false → sent w ≡ in_capitals cs
sent_whole cs w h short =
    h.first ∙ ap in_capitals (take_all most_chars cs (ltb-false most_chars (length cs) (sym h.more ∙ short)))
