-- Laws of one accepted call: what it leaves on the wire.
-- Assumes nothing.
use mathlib.Core.Path.{◌≡◌, refl, ap, ap₂}
use Prim.Native.Nat.{ℕ, ◌+◌}
use mathlib.Core.Bool.{Bool, false}
use mathlib.Core.List.{List}
use lib.Dec.{eqb}
use Rattle.formats.specs.Checks.{Res, passed}
use Rattle.formats.proofs.Checks.{if_case}
use Rattle.special.specs.declared.Special.{Special}
use Rattle.special.specs.declared.Special.TheVariants.{Stop, Pause, Start, Continue, StartAt, Execute, Load, Save}
use Rattle.special.specs.Special.{code_of}
use Rattle.wire.specs.declared.Data.{Data}
use Rattle.wire.specs.declared.Data.TheVariants.{WriteLine, WriteOutputs, WriteParameter, WriteSpecial}
use Rattle.wire.specs.declared.Wire.{Wire}
use Rattle.wire.specs.declared.Asked.{Asked}
use Rattle.wire.specs.declared.Asked.TheVariants.{Read, Write}
use Rattle.controller.specs.declared.Controller.{Controller}
use Rattle.controller.specs.Controller.{Areas, with_special}
use Rattle.controller.specs.Deeds.{Deed, moved, start_at, stop, special, write, writing, wrote_to, empty_collection, answer}
use Rattle.controller.specs.Refusals.{Call}
use Rattle.controller.specs.Calls.{does}
use Rattle.controller.proofs.Alterations.{collected, next_read, next_write, alters, does_alters, answer_alters, raise_is}

-- the collection is empty
pub record Empty (w : Wire) : Type 0 where
  pub none : w.len ≡ 0
  pub short : w.overlong ≡ false

-- "Each 13 gets one reply, then collection starts empty."
pub answer_empties : (r : Res Asked) (c : Controller) (a : Areas) → Empty (answer r c a).state.wire
answer_empties r c a =
    let e = answer_alters r c a collected refl in
    record { none = ap (λ (b : List ℕ × ℕ × Bool). b.1) e; short = ap (λ (b : List ℕ × ℕ × Bool). b.2) e }

-- a call that alters neither the collection nor the last addresses leaves the wire
pub same_wire : (k : Call) (c : Controller) (a : Areas) → alters collected k c a ≡ false → alters next_read k c a ≡ false → alters next_write k c a ≡ false
    → (does k c a).state.wire ≡ c.wire
same_wire k c a e f g =
    ap₂ (λ (b : List ℕ × ℕ × Bool) (n : ℕ × ℕ). record { chars = b.0; len = b.1; overlong = b.2; nextread = n.0; nextwrite = n.1 })
    (does_alters k c a collected e) (ap₂ (λ r w. (r, w)) (does_alters k c a next_read f) (does_alters k c a next_write g))

-- ---- last addresses: "They move only on a command answered without an error."

pub read_moves : (k : ℕ) (c : Controller) (a : Areas) → (answer (passed (Read k)) c a).state.wire.nextread ≡ k + 1
unfolding answer writing
read_moves k c a = if_case (λ (x : Controller). x.wire.nextread ≡ k + 1) (eqb k 212) (λ _. refl) (λ _. refl)

special_moves : (s : Special) (k : ℕ) (c : Controller) (a : Areas) → (special s (with_special (code_of s) (wrote_to k c)) a).state.wire.nextwrite ≡ k + 1
unfolding special stop start_at moved
special_moves Stop k c a = refl
special_moves Pause k c a = refl
special_moves Start k c a = rw raise_is
special_moves Continue k c a = refl
special_moves StartAt k c a = rw raise_is
special_moves Execute k c a = refl
special_moves Load k c a = refl
special_moves Save k c a = refl

pub write_moves : (k : ℕ) (x : Data) (c : Controller) (a : Areas) → (answer (passed (Write k x)) c a).state.wire.nextwrite ≡ k + 1
unfolding answer writing write
write_moves k (WriteLine l) c a = if_case (λ (x : Deed). x.state.wire.nextwrite ≡ k + 1) (eqb k 200) (λ _. refl) (λ _. refl)
write_moves k (WriteOutputs x) c a = refl
write_moves k (WriteParameter v) c a = refl
write_moves k (WriteSpecial s) c a = special_moves s k (empty_collection c) a
