-- What stands behind the seven checks: a read of a Bad line is E024, and all else stays as it was.
-- Assumes nothing.
use mathlib.Core.Path.{◌≡◌, refl}
use Prim.Native.Nat.{ℕ}
use mathlib.Core.Bool.{Bool, true, false, not}
use mathlib.Core.List.{List}
use borrow.Author.Tests.{not-true}
use Rattle.formats.specs.Checks.{Res, refused, passed, ◌>>=◌, ◌>>◌, ◌or_else◌, Ok}
use Rattle.formats.proofs.Checks.{ok_bind, ok_passed, ok_guard}
use Rattle.wire.specs.declared.Data.{Data}
use Rattle.wire.specs.declared.Asked.{Asked}
use Rattle.wire.specs.declared.Asked.TheVariants.{Read, Write}
use Rattle.wire.specs.Command.{command}
use Rattle.wire.specs.Invariant.{WireInvariant}
use Rattle.wire.specs.Sound.{Sound}
use Rattle.wire.proofs.Commands.{asked_sound}
use Rattle.controller.specs.declared.Controller.{Controller}
use Rattle.controller.specs.Controller.{mode}
use Rattle.controller.specs.Variables.{is_bad_at}
use Rattle.controller.specs.Deeds.{legible, asked}

-- ---- what the seven checks gave, and what becomes of it

module _ (bad : ℕ → Bool) where
  -- an error stays, and so does a write
  pub error_stays : (e : ℕ) → (refused e >>= legible bad) ≡ refused e
  unfolding ◌>>=◌
  error_stays e = refl

  pub write_stays : (k : ℕ) (x : Data) → (passed (Write k x) >>= legible bad) ≡ passed (Write k x)
  unfolding ◌>>=◌ legible
  write_stays k x = refl

  -- a read stays, or is E024
  pub read_stays : (k : ℕ) → bad k ≡ false → (passed (Read k) >>= legible bad) ≡ passed (Read k)
  unfolding ◌>>=◌ ◌>>◌ ◌or_else◌ legible
  read_stays k good = rw good

  pub read_illegible : (k : ℕ) → bad k ≡ true → (passed (Read k) >>= legible bad) ≡ refused 24
  unfolding ◌>>=◌ ◌>>◌ ◌or_else◌ legible
  read_illegible k is = rw is

  -- a read that passes is of no Bad line
  abbrev pub Good : Asked → Type 0
  Good (Read k) = bad k ≡ false
  Good (Write k x) = Unit

  legible_good : (r : Res Asked) → Ok Good (r >>= legible bad)
  unfolding legible
  legible_good r = ok_passed Good r (legible bad) λ q _. go q
    where
      go : (q : Asked) → Ok Good (legible bad q)
      go (Read k) = ok_guard Good (not (bad k)) 24 _ λ e. not-true (bad k) e
      go (Write k x) = tt

  -- what holds of all that passed the checks holds of all that passes
  legible_ok : (P : Asked → Type 0) (r : Res Asked) → Ok P r → Ok P (r >>= legible bad)
  unfolding legible
  legible_ok P r ok = ok_bind P P r (legible bad) ok go
    where
      go : (q : Asked) → P q → Ok P (legible bad q)
      go (Read k) h = ok_guard P (not (bad k)) 24 _ λ _. h
      go (Write k x) h = h

-- ---- what is asked of the state, with the program that it is lent

module _ (c : Controller) (program : List ℕ) where
  -- what holds of all that passed the checks holds of what is asked
  pub asked_ok : (P : Asked → Type 0) → Ok P (command c.wire (mode c) c.panel.parameter) → Ok P (asked c program)
  asked_ok P ok = legible_ok (is_bad_at c program) P (command c.wire (mode c) c.panel.parameter) ok

  -- so it is in reach,
  pub sound_asked : WireInvariant c.wire → Ok (Sound (mode c) c.panel.parameter) (asked c program)
  sound_asked i = asked_ok (Sound (mode c) c.panel.parameter) (asked_sound (mode c) c.panel.parameter c.wire i)

  -- and a read is of no Bad line
  pub good_asked : Ok (Good (is_bad_at c program)) (asked c program)
  good_asked = legible_good (is_bad_at c program) (command c.wire (mode c) c.panel.parameter)
