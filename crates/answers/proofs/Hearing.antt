-- What was heard by the seven checks, and what becomes of it where a Bad line is read.
-- Assumes nothing.
use mathlib.Core.Path.{◌≡◌, sym, ap, ap₂, ◌∙◌}
use Prim.Native.Nat.{ℕ}
use mathlib.Core.Bool.{Bool}
use mathlib.Core.List.{List}
use Rattle.formats.specs.Checks.{Res, passed, ◌>>=◌}
use Rattle.special.specs.declared.Mode.{Mode}
use Rattle.special.specs.Special.{mode_of}
use Rattle.variables.specs.declared.Panel.{Panel}
use Rattle.variables.specs.Variables.{is_bad_at}
use Rattle.wire.specs.declared.Wire.{Wire}
use Rattle.wire.specs.declared.Data.{Data}
use Rattle.wire.specs.declared.Asked.{Asked}
use Rattle.wire.specs.declared.Asked.TheVariants.{Write}
use Rattle.wire.specs.Command.{command}
use Rattle.controller.specs.declared.Controller.{Controller}
use Rattle.controller.specs.Controller.{mode}
use Rattle.controller.specs.Deeds.{legible, asked}
use Rattle.controller.proofs.Legible.{write_stays}

-- what the checks gave becomes what is legible of it
pub stays : (bad : ℕ → Bool) {r r' x : Res Asked} → r' ≡ r → (r' >>= legible bad) ≡ x → x ≡ (r >>= legible bad)
stays bad e f = sym f ∙ ap (λ x. x >>= legible bad) e

-- a write stays
pub write_kept : (bad : ℕ → Bool) {q : Asked} {k : ℕ} {x : Data} → q ≡ Write k x → (passed q >>= legible bad) ≡ passed q
write_kept bad {q} {k} {x} e = rw e (write_stays bad k x)

-- what is heard of the parts is heard of a state that has them
pub heard_of_state : (c : Controller) (p : List ℕ) {w : Wire} {m : Mode} {v : Panel} → c.wire ≡ w → mode_of c.run.on c.paused ≡ m → c.panel ≡ v
    → {r : Res Asked} → r ≡ (command w m v.parameter >>= legible (is_bad_at v p)) → r ≡ asked c p
heard_of_state c p {w} {m} {v} e f g h =
    h ∙ sym (ap (λ (x : Wire). command x (mode c) c.panel.parameter >>= legible (is_bad_at c.panel p)) e
    ∙ ap₂ (λ (x : Mode) (y : Panel). command w x y.parameter >>= legible (is_bad_at y p)) f g)
