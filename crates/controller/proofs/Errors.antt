-- An error reply changes nothing but the emptied collection.
-- Assumes nothing.
use mathlib.Core.Path.{◌≡◌, refl, ◌∙◌}
use Prim.Native.Nat.{ℕ}
use lib.ListN.{length}
use borrow.Author.Tests.{eq-eqb}
use Rattle.formats.specs.Checks.{refused}
use Rattle.formats.specs.Digits.{error_text}
use Rattle.controller.specs.declared.Controller.{Controller}
use Rattle.controller.specs.Controller.{with_out, Areas}
use Rattle.controller.specs.Deeds.{over, ended, empty_collection, asked, answer, writing}
use Rattle.controller.specs.Deeds as Deeds
use Rattle.controller.specs.Refusals.{byte}
use Rattle.controller.specs.Calls.{After, does, call}
use Rattle.controller.proofs.Refusals.{accepted_call}
use Rattle.controller.proofs.Logging.{a_byte, logged_is}

-- what an error reply leaves: the collection is empty, and the reply stands at the start of its area
abbrev pub after_error : ℕ → Controller → Areas → After
after_error e c a = record {
  state = empty_collection c;
  refusal = 0;
  lines = 0;
  written = length (ended (error_text e));
  areas = with_out (over (ended (error_text e)) a.out) a;
}

-- An error reply changes nothing but the emptied collection.
pub error_changes_nothing : (c : Controller) (a : Areas) (e : ℕ) → (call (byte 13) c a).refusal ≡ 0 → asked c a.program ≡ refused e
    → call (byte 13) c a ≡ after_error e c a
unfolding does Deeds.byte answer writing
error_changes_nothing c a e ok err =
    (accepted_call (byte 13) c a ok).1
    ∙ rw (logged_is (byte 13) c a (a_byte 13), err, eq-eqb c.run.outputs c.run.outputs refl)
