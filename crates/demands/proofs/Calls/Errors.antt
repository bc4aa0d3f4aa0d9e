-- What an error leaves. Which error it is, and why, is `demands/Replies.error_exactly`.
-- Assumes nothing.
use mathlib.Core.Path.{◌≡◌, refl, sym, ap, ◌∙◌}
use Prim.Native.Nat.{ℕ}
use mathlib.Core.Bool.{true, true≢false}
use mathlib.Core.List.{List}
use borrow.Author.Tests.{eqb-true}
use Rattle.formats.specs.Checks.{Res, refused, passed}
use Rattle.wire.specs.declared.Asked.{Asked}
use Rattle.controller.specs.Controller.{Areas, with_out}
use Rattle.controller.specs.Deeds.{over, asked}
use Rattle.controller.specs.Calls.{After}
use Rattle.controller.proofs.Errors.{error_changes_nothing}
use Rattle.controller.proofs.Lines.{reply_of}
use Rattle.demands.specs.Histories.{ending, Made, unpowered, outcome, after}
use Rattle.demands.specs.Seen.{is_taken, reply, seen, outputs, is_error}
use Rattle.demands.specs.Told.{told}
use Rattle.demands.proofs.Calls.Answered.{invariant_always}
use Rattle.demands.proofs.History.Heard.{reply_is, reply_no_error}
use Rattle.demands.proofs.History.Telling.{held_as_told}

module _ (ms : List Made) (a : Areas) (accepted : is_taken (seen ms (ending a)) ≡ true) where
  -- what byte 13 found is an error
  found_error : is_error (reply (seen ms (ending a))) ≡ true → (e : ℕ) × (asked (after unpowered ms).state a.program ≡ refused e)
  unfolding seen
  found_error is = go (asked (after unpowered ms).state a.program) refl
    where
      go : (r : Res Asked) → asked (after unpowered ms).state a.program ≡ r → (e : ℕ) × (asked (after unpowered ms).state a.program ≡ refused e)
      go (refused e) f = (e, f)
      go (passed q) f = absurd (true≢false (sym is ∙ reply_no_error (after unpowered ms) a (told ms) (held_as_told ms) (invariant_always ms) accepted q f))

  -- "An error reply changes nothing but the emptied collection", of what is seen of it: no line is run, the outputs stay, and of the areas the
  -- reply alone is written, at the start of its own. E024 is such an error.
  pub error_seen : is_error (reply (seen ms (ending a))) ≡ true → let s = seen ms (ending a) in
      (s.areas ≡ with_out (over (reply s) a.out) a) × (s.lines ≡ 0) × (s.outputs ≡ outputs ms)
  unfolding seen outputs outcome
  error_seen is =
      let h = after unpowered ms in
      let x = found_error is in
      let same = error_changes_nothing h.state a x.0 (eqb-true _ 0 accepted) x.1 in
      let told-reply = reply_is h a accepted ∙ ap (λ r. reply_of r h.state a) x.1 in (
        ap (λ (y : After). y.areas) same ∙ ap (λ r. with_out (over r a.out) a) (sym told-reply),
        ap (λ (y : After). y.lines) same,
        ap (λ (y : After). y.state.run.outputs) same,
      )
