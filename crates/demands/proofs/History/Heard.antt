-- The command that the history reads off the bytes and the reply is the command that the box found.
-- Assumes nothing.
use mathlib.Core.Path.{◌≡◌, refl, sym, ap, subst, ◌∙◌}
use Prim.Native.Nat.{ℕ, ◌≤◌}
use native.Mathlib.Omega.{arith}
use mathlib.Core.Bool.{Bool, true, false, true≢false}
use mathlib.Core.List.{List}
use lib.ListN.{take}
use lib.Dec.{eqb}
use borrow.Author.Tests.{eqb-true, le-leb, lt-leb}
use Rattle.formats.specs.Checks.{Res, refused, passed, Ok}
use Rattle.formats.proofs.Checks.{ok_at}
use Rattle.texts.specs.Text.{Sent}
use Rattle.texts.proofs.Texts.{accepted_shows}
use Rattle.wire.specs.declared.Data.{Data}
use Rattle.wire.specs.declared.Data.TheVariants.{WriteLine, WriteOutputs, WriteParameter, WriteSpecial}
use Rattle.wire.specs.declared.Asked.{Asked}
use Rattle.wire.specs.declared.Asked.TheVariants.{Read, Write}
use Rattle.wire.specs.Command.{is_read, address_in, rest}
use Rattle.wire.specs.Sound.{Sound}
use Rattle.wire.proofs.Says.{Heard, Spoken, command_says}
use Rattle.controller.specs.Controller.{Areas, mode}
use Rattle.controller.specs.Deeds.{asked}
use Rattle.controller.specs.Deeds as Deeds
use Rattle.controller.specs.Variables.{is_bad_at}
use Rattle.controller.specs.Refusals.{Call, power_on, byte, tick, press, emptying}
use Rattle.controller.specs.Effects.{finished}
use Rattle.controller.specs.Calls.{After, does}
use Rattle.controller.specs.Invariant.{Invariant}
use Rattle.controller.proofs.Lines.{reply_of, answer_written}
use Rattle.controller.proofs.Legible.{Good, asked_ok, sound_asked, good_asked}
use Rattle.demands.specs.Capitals.{in_capitals}
use Rattle.demands.specs.Histories.{ending, Made, Held, outcome, is_accepted}
use Rattle.demands.specs.Seen.{seen_of, reply, is_error, note}
use Rattle.demands.specs.Said.{silence, reads, wrote, spoken}
use Rattle.demands.specs.Told.{Told, said}
use Rattle.demands.proofs.History.Steps.{Step, passes, fails, stepped}
use Rattle.demands.proofs.Calls.Formats.{value_in_format, error_is_error, format_no_error, ok_no_error}
use Rattle.demands.proofs.History.Collects.{sent_whole}
use Rattle.demands.proofs.History.Agrees.{Agrees, Hears, an_error, a_read, a_line, an_output, a_parameter, a_special}

-- ---- what was seen of a finished command

-- An accepted byte 13 is answered by the reply to what was asked.
pub reply_is : (h : Held) (a : Areas) → is_accepted h (ending a) ≡ true
    → reply (seen_of (outcome h (ending a))) ≡ reply_of (asked h.state a.program) h.state a
unfolding does Deeds.byte
reply_is h a ok = go (stepped h (ending a))
  where
    go : Step h (ending a) → reply (seen_of (outcome h (ending a))) ≡ reply_of (asked h.state a.program) h.state a
    go (fails bad n e f) = absurd (true≢false (sym ok ∙ bad))
    go (passes _ ch e f) = ap (λ (x : After). take x.written x.areas.out) e ∙ answer_written (asked h.state a.program) h.state a

-- ---- what its characters say

module _ (t : Told) (cs : List ℕ) (k : ℕ) where
  spoken_read : is_read cs ≡ true → address_in t.next_read cs ≡ passed k → spoken t.next_read t.next_write cs ≡ reads k
  spoken_read r e = rw (r, e)

  spoken_write : is_read cs ≡ false → address_in t.next_write cs ≡ passed k → spoken t.next_read t.next_write cs ≡ wrote k (rest cs)
  spoken_write r e = rw (r, e)

data_hears : (k : ℕ) (cs : List ℕ) (x : Data) → Heard k cs x → Hears (passed (Write k x)) (wrote k cs)
data_hears k cs (WriteLine l) h =
    rw (le-leb k 200 h.0, h.1) (a_line k l h.0 (ok_at (Sent cs) (accepted_shows cs) h.1).fits)
data_hears k cs (WriteOutputs x) h =
    let lo = h.0.0 in
    rw (lt-leb k 200 (omega arith), le-leb k 206 h.0.1, h.1) (an_output k x lo h.0.1)
data_hears k cs (WriteParameter v) h = rw (h.0, h.1) (a_parameter v)
data_hears k cs (WriteSpecial s) h = rw (h.0, h.1) (a_special s)

-- ---- both

module _ (h : Held) (a : Areas) (t : Told) (g : Agrees t h.state) (i : Invariant h.state) (ok : is_accepted h (ending a) ≡ true) where
  -- an error is seen by its reply, and says nothing
  refused_silent : (e : ℕ) → asked h.state a.program ≡ refused e → said t (note h (ending a)) ≡ silence
  unfolding said note
  refused_silent e f = rw (reply_is h a ok ∙ ap (λ r. reply_of r h.state a) f, error_is_error e)

  -- no other reply looks like one
  pub reply_no_error : (q : Asked) → asked h.state a.program ≡ passed q → is_error (reply (seen_of (outcome h (ending a)))) ≡ false
  reply_no_error (Read k) f =
      let le : k ≤ 216 = ok_at (Sound (mode h.state) h.state.panel.parameter) (sound_asked h.state a.program i.wire) f in
      let good = ok_at (Good (is_bad_at h.state a.program)) (good_asked h.state a.program) f in
      ap is_error (reply_is h a ok ∙ ap (λ r. reply_of r h.state a) f) ∙ format_no_error k _ (value_in_format _ _ _ a.program k le good)
  reply_no_error (Write k x) f = ap is_error (reply_is h a ok ∙ ap (λ r. reply_of r h.state a) f) ∙ ok_no_error

  accepted_said : (q : Asked) → asked h.state a.program ≡ passed q
      → said t (note h (ending a)) ≡ spoken t.next_read t.next_write (in_capitals t.received)
  unfolding said note
  accepted_said q f = rw (reply_no_error q f)

  -- the command's characters are all that was received
  spoken_hears : (q : Asked) → Spoken h.state.wire q → asked h.state a.program ≡ passed q
      → Hears (passed q) (spoken t.next_read t.next_write (in_capitals t.received))
  spoken_hears (Read k) s f =
      let e = sent_whole t.received h.state.wire g.wire.received s.short in
      let le : k ≤ 216 = ok_at (Sound (mode h.state) h.state.panel.parameter) (sound_asked h.state a.program i.wire) f in
      subst (λ x. Hears (passed (Read k)) x)
      (sym (spoken_read t (in_capitals t.received) k (rw e at s.says.0) (rw (e, g.wire.next_read) at s.says.1)))
      (a_read k le)
  spoken_hears (Write k x) s f =
      let e = sent_whole t.received h.state.wire g.wire.received s.short in
      subst (λ y. Hears (passed (Write k x)) y)
      (sym (spoken_write t (in_capitals t.received) k (rw e at s.says.0) (rw (e, g.wire.next_write) at s.says.1)))
      (data_hears k (rest (in_capitals t.received)) x (rw e at s.says.2))

  -- the characters of what passes
  says : Ok (Spoken h.state.wire) (asked h.state a.program)
  says = asked_ok h.state a.program (Spoken h.state.wire) (command_says h.state.wire _ _)

  end_hears : Hears (asked h.state a.program) (said t (note h (ending a)))
  end_hears = go (asked h.state a.program) refl
    where
      go : (r : Res Asked) → asked h.state a.program ≡ r → Hears (asked h.state a.program) (said t (note h (ending a)))
      go (refused e) f = rw (f, refused_silent e f) (an_error e)
      go (passed q) f = rw (f, accepted_said q f) (spoken_hears q (ok_at (Spoken h.state.wire) says f) f)

-- The history hears the command that the call finished, or none.
pub hears : (h : Held) (m : Made) (t : Told) → Agrees t h.state → Invariant h.state → is_accepted h m ≡ true
    → Hears (finished m.call h.state m.areas) (said t (note h m))
unfolding finished said note
hears h m t g i ok = go m.call m.areas ok
  where
    at_byte : (x : ℕ) (a : Areas) (b : Bool) → eqb x 13 ≡ b → is_accepted h (record { call = byte x; areas = a }) ≡ true
        → Hears (finished (byte x) h.state a) (said t (note h (record { call = byte x; areas = a })))
    at_byte x a true e ok = let is : x ≡ 13 = eqb-true x 13 e in rw is (end_hears h a t g i (rw is at ok))
    at_byte x a false e ok = rw e (an_error 0)

    go : (k : Call) (a : Areas) → is_accepted h (record { call = k; areas = a }) ≡ true
        → Hears (finished k h.state a) (said t (note h (record { call = k; areas = a })))
    go power_on a ok = an_error 0
    go (byte x) a ok = at_byte x a (eqb x 13) refl ok
    go tick a ok = an_error 0
    go (press n) a ok = an_error 0
    go emptying a ok = an_error 0
