-- Demand 2: what a call leaves of the program area, of the saved copy and of the reply's area.
-- Assumes nothing.
use mathlib.Core.Path.{◌≡◌, refl, sym, ap, ap₂, ◌∙◌}
use Prim.Native.Nat.{ℕ}
use mathlib.Core.Bool.{Bool, true, false, true≢false}
use mathlib.Core.List.{List, [], ◌++◌}
use lib.ListN.{length, take, drop}
use lib.Seq.{take_at}
use lib.Dec.{eqb}
use borrow.Author.Tests.{eqb-true}
use Rattle.std.specs.Prelude.{if◌then◌else◌}
use Rattle.formats.specs.Checks.{Res, refused, passed, text}
use Rattle.formats.proofs.Checks.{if_case}
use Rattle.special.specs.declared.Special.{Special}
use Rattle.special.specs.declared.Special.TheVariants.{Stop, Pause, Start, Continue, StartAt, Execute, Load, Save}
use Rattle.special.specs.Special.{code_of}
use Rattle.wire.specs.declared.Asked.{Asked}
use Rattle.wire.specs.declared.Asked.TheVariants.{Read, Write}
use Rattle.wire.specs.declared.Data.{Data}
use Rattle.wire.specs.declared.Data.TheVariants.{WriteLine, WriteOutputs, WriteParameter, WriteSpecial}
use Rattle.controller.specs.declared.Controller.{Controller}
use Rattle.controller.specs.Controller.{Areas}
use Rattle.controller.specs.Deeds.{Deed, moved, start_at, load, save, special, write, writing, answer, ticked, pressed, empty_log, power_up, asked}
use Rattle.controller.specs.Deeds as Deeds
use Rattle.controller.specs.Refusals.{Call, power_on, byte, tick, press, emptying}
use Rattle.controller.specs.Effects.{finished, is_end, is_emptying, is_power_on}
use Rattle.controller.specs.Calls.{After, does}
use Rattle.demands.specs.Histories.{Made, Held, unpowered, outcome, after}
use Rattle.demands.specs.Seen.{seen_of, is_taken, reply, seen, note}
use Rattle.demands.specs.Said.{Said, silence, gives}
use Rattle.demands.specs.Told.{said, told}
use Rattle.demands.specs.Leaves.{program_then, saved_then}
use Rattle.demands.proofs.History.Steps.{Step, passes, fails, stepped}
use Rattle.demands.proofs.Calls.Answered.{invariant_always}
use Rattle.demands.proofs.History.Agrees.{Hears, an_error, a_read, a_line, an_output, a_parameter, a_special}
use Rattle.demands.proofs.History.Agreement.{silent}
use Rattle.controller.proofs.Lines.{reply_of}
use Rattle.demands.specs.Replies.{ended}
use Rattle.demands.proofs.History.Heard.{hears}
use Rattle.demands.proofs.History.Telling.{held_as_told}

module _ (c : Controller) (a : Areas) where
  -- the areas that were left
  record Leaves (k : Call) (s : Said) (x : Deed) : Type 0 where
    program : x.areas.program ≡ program_then k s a
    saved : x.areas.saved ≡ saved_then s a

  special_leaves : (s : Special) → Leaves (byte 13) (gives (code_of s)) (answer (passed (Write 210 (WriteSpecial s))) c a)
  unfolding answer writing write special start_at moved load save
  special_leaves Stop = record { program = refl; saved = refl }
  special_leaves Pause = record { program = refl; saved = refl }
  special_leaves Start = record { program = refl; saved = refl }
  special_leaves Continue = record { program = refl; saved = refl }
  special_leaves StartAt = record { program = refl; saved = refl }
  special_leaves Execute = record { program = refl; saved = refl }
  special_leaves Load = record { program = refl; saved = refl }
  special_leaves Save = record { program = refl; saved = refl }

  command_leaves : (r : Res Asked) (s : Said) → Hears r s → Leaves (byte 13) s (answer r c a)
  unfolding answer writing write
  command_leaves r s (an_error e) = record { program = refl; saved = refl }
  command_leaves r s (a_read k le) = record { program = refl; saved = refl }
  command_leaves r s (a_line k l le fits) = record {
    program = go (eqb k 200) refl;
    saved = if_case (λ (x : Deed). x.areas.saved ≡ a.saved) (eqb k 200) (λ _. refl) (λ _. refl);
  }
    where
      go : (b : Bool) → eqb k 200 ≡ b → (answer r c a).areas.program ≡ program_then (byte 13) s a
      go true e = rw (e, write)
      go false e = rw (e, write)
  command_leaves r s (an_output k x lo hi) = record { program = refl; saved = refl }
  command_leaves r s (a_parameter v) = record { program = refl; saved = refl }
  command_leaves r s (a_special x) = special_leaves x

  -- a call that finishes no command
  same_leaves : (k : Call) (s : Said) (x : Deed) → is_power_on k ≡ false → s ≡ silence → x.areas.program ≡ a.program
      → x.areas.saved ≡ a.saved → Leaves k s x
  same_leaves k s x other e f g = record { program = f ∙ sym (rw (other, e)); saved = g ∙ sym (rw e) }

  byte_leaves : (x : ℕ) (s : Said) → Hears (finished (byte x) c a) s → Leaves (byte x) s (Deeds.byte x c a)
  unfolding Deeds.byte finished
  byte_leaves x s h = go (eqb x 13) refl
    where
      go : (b : Bool) → eqb x 13 ≡ b → Leaves (byte x) s (Deeds.byte x c a)
      go true e = let is : x ≡ 13 = eqb-true x 13 e in rw is (command_leaves (asked c a.program) s (rw is at h))
      go false e = same_leaves (byte x) s (Deeds.byte x c a) refl (silent 0 h (rw e)) (rw (e, Deeds.byte)) (rw (e, Deeds.byte))

  tick_same : (ticked c a).areas ≡ a
  unfolding ticked moved
  tick_same = if_case (λ (x : Deed). x.areas ≡ a) c.paused (λ _. refl) (λ _. refl)

  press_same : (n : ℕ) → (pressed n c a).areas ≡ a
  unfolding pressed start_at moved
  press_same n =
      let P : Deed → Type 0 = λ x. x.areas ≡ a in
      if_case P (eqb n 1) (λ _. if_case P c.run.on (λ _. refl) (λ _. refl)) (λ _. if_case P c.run.on (λ _. refl) (λ _. refl))

  does_leaves : (k : Call) (s : Said) → Hears (finished k c a) s → Leaves k s (does k c a)
  unfolding does finished power_up load empty_log writing
  does_leaves power_on s h = record { program = refl; saved = rw (silent 0 h refl) }
  does_leaves (byte x) s h = byte_leaves x s h
  does_leaves tick s h = same_leaves tick s _ refl (silent 0 h refl) (ap (λ (x : Areas). x.program) tick_same) (ap (λ (x : Areas). x.saved) tick_same)
  does_leaves (press n) s h =
      same_leaves (press n) s _ refl (silent 0 h refl) (ap (λ (x : Areas). x.program) (press_same n)) (ap (λ (x : Areas). x.saved) (press_same n))
  does_leaves emptying s h = same_leaves emptying s _ refl (silent 0 h refl) refl refl

-- ---- the reply's area

module _ (c : Controller) (a : Areas) where
  write_out : (k : ℕ) (x : Data) (b : Controller) → (write k x b a).areas.out ≡ a.out
  unfolding write special start_at moved load save
  write_out k (WriteLine l) b = if_case (λ (x : Deed). x.areas.out ≡ a.out) (eqb k 200) (λ _. refl) (λ _. refl)
  write_out k (WriteOutputs x) b = refl
  write_out k (WriteParameter v) b = refl
  write_out k (WriteSpecial Stop) b = refl
  write_out k (WriteSpecial Pause) b = refl
  write_out k (WriteSpecial Start) b = refl
  write_out k (WriteSpecial Continue) b = refl
  write_out k (WriteSpecial StartAt) b = refl
  write_out k (WriteSpecial Execute) b = refl
  write_out k (WriteSpecial Load) b = refl
  write_out k (WriteSpecial Save) b = refl

  -- what was done wrote these bytes to the start of the area, and nothing behind them
  record Wrote (bytes : List ℕ) (x : Deed) : Type 0 where
    out : x.areas.out ≡ bytes ++ drop (length bytes) a.out
    written : x.written ≡ length bytes

  answer_wrote : (r : Res Asked) → Wrote (reply_of r c a) (answer r c a)
  unfolding answer writing
  answer_wrote (refused e) = record { out = refl; written = refl }
  answer_wrote (passed (Read k)) = record { out = refl; written = refl }
  answer_wrote (passed (Write k x)) = record { out = ap (λ o. ended (text "OK") ++ drop (length (ended (text "OK"))) o) (write_out k x _); written = refl }

  unwritten : (x : Deed) → x.areas ≡ a → x.written ≡ 0 → Wrote [] x
  unwritten x e f = record { out = ap (λ (y : Areas). y.out) e; written = f }

  byte_wrote : (x : ℕ) → Wrote (if eqb x 13 then reply_of (asked c a.program) c a else []) (Deeds.byte x c a)
  unfolding Deeds.byte
  byte_wrote x = go (eqb x 13) refl
    where
      go : (b : Bool) → eqb x 13 ≡ b → Wrote (if eqb x 13 then reply_of (asked c a.program) c a else []) (Deeds.byte x c a)
      go true e = rw (e, Deeds.byte) (answer_wrote (asked c a.program))
      go false e = rw (e, Deeds.byte) (record { out = refl; written = refl })

  tick_written : (ticked c a).written ≡ 0
  unfolding ticked moved
  tick_written = if_case (λ (x : Deed). x.written ≡ 0) c.paused (λ _. refl) (λ _. refl)

  press_written : (n : ℕ) → (pressed n c a).written ≡ 0
  unfolding pressed start_at moved
  press_written n =
      let P : Deed → Type 0 = λ x. x.written ≡ 0 in
      if_case P (eqb n 1) (λ _. if_case P c.run.on (λ _. refl) (λ _. refl)) (λ _. if_case P c.run.on (λ _. refl) (λ _. refl))

  does_wrote : (k : Call) → is_emptying k ≡ false → Wrote (if is_end k then reply_of (asked c a.program) c a else []) (does k c a)
  unfolding does power_up load
  does_wrote power_on e = record { out = refl; written = refl }
  does_wrote (byte x) e = byte_wrote x
  does_wrote tick e = unwritten _ (tick_same c a) tick_written
  does_wrote (press n) e = unwritten _ (press_same c a n) (press_written n)
  does_wrote emptying e = absurd (true≢false e)

-- ---- the demand

-- Every call that is taken leaves the program area and the saved copy as the history says; a refused one leaves every byte
-- (`refused_seen`).
pub leaves_as_told : (ms : List Made) (m : Made) → is_taken (seen ms m) ≡ true → let s = said (told ms) (note (after unpowered ms) m) in
    ((seen ms m).areas.program ≡ program_then m.call s m.areas) × ((seen ms m).areas.saved ≡ saved_then s m.areas)
unfolding seen
leaves_as_told ms m ok = go (stepped (after unpowered ms) m)
  where
    h : Held
    h = after unpowered ms

    s : Said
    s = said (told ms) (note h m)

    go : Step h m → ((outcome h m).areas.program ≡ program_then m.call s m.areas) × ((outcome h m).areas.saved ≡ saved_then s m.areas)
    go (fails bad n e f) = absurd (true≢false (sym ok ∙ bad))
    go (passes _ ch e f) =
        let l = does_leaves h.state m.areas m.call s (hears h m (told ms) (held_as_told ms) (invariant_always ms) ok) in
        (ap (λ (x : After). x.areas.program) e ∙ l.program, ap (λ (x : After). x.areas.saved) e ∙ l.saved)

-- Every call but emptying that is taken writes its reply to the start of its area, returns its length, and leaves the bytes behind it; "A byte that
-- completes no command has a reply of length 0", and so has a call that is no byte. What emptying writes is `emptying_copies`.
pub answers_as_told : (ms : List Made) (m : Made) → is_emptying m.call ≡ false → is_taken (seen ms m) ≡ true → let r = reply (seen ms m) in
    ((seen ms m).areas.out ≡ r ++ drop (length r) m.areas.out) × ((seen ms m).written ≡ length r) × (is_end m.call ≡ false → r ≡ [])
unfolding seen
answers_as_told ms m other ok = go (stepped (after unpowered ms) m)
  where
    h : Held
    h = after unpowered ms

    bytes : List ℕ
    bytes = if is_end m.call then reply_of (asked h.state m.areas.program) h.state m.areas else []

    go : Step h m → let r = reply (seen_of (outcome h m)) in
        ((outcome h m).areas.out ≡ r ++ drop (length r) m.areas.out) × ((outcome h m).written ≡ length r) × (is_end m.call ≡ false → r ≡ [])
    go (fails bad n e f) = absurd (true≢false (sym ok ∙ bad))
    go (passes _ ch e f) =
        let w = does_wrote h.state m.areas m.call other in
        let out : (outcome h m).areas.out ≡ bytes ++ drop (length bytes) m.areas.out = ap (λ (x : After). x.areas.out) e ∙ w.out in
        let written : (outcome h m).written ≡ length bytes = ap (λ (x : After). x.written) e ∙ w.written in
        let is : reply (seen_of (outcome h m)) ≡ bytes = ap₂ (λ n l. take n l) written out ∙ take_at bytes _ (length bytes) refl in (
          out ∙ ap (λ r. r ++ drop (length r) m.areas.out) (sym is),
          written ∙ ap (λ (r : List ℕ). length r) (sym is),
          λ none. is ∙ ap (λ b. if b then reply_of (asked h.state m.areas.program) h.state m.areas else []) none,
        )
