-- 02, item 7: "First increment is line 000." From every power-on until something is read, I in a read means 000 and D is E004; until something is
-- written, likewise in a write. After a refused power-on no command is taken, so that these speak of commands after the next one that is not.
-- Assumes nothing.
use mathlib.Core.Path.{◌≡◌, refl, sym, ap, ◌∙◌}
use mathlib.Core.Logic.{inr}
use Prim.Native.Nat.{ℕ, ◌≤◌}
use native.Mathlib.Omega.{arith}
use mathlib.Core.Bool.{Bool, true, false, not, ◌&&◌, true≢false}
use mathlib.Core.List.{List, [], ◌∷◌, ◌++◌}
use lib.ListN.{length}
use lib.Dec.{eqb, leb}
use borrow.Author.Tests.{not-false}
use Rattle.formats.specs.Checks.{text}
use Rattle.formats.specs.Digits.{error_text}
use Rattle.formats.proofs.Checks.{if_case, both_false}
use Rattle.lines.specs.declared.Line.{Line}
use Rattle.lines.specs.declared.Line.TheVariants.{Bad}
use Rattle.lines.specs.Line.{is_bad, Fits}
use Rattle.lines.specs.Program.{line_at}
use Rattle.texts.specs.Text.{line_text, Sent}
use Rattle.variables.specs.Variables as Variables
use Rattle.wire.specs.Collecting.{most_chars}
use Rattle.wire.specs.Command.{is_read, address_in, rest}
use Rattle.wire.specs.Naming.{by_i}
use Rattle.wire.proofs.Addresses.{none_before_lem}
use Rattle.controller.specs.Controller.{Areas}
use Rattle.controller.specs.Refusals.{Call}
use Rattle.controller.specs.Effects.{is_end, is_power_on}
use Rattle.demands.specs.Capitals.{in_capitals}
use Rattle.demands.specs.Histories.{ending, powering, Made, unpowered, next, after, powered_on, since_power_on}
use Rattle.demands.specs.Seen.{is_taken, reply, seen, is_error, Note, notes}
use Rattle.demands.specs.Said.{Said, silence, got, wrote, spoken}
use Rattle.demands.specs.Told.{Told, powered, said, next_read_then, next_write_then, afterwards, tell, tell_all, told, Never}
use Rattle.demands.specs.Shown.{shown_of}
use Rattle.demands.specs.Commands.{no_address}
use Rattle.demands.specs.ReadBack.{Arrives}
use Rattle.demands.specs.FirstSteps.{is_answered, has_read, has_written, Unread, Unwritten}
use Rattle.demands.specs.Replies.{ended}
use Rattle.demands.proofs.History.Telling.{tell_power_on, told_more, held_as_told}
use Rattle.demands.proofs.Calls.Written.{no_read_first, no_write_first}
use Rattle.demands.proofs.Calls.Replies.{reads_as_told, error_answered}
use Rattle.demands.proofs.Calls.LinesHeld.{written_line}
use Rattle.demands.proofs.Calls.ReadsBack.{line_accepted}

-- ---- what the history says

-- a write leaves the last address read
wrote_leaves : (c : Call) (j : ℕ) (cs : List ℕ) (a : Areas) (t : Told) → next_read_then c (wrote j cs) a t ≡ t.next_read
wrote_leaves c j cs a t =
    let P : Said → Type 0 = λ s. next_read_then c s a t ≡ t.next_read in
    if_case P (leb j 200) (λ _. refl) λ _. if_case P (leb j 206) (λ _. refl) λ _. if_case P (eqb j 209) (λ _. refl) λ _. refl

-- what no command answered without an error moves, stays: here `next` is what I means in one direction, after what was said
module _ (t : Told) (n : Note) (next : Said → ℕ) (still : next silence ≡ 0) where
  heard_still : is_taken n.seen ≡ true → (is_answered n ≡ true → next (spoken t.next_read t.next_write (in_capitals t.received)) ≡ 0)
      → next (said t n) ≡ 0
  unfolding said
  heard_still ok moved = if_case (λ s. next s ≡ 0) (is_end n.call && not (is_error (reply n.seen))) (λ e. moved (rw (ok, e))) λ _. still

read_kept : (t : Told) (n : Note) → has_read t n ≡ false → t.next_read ≡ 0 → (tell t n).next_read ≡ 0
unfolding tell afterwards
read_kept t n u e =
    if_case (λ (x : Told). x.next_read ≡ 0) (is_power_on n.call) (λ _. refl) λ _.
    if_case (λ (x : Told). x.next_read ≡ 0) (is_taken n.seen)
    (λ ok. heard_still t n (λ s. next_read_then n.call s n.lent t) e ok λ ans.
    let cs = in_capitals t.received in
    rw (both_false _ _ ans u) (wrote_leaves n.call (got 0 (address_in t.next_write cs)) (rest cs) n.lent t ∙ e)) λ _. e

write_kept : (t : Told) (n : Note) → has_written t n ≡ false → t.next_write ≡ 0 → (tell t n).next_write ≡ 0
unfolding tell afterwards
write_kept t n u e =
    if_case (λ (x : Told). x.next_write ≡ 0) (is_power_on n.call) (λ _. refl) λ _.
    if_case (λ (x : Told). x.next_write ≡ 0) (is_taken n.seen)
    (λ ok. heard_still t n (λ s. next_write_then n.call s n.lent t) e ok λ ans.
    rw (not-false (is_read (in_capitals t.received)) (both_false _ _ ans u)) e) λ _. e

-- of either direction: what one call keeps is kept by all
module _ (direction : Told → ℕ) (moves : Told → Note → Bool)
    (kept : (t : Told) (n : Note) → moves t n ≡ false → direction t ≡ 0 → direction (tell t n) ≡ 0) where
  all_kept : (ns : List Note) (t : Told) → Never moves t ns → direction t ≡ 0 → direction (tell_all t ns) ≡ 0
  unfolding tell_all
  all_kept [] t u e = e
  all_kept (n ∷ ns) t u e = all_kept ns (tell t n) u.1 (kept t n u.0 e)

-- the calls `before`, a power-on, and calls after it
module _ (before later : List Made) (a : Areas) where
  at_power_on : (n : ℕ) × (told (powered_on before a) ≡ powered n)
  unfolding notes tell_all
  at_power_on = (_, told_more before (powering a ∷ []) ∙ tell_power_on (told before) (after unpowered before) (powering a) refl)

  -- none of which is a read that is answered without an error
  module _ (unread : Unread (told (powered_on before a)) (notes (after unpowered (powered_on before a)) later)) where
    reads_from : (told (since_power_on before a later)).next_read ≡ 0
    reads_from =
        ap (λ (t : Told). t.next_read) (told_more (powered_on before a) later)
        ∙ all_kept (λ (t : Told). t.next_read) has_read read_kept _ _ unread (ap (λ (t : Told). t.next_read) at_power_on.1)

    -- "I then means 000": the reply is the text of line 000 of the program lent, or E024 where that line is Bad.
    pub first_read : (b : Areas) → Arrives (told (since_power_on before a later)) (text "CR" ++ text "I")
        → is_taken (seen (since_power_on before a later) (ending b)) ≡ true
        → (is_bad (line_at b.program 0) ≡ false
        → reply (seen (since_power_on before a later) (ending b)) ≡ ended (line_text (line_at b.program 0)))
        × (line_at b.program 0 ≡ Bad → reply (seen (since_power_on before a later) (ending b)) ≡ ended (error_text 24))
    unfolding shown_of
    first_read b arrived taken =
        let r = reads_as_told (since_power_on before a later) b 0 (omega arith)
        (record { address = text "I"; arrived = arrived; named = by_i refl (sym reads_from); taken = taken }) in
        (λ good. r.0 λ _ bad. true≢false (sym (ap is_bad bad) ∙ good), r.1 (omega arith))

    -- "D is E004", whatever stands behind it; a command of more than 32 characters is E002 by an earlier check.
    pub no_read_before : (b : Areas) (more : List ℕ) → let command = text "CR" ++ (text "D" ++ more) in
        length command ≤ most_chars → Arrives (told (since_power_on before a later)) command → is_taken (seen (since_power_on before a later) (ending b)) ≡ true
        → reply (seen (since_power_on before a later) (ending b)) ≡ ended (error_text 4)
    no_read_before b more few arrived taken =
        error_answered (since_power_on before a later) b taken no_address
        (no_read_first (told (since_power_on before a later)) b.program (text "D") more (inr refl) (omega (arith, reads_from)) (rw arrived few) arrived
        (none_before_lem _ (rw reads_from (omega arith))))

  -- none of which is a write that is answered OK
  module _ (unwritten : Unwritten (told (powered_on before a)) (notes (after unpowered (powered_on before a)) later)) where
    writes_from : (told (since_power_on before a later)).next_write ≡ 0
    writes_from =
        ap (λ (t : Told). t.next_write) (told_more (powered_on before a) later)
        ∙ all_kept (λ (t : Told). t.next_write) has_written write_kept _ _ unwritten (ap (λ (t : Told). t.next_write) at_power_on.1)

    -- "I then means 000": what is answered OK stands at line 000 of the program area afterwards, the line that was sent.
    pub first_write : (b : Areas) (line : List ℕ) → Arrives (told (since_power_on before a later)) (text "CW" ++ (text "I" ++ line))
        → is_taken (seen (since_power_on before a later) (ending b)) ≡ true
        → reply (seen (since_power_on before a later) (ending b)) ≡ ended (text "OK")
        → Sent line (line_at (seen (since_power_on before a later) (ending b)).areas.program 0)
    unfolding seen next Variables.line_of
    first_write b line arrived taken ok =
        let h = after unpowered (since_power_on before a later) in
        rw taken at
        (written_line h (told (since_power_on before a later)) (held_as_told (since_power_on before a later)) b 0 (text "I") line (omega arith)
        arrived (by_i refl (sym writes_from)) taken ok)

    -- And it is answered OK: a line in its format, where no program runs.
    pub first_accepted : (b : Areas) (l : Line) → Fits l
        → Arrives (told (since_power_on before a later)) (text "CW" ++ (text "I" ++ line_text l))
        → (told (since_power_on before a later)).run.on ≡ false
        → is_taken (seen (since_power_on before a later) (ending b)) ≡ true
        → reply (seen (since_power_on before a later) (ending b)) ≡ ended (text "OK")
    first_accepted b l fits arrived off taken =
        line_accepted (since_power_on before a later) b 0 (omega arith) (text "I") l fits arrived (by_i refl (sym writes_from)) off taken

    -- "D is E004", whatever stands behind it
    pub no_write_before : (b : Areas) (more : List ℕ) → let command = text "CW" ++ (text "D" ++ more) in
        length command ≤ most_chars → Arrives (told (since_power_on before a later)) command → is_taken (seen (since_power_on before a later) (ending b)) ≡ true
        → reply (seen (since_power_on before a later) (ending b)) ≡ ended (error_text 4)
    no_write_before b more few arrived taken =
        error_answered (since_power_on before a later) b taken no_address
        (no_write_first (told (since_power_on before a later)) b.program (text "D") more (inr refl) (omega (arith, writes_from)) (rw arrived few) arrived
        (none_before_lem _ (rw writes_from (omega arith))))
