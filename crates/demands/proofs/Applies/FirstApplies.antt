-- Promises that apply, single commands: a script that passes its tests meets the premises of `FirstSteps` and of `BadLines.bad_read`.
-- Assumes nothing.
use mathlib.Core.Path.{◌≡◌, sym, ap, subst, ◌∙◌}
use mathlib.Core.Bool.{Bool, true, false}
use mathlib.Core.List.{List, [], ◌∷◌, ◌++◌, append_assoc}
use Prim.Native.Nat.{ℕ}
use Prim.Native.String.{String}
use lib.Dec.{leb}
use borrow.Author.Tests.{leb-true, not-true}
use Rattle.formats.specs.Checks.{text, same}
use Rattle.formats.specs.Digits.{error_text}
use Rattle.formats.proofs.Checks.{same_equal}
use Rattle.lines.specs.Line.{is_bad}
use Rattle.lines.specs.Program.{line_at}
use Rattle.lines.proofs.Lines.{is_bad_lem}
use Rattle.texts.specs.Text.{line_text}
use Rattle.texts.specs.Text.{Sent}
use Rattle.controller.specs.Controller.{Areas}
use Rattle.demands.specs.Histories.{Made, ending, powering, unpowered, after}
use Rattle.demands.specs.Seen.{reply, seen, Note, notes}
use Rattle.demands.specs.Told.{Told, told, Never}
use Rattle.demands.specs.ReadBack.{Arrives, ReadOf}
use Rattle.demands.specs.FirstSteps.{has_read, has_written}
use Rattle.demands.specs.Walks.{Act, asks_of, set_out, made_of, Trail}
use Rattle.demands.specs.Premises.{copy, goes, ◌behind◌, one_more, powers_at, end, never}
use Rattle.demands.specs.Applying.{First, first_by, Reads, reads}
use Rattle.demands.specs.Replies.{ended}
use Rattle.demands.proofs.Applies.Walked.{
  calls,
  Reached,
  reached_none,
  reached_more,
  never_reached,
  never_append,
  arrives_reached,
  taken_so,
  reply_so,
  one_reached,
  read_named,
  AllTrue,
  nth,
  holds_at,
}
use Rattle.demands.proofs.Calls.FirstSteps.{first_read, first_accepted, first_write, no_read_before, no_write_before}
use Rattle.demands.proofs.Calls.BadLines.{bad_read}

-- ---- the first address after a power-on

module _ (x : First) where
  abbrev before : List Made
  before = calls (set_out copy) (asks_of x.before)

  abbrev lent : Areas
  lent = (made_of (powers_at x.room) (goes x.before).last).areas

  abbrev on : List Made
  on = before ++ (powering lent ∷ [])

  abbrev o : Trail
  o = one_more (goes x.before) (powers_at x.room)

  abbrev l : Trail
  l = o behind x.later

  abbrev first : List Made
  first = calls o.last (asks_of x.later)

  at_on : Reached on o.last
  at_on = one_reached (reached_more (reached_none copy) (asks_of x.before)) (powers_at x.room)

  -- the calls after the power-on, with those of a command
  module _ (acts : List Act) where
    abbrev later : List Made
    later = first ++ calls l.last (asks_of acts)

    abbrev now : List Made
    now = on ++ later

    abbrev last : Trail
    last = l behind acts

    at_now : Reached now last.last
    at_now =
        subst (λ ms. Reached ms last.last) (append_assoc on first (calls l.last (asks_of acts)))
        (reached_more (reached_more at_on (asks_of x.later)) (asks_of acts))

    unmoved : (has : Told → Note → Bool) → never has l.moments ≡ true → never has last.moments ≡ true
        → Never has (told on) (notes (after unpowered on) later)
    unmoved has e f =
        never_append has on first (calls l.last (asks_of acts)) (never_reached at_on (asks_of x.later) has e)
        (never_reached (reached_more at_on (asks_of x.later)) (asks_of acts) has f)

    abbrev a : Areas
    a = (made_of end last.last).areas

-- what `first_read` and `no_read_before` say of these calls
abbrev pub FirstReadSo : First → Type 0
FirstReadSo x =
    (is_bad (line_at (a x x.next).program 0) ≡ false
    → reply (seen (now x x.next) (ending (a x x.next))) ≡ ended (line_text (line_at (a x x.next).program 0)))
    × (reply (seen (now x x.previous) (ending (a x x.previous))) ≡ ended (error_text 4))

module _ (x : First) (ok : AllTrue (first_by x "CR" "" has_read)) where
  at : (i : ℕ) → nth i (first_by x "CR" "" has_read) ≡ true
  at = holds_at (first_by x "CR" "" has_read) ok

  pub first_read_applies : FirstReadSo x
  unfolding first_by text
  first_read_applies = (
    (first_read (before x) (later x x.next) (lent x) (unmoved x x.next has_read (at 0) (at 1)) (a x x.next)
        (arrives_reached (at_now x x.next) _ (at 2))
        (taken_so (at_now x x.next) end (at 4))).0,
    no_read_before (before x) (later x x.previous) (lent x) (unmoved x x.previous has_read (at 0) (at 6)) (a x x.previous) (text x.left)
        (leb-true _ _ (at 10)) (arrives_reached (at_now x x.previous) _ (at 7)) (taken_so (at_now x x.previous) end (at 8)),
  )

-- what `first_write`, `first_accepted` and `no_write_before` say of these calls
abbrev pub FirstWriteSo : First → String → Type 0
FirstWriteSo x line = let s = seen (now x x.next) (ending (a x x.next)) in
    Sent (text line) (line_at s.areas.program 0) × (reply s ≡ ended (text "OK"))
    × (reply (seen (now x x.previous) (ending (a x x.previous))) ≡ ended (error_text 4))

module _ (x : First) (line : String) (ok : AllTrue (first_by x "CW" line has_written)) (is : same (text x.reply) (text "OK") ≡ true) where
  write_at : (i : ℕ) → nth i (first_by x "CW" line has_written) ≡ true
  write_at = holds_at (first_by x "CW" line has_written) ok

  pub first_write_applies : FirstWriteSo x line
  unfolding first_by
  first_write_applies =
      let unwritten = unmoved x x.next has_written (write_at 0) (write_at 1) in
      let arrived = arrives_reached (at_now x x.next) _ (write_at 2) in
      let taken = taken_so (at_now x x.next) end (write_at 4) in
      let said = reply_so (at_now x x.next) end _ (write_at 5) ∙ ap ended (same_equal (text x.reply) (text "OK") is) in
      let sent = first_write (before x) (later x x.next) (lent x) unwritten (a x x.next) (text line) arrived taken said in (
        sent,
        first_accepted (before x) (later x x.next) (lent x) unwritten (a x x.next) _ sent.fits
            (subst (λ cs. Arrives (told (now x x.next)) (text "CW" ++ (text "I" ++ cs))) (sym sent.shows) arrived)
            (ap (λ (t : Told). t.run.on) (at_now x x.next).told ∙ not-true _ (write_at 3)) taken,
        no_write_before (before x) (later x x.previous) (lent x) (unmoved x x.previous has_written (write_at 0) (write_at 6)) (a x x.previous)
            (text x.left) (leb-true _ _ (write_at 10)) (arrives_reached (at_now x x.previous) _ (write_at 7))
            (taken_so (at_now x x.previous) end (write_at 8)),
      )

-- ---- one command

module _ (x : Reads) where
  abbrev read_before : List Made
  read_before = calls (set_out copy) (asks_of x.before)

  at_one : Reached read_before (goes x.before).last
  at_one = reached_more (reached_none copy) (asks_of x.before)

  abbrev areas_then : Areas
  areas_then = (made_of end (goes x.before).last).areas

  -- what `reads_as_told` asks of a read, and what `bad_read` says
  abbrev pub ReadSo : Type 0
  ReadSo =
      ReadOf read_before x.k areas_then × (x.is_on_bad ≡ true → reply (seen read_before (ending areas_then)) ≡ ended (error_text 24))

  module _ (ok : AllTrue (reads x)) where
    read_at : (i : ℕ) → nth i (reads x) ≡ true
    read_at = holds_at (reads x) ok

    pub read_applies : ReadSo
    unfolding reads
    read_applies =
        let read : ReadOf read_before x.k areas_then =
        record {
          address = text x.address;
          arrived = arrives_reached at_one _ (read_at 0);
          named = read_named at_one x.k _ (read_at 1);
          taken = taken_so at_one end (read_at 4);
        } in (
          read,
          λ is.
              let le : leb x.k 199 ≡ true = rw is at (read_at 2) in
              let bad : is_bad (line_at (goes x.before).last.held.program x.k) ≡ true = rw is at (read_at 3) in
              bad_read read_before areas_then x.k (leb-true _ _ le) read (is_bad_lem _ bad),
        )
