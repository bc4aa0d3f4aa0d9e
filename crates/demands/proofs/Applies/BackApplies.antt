-- Promises that apply: a script that passes its tests meets the premises of the theorems that it is for. Each theorem is put to use here with the calls of
-- any such script; `Applied` has the scripts.
-- Assumes nothing.
use mathlib.Core.Path.{◌≡◌, sym, ap, subst, ◌∙◌}
use mathlib.Core.Bool.{true}
use mathlib.Core.List.{List, [], ◌∷◌, ◌++◌}
use Prim.Native.Nat.{ℕ}
use borrow.Author.Tests.{leb-true, not-true}
use Rattle.formats.specs.Checks.{text}
use Rattle.controller.specs.Controller.{Areas}
use Rattle.demands.specs.Histories.{Made, ending, unpowered, after}
use Rattle.demands.specs.Seen.{reply, seen}
use Rattle.demands.specs.Told.{Told, told}
use Rattle.demands.specs.ReadBack.{Arrives, is_replaced}
use Rattle.demands.specs.Walks.{asks_of, set_out, made_of, Trail}
use Rattle.demands.specs.Premises.{copy, goes, ◌behind◌, one_more, end}
use Rattle.demands.specs.Applying.{Back, reads_back}
use Rattle.demands.specs.Replies.{ended}
use Rattle.demands.proofs.History.Telling.{held_as_told}
use Rattle.demands.proofs.Applies.Walked.{
  calls,
  Reached,
  reached_none,
  reached_more,
  never_reached,
  hands_reached,
  hand_reached,
  arrives_reached,
  taken_so,
  reply_so,
  one_reached,
  read_named,
  write_named,
  AllTrue,
  nth,
  holds_at,
}
use Rattle.demands.proofs.Calls.LinesHeld.{written_line}
use Rattle.demands.proofs.Calls.ReadsBack.{reads_back_lem, line_accepted}

-- ---- read-back

module _ (x : Back) where
  abbrev before : List Made
  before = calls (set_out copy) (asks_of x.before)

  abbrev b : Trail
  b = goes x.before

  abbrev w : Trail
  w = one_more b end

  abbrev ms : List Made
  ms = calls w.last (asks_of x.later)

  abbrev l : Trail
  l = w behind x.later

  abbrev a : Areas
  a = (made_of end b.last).areas

  abbrev now : List Made
  now = (before ++ (ending a ∷ [])) ++ ms

  -- what `line_accepted` and `reads_back_lem` say of these calls
  abbrev pub BackSo : Type 0
  BackSo = (reply (seen before (ending a)) ≡ ended (text "OK")) × (reply (seen now (ending (made_of end l.last).areas)) ≡ ended (text x.line))

  at_write : Reached before b.last
  at_write = reached_more (reached_none copy) (asks_of x.before)

  written : Reached (before ++ (ending a ∷ [])) w.last
  written = one_reached at_write end

  at_read : Reached now l.last
  at_read = reached_more written (asks_of x.later)

  module _ (ok : AllTrue (reads_back x)) where
    at : (i : ℕ) → nth i (reads_back x) ≡ true
    at = holds_at (reads_back x) ok

    -- `reads_back_lem`, at the calls of the script
    reads_so : reply (seen now (ending (made_of end l.last).areas)) ≡ ended (text x.line)
    unfolding reads_back
    reads_so =
        reads_back_lem before ms x.k (leb-true _ _ (at 0)) a (text x.address) (text x.line) (arrives_reached at_write _ (at 1))
        (write_named at_write x.k _ (at 2)) (taken_so at_write end (at 4)) (reply_so at_write end _ (at 5))
        (hands_reached written (asks_of x.later) (at 6))
        (never_reached written (asks_of x.later) (is_replaced x.k) (at 7)) (made_of end l.last).areas (text x.again)
        (arrives_reached at_read _ (at 8)) (read_named at_read x.k _ (at 9)) (hand_reached at_read _ 16)
        (taken_so at_read end (at 10))

    -- and `line_accepted`, of the line that then stands there
    accepted_so : reply (seen before (ending a)) ≡ ended (text "OK")
    unfolding reads_back seen
    accepted_so =
        let inside = leb-true _ _ (at 0) in
        let arrived = arrives_reached at_write _ (at 1) in
        let named = write_named at_write x.k _ (at 2) in
        let taken = taken_so at_write end (at 4) in
        let sent = written_line (after unpowered before) (told before) (held_as_told before) a x.k (text x.address) (text x.line) inside arrived named
        taken
        (reply_so at_write end _ (at 5)) in
        line_accepted before a x.k inside (text x.address) _ sent.fits
        (subst (λ cs. Arrives (told before) (text "CW" ++ (text x.address ++ cs))) (sym sent.shows) arrived) named
        (ap (λ (t : Told). t.run.on) at_write.told ∙ not-true _ (at 3)) taken

    pub back_applies : BackSo
    back_applies = (accepted_so, reads_so)
