-- Demand 2, read-back: "A line accepted by a write is read back as that line until a later write, a load or a power-on replaces
-- it." For 000-199 and for 200; by three digits, by I and by D.
-- Assumes nothing.
use mathlib.Core.Path.{◌≡◌, ap, ◌∙◌}
use Prim.Native.Nat.{ℕ, ◌≤◌}
use mathlib.Core.Bool.{true, false}
use mathlib.Core.List.{List, [], ◌∷◌, ◌++◌}
use Rattle.formats.specs.Checks.{◌>>=◌, text}
use Rattle.lines.specs.declared.Line.{Line}
use Rattle.lines.specs.Line.{is_bad, Fits}
use Rattle.lines.proofs.Lines.{fits_good}
use Rattle.texts.specs.Text.{line_text}
use Rattle.running.specs.declared.Run.{Run}
use Rattle.special.specs.declared.Mode as M
use Rattle.wire.specs.declared.Data.TheVariants.{WriteLine}
use Rattle.wire.specs.Naming.{Names}
use Rattle.wire.proofs.Commands.{write_accepted}
use Rattle.controller.specs.Controller.{mode, Areas}
use Rattle.controller.specs.Variables.{is_bad_at}
use Rattle.controller.specs.Deeds.{legible}
use Rattle.controller.proofs.Legible.{write_stays}
use Rattle.controller.proofs.Lines.{reply_of}
use Rattle.demands.specs.Histories.{ending, Made, Held, unpowered, next, after, HandsOn, AllHandOn}
use Rattle.demands.specs.Seen.{is_taken, reply, seen, notes}
use Rattle.demands.specs.Told.{told}
use Rattle.demands.specs.ReadBack.{Arrives, Unreplaced}
use Rattle.demands.specs.Replies.{ended}
use Rattle.demands.proofs.Calls.Answered.{invariant_always}
use Rattle.demands.proofs.History.Arrived.{arrives_short, arrives_sent, write_length}
use Rattle.demands.proofs.History.Heard.{reply_is}
use Rattle.demands.proofs.History.Telling.{after_more, held_as_told}
use Rattle.demands.proofs.Calls.LinesHeld.{line_at_address, written_line, lines_kept, read_line}

-- ---- the demand

-- The characters of a write of a line arrive at any box, in either case, with spaces and any other calls between them; they name an
-- address of 000-200 by three digits, I or D; then byte 13 is answered OK. Calls of any kind follow, none of which is an accepted
-- write to that address, a load of it or a power-on. Then the characters of a read of that address arrive likewise, and byte 13. The
-- reply is the line that was sent, and 13.
pub reads_back_lem : (before ms : List Made) (k : ℕ) → k ≤ 200
    -- the write
    → (a : Areas) (address line : List ℕ) → Arrives (told before) (text "CW" ++ (address ++ line)) → Names (told before).next_write k address
    → is_taken (seen before (ending a)) ≡ true → reply (seen before (ending a)) ≡ ended (text "OK")
    -- the calls after it
    → let wrote = before ++ (ending a ∷ []) in
    AllHandOn (after unpowered wrote) ms → Unreplaced k (told wrote) (notes (after unpowered wrote) ms)
    -- the read
    → (b : Areas) (address' : List ℕ) → let now = wrote ++ ms in
    Arrives (told now) (text "CR" ++ address') → Names (told now).next_read k address' → HandsOn (after unpowered now) (ending b)
    → is_taken (seen now (ending b)) ≡ true
    → reply (seen now (ending b)) ≡ ended line
unfolding seen after
reads_back_lem before ms k inside a address line arrived named taken ok hands unreplaced b address' arrived' named' hand taken' =
    let h = after unpowered before in
    let wrote = before ++ (ending a ∷ []) in
    let now = wrote ++ ms in
    let gone : after unpowered wrote ≡ next h (ending a) = after_more before (ending a ∷ []) in
    let stays : line_at_address (after unpowered now) k ≡ line_at_address (next h (ending a)) k =
    ap (λ (x : Held). line_at_address x k) (after_more wrote ms)
    ∙ lines_kept k ms (after unpowered wrote) (told wrote) inside (held_as_told wrote) (invariant_always wrote) hands unreplaced
    ∙ ap (λ (x : Held). line_at_address x k) gone in
    let sent = written_line h (told before) (held_as_told before) a k address line inside arrived named taken ok in
    read_line (after unpowered now) (told now) (held_as_told now) b k address' inside arrived' named' taken' hand
    (ap is_bad stays ∙ fits_good (line_at_address (next h (ending a)) k) sent.fits)
    ∙ ap (λ l. ended (line_text l)) stays ∙ ap ended sent.shows

-- And it is answered OK: a line in its format, sent to an address of 000-200 of a box in which no program runs.
pub line_accepted : (before : List Made) (a : Areas) (k : ℕ) → k ≤ 200
    → (address : List ℕ) (l : Line) → Fits l → Arrives (told before) (text "CW" ++ (address ++ line_text l)) → Names (told before).next_write k address
    → (told before).run.on ≡ false → is_taken (seen before (ending a)) ≡ true
    → reply (seen before (ending a)) ≡ ended (text "OK")
unfolding seen
line_accepted before a k inside address l fits arrived named off taken =
    let h = after unpowered before in
    let g = held_as_told before in
    let short = arrives_short (told before) h.state g _ arrived (write_length l named) in
    let stop : mode h.state ≡ M.TheVariants.Stop = rw (ap (λ (r : Run). r.on) g.run ∙ off) in
    reply_is h a taken
    ∙ ap (λ r. reply_of r h.state a)
    (ap (λ r. r >>= legible (is_bad_at h.state a.program))
    (write_accepted h.state.wire (mode h.state) h.state.panel.parameter short k address l fits stop inside
    (arrives_sent (told before) h.state g _ arrived short) (rw g.wire.next_write named))
    ∙ write_stays (is_bad_at h.state a.program) k (WriteLine l))
