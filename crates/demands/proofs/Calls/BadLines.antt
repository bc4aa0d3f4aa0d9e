-- 02, item 4: "A bad stored line must not look like an end." What a read of a Bad line is answered, and that no read of 200 is one.
-- Assumes nothing.
use mathlib.Core.Path.{◌≡◌}
use Prim.Native.Nat.{ℕ, ◌≤◌}
use native.Mathlib.Omega.{arith}
use mathlib.Core.Bool.{false}
use mathlib.Core.List.{List}
use Rattle.formats.specs.Digits.{error_text}
use Rattle.lines.specs.declared.Line.TheVariants.{Bad}
use Rattle.lines.specs.Line.{is_bad}
use Rattle.lines.specs.Program.{line_at}
use Rattle.lines.proofs.Lines.{fits_good}
use Rattle.texts.specs.Text.{line_text}
use Rattle.controller.specs.Controller.{Areas}
use Rattle.demands.specs.Histories.{ending, Made}
use Rattle.demands.specs.Seen.{reply, seen}
use Rattle.demands.specs.Told.{told}
use Rattle.demands.specs.ReadBack.{ReadOf}
use Rattle.demands.specs.Shown.{shown_of}
use Rattle.demands.specs.Replies.{ended}
use Rattle.demands.proofs.History.Telling.{held_as_told}
use Rattle.demands.proofs.Calls.Replies.{reads_as_told}

-- "reading a Bad line over the wire answers E024", whatever ran before and whatever was read
pub bad_read : (ms : List Made) (a : Areas) (k : ℕ) → k ≤ 199 → ReadOf ms k a → line_at a.program k ≡ Bad
    → reply (seen ms (ending a)) ≡ ended (error_text 24)
bad_read ms a k le read line = (reads_as_told ms a k (omega arith) read).1 le line

-- What 200 holds is never Bad: it is shown as the line that was last written there, or the end mark of power-on.
pub single_read : (ms : List Made) (a : Areas) → ReadOf ms 200 a → reply (seen ms (ending a)) ≡ ended (line_text (told ms).single)
unfolding shown_of
single_read ms a read = (reads_as_told ms a 200 (omega arith) read).0 λ le. absurd (omega arith)

-- So the history says a line of 200, and no Bad one.
pub single_good : (ms : List Made) → is_bad (told ms).single ≡ false
single_good ms = fits_good (told ms).single (held_as_told ms).panel.fits
