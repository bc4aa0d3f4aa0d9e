-- Demand 2, "variables": what a read of each of 000-216 shows, by what the history says and the program lent.
-- 01, 'Variables', its table, row by row.
use Rattle.std.specs.Prelude.{ℕ, ◌+◌, ◌/◌, ◌%◌, Bool, not, List, leb, eqb}
use Rattle.std.specs.Prelude.{if◌then◌else◌}
use Rattle.formats.specs.Digits.{h, d, 2d}
use Rattle.lines.specs.Program.{line_at}
use Rattle.texts.specs.Text.{line_text}
use Rattle.running.specs.declared.Run.{Run}
use Rattle.running.specs.Running.{counter}
use Rattle.demands.specs.Told.{Told}

-- a bit of 201: 2 to the power of its number where it is set
abbrev pub bit_of : ℕ → Bool → ℕ
bit_of weight is = if is then weight else 0

-- the run is r, all else is as the history says
module _ (r : Run) (t : Told) (program : List ℕ) where
  unfoldable pub shown_of : ℕ → List ℕ
  shown_of k =
      -- "program"; "single command"
      if leb k 199 then line_text (line_at program k)
      else if eqb k 200 then line_text t.single
      -- "D7 unread event, D1 running (also when paused), D0 paused, others 0"
      else if eqb k 201 then h (bit_of 128 (not (eqb t.event 0)) + bit_of 2 r.on + bit_of 1 t.paused)
      -- "outputs 32-25, 24-17, 16-9, 8-1"; "Output n is bit n-1 of the output word"
      else if eqb k 203 then h (r.outputs / 16777216 % 256)
      else if eqb k 204 then h (r.outputs / 65536 % 256)
      else if eqb k 205 then h (r.outputs / 256 % 256)
      else if eqb k 206 then h (r.outputs % 256)
      -- "parameter"; "last accepted special command"
      else if eqb k 209 then d t.parameter
      else if eqb k 210 then d t.special
      -- "line now held, or where the program stopped"; "last event"
      else if eqb k 211 then d r.line
      else if eqb k 212 then d t.event
      -- "loop counters, 0 when free"
      else if eqb k 213 then 2d (counter r 1).count
      else if eqb k 214 then 2d (counter r 2).count
      else if eqb k 215 then 2d (counter r 3).count
      else if eqb k 216 then 2d (counter r 4).count
      -- "202, 207 / 208": "read 00 / 000"
      else if eqb k 208 then d 0
      else h 0

abbrev pub shown_at : Told → List ℕ → ℕ → List ℕ
shown_at t program k = shown_of t.run t program k
