-- The 217 variables: what a read of each answers.
-- 01, 'Variables', its table.
use Rattle.std.specs.Prelude.{ℕ, ◌+◌, ◌*◌, ◌-◌, Bool, ◌&&◌, List, get_or, set, leb, eqb}
use Rattle.std.specs.Prelude.{if◌then◌else◌}
use Rattle.formats.specs.Digits.{number, h, d, 2d}
use Rattle.formats.specs.Bytes.{bytes}
use Rattle.lines.specs.declared.Line.{Line}
use Rattle.lines.specs.Line.{read_line, is_bad}
use Rattle.lines.specs.Program.{line_at}
use Rattle.texts.specs.Text.{line_text}
use Rattle.running.specs.declared.Run.{Run}
use Rattle.running.specs.Running.{counter}
use Rattle.variables.specs.declared.Panel.{Panel}

-- the line at 000-199, in the program area, or at 200
unfoldable pub line_of : Panel → List ℕ → ℕ → Line
line_of panel program k = if eqb k 200 then read_line panel.single else line_at program k

-- address k is one of 000-200, and a Bad line stands there
unfoldable pub is_bad_at : Panel → List ℕ → ℕ → Bool
is_bad_at panel program k = leb k 200 && is_bad (line_of panel program k)

abbrev pub bit : Bool → ℕ
bit b = if b then 1 else 0

-- "D7 unread event, D1 running (also when paused), D0 paused, others 0"
abbrev pub status_bits : Bool → Bool → Bool → ℕ
status_bits unread on paused = 128 * bit unread + 2 * bit on + bit paused

abbrev pub status : Panel → Run → Bool → ℕ
status panel run paused = status_bits panel.unread run.on paused

-- 203-206 are the four bytes of the output word, the highest first: "outputs 32-25, 24-17, 16-9, 8-1"; "Output n is bit n-1".
unfoldable pub output_byte : ℕ → ℕ → ℕ
output_byte k word = get_or (bytes 4 word) (k - 203) 0

-- "A write to 203-206 alters its eight bits of the output word and no other bit."
unfoldable pub with_output_byte : ℕ → ℕ → ℕ → ℕ
with_output_byte k x word = number 256 (set (bytes 4 word) (k - 203) x)

-- what a read of address k shows; where a Bad line stands there it is not asked for (`controller/Deeds.asked`)
unfoldable pub value : Panel → Run → Bool → List ℕ → ℕ → List ℕ
value panel run paused program k =
    if leb k 200 then line_text (line_of panel program k)
    else if eqb k 201 then h (status panel run paused)
    else if eqb k 202 then h 0
    else if leb k 206 then h (output_byte k run.outputs)
    else if eqb k 207 then h 0
    else if eqb k 208 then d 0
    else if eqb k 209 then d panel.parameter
    else if eqb k 210 then d panel.special
    else if eqb k 211 then d run.line
    else if eqb k 212 then d panel.event
    else 2d (counter run (k - 212)).count
