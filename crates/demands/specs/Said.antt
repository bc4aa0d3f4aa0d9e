-- A command that was answered without an error, as one who watches reads it off its characters. The address, the line and the numbers are
-- read by the definitions of 01's formats; that the checks passed is known from the reply.
use Rattle.std.specs.Prelude.{ℕ, Bool, true, false, List, eqb, leb}
use Rattle.std.specs.Prelude.{if◌then◌else◌}
use Rattle.formats.specs.Checks.{Res, refused, passed}
use Rattle.formats.specs.Digits.{h_in, d_in}
use Rattle.lines.specs.declared.Line.{Line}
use Rattle.lines.specs.Line.{end_mark}
use Rattle.texts.specs.Text.{line_in}
use Rattle.wire.specs.Command.{is_read, address_in, rest}

-- Nothing; a read of an address; a write of a line to 000-200, of a byte to 203-206, of the parameter to 209; a special command, at 210.
pub data Said : Type 0 where
  silence : Said
  reads : ℕ → Said
  writes_line : ℕ → Line → Said
  writes_outputs : ℕ → ℕ → Said
  writes_parameter : ℕ → Said
  gives : ℕ → Said

-- what a check passes with; another value where it does not pass
abbrev pub got : {A : Type 0} → A → Res A → A
got other (refused e) = other
got other (passed a) = a

abbrev pub wrote : ℕ → List ℕ → Said
wrote k cs =
    if leb k 200 then writes_line k (got end_mark (line_in cs))
    else if leb k 206 then writes_outputs k (got 0 (h_in cs))
    else if eqb k 209 then writes_parameter (got 0 (d_in cs))
    else gives (got 0 (d_in cs))

-- the characters cs, where I means these addresses, in a read and in a write
abbrev pub spoken : ℕ → ℕ → List ℕ → Said
spoken next_read next_write cs =
    if is_read cs then reads (got 0 (address_in next_read cs))
    else wrote (got 0 (address_in next_write cs)) (rest cs)

-- the special command that is given, 0 for none
abbrev pub given : Said → ℕ
given silence = 0
given (reads j) = 0
given (writes_line j l) = 0
given (writes_outputs j x) = 0
given (writes_parameter v) = 0
given (gives n) = n

-- a write to 203-206
abbrev pub is_outputs : Said → Bool
is_outputs silence = false
is_outputs (reads j) = false
is_outputs (writes_line j l) = false
is_outputs (writes_outputs j x) = true
is_outputs (writes_parameter v) = false
is_outputs (gives n) = false

-- a read of 212
abbrev pub reads_event : Said → Bool
reads_event silence = false
reads_event (reads j) = eqb j 212
reads_event (writes_line j l) = false
reads_event (writes_outputs j x) = false
reads_event (writes_parameter v) = false
reads_event (gives n) = false
