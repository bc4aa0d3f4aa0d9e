-- 02, item 7, of the calls after a power-on: which of them move a direction's last address from "before 000".
-- 01, 'The wire': "Read and write keep separate last addresses [...] They move only on a command answered without an error."
use Rattle.std.specs.Prelude.{Bool, not, ◌&&◌, List, get_or, eqb}
use Prim.Native.Char.{code}
use Rattle.controller.specs.Effects.{is_end}
use Rattle.demands.specs.Capitals.{in_capitals}
use Rattle.demands.specs.Seen.{is_taken, reply, is_error, Note}
use Rattle.demands.specs.Told.{Told, Never}

-- byte 13 comes, and the reply is no error
abbrev pub is_answered : Note → Bool
is_answered n = is_taken n.seen && is_end n.call && not (is_error (reply n.seen))

-- the second of the characters received is R
abbrev pub is_read : Told → Bool
is_read t = eqb (get_or (in_capitals t.received) 1 0) (code "R")

-- so to a read; so to what is none, a write
abbrev pub has_read : Told → Note → Bool
has_read t n = is_answered n && is_read t

abbrev pub has_written : Told → Note → Bool
has_written t n = is_answered n && not (is_read t)

-- no call of these is one
abbrev pub Unread : Told → List Note → Type 0
Unread = Never has_read

abbrev pub Unwritten : Told → List Note → Type 0
Unwritten = Never has_written
