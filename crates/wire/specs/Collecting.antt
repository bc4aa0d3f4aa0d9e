-- Bytes are collected, and each direction keeps its last address.
-- 01, 'The wire': "Byte 13 ends a command. Byte 32 is dropped. a-z count as A-Z. All other bytes, 10 included, are characters.
-- At most 32 characters are kept; a 33rd makes the command overlong until its 13."
use Rattle.std.specs.Prelude.{ℕ, ◌+◌, ◌-◌, true, false, ◌&&◌, List, take, set, replicate, leb, ltb, eqb}
use Prim.Native.Char.{code}
use Rattle.std.specs.Prelude.{if◌then◌else◌}
use Rattle.wire.specs.declared.Wire.{Wire}

abbrev pub most_chars : ℕ
most_chars = 32

-- At power-on nothing is collected. "Read and write keep separate last addresses"; each is kept as the address after it, which is what I
-- means. 02, item 7: "At power-on the last address of both directions becomes "before 000": I then means 000".
abbrev pub fresh_wire : Wire
fresh_wire = record { chars = replicate most_chars 0; len = 0; overlong = false; nextread = 0; nextwrite = 0 }

-- "They move only on a command answered without an error": address k was read, or written
abbrev pub read_to : ℕ → Wire → Wire
read_to k w = record { chars = w.chars; len = w.len; overlong = w.overlong; nextread = k + 1; nextwrite = w.nextwrite }

abbrev pub wrote_to : ℕ → Wire → Wire
wrote_to k w = record { chars = w.chars; len = w.len; overlong = w.overlong; nextread = w.nextread; nextwrite = k + 1 }

-- "a-z count as A-Z."
abbrev pub capital : ℕ → ℕ
capital c = if leb (code "a") c && leb c (code "z") then c - 32 else c

-- 02, item 5: "Turn letters to capitals as each character is kept."
abbrev pub keep : ℕ → Wire → Wire
keep x w =
    record { chars = set w.chars w.len (capital x); len = w.len + 1; overlong = w.overlong; nextread = w.nextread; nextwrite = w.nextwrite }

abbrev pub too_long : Wire → Wire
too_long w = record { chars = w.chars; len = w.len; overlong = true; nextread = w.nextread; nextwrite = w.nextwrite }

-- a byte other than 13
unfoldable pub collect : ℕ → Wire → Wire
collect x w = if eqb x 32 then w else if ltb w.len most_chars then keep x w else too_long w

-- "then collection starts empty"
abbrev pub cleared : Wire → Wire
cleared w = record { chars = w.chars; len = 0; overlong = false; nextread = w.nextread; nextwrite = w.nextwrite }

-- the command that byte 13 finds: the characters kept
unfoldable pub sent : Wire → List ℕ
sent w = take w.len w.chars
