-- `lines::bytes_of` meets its contract: byte by byte, for each kind of line.
-- Assumes nothing.
use Rattle.formats.specs.Digits.{digits}
use Rattle.lines.specs.Line.{bytes_of}
use Rattle.lines.proofs.bytes_of.Goals as goal

pub returns-in-State : goal.returns-in-State
unfolding bytes_of digits
returns-in-State c = record { bytes = simp (c.in-State.is, c.four_bytes-o.ensures.bytes, c.two_bytes-t.ensures.bytes) }

pub returns-in-For : goal.returns-in-For
unfolding bytes_of digits
returns-in-For c = record { bytes = simp (c.in-For.is, c.two_bytes-n.ensures.bytes) }

pub returns-in-Next : goal.returns-in-Next
unfolding bytes_of
returns-in-Next c = record { bytes = simp c.in-Next.is }

pub returns-in-Bad : goal.returns-in-Bad
unfolding bytes_of
returns-in-Bad c = record { bytes = simp c.in-Bad.is }
