-- `totals::telling::put_name` meets its contract: `-` is standard input, and every other name is told as it is.
-- Assumes nothing.
use Rattle.streams.proofs.Following.{follows_more}
use Rattle.totals.proofs.Names.{name_dash, name_other}
use Rattle.formats.specs.Checks.{text}
use Rattle.totals.proofs.telling.put_name.Goals as goal
use mathlib.Core.Path.{sym, ◌∙◌}
use Rattle.std.specs.Cmp.Lexicographic.{same_text, other_text}

pub returns-then-eq : goal.returns-then-eq
unfolding text
returns-then-eq c = record { follows = rw (name_dash c.args.name.now (same_text _ _ c.if-eq.ensures ∙ c.as_slice.ensures)) c.put.ensures.follows }

pub returns : goal.returns
unfolding text
returns c =
    let other = name_other c.args.name.now (λ is. other_text _ _ c.if-eq.ensures (is ∙ sym c.as_slice.ensures)) in
    let put = follows_more c.put-2.ensures.follows (follows_more c.put-3.ensures.follows c.put-4.ensures.follows) in
    record { follows = rw other put }
