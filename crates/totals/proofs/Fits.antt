-- What is told always fits into the block of the program: nothing of it goes out before the rest.
-- Assumes nothing.
use Prim.Native.Nat.{ℕ, ◌+◌, ◌*◌, ◌≤◌}
use native.Mathlib.Omega.{arith}
use mathlib.Core.Path.{◌≡◌}
use mathlib.Core.Bool.{true, false}
use mathlib.Core.List.{List, [], ◌∷◌}
use lib.ListN.{length}
use lib.Dec.{eqb}
use Rattle.formats.specs.Checks.{text, same}
use Rattle.formats.proofs.Checks.{if_case}
use Rattle.streams.specs.Gathering.{Waiting, Follows}
use Rattle.streams.proofs.Within.{Within, lit, one_within, both, room, decimal_within, digits_within, error_within, waits_whole}
use Rattle.reader.specs.declared.Record.{Record}
use Rattle.reader.specs.declared.Layout.TheVariants.{Sixteen}
use Rattle.reader.specs.Reading.{record_at}
use Rattle.channels.specs.declared.Channel.{Channel}
use Rattle.channels.specs.declared.Beside.{Beside}
use Rattle.totals.specs.Telling.{line_of, or_more, unknown_line, table_from, table_of, refusal_line}
use Rattle.totals.specs.Telling.{name_text, tick_text, word_text, reason_text, message_of}

none_within : (n : ℕ) → Within n []
none_within n = record { fits = omega arith }

whole_within : (xs : List ℕ) → Within (length xs) xs
whole_within xs = record { fits = omega arith }

-- ---- the table

line_within : (i : ℕ) (c : Channel) → Within 84 (line_of i c)
unfolding line_of text
line_within i c =
    both (decimal_within (i + 1))
    (both (lit " ")
    (both (decimal_within c.closings)
    (both (lit " ") (both (decimal_within c.openings) (both (lit " ") (both (decimal_within c.ticks) (one_within 10)))))))

unknown_within : (b : Beside) → Within 37 (unknown_line b)
unfolding unknown_line text
unknown_within b = both (lit "unknown ") (both (decimal_within b.unknown) (both (more b.more) (one_within 10)))
  where
    more : (m : _) → Within 8 (or_more m)
    more true = lit " or more"
    more false = none_within 8

table_within : (i : ℕ) (cs : List Channel) (b : Beside) → Within (84 * length cs + 37) (table_from i cs b)
unfolding table_from
table_within i [] b = room (84 * 0 + 37) (unknown_within b) (omega arith)
table_within i (c ∷ cs) b = room (84 * length (c ∷ cs) + 37) (both (line_within i c) (table_within (i + 1) cs b)) (omega arith)

-- In a block of 4096 bytes, of which none wait, what is told waits whole, and no write fails.
pub table_whole : {o r : Waiting} (cs : List Channel) (b : Beside) → length cs ≡ 32 → o.waits ≡ [] → Follows 4096 o (table_of cs b) r
    → (r.waits ≡ table_of cs b) × (r.open ≡ o.open)
table_whole cs b count none f = waits_whole (table_within 0 cs b) (omega (arith, count)) none f

pub refusal_whole : {o r : Waiting} (e : ℕ) → o.waits ≡ [] → Follows 4096 o (refusal_line e) r → (r.waits ≡ refusal_line e) × (r.open ≡ o.open)
unfolding refusal_line
refusal_whole e none f = waits_whole (both (error_within e) (one_within 10)) (omega arith) none f

-- ---- the message of a refusal

name_within : (name : List ℕ) → Within (length name + 14) (name_text name)
unfolding name_text text
name_within name =
    if_case (Within (length name + 14)) (same name (text "-")) (λ _. room (length name + 14) (lit "standard input") (omega arith))
    (λ _. room (length name + 14) (both (lit "'") (both (whole_within name) (lit "'"))) (omega arith))

tick_within : (b : Beside) (r : Record) → Within 100 (tick_text b r)
unfolding tick_text text
tick_within b r =
    room 100
    (both (lit ": expected a first tick of ") (both (decimal_within b.tick) (both (lit " or later, found ") (decimal_within r.tick))))
    (omega arith)

word_within : (b : Beside) (r : Record) → Within 100 (word_text b r)
unfolding word_text text
word_within b r =
    room 100
    (both (lit ": expected ")
    (both (digits_within 16 8 b.word) (both (lit " as the first earlier word, found ") (digits_within 16 8 r.word))))
    (omega arith)

reason_within : (e : ℕ) (b : Beside) (log : List ℕ) → Within 100 (reason_text e b log)
unfolding reason_text
reason_within e b log =
    if_case (Within 100) (eqb e 72) (λ _. tick_within b (record_at Sixteen 0 log))
    (λ _. if_case (Within 100) (eqb e 73) (λ _. word_within b (record_at Sixteen 0 log)) (λ _. none_within 100))

message_within : (name : List ℕ) (e : ℕ) (b : Beside) (log : List ℕ) → Within (length name + 136) (message_of name e b log)
unfolding message_of text
message_within name e b log =
    room (length name + 136)
    (both (name_within name) (both (lit " is refused with ") (both (error_within e) (both (reason_within e b log) (one_within 10)))))
    (omega arith)

pub message_whole : (name : List ℕ) (e : ℕ) (b : Beside) (log : List ℕ) {o r : Waiting} → length name ≤ 4096 → o.waits ≡ []
    → Follows 8192 o (message_of name e b log) r → r.waits ≡ message_of name e b log
message_whole name e b log short none f = (waits_whole (message_within name e b log) (omega (arith, short)) none f).0
