-- The two lines always fit into the block of the program: nothing of them goes out before the rest.
-- Assumes nothing.
use Prim.Native.Nat.{ℕ, ◌/◌}
use native.Mathlib.Omega.{arith}
use mathlib.Core.Bool.{Bool, true, false}
use mathlib.Core.List.{List, []}
use mathlib.Core.Path.{◌≡◌}
use lib.ListN.{length}
use lib.Dec.{eqb, ltb}
use Rattle.std.specs.Prelude.{Option, Some, None}
use Rattle.formats.specs.Checks.{Res, refused, passed, text}
use Rattle.formats.proofs.Checks.{if_case}
use Rattle.lines.specs.declared.Line.{Line}
use Rattle.lines.specs.declared.Line.TheVariants.{State, For, Next, Bad}
use Rattle.lines.specs.Line.{counter_of}
use Rattle.lines.specs.Program.{line_at}
use Rattle.texts.proofs.Texts.{text_length}
use Rattle.streams.specs.Gathering.{Waiting, Follows}
use Rattle.streams.proofs.Within.{Within, lit, one_within, both, room, decimal_within, digits_within, error_within, waits_whole}
use Rattle.explanation.specs.declared.Cause.{Cause}
use Rattle.explanation.specs.declared.Cause.TheVariants.{ForLine, Sought, ForAbove, StateLine}
use Rattle.explanation.specs.declared.Stop.{Stop}
use Rattle.explain.specs.Telling.{cause_field, fields, first_line, seconds, read_text, busy_advice, above_reason, plain_reason, reason}
use Rattle.explain.specs.Telling.{stop_sentence, refusal_sentence, running_sentence, sentence, two_lines}

seconds_within : (n : ℕ) → Within 22 (seconds n)
unfolding seconds text
seconds_within n = both (both (decimal_within (n / 10)) (lit ".")) (digits_within 10 1 n)

-- ---- the first line

cause_within : (c : Option Cause) → Within 3 (cause_field c)
unfolding text
cause_within (Some (ForLine k)) = digits_within 10 3 k
cause_within (Some (Sought c)) = room 3 (digits_within 10 1 c) (omega arith)
cause_within (Some (ForAbove true)) = lit "yes"
cause_within (Some (ForAbove false)) = room 3 (lit "no") (omega arith)
cause_within (Some (StateLine k)) = digits_within 10 3 k
cause_within None = room 3 (lit "-") (omega arith)

fields_within : (s : Stop) → Within 32 (fields s)
unfolding fields text
fields_within s =
    both (digits_within 10 3 s.event)
    (both (lit " ")
    (both (both (decimal_within s.tick) (lit " ")) (both (digits_within 10 3 s.line) (both (lit " ") (cause_within s.cause)))))

first_within : (a : Res (Option Stop)) → Within 32 (first_line a)
unfolding text
first_within (refused e) = room 32 (error_within e) (omega arith)
first_within (passed None) = room 32 (lit "running") (omega arith)
first_within (passed (Some s)) = fields_within s

-- ---- the sentence

read_within : (l : Line) → Within 15 (read_text l)
read_within (State o t) = record { fits = text_length (State o t) }
read_within (For c x) = record { fits = text_length (For c x) }
read_within (Next c) = record { fits = text_length (Next c) }
read_within Bad = room 15 (error_within 24) (omega arith)

advice_within : (k line : ℕ) → Within 60 (busy_advice k line)
unfolding busy_advice text
advice_within k line =
    if_case (Within 60) (ltb k line) (λ _. room 60 (lit "Give the inner loop another counter.") (omega arith))
    (λ _. room 60 (lit "Two loops cross: end the inner one before the outer one.") (omega arith))

above_within : (b : Bool) (c : ℕ) → Within 160 (above_reason b c)
unfolding above_reason text
above_within b c =
    if_case (Within 160) b
    (λ _. room 160
    (both (lit "counter ")
    (both (digits_within 10 1 c)
    (lit " was not in use, although a For of it stands above. Start at that For or above it, or take this Next out.")))
    (omega arith))
    (λ _. room 160
    (both (lit "no For of counter ") (both (digits_within 10 1 c) (lit " stands above. Write one there, or take this Next out.")))
    (omega arith))

plain_within : (e : ℕ) → Within 160 (plain_reason e)
unfolding plain_reason text
plain_within e =
    if_case (Within 160) (eqb e 9)
    (λ _. room 160 (lit "the program went on past line 199, the last one. Write an end mark, S00000000000000, on the line where it ends.") (omega arith)) λ _.
    if_case (Within 160) (eqb e 11) (λ _. room 160 (lit "the program came to its end mark. Nothing has to be done.") (omega arith)) λ _.
    if_case (Within 160) (eqb e 13)
    (λ _. room 160 (lit "more than 400 For and Next lines fell due in the start itself. Put a State with a time above 0 into the loop.") (omega arith))
    (λ _. room 160 (lit "its eight bytes are no State, For or Next. Write this line again.") (omega arith))

reason_within : (w : Option Cause) (e line c : ℕ) → Within 160 (reason w e line c)
unfolding reason text
reason_within (Some (ForLine k)) e line c =
    room 160
    (both (lit "counter ")
    (both (digits_within 10 1 c)
    (both (lit " was still in use by the For on line ") (both (digits_within 10 3 k) (both (lit ". ") (advice_within k line))))))
    (omega arith)
reason_within (Some (Sought n)) e line c =
    room 160
    (both (lit "no Next of counter ")
    (both (digits_within 10 1 n) (both (lit " stands on a later line. Write N") (both (digits_within 10 1 n) (lit " on the line where the loop ends.")))))
    (omega arith)
reason_within (Some (ForAbove b)) e line c = above_within b c
reason_within (Some (StateLine k)) e line c =
    room 160
    (both (lit "more than 400 For and Next lines fell due in one tick, behind the State on line ")
    (both (digits_within 10 3 k) (lit ". Put a State with a time above 0 into the loop.")))
    (omega arith)
reason_within None e line c = plain_within e

stop_within : (l : Line) (s : Stop) → Within 230 (stop_sentence l s)
unfolding stop_sentence text
stop_within l s =
    both (lit "Stopped after ")
    (both (seconds_within s.tick)
    (both (lit " s on line ")
    (both (digits_within 10 3 s.line)
    (both (lit " (") (both (read_within l) (both (lit "): ") (reason_within s.cause s.event s.line (counter_of l))))))))

refusal_within : (e : ℕ) → Within 230 (refusal_sentence e)
unfolding refusal_sentence text
refusal_within e =
    if_case (Within 230) (eqb e 30)
    (λ _. room 230 (lit "This is no stored program: it has fewer or more than 1600 bytes. Give a file of 200 lines of 8 bytes.") (omega arith)) λ _.
    if_case (Within 230) (eqb e 60) (λ _. room 230 (lit "The start line is above 199, the last line. Give a line of 0 to 199.") (omega arith))
    (λ _. room 230 (lit "The limit is above 100000 ticks. Give a limit of 0 to 100000.") (omega arith))

running_within : (limit : ℕ) → Within 230 (running_sentence limit)
unfolding running_sentence text
running_within limit =
    room 230
    (both (lit "Still running after ")
    (both (seconds_within limit) (lit " s: nothing stops it up to the limit. A limit can be as large as 100000 ticks.")))
    (omega arith)

sentence_within : (p : List ℕ) (limit : ℕ) (a : Res (Option Stop)) → Within 230 (sentence p limit a)
sentence_within p limit (refused e) = refusal_within e
sentence_within p limit (passed None) = running_within limit
sentence_within p limit (passed (Some s)) = stop_within (line_at p s.line) s

-- ---- both

lines_within : (p : List ℕ) (limit : ℕ) (a : Res (Option Stop)) → Within 264 (two_lines p limit a)
unfolding two_lines
lines_within p limit a = both (both (first_within a) (one_within 10)) (both (sentence_within p limit a) (one_within 10))

-- In a block of 512 bytes, of which none wait, what is told waits whole, and no write fails.
pub told_whole : (p : List ℕ) (limit : ℕ) (a : Res (Option Stop)) {o r : Waiting} → o.waits ≡ [] → Follows 512 o (two_lines p limit a) r
    → (r.waits ≡ two_lines p limit a) × (r.open ≡ o.open)
told_whole p limit a none f = waits_whole (lines_within p limit a) (omega arith) none f
