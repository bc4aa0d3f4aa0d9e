-- What the program tells of a program that was read: two lines.
-- 02, item 9: "The deckhand wants the reason and not a number. [...] It answers still running, or the event, its tick from the start, its line and the
-- cause". Item 1: "a refusal is printed as E and three digits, here and later."
use Rattle.std.specs.Prelude.{ℕ, ◌/◌, ◌<◌, Bool, true, false, List, [], ◌∷◌, ◌++◌, eqb, ltb, Option, Some, None}
use Rattle.std.specs.Prelude.{if◌then◌else◌}
use Rattle.formats.specs.Checks.{Res, refused, passed, text}
use Rattle.formats.specs.Digits.{shown, d, decimal, error_text}
use Rattle.lines.specs.declared.Line.{Line}
use Rattle.lines.specs.declared.Line.TheVariants.{State, For, Next, Bad}
use Rattle.lines.specs.Line.{counter_of}
use Rattle.lines.specs.Program.{IsProgram, line_at}
use Rattle.texts.specs.Text.{line_text}
use Rattle.explanation.specs.declared.Cause.{Cause}
use Rattle.explanation.specs.declared.Cause.TheVariants.{ForLine, Sought, ForAbove, StateLine}
use Rattle.explanation.specs.declared.Stop.{Stop}

-- ---- the first line: the fields, or `running`, or the refusal

-- a counter, in one digit
abbrev pub digit : ℕ → List ℕ
digit c = shown 10 1 c

-- a line in three digits, a counter, `yes` or `no`, or `-`
abbrev pub cause_field : Option Cause → List ℕ
cause_field (Some (ForLine k)) = d k
cause_field (Some (Sought c)) = digit c
cause_field (Some (ForAbove true)) = text "yes"
cause_field (Some (ForAbove false)) = text "no"
cause_field (Some (StateLine k)) = d k
cause_field None = text "-"

-- event, tick, line and cause
unfoldable pub fields : Stop → List ℕ
fields s = d s.event ++ (text " " ++ (decimal s.tick ++ text " " ++ (d s.line ++ (text " " ++ cause_field s.cause))))

abbrev pub first_line : Res (Option Stop) → List ℕ
first_line (refused e) = error_text e
first_line (passed None) = text "running"
first_line (passed (Some s)) = fields s

-- ---- the second line: a sentence that says why, and what to do

-- ticks as seconds; 01: "the 0.1 s tick"
unfoldable pub seconds : ℕ → List ℕ
seconds n = decimal (n / 10) ++ text "." ++ digit n

-- a line as a read of it over the wire answers; 02, item 4: "reading a Bad line over the wire answers E024"
abbrev pub read_text : Line → List ℕ
read_text (State outputs time) = line_text (State outputs time)
read_text (For counter count) = line_text (For counter count)
read_text (Next counter) = line_text (Next counter)
read_text Bad = error_text 24

-- 006: a loop in a loop; or, where the For that holds the counter does not stand above, a jump back before its loop was over
unfoldable pub busy_advice : ℕ → ℕ → List ℕ
busy_advice k line =
    if ltb k line then text "Give the inner loop another counter."
    else text "Two loops cross: end the inner one before the outer one."

-- 008
unfoldable pub above_reason : Bool → ℕ → List ℕ
above_reason above c =
    if above
    then text "counter " ++ (digit c ++ text " was not in use, although a For of it stands above. Start at that For or above it, or take this Next out.")
    else text "no For of counter " ++ (digit c ++ text " stands above. Write one there, or take this Next out.")

-- an event that has no cause
unfoldable pub plain_reason : ℕ → List ℕ
plain_reason event =
    if eqb event 9 then text "the program went on past line 199, the last one. Write an end mark, S00000000000000, on the line where it ends."
    else if eqb event 11 then text "the program came to its end mark. Nothing has to be done."
    else if eqb event 13 then text "more than 400 For and Next lines fell due in the start itself. Put a State with a time above 0 into the loop."
    else text "its eight bytes are no State, For or Next. Write this line again."

-- why the program stopped on this line, which names counter c
unfoldable pub reason : Option Cause → ℕ → ℕ → ℕ → List ℕ
reason (Some (ForLine k)) event line c =
    text "counter " ++ (digit c ++ (text " was still in use by the For on line " ++ (d k ++ (text ". " ++ busy_advice k line))))
reason (Some (Sought n)) event line c =
    text "no Next of counter " ++ (digit n ++ (text " stands on a later line. Write N" ++ (digit n ++ text " on the line where the loop ends.")))
reason (Some (ForAbove above)) event line c = above_reason above c
reason (Some (StateLine k)) event line c =
    text "more than 400 For and Next lines fell due in one tick, behind the State on line " ++ (d k
    ++ text ". Put a State with a time above 0 into the loop.")
reason None event line c = plain_reason event

-- l is the line on which it stopped
unfoldable pub stop_sentence : Line → Stop → List ℕ
stop_sentence l s =
    text "Stopped after " ++ (seconds s.tick ++ (text " s on line " ++ (d s.line ++ (text " (" ++ (read_text l ++ (text "): "
    ++ reason s.cause s.event s.line (counter_of l)))))))

unfoldable pub refusal_sentence : ℕ → List ℕ
refusal_sentence e =
    if eqb e 30 then text "This is no stored program: it has fewer or more than 1600 bytes. Give a file of 200 lines of 8 bytes."
    else if eqb e 60 then text "The start line is above 199, the last line. Give a line of 0 to 199."
    else text "The limit is above 100000 ticks. Give a limit of 0 to 100000."

unfoldable pub running_sentence : ℕ → List ℕ
running_sentence limit = text "Still running after " ++ (seconds limit ++ text " s: nothing stops it up to the limit. A limit can be as large as 100000 ticks.")

-- of the program p and the limit
abbrev pub sentence : List ℕ → ℕ → Res (Option Stop) → List ℕ
sentence p limit (refused e) = refusal_sentence e
sentence p limit (passed None) = running_sentence limit
sentence p limit (passed (Some s)) = stop_sentence (line_at p s.line) s

abbrev pub line_end : List ℕ
line_end = 10 ∷ []

-- both, each ended by byte 10
unfoldable pub two_lines : List ℕ → ℕ → Res (Option Stop) → List ℕ
two_lines p limit a = first_line a ++ line_end ++ (sentence p limit a ++ line_end)

-- what the code needs to read the line on which it stopped
abbrev pub Readable : List ℕ → Res (Option Stop) → Type 0
Readable p (refused e) = Unit
Readable p (passed None) = Unit
Readable p (passed (Some s)) = IsProgram p × (s.line < 200)
