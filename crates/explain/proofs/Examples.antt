-- The two lines of each event and each cause, and of each refusal, computed.
-- Assumes nothing.
use Prim.Native.Nat.{ℕ, suc, ◌-◌}
use Prim.Native.String.{String}
use mathlib.Core.Bool.{false}
use mathlib.Core.List.{List, [], ◌∷◌, ◌++◌}
use mathlib.Core.Path.{◌≡◌, refl}
use lib.ListN.{length, replicate}
use Rattle.std.specs.Prelude.{if◌then◌else◌}
use Rattle.std.specs.Prelude.{Option, Some, None}
use Rattle.formats.specs.Checks.{Res, refused, passed, text, same}
use Rattle.formats.specs.Digits.{digits, shown, width, number_after, error_text}
use Rattle.lines.specs.declared.Line.TheVariants.{State, For, Next}
use Rattle.lines.specs.Line.{read_line, bytes_of}
use Rattle.lines.specs.Program.{line_at}
use Rattle.texts.specs.Text.{line_text}
use Rattle.explanation.specs.declared.Stop.{Stop}
use Rattle.explanation.specs.declared.Cause.{Cause}
use Rattle.explanation.specs.declared.Cause.TheVariants.{ForLine, Sought, ForAbove, StateLine}
use Rattle.explain.specs.Telling.{fields, seconds, busy_advice, above_reason, plain_reason, reason, stop_sentence, refusal_sentence, running_sentence, two_lines}

-- a For on line 000, a Next on 001, a State on 002; what follows, to line 199, is Bad
abbrev program : List ℕ
program = let bs = bytes_of (For 1 3) ++ (bytes_of (Next 4) ++ bytes_of (State 0xA0B1 27)) in bs ++ replicate (1600 - length bs) 0

record Told : Type 0 where
  answer : Res (Option Stop)
  limit : ℕ
  first : String
  second : List ℕ

abbrev of : ℕ → ℕ → ℕ → Option Cause → Res (Option Stop)
of e n l c = passed (Some (record { event = e; tick = n; line = l; cause = c }))

infix 4 ◌gives◌and◌
abbrev ◌gives◌and◌ : Res (Option Stop) → String → List ℕ → Told
a gives first and second = record { answer = a; limit = 1205; first = first; second = second }

failing : ℕ → List Told → List ℕ
failing n [] = []
failing n (x ∷ xs) =
    if same (two_lines program x.limit x.answer) (text x.first ++ (10 ∷ (x.second ++ (10 ∷ [])))) then failing (suc n) xs
    else n ∷ failing (suc n) xs

examples : List Told
examples =
    (of 6 125 0 (Some (ForLine 7)) gives "006 125 000 007"
    and text "Stopped after 12.5 s on line 000 (F10003): "
    ++ text "counter 1 was still in use by the For on line 007. Two loops cross: end the inner one before the outer one.")
    ∷ (of 7 0 0 (Some (Sought 1)) gives "007 0 000 1"
    and text "Stopped after 0.0 s on line 000 (F10003): "
    ++ text "no Next of counter 1 stands on a later line. Write N1 on the line where the loop ends.")
    ∷ (of 8 99999 1 (Some (ForAbove false)) gives "008 99999 001 no"
    and text "Stopped after 9999.9 s on line 001 (N4): "
    ++ text "no For of counter 4 stands above. Write one there, or take this Next out.")
    ∷ (of 13 10 1 (Some (StateLine 42)) gives "013 10 001 042"
    and text "Stopped after 1.0 s on line 001 (N4): "
    ++ text "more than 400 For and Next lines fell due in one tick, behind the State on line 042. Put a State with a time above 0 into the loop.")
    ∷ (of 9 100000 2 None gives "009 100000 002 -"
    and text "Stopped after 10000.0 s on line 002 (S000000A0B10027): "
    ++ text "the program went on past line 199, the last one. Write an end mark, S00000000000000, on the line where it ends.")
    ∷ (of 14 9 199 None gives "014 9 199 -" and text "Stopped after 0.9 s on line 199 (E024): "
    ++ text "its eight bytes are no State, For or Next. Write this line again.")
    ∷ (passed None gives "running" and text "Still running after 120.5 s: nothing stops it up to the limit. A limit can be as large as 100000 ticks.")
    ∷ (refused 60 gives "E060" and text "The start line is above 199, the last line. Give a line of 0 to 199.")
    ∷ []

examples_hold : failing 1 examples ≡ []
unfolding failing examples text digits shown width number_after error_text read_line bytes_of line_at line_text fields seconds busy_advice above_reason plain_reason
    reason stop_sentence refusal_sentence running_sentence two_lines
examples_hold = refl
