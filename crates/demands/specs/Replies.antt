-- Demand 2, "Commands, replies, error codes, variables": the reply to a finished command, by the history and the program lent.
use Rattle.std.specs.Prelude.{ℕ, ◌≡◌, List, [], ◌∷◌, ◌++◌}
use Rattle.formats.specs.Checks.{text}
use Rattle.formats.specs.Digits.{error_text}
use Rattle.demands.specs.Said.{Said, silence, reads, writes_line, writes_outputs, writes_parameter, gives}
use Rattle.demands.specs.Told.{Told}
use Rattle.demands.specs.Shown.{shown_at}
use Rattle.demands.specs.Commands.{IsWritten, Allows, Error, First, number}

-- "Replies [...] end in byte 13."
abbrev pub ended : List ℕ → List ℕ
ended reply = reply ++ (13 ∷ [])

-- a read is answered with what its address shows; "An accepted write answers OK."
abbrev pub answer_to : Told → List ℕ → Said → List ℕ
answer_to t program silence = []
answer_to t program (reads k) = ended (shown_at t program k)
answer_to t program (writes_line k l) = ended (text "OK")
answer_to t program (writes_outputs k x) = ended (text "OK")
answer_to t program (writes_parameter v) = ended (text "OK")
answer_to t program (gives n) = ended (text "OK")

-- r is the reply to what was received: to a command that is written so and that the state allows; or else the first error that has its sentence.
-- "Errors are E and three digits."
pub data Reply (t : Told) (program r : List ℕ) : Type 0 where
  to_command : (s : Said) → IsWritten t s → Allows t program s → r ≡ answer_to t program s → Reply t program r
  to_error : (e : Error) → First t program e → r ≡ ended (error_text (number e)) → Reply t program r
