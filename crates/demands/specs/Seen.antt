-- What can be seen of the box from outside.
use Rattle.std.specs.Prelude.{ℕ, Bool, ◌&&◌, List, [], ◌∷◌, length, get_or, take, eqb}
use Prim.Native.Char.{code}
use Rattle.controller.specs.Controller.{Areas}
use Rattle.controller.specs.Refusals.{Call}
use Rattle.controller.specs.Calls.{After}
use Rattle.demands.specs.Histories.{Made, emptying_to, Held, unpowered, outcome, next, after}

-- of one call: the number of its refusal, the counts it returns, every lent area after it, and the 32 outputs
pub record Seen : Type 0 where
  pub refusal : ℕ
  pub lines : ℕ
  pub written : ℕ
  pub areas : Areas
  pub outputs : ℕ

abbrev pub seen_of : After → Seen
seen_of r = record { refusal = r.refusal; lines = r.lines; written = r.written; areas = r.areas; outputs = r.state.run.outputs }

-- the call is taken: it has no refusal
abbrev pub is_taken : Seen → Bool
is_taken s = eqb s.refusal 0

-- the reply's bytes, or those that emptying copied, as they stand in their area
abbrev pub reply : Seen → List ℕ
reply s = take s.written s.areas.out

-- 01, 'The wire': "Errors are E and three digits", and byte 13: five bytes that begin with E. No other reply is so: one of two hex digits
-- can begin with E, and has three bytes; four digits and 13 begin with a digit.
abbrev pub is_error : List ℕ → Bool
is_error r = eqb (length r) 5 && eqb (get_or r 0 0) (code "E")

-- what is seen of the call m after the calls ms, the first of them being the first of all
unfoldable pub seen : List Made → Made → Seen
seen ms m = seen_of (outcome (after unpowered ms) m)

-- the bytes that an emptying after the calls ms copies to the start of its destination
abbrev pub emptied_by : List Made → Areas → List ℕ
emptied_by ms a = reply (seen ms (emptying_to a))

-- the 32 outputs after the calls ms, which can be seen at any time
unfoldable pub outputs : List Made → ℕ
outputs ms = (after unpowered ms).state.run.outputs

-- A call as it is noted by one who watches: the call, what it was lent, what was seen of it.
pub record Note : Type 0 where
  pub call : Call
  pub lent : Areas
  pub seen : Seen

unfoldable pub note : Held → Made → Note
note h m = record { call = m.call; lent = m.areas; seen = seen_of (outcome h m) }

-- all calls of a history, in order
unfoldable pub notes : Held → List Made → List Note
notes h [] = []
notes h (m ∷ ms) = note h m ∷ notes (next h m) ms
