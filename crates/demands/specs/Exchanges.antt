-- A language of points: calls one after the other, what they answer, and what the areas hold.
-- A point starts from a power-on, and is a list of steps. The step that most have is an exchange, a text that arrives and the replies
-- to it: ^ is byte 13, ~ byte 10, # a tick, ! button 1, % button 2, any other character a wire byte. Each ^ must be answered by the
-- replies' next ones up to their next ^, and no other call may answer. Every call of an exchange must be accepted. It is lent a reply
-- area of 16 bytes, the least, and what stands behind the reply must stay.
use Rattle.std.specs.Prelude.{ℕ, zero, suc, ◌+◌, ◌-◌, Bool, true, ◌&&◌, List, [], ◌∷◌, ◌++◌, map, take, drop, replicate, length, eqb}
use Prim.Native.Char.{code}
use Prim.Native.String.{String}
use Rattle.std.specs.Prelude.{if◌then◌else◌}
use Rattle.formats.specs.Checks.{text, same}
use Rattle.controller.specs.declared.Controller.{Controller}
use Rattle.controller.specs.Controller.{Areas, with_program, with_saved, with_log_area, with_out, with_ticks, with_log, fresh}
use Rattle.controller.specs.Refusals.{Call, power_on, byte, tick, press, emptying}
use Rattle.controller.specs.Calls.{After, call}

-- ---- a point

pub data Area : Type 0 where
  program : Area
  saved : Area
  log : Area

-- the lengths of what a call is lent, or would be if it had the argument
pub record Lent : Type 0 where
  pub program : ℕ
  pub saved : ℕ
  pub log : ℕ
  pub out : ℕ

pub data Step : Type 0 where
  -- a text arrives, with the replies to it and the For and Next lines that its calls run, together
  exchange : String → String → ℕ → Step
  -- a call that is lent these lengths is refused with this number, 0 for accepted
  try : Call → Lent → ℕ → Step
  -- emptying copies these bytes, returns their number, and leaves the rest of the destination
  empties : List ℕ → Step
  -- from a place on, the area holds these bytes
  holds : Area → ℕ → List ℕ → Step
  -- the caller writes these bytes into the area
  alters : Area → ℕ → List ℕ → Step
  -- The state is as if so many ticks had been taken, or so many changes lost, which is too many to compute. These two steps alone
  -- make a state that no call returned.
  at_tick : ℕ → Step
  at_lost : ℕ → Step

infix 70 ◌⇒◌
abbrev pub ◌⇒◌ : String → String → Step
s ⇒ r = exchange s r 0

infix 70 ◌⇒◌runs◌
abbrev pub ◌⇒◌runs◌ : String → String → ℕ → Step
s ⇒ r runs n = exchange s r n

pub record Point : Type 0 where
  -- what the saved copy holds at power-on, and the length of the log
  pub copy : List ℕ
  pub room : ℕ
  pub steps : List Step

-- ---- lines and records as the paper has them, for what is lent and what is copied

-- n times eight bytes
abbrev pub times : ℕ → List ℕ → List ℕ
times zero line = []
times (suc n) line = line ++ times n line

-- "End mark with outputs 0"
abbrev pub end_mark : List ℕ
end_mark = 0x53 ∷ 0 ∷ 0 ∷ 0 ∷ 0 ∷ 0 ∷ 0 ∷ 0 ∷ []

-- a change, with its cause, its tick count, its word and the word before it, and a gap, with the tick count of the first change lost, how many are
-- lost and the word after the last; but for the cause all under 256
abbrev pub change : ℕ → ℕ → ℕ → ℕ → List ℕ
change cause count word before = 0x1E ∷ 0xE2 ∷ 1 ∷ cause ∷ 0 ∷ 0 ∷ 0 ∷ count ∷ 0 ∷ 0 ∷ 0 ∷ word ∷ 0 ∷ 0 ∷ 0 ∷ before ∷ []

abbrev pub gap : ℕ → ℕ → ℕ → List ℕ
gap count lost word = 0x1E ∷ 0xE2 ∷ 2 ∷ 0 ∷ 0 ∷ 0 ∷ 0 ∷ count ∷ 0 ∷ 0 ∷ 0 ∷ lost ∷ 0 ∷ 0 ∷ 0 ∷ word ∷ []

-- ---- how it is tried

-- what the caller holds, whether all went as it must, the replies that are still to come, and the For and Next lines run
pub record Trial : Type 0 where
  pub state : Controller
  pub areas : Areas
  pub right : Bool
  pub replies : List ℕ
  pub ran : ℕ

abbrev pub held_now : Controller → Areas → Bool → Trial
held_now c a right = record { state = c; areas = a; right = right; replies = []; ran = 0 }

-- what stands in an area before a call writes to it, and where more is lent than the caller holds
abbrev pub blank : ℕ
blank = 0xEE

abbrev pub wire_byte : ℕ → ℕ
wire_byte x = if eqb x (code "^") then 13 else if eqb x (code "~") then 10 else x

abbrev pub call_of : ℕ → Call
call_of x =
    if eqb x (code "#") then tick
    else if eqb x (code "!") then press 1
    else if eqb x (code "%") then press 2
    else byte (wire_byte x)

-- the first reply, with its 13, and those after it
unfoldable pub first_reply : List ℕ → List ℕ
first_reply [] = []
first_reply (x ∷ xs) = if eqb x 13 then x ∷ [] else x ∷ first_reply xs

unfoldable pub later_replies : List ℕ → List ℕ
later_replies [] = []
later_replies (x ∷ xs) = if eqb x 13 then xs else later_replies xs

-- a call was accepted, and wrote these bytes to the start of n blank ones
unfoldable pub wrote : List ℕ → ℕ → After → Bool
wrote bytes n r =
    eqb r.refusal 0 && eqb r.written (length bytes) && same r.areas.out (bytes ++ replicate (n - length bytes) blank)

-- after a call of an exchange, which had to answer `reply`, `later` are the replies still to come
unfoldable pub judged : List ℕ → List ℕ → Trial → After → Trial
judged reply later t r =
    record { state = r.state; areas = r.areas; right = t.right && wrote reply 16 r; replies = later; ran = t.ran + r.lines }

unfoldable pub heard : ℕ → Trial → After → Trial
heard x t r =
    if eqb x (code "^") then judged (first_reply t.replies) (later_replies t.replies) t r
    else judged [] t.replies t r

unfoldable pub exchanged : List ℕ → Trial → Trial
exchanged [] t = t
exchanged (x ∷ xs) t = exchanged xs (heard x t (call (call_of x) t.state (with_out (replicate 16 blank) t.areas)))

unfoldable pub expecting : List ℕ → Trial → Trial
expecting replies t = record { state = t.state; areas = t.areas; right = t.right; replies = replies; ran = 0 }

-- all replies came, and so many lines were run
unfoldable pub completed : ℕ → Trial → Trial
completed lines t = held_now t.state t.areas (t.right && same t.replies [] && eqb t.ran lines)

-- ---- the other steps

abbrev pub area_of : Area → Areas → List ℕ
area_of program a = a.program
area_of saved a = a.saved
area_of log a = a.log

abbrev pub with_area : Area → List ℕ → Areas → Areas
with_area program x a = with_program x a
with_area saved x a = with_saved x a
with_area log x a = with_log_area x a

-- an area lent at a length, which is the caller's own if it is that long
abbrev pub lent_as : ℕ → List ℕ → List ℕ
lent_as n area = if eqb n (length area) then area else replicate n blank

abbrev pub lending : Lent → Areas → Areas
lending l a =
    record { program = lent_as l.program a.program; saved = lent_as l.saved a.saved; log = lent_as l.log a.log; out = replicate l.out blank }

-- what the caller holds after a call: its own area as the call left it, if it lent that
abbrev pub kept_from : List ℕ → List ℕ → List ℕ
kept_from own returned = if eqb (length own) (length returned) then returned else own

abbrev pub keeping : Areas → Areas → Areas
keeping own returned =
    record {
      program = kept_from own.program returned.program;
      saved = kept_from own.saved returned.saved;
      log = kept_from own.log returned.log;
      out = [];
    }

abbrev pub same_areas : Areas → Areas → Bool
same_areas a b = same a.program b.program && same a.saved b.saved && same a.log b.log && same a.out b.out

-- "A refusal returns its number, leaves the state and every lent byte untouched; its counts and lengths are 0."
abbrev pub refused_as : ℕ → Areas → After → Bool
refused_as n lent r =
    eqb r.refusal n && (if eqb n 0 then true else eqb r.lines 0 && eqb r.written 0 && same_areas r.areas lent)

unfoldable pub answered : ℕ → Areas → Trial → After → Trial
answered n lent t r = held_now r.state (keeping t.areas r.areas) (t.right && refused_as n lent r)

unfoldable pub called : Call → ℕ → Areas → Trial → Trial
called k n lent t = answered n lent t (call k t.state lent)

unfoldable pub emptied_to : List ℕ → ℕ → Trial → After → Trial
emptied_to rs n t r = held_now r.state r.areas (t.right && wrote rs n r)

-- no call is made, and this must hold
abbrev pub checked : Bool → Trial → Trial
checked test t = held_now t.state t.areas (t.right && test)

unfoldable pub stepped : Step → Trial → Trial
stepped (exchange s r n) t = completed n (exchanged (text s) (expecting (map wire_byte (text r)) t))
stepped (try k l n) t = called k n (lending l t.areas) t
stepped (empties rs) t =
    emptied_to rs (length rs + 4) t (call emptying t.state (with_out (replicate (length rs + 4) blank) t.areas))
stepped (holds a k bs) t = checked (same (take (length bs) (drop k (area_of a t.areas))) bs) t
stepped (alters a k bs) t =
    let area = area_of a t.areas in
    held_now t.state (with_area a (take k area ++ (bs ++ drop (k + length bs) area)) t.areas) t.right
stepped (at_tick n) t = held_now (with_ticks n t.state) t.areas t.right
stepped (at_lost n) t =
    let l = t.state.log in
    held_now (with_log (record { length = l.length; kept = l.kept; lost = n; first = l.first }) t.state) t.areas t.right

unfoldable pub tried : List Step → Trial → Trial
tried [] t = t
tried (s ∷ ss) t = tried ss (stepped s t)

-- The program area that is lent to power-on holds other lines than the copy, so that loading shows; the log holds blank bytes.
unfoldable pub begun : List ℕ → ℕ → Trial
begun copy room = emptied_to [] 0 (held_now (fresh 0) lent true) (call power_on (fresh 0) lent)
  where
    another : List ℕ
    another = 0x46 ∷ 4 ∷ 0 ∷ 9 ∷ 0 ∷ 0 ∷ 0 ∷ 0 ∷ []

    lent : Areas
    lent = record { program = times 200 another; saved = copy; log = replicate room blank; out = [] }

unfoldable pub passes : Point → Bool
passes q = (tried q.steps (begun q.copy q.room)).right

-- the numbers of the points that fail, the first being number n
unfoldable pub failing : ℕ → List Point → List ℕ
failing n [] = []
failing n (q ∷ qs) = if passes q then failing (suc n) qs else n ∷ failing (suc n) qs

-- ---- points as they mostly are: 200 end marks with outputs 0, and the least log

abbrev pub end_marks : List ℕ
end_marks = times 200 end_mark

abbrev pub point : List Step → Point
point ss = record { copy = end_marks; room = 32; steps = ss }

-- with a longer log
abbrev pub with_room : ℕ → List Step → Point
with_room room ss = record { copy = end_marks; room = room; steps = ss }

-- with these lines at the start of the copy, and end marks after them
abbrev pub with_copy : ℕ → List ℕ → List Step → Point
with_copy n lines ss = record { copy = lines ++ times (200 - n) end_mark; room = 32; steps = ss }
