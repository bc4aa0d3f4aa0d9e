-- What the program bench does with its standard input, byte by byte.
-- 01: "The program `bench` starts from an all-zero saved copy and a 24-byte log. Of its standard input, byte 1 is a tick, 2 and 3 are buttons 1 and 2,
-- the rest goes to the wire. It prints the replies and nothing else." 02, item 8: "`bench` and the worked points take 32 bytes for 24".
use Rattle.std.specs.Prelude.{ℕ, ◌+◌, ◌≤◌, ◌<◌, Bool, true, false, ◌≡◌, eqb, length, take, replicate}
use mathlib.Core.List.{List, [], ◌∷◌, ◌++◌, map, flatten}
use Rattle.std.specs.Prelude.{if◌then◌else◌}
use Rattle.lines.specs.Program.{program_size}
use Rattle.controller.specs.declared.Controller.{Controller}
use Rattle.controller.specs.Controller.{Areas, areas, fresh}
use Rattle.controller.specs.Refusals.{Call, power_on, byte, tick, press, emptying}
use Rattle.controller.specs.Calls.{After, call}
use Rattle.calls.specs.declared.SwitchBox.{SwitchBox}
use Rattle.streams.specs.Gathering.{Waiting, nothing_gathered, waits_after}

-- ---- which call a byte of input is

-- "byte 1 is a tick, 2 and 3 are buttons 1 and 2, the rest goes to the wire"
abbrev pub call_of : ℕ → Call
call_of x = if eqb x 1 then tick else if eqb x 2 then press 1 else if eqb x 3 then press 2 else byte x

abbrev pub calls_of : List ℕ → List Call
calls_of = map call_of

-- ---- what is held between two bytes of input

-- the controller, and the areas that it is lent again and again
pub record Held : Type 0 where
  pub controller : Controller
  pub program : List ℕ
  pub saved : List ℕ
  pub log : List ℕ

abbrev pub holding : SwitchBox → List ℕ → List ℕ → List ℕ → Held
holding b program saved log = record { controller = b.controller; program = program; saved = saved; log = log }

-- ---- one call

-- 01, 'Calls and what is lent': "Every call but emptying is lent the program area and the log; power-on and the wire byte are also lent the saved
-- copy. Emptying is lent the log and a destination." A wire byte has a reply area of 16 zeros; bench empties no log.
abbrev pub lent_to : Call → Held → Areas
lent_to power_on h = areas h.program h.saved h.log []
lent_to (byte x) h = areas h.program h.saved h.log (replicate 16 0)
lent_to tick h = areas h.program [] h.log []
lent_to (press n) h = areas h.program [] h.log []
lent_to emptying h = areas [] [] h.log []

abbrev pub made : Call → Held → After
made k h = call k h.controller (lent_to k h)

-- what is held after it: the state that it returned, and the areas as it left them; one that it was not lent stays as it is
abbrev pub held_by : Call → Held → After → Held
held_by power_on h r = record { controller = r.state; program = r.areas.program; saved = r.areas.saved; log = r.areas.log }
held_by (byte x) h r = record { controller = r.state; program = r.areas.program; saved = r.areas.saved; log = r.areas.log }
held_by tick h r = record { controller = r.state; program = r.areas.program; saved = h.saved; log = r.areas.log }
held_by (press n) h r = record { controller = r.state; program = r.areas.program; saved = h.saved; log = r.areas.log }
held_by emptying h r = record { controller = r.state; program = h.program; saved = h.saved; log = r.areas.log }

-- its reply: as many bytes of the reply area as it wrote; a tick and a press have none
abbrev pub reply_of : After → List ℕ
reply_of r = take r.written r.areas.out

-- ---- calls one after the other

unfoldable pub held_after : List Call → Held → Held
held_after [] h = h
held_after (k ∷ ks) h = held_after ks (held_by k h (made k h))

unfoldable pub replies : List Call → Held → List (List ℕ)
replies [] h = []
replies (k ∷ ks) h = reply_of (made k h) ∷ replies ks (held_by k h (made k h))

-- what waits in a block of a size after more replies
unfoldable pub waits_after_all : ℕ → List ℕ → List (List ℕ) → List ℕ
waits_after_all size waited [] = waited
waits_after_all size waited (reply ∷ more) = waits_after_all size (waits_after size waited reply) more

-- "It prints the replies and nothing else": what calls do to what is held and to the output, whose block has a size; no output that failed is open again,
-- and none fails as long as all the replies fit behind what waits
pub record Does (size : ℕ) (ks : List Call) (h : Held) (o : Waiting) (h' : Held) (o' : Waiting) : Type 0 where
  pub held : h' ≡ held_after ks h
  pub waits : o'.waits ≡ waits_after_all size o.waits (replies ks h)
  pub failed : o'.open ≡ true → o.open ≡ true
  pub stays : length o.waits + length (flatten (replies ks h)) ≤ size → o'.open ≡ o.open

-- what one call does, and whether there may be more to do; there is no more only where the output failed
pub record Takes (size : ℕ) (k : Call) (h : Held) (o : Waiting) (more : Bool) (h' : Held) (o' : Waiting) : Type 0 where
  pub does : Does size (k ∷ []) h o h' o'
  pub ends : more ≡ false → o'.open ≡ false

-- ---- the bytes that came

-- what the bytes that came do: all of them, or those up to the one whose reply the output failed with
pub record Feeds (size : ℕ) (input : List ℕ) (h : Held) (o : Waiting) (more : Bool) (h' : Held) (o' : Waiting) : Type 0 where
  pub fed : List ℕ
  pub left : List ℕ
  pub whole : fed ++ left ≡ input
  pub does : Does size (calls_of fed) h o h' o'
  pub ends : more ≡ false → o'.open ≡ false
  pub all : more ≡ true → left ≡ []

-- what a read that gave n bytes, at the start of the buffer, does: they are fed. There may be more only where all of them were, and there was one; there
-- is no more only where there was none, which is the end of the input, or where the output failed
pub record Hears (size n : ℕ) (input : List ℕ) (h : Held) (o : Waiting) (on : Bool) (h' : Held) (o' : Waiting) : Type 0 where
  pub fed : List ℕ
  pub left : List ℕ
  pub whole : fed ++ left ≡ take n input
  pub does : Does size (calls_of fed) h o h' o'
  pub more : on ≡ true → (left ≡ []) × (0 < length fed)
  pub ends : on ≡ false → o'.open ≡ true → n ≡ 0

-- what a turn does: what was gathered before has gone out, so that nothing waits of it, and then some bytes come; which, is in no contract, since what a
-- read gives is in none. There may be more only where some came, and there is no more only where none came or the output failed
pub record Turns (size : ℕ) (h : Held) (o : Waiting) (on : Bool) (h' : Held) (o' : Waiting) : Type 0 where
  pub empty : Waiting
  pub gone : empty.waits ≡ []
  pub failed : empty.open ≡ true → o.open ≡ true
  pub fed : List ℕ
  pub does : Does size (calls_of fed) h empty h' o'
  pub more : on ≡ true → 0 < length fed
  pub ends : on ≡ false → o'.open ≡ true → fed ≡ []

-- ---- from the beginning

-- "starts from an all-zero saved copy and a 24-byte log": what there is before the power-on, whose program area is zero too; power-on takes no state
abbrev pub unpowered : Held
unpowered = record { controller = fresh 0; program = replicate program_size 0; saved = replicate program_size 0; log = replicate 32 0 }

unfoldable pub begins : Held
begins = held_by power_on unpowered (made power_on unpowered)

-- turns one after the other since, as long as there may be more: all that came, and what the last left of the box and its areas and of the output, and
-- whether there may be more. Each goes on with what the one before it left; the first has an output of which nothing waits
pub data Ran (size : ℕ) : List ℕ → Held → Waiting → Bool → Type 0 where
  begun : Ran size [] begins nothing_gathered true
  turned : {fed : List ℕ} {h h' : Held} {o o' : Waiting} {on : Bool}
      → Ran size fed h o true → (t : Turns size h o on h' o') → Ran size (fed ++ t.fed) h' o' on

-- what they end with: the box and its areas are as the bytes that came left them. Either the last turn says that there is no more, or so many bytes came
-- as no input has
pub record Ends (size : ℕ) (on : Bool) (h : Held) (o : Waiting) : Type 0 where
  pub fed : List ℕ
  pub ran : Ran size fed h o on
  pub held : h ≡ held_after (calls_of fed) begins
  pub last : on ≡ true → 18446744073709551615 ≤ length fed
