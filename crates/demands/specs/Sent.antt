-- A caller who hands on: it lends to each call the program area and the log as the calls before it left them. And what calls can bring about:
-- changes by such a caller, and a string that an emptying gives after the calls of any caller who alters neither area.
use Rattle.std.specs.Prelude.{ℕ, ◌≡◌, true, List, [], ◌∷◌, ◌++◌, replicate}
use Rattle.boxlog.specs.declared.Change.{Change}
use Rattle.boxlog.specs.Record.{most_area}
use Rattle.controller.specs.Controller.{Areas}
use Rattle.controller.specs.Refusals.{Call}
use Rattle.demands.specs.LentBytes.{lend_bytes}
use Rattle.demands.specs.Histories.{Made, powering, emptying_to, Held, unpowered, is_accepted, next, after, HandsOn, AllHandOn}
use Rattle.demands.specs.Seen.{is_taken, seen, emptied_by}
use Rattle.demands.specs.Told.{told}
use Rattle.demands.specs.Changes.{changes}

-- an area of n bytes
unfoldable pub zeros : ℕ → List ℕ
zeros n = replicate n 0

-- what it lends while it holds h: beside the two areas a saved copy and an area for the reply or the records
abbrev pub lent_by : Held → Areas
lent_by h = record { program = h.program; saved = zeros 1600; log = h.log; out = zeros most_area }

-- one call
abbrev pub making : Held → Call → Made
making h k = record { call = k; areas = lent_by h }

-- the calls ks, one after the other
unfoldable pub making_all : Held → List Call → List Made
making_all h [] = []
making_all h (k ∷ ks) = making h k ∷ making_all (next h (making h k)) ks

-- what it lends to power-on, the log area having n bytes
abbrev pub first_lent : ℕ → Areas
first_lent n = record { program = zeros 1600; saved = zeros 1600; log = zeros n; out = zeros most_area }

-- a power-on, and the calls ks after it
unfoldable pub from_power_on : ℕ → List Call → List Made
from_power_on n ks = powering (first_lent n) ∷ making_all (next unpowered (powering (first_lent n))) ks

-- every call of these is taken
abbrev pub AllTaken : Held → List Made → Type 0
AllTaken h [] = Unit {0}
AllTaken h (m ∷ ms) = (is_accepted h m ≡ true) × AllTaken (next h m) ms

-- ---- what can be brought about

-- Calls after a power-on with a log area of n bytes, all of them taken: the history then tells the changes cs.
pub record MadeBy (n : ℕ) (cs : List Change) : Type 0 where
  pub calls : List Call
  pub bytes : lend_bytes (from_power_on n calls) ≡ true
  pub taken : AllTaken unpowered (from_power_on n calls)
  pub hands : AllHandOn unpowered (from_power_on n calls)
  pub changes : changes (from_power_on n calls) ≡ cs
  pub log_length : (told (from_power_on n calls)).log_length ≡ n

-- A byte string that an emptying gives: there are a power-on, calls after it and an emptying that is taken, the caller altering neither the
-- program area nor the log between them, and the emptying copies this string to the start of its destination.
pub record Emptied (bs : List ℕ) : Type 0 where
  pub first : Areas
  pub later : List Made
  pub last : Areas
  pub bytes : lend_bytes ((powering first ∷ later) ++ (emptying_to last ∷ [])) ≡ true
  pub hands : AllHandOn (after unpowered (powering first ∷ [])) later
  pub handed : HandsOn (after unpowered (powering first ∷ later)) (emptying_to last)
  pub taken : is_taken (seen (powering first ∷ later) (emptying_to last)) ≡ true
  pub gives : emptied_by (powering first ∷ later) last ≡ bs
