-- Demand 3: what breaks a program off, and which ticks count.
use Rattle.std.specs.Prelude.{ℕ, ◌+◌, ◌≡◌, ◌⊎◌, Bool, not, ◌&&◌, ◌||◌, List, [], ◌∷◌, eqb, leb}
use Rattle.std.specs.Prelude.{if◌then◌else◌}
use Rattle.controller.specs.Effects.{is_tick, is_press, is_power_on}
use Rattle.demands.specs.Seen.{is_taken, Note}
use Rattle.demands.specs.Said.{given, is_outputs, reads_event}
use Rattle.demands.specs.Told.{Told, said, tell, Never}

-- power-on is called, or the program is stopped: by command 001, or by Start/Stop
unfoldable pub is_broken : Told → Note → Bool
is_broken t n = is_power_on n.call || (is_taken n.seen && (eqb (given (said t n)) 1 || is_press 1 n.call))

abbrev pub Unbroken : Told → List Note → Type 0
Unbroken = Never is_broken

-- 1 for a tick that is taken, and not while paused
unfoldable pub counts : Told → Note → ℕ
counts t n = if is_tick n.call && is_taken n.seen && not t.paused then 1 else 0

-- the number of ticks taken while not paused
unfoldable pub unpaused : Told → List Note → ℕ
unpaused t [] = 0
unpaused t (n ∷ ns) = counts t n + unpaused (tell t n) ns

-- 002, 004 or the button Pause
unfoldable pub is_pausing : Told → Note → Bool
is_pausing t n = is_taken n.seen && (eqb (given (said t n)) 2 || eqb (given (said t n)) 4 || is_press 2 n.call)

-- After a program has ended: power-on is called, Start/Stop is pressed, one of 001-006 is accepted, an output is written, or the event is read.
unfoldable pub is_touched : Told → Note → Bool
is_touched t n =
    let s = said t n in
    is_power_on n.call || (is_taken n.seen && (is_press 1 n.call || (leb 1 (given s) && leb (given s) 6) || is_outputs s || reads_event s))

abbrev pub Untouched : Told → List Note → Type 0
Untouched = Never is_touched

-- an event is as it was, or was read: "reading it clears code and D7"
abbrev pub SameOrNone : ℕ → ℕ → Type 0
SameOrNone event before = (event ≡ before) ⊎ (event ≡ 0)
