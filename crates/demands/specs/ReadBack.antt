-- Demand 2, read-back: commands that arrive whole, and what replaces a line.
use Rattle.std.specs.Prelude.{ℕ, ◌≡◌, Bool, true, false, ◌&&◌, ◌||◌, List, ◌++◌, eqb, leb}
use Rattle.formats.specs.Checks.{text}
use Rattle.wire.specs.Naming.{Names}
use Rattle.controller.specs.Controller.{Areas}
use Rattle.controller.specs.Effects.{is_power_on}
use Rattle.demands.specs.Capitals.{in_capitals}
use Rattle.demands.specs.Histories.{ending, Made}
use Rattle.demands.specs.Seen.{is_taken, seen, Note}
use Rattle.demands.specs.Said.{Said, silence, reads, writes_line, writes_outputs, writes_parameter, gives}
use Rattle.demands.specs.Told.{Told, said, told, Never}

-- These characters have been received since the last 13: spaces dropped, "a-z count as A-Z", any other calls between them.
abbrev pub Arrives : Told → List ℕ → Type 0
Arrives t command = in_capitals t.received ≡ command

-- After the calls ms the characters of a read of address k have arrived, which they name by three digits, I or D; then byte 13 is taken.
pub record ReadOf (ms : List Made) (k : ℕ) (lent : Areas) : Type 0 where
  pub address : List ℕ
  pub arrived : Arrives (told ms) (text "CR" ++ address)
  pub named : Names (told ms).next_read k address
  pub taken : is_taken (seen ms (ending lent)) ≡ true

-- a write to address k, or command 007, which replaces 000-199
abbrev pub replaced_by : ℕ → Said → Bool
replaced_by k silence = false
replaced_by k (reads j) = false
replaced_by k (writes_line j l) = eqb k j
replaced_by k (writes_outputs j x) = false
replaced_by k (writes_parameter v) = false
replaced_by k (gives n) = eqb n 7 && leb k 199

-- 00: "until a later write, a load or a power-on replaces it"; a refused power-on too makes a new state
unfoldable pub is_replaced : ℕ → Told → Note → Bool
is_replaced k t n = is_power_on n.call || (is_taken n.seen && replaced_by k (said t n))

abbrev pub Unreplaced : ℕ → Told → List Note → Type 0
Unreplaced k = Never (is_replaced k)
