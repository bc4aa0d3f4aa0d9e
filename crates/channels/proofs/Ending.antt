-- The gains up to the last record, channel by channel: what the loop over them keeps.
-- Assumes nothing.
use mathlib.Core.Path.{◌≡◌}
use Prim.Native.Nat.{ℕ, ◌≤◌, ◌<◌}
use mathlib.Core.List.{List}
use lib.ListN.{length, get_or}
use Rattle.channels.specs.declared.Beside.{Beside}
use Rattle.channels.specs.declared.Gain.{Gain}
use Rattle.channels.specs.Walk.{no_gain, ended_of}

-- The gains of the channels below place n are ended, and the others as they were.
pub record Ending (gains : List Gain) (last : Beside) (n : ℕ) (now : List Gain) : Type 0 where
  pub count : length now ≡ 32
  pub done : (i : ℕ) → i < 32 → i < n → get_or now i no_gain ≡ ended_of (get_or gains i no_gain) last i
  pub left : (i : ℕ) → n ≤ i → get_or now i no_gain ≡ get_or gains i no_gain
