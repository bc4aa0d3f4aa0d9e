-- Nobody has to believe this: it says how the code goes, and no theorem speaks of it.
-- What the checks of a command leave to its doing: addresses and parameters in reach.
use Rattle.std.specs.Prelude.{ℕ, ◌≤◌, ◌≡◌, true}
use Rattle.special.specs.declared.Mode.{Mode}
use Rattle.special.specs.declared.Special.{Special}
use Rattle.special.specs.Special.{allowed, in_reach}
use Rattle.wire.specs.declared.Data.{Data}
use Rattle.wire.specs.declared.Data.TheVariants.{WriteLine, WriteOutputs, WriteParameter, WriteSpecial}
use Rattle.wire.specs.declared.Asked.{Asked}
use Rattle.wire.specs.declared.Asked.TheVariants.{Read, Write}

-- it may be given in this mode, and the parameter is in its reach
pub record Permitted (mode : Mode) (parameter : ℕ) (s : Special) : Type 0 where
  pub may : allowed s mode ≡ true
  pub reaches : in_reach s parameter ≡ true

-- a line goes to 000-200, outputs go to 203-206, and a special command is permitted
abbrev pub SoundData : Mode → ℕ → ℕ → Data → Type 0
SoundData mode parameter k (WriteLine l) = k ≤ 200
SoundData mode parameter k (WriteOutputs x) = (203 ≤ k) × (k ≤ 206)
SoundData mode parameter k (WriteParameter v) = Unit {0}
SoundData mode parameter k (WriteSpecial s) = Permitted mode parameter s

-- the address is one of the 217
abbrev pub Sound : Mode → ℕ → Asked → Type 0
Sound mode parameter (Read k) = k ≤ 216
Sound mode parameter (Write k x) = (k ≤ 216) × SoundData mode parameter k x
