-- The data of a write are what stands behind its address.
-- Assumes nothing.
use mathlib.Core.Path.{◌≡◌, ap, ◌∙◌}
use Prim.Native.Nat.{ℕ, ◌-◌}
use mathlib.Core.List.{List}
use lib.ListN.{length, take, drop}
use Rattle.formats.specs.Checks.{Res}
use Rattle.formats.proofs.Parts.{rest_of}
use Rattle.special.specs.declared.Mode.{Mode}
use Rattle.wire.specs.declared.Data.{Data}
use Rattle.wire.specs.Command.{rest, data_in}

pub data_behind : (mode : Mode) (parameter k at : ℕ) (cs : List ℕ) {r : Res Data} → drop at cs ≡ rest cs
    → r ≡ data_in mode parameter k (take (length cs - at) (drop at cs)) → r ≡ data_in mode parameter k (rest cs)
data_behind mode parameter k at cs e h = h ∙ ap (data_in mode parameter k) (rest_of at cs ∙ e)
