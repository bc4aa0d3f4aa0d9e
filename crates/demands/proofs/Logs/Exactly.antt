-- 02, item 1: "It accepts exactly the byte strings that the log rule can produce between two emptyings for some size R": exactly those that a
-- box gives when its log is emptied.
-- Assumes nothing.
use mathlib.Core.Path.{◌≡◌, subst}
use mathlib.Core.Bool.{true}
use mathlib.Core.List.{List, [], ◌∷◌}
use Prim.Native.Nat.{ℕ}
use Rattle.formats.specs.Bytes.{are_bytes}
use Rattle.formats.proofs.Checks.{all_front}
use Rattle.reader.specs.declared.Layout.TheVariants.{Sixteen}
use Rattle.reader.specs.Layout.{layout_of}
use Rattle.reader.specs.Produced.{Produced, AcceptedLog}
use Rattle.reader.proofs.Exactly.{accepts_new}
use Rattle.demands.specs.Histories.{powering, emptying_to}
use Rattle.demands.specs.LentBytes.{lends_bytes}
use Rattle.demands.specs.Sent.{Emptied}
use Rattle.demands.proofs.Logs.LogReads as LogReads
use Rattle.demands.proofs.Logs.MadeByCalls.{produced_emptied}

-- What a box gives, the log rule can produce.
gives_produced : (bs : List ℕ) → Emptied bs → Produced Sixteen bs
gives_produced bs e =
    let bytes = all_front lends_bytes (powering e.first ∷ e.later) (emptying_to e.last ∷ []) e.bytes in
    subst (Produced Sixteen) e.gives (LogReads.emptied_produced [] e.first e.later e.hands e.last e.handed e.taken bytes)

-- A string of bytes that does not begin with the older mark is accepted if and only if a box gives it, after some calls; a box gives no other.
pub gives_exactly : (bs : List ℕ) → ((are_bytes bs ≡ true) × AcceptedLog bs × (layout_of bs ≡ Sixteen) → Emptied bs)
    × (Emptied bs → (are_bytes bs ≡ true) × AcceptedLog bs × (layout_of bs ≡ Sixteen))
gives_exactly bs =
    let exactly = accepts_new bs in
    (λ a. produced_emptied bs (exactly.0 a), λ e. exactly.1 (gives_produced bs e))
