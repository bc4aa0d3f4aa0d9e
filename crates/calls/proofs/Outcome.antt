-- "For every input, refusals among them, a call's contract determines the return value and each lent byte afterwards" (01).
-- Assumes nothing.
use mathlib.Core.Path.{◌≡◌, sym, ap, ap₂, ◌∙◌}
use Prim.Native.Nat.{ℕ, ◌<◌}
use native.Mathlib.Omega.{arith}
use Rattle.std.specs.Prelude.{Result, Ok, Err}
use Rattle.controller.specs.declared.Controller.{Controller}
use Rattle.controller.specs.Controller.{Areas}
use Rattle.controller.specs.Refusals.{Call}
use Rattle.controller.specs.Calls.{After, call}
use Rattle.calls.specs.declared.Refusal.{Refusal}
use Rattle.calls.specs.declared.Refusal.TheVariants.{ProgramSize, LogSize, ReplyTooShort, TicksUsedUp, NoSuchButton, DestinationTooShort}
use Rattle.calls.specs.declared.Done.{Done}
use Rattle.calls.specs.declared.Returned.{Returned}
use Rattle.calls.specs.Refusal.{number_of, distinct}
use Rattle.calls.specs.Returns.{refusal_in, lines_in, written_in, after}

-- a refusal has a number
numbered : (e : Refusal) → 0 < number_of e
numbered ProgramSize = omega arith
numbered LogSize = omega arith
numbered ReplyTooShort = omega arith
numbered TicksUsedUp = omega arith
numbered NoSuchButton = omega arith
numbered DestinationTooShort = omega arith

-- what was done, or refused, is known by its numbers
done_same : (x y : Result Done Refusal) → refusal_in x ≡ refusal_in y → lines_in x ≡ lines_in y → written_in x ≡ written_in y → x ≡ y
done_same (Ok d) (Ok f) n l w = ap₂ (λ (i j : ℕ). Ok (record { lines = i; written = j })) l w
done_same (Ok d) (Err e) n l w = let i = numbered e in absurd (omega arith)
done_same (Err e) (Ok d) n l w = let i = numbered e in absurd (omega arith)
done_same (Err e) (Err f) n l w = ap Err (distinct e f n)

-- No second outcome fits the contract of a call: two that do are one, in what is returned and in every lent byte.
pub no_second_outcome : (k : Call) (c : Controller) (a : Areas) (r s : Returned) {b d : Areas} → after r b ≡ call k c a → after s d ≡ call k c a
    → (r ≡ s) × (b ≡ d)
no_second_outcome k c a r s e f =
    let same = e ∙ sym f in
    let one = done_same r.done s.done (ap (λ (x : After). x.refusal) same) (ap (λ (x : After). x.lines) same) (ap (λ (x : After). x.written) same) in (
      ap₂ (λ (x : Controller) (y : Result Done Refusal). record { next = record { controller = x }; done = y }) (ap (λ (x : After). x.state) same) one,
      ap (λ (x : After). x.areas) same,
    )
