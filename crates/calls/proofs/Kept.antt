-- The invariant from call to call.
-- Assumes nothing.
use mathlib.Core.Path.{◌≡◌, ap}
use Rattle.controller.specs.declared.Controller.{Controller}
use Rattle.controller.specs.Controller.{Areas, fresh}
use Rattle.controller.specs.Refusals.{Call, power_on}
use Rattle.controller.specs.Calls.{After, call}
use Rattle.controller.specs.Invariant.{Invariant}
use Rattle.controller.proofs.Invariant.{fresh_invariant, call_invariant}
use Rattle.calls.specs.declared.Returned.{Returned}
use Rattle.calls.specs.Returns.{after}

-- the box that a call returns keeps it
pub call_kept : (k : Call) (c : Controller) (a : Areas) (r : Returned) {a' : Areas} → after r a' ≡ call k c a → Invariant c
    → Invariant r.next.controller
call_kept k c a r e i =
    let s : r.next.controller ≡ (call k c a).state = ap (λ (x : After). x.state) e in rw s (call_invariant k c a i)

-- power-on gives it
pub power_on_gives : (a : Areas) (r : Returned) {a' : Areas} → after r a' ≡ call power_on (fresh 0) a → Invariant r.next.controller
power_on_gives a r e = call_kept power_on (fresh 0) a r e (fresh_invariant 0)
