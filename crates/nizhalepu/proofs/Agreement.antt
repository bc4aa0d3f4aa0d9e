-- The calls by reference agree with the by-value ones, and keep the invariant in the record.
-- Assumes nothing.
use mathlib.Core.Path.{◌≡◌, sym, ap, ◌∙◌}
use Rattle.controller.specs.declared.Controller.{Controller}
use Rattle.controller.specs.Controller.{Areas, fresh}
use Rattle.controller.specs.Refusals.{Call, power_on}
use Rattle.controller.specs.Calls.{After, call}
use Rattle.controller.specs.Invariant.{Invariant}
use Rattle.controller.proofs.Invariant.{fresh_invariant, call_invariant}
use Rattle.calls.specs.declared.SwitchBox.{SwitchBox}
use Rattle.calls.specs.declared.Returned.{Returned}
use Rattle.calls.specs.Returns.{refusal_in, lines_in, written_in, after}
use Rattle.nizhalepu.specs.declared.Said.{Said}
use Rattle.nizhalepu.specs.InRecord.{in_record}

-- A by-value call returned r and left the areas a; the call by reference, made with the same box and the same areas, said s and left
-- the box b in the record and the areas a'. Then the record holds the box that the by-value call returned, the numbers are the same,
-- and so is every lent byte.
module _ (k : Call) (c : Controller) (lent : Areas) (r : Returned) (a : Areas) (by-value : after r a ≡ call k c lent)
    (s : Said) (b : SwitchBox) (a' : Areas) (by-reference : in_record s b a' ≡ call k c lent) where
  same : in_record s b a' ≡ after r a
  same = by-reference ∙ sym by-value

  pub same_box : b ≡ r.next
  same_box = ap (λ (x : After). record { controller = x.state }) same

  pub same_numbers : (s.refusal ≡ refusal_in r.done) × (s.lines ≡ lines_in r.done) × (s.written ≡ written_in r.done)
  same_numbers = (ap (λ (x : After). x.refusal) same, ap (λ (x : After). x.lines) same, ap (λ (x : After). x.written) same)

  pub same_areas : a' ≡ a
  same_areas = ap (λ (x : After). x.areas) same

-- The record that a call by reference leaves is one that the next call may be made with; power-on gives it, refused or not.
pub record_kept : (k : Call) (c : Controller) (lent : Areas) (s : Said) (b : SwitchBox) (a' : Areas) → in_record s b a' ≡ call k c lent → Invariant c
    → Invariant b.controller
record_kept k c lent s b a' e i =
    let f : b.controller ≡ (call k c lent).state = ap (λ (x : After). x.state) e in rw f (call_invariant k c lent i)

pub record_given : (lent : Areas) (s : Said) (b : SwitchBox) (a' : Areas) → in_record s b a' ≡ call power_on (fresh 0) lent → Invariant b.controller
record_given lent s b a' e = record_kept power_on (fresh 0) lent s b a' e (fresh_invariant 0)
