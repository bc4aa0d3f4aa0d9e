-- `channels::bring` meets its contract: the turns that are left, from here on, come to what all turns come to.
-- Assumes nothing.
use Rattle.std.proofs.Common.{arith, ◌≡◌, ℕ, suc, ◌+◌, ◌-◌, ◌<◌, ap, sym, ◌∙◌, get_or, set}
use Rattle.channels.specs.Totals.{unused}
use Rattle.channels.specs.Walk.{next_of}
use Rattle.channels.proofs.Thin.{moved_well, moved_not}
use Rattle.channels.proofs.Turns.{go_on, all_of}
use Rattle.channels.proofs.bring.Goals as goal
use Rattle.channels.proofs.bring.Goals.{in-Some, in_default}

-- a turn is one of those that are left
one_left : (i : ℕ) → i < 32 → suc (32 - (i + 1)) ≡ 32 - i
one_left i lt = omega arith

pub loop-i-preserved : goal.loop-i-preserved
loop-i-preserved c =
    let f = next_of c.args.gains.now in
    let i = c.loop-i.i in
    let lt : i < 32 = omega arith in
    let turn : c.match-forward.channels ≡ set c.loop-i.channels i (f (get_or c.loop-i.channels i unused) i) =
    elim c.match-forward.branch [
      | in-Some w ↦ w.channels-is ∙ ap (set c.loop-i.channels i) (moved_well c.args.gains.now _ i c.forward.ensures.moved w.in-Some.is)
      | in_default w ↦ w.channels-is ∙ ap (set c.loop-i.channels i) (moved_not c.args.gains.now _ i c.forward.ensures.moved w.in_default.is)
    ] in
    ap (λ zs. go_on f unused zs (32 - (i + 1)) (i + 1)) turn ∙ ap (λ n. go_on f unused c.loop-i.channels n i) (one_left i lt) ∙ c.loop-i.invariant

pub returns : goal.returns
returns c =
    let f = next_of c.args.gains.now in
    let none : 32 - c.loop-i.i ≡ 0 = omega arith in
    record { brought = ap (λ n. go_on f unused c.loop-i.channels n c.loop-i.i) (sym none) ∙ c.loop-i.invariant ∙ all_of f unused c.args.channels.now 32 c.requires }
