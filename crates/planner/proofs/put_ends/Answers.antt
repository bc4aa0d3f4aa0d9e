-- `planner::put_ends` meets its contract: the end marks up to line i are laid.
-- Assumes nothing.
use native.Mathlib.Omega.{arith}
use mathlib.Core.Path.{refl}
use borrow.Author.Rules.{rules}
use Rattle.planner.proofs.Laying.{put_lays, ends_begin, ends_more}
use Prim.Native.Nat.{◌≤◌}
use Rattle.planner.proofs.put_ends.Goals as goal

pub loop-i-init : goal.loop-i-init
loop-i-init c = (ends_begin _ _ _ refl, refl)

pub loop-i-preserved : goal.loop-i-preserved
loop-i-preserved c =
    let from : c.args.at ≤ c.loop-i.i = search rules in
    let mark = rw c.end_mark.ensures.line at (put_lays {k = c.loop-i.i} c.put_line.ensures.program) in
    (ends_more c.loop-i.invariant.0 from (omega (arith, c.loop-i-test.true, c.loop-i.invariant.1, c.requires.0)) mark refl, search rules)
