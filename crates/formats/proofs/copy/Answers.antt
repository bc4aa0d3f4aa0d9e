-- `formats::copy` meets its contract: the first i bytes are copied, and the rest of `to` is as it was.
-- Assumes nothing.
use mathlib.Core.List.{List}
use mathlib.Core.Path.{ap, ◌∙◌}
use Prim.Native.Nat.{ℕ}
use lib.ListN.{set, get_or, length-set}
use borrow.Author.Rules.{rules}
use Rattle.formats.proofs.Parts.{copied_more}
use Rattle.formats.proofs.copy.Goals as goal

pub loop-i-preserved : goal.loop-i-preserved
loop-i-preserved c =
    let more = copied_more c.args.from.now c.args.to.now c.loop-i.i (search rules) (search rules) in
    (ap (λ (to : List ℕ). set to c.loop-i.i (get_or c.args.from.now c.loop-i.i 0)) c.loop-i.invariant.0 ∙ more, simp length-set c.loop-i.invariant.1)
