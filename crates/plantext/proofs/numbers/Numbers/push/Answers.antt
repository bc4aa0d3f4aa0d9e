use Rattle.std.proofs.Common.{arith, length, ap}
use Rattle.plantext.specs.Numbers.{count_again}
use Rattle.plantext.proofs.Holding.{held_after}
use Rattle.plantext.proofs.numbers.Numbers.push.Goals as goal

pub invariant_of-self : goal.invariant_of-self
invariant_of-self c =
    let many = ap (λ v. length v.items) c.self.view_is in
    let count = count_again c.self.inside.held c.self.inside.count c.self.invariant in
    held_after _ _ _ _ c.self.invariant (omega (arith, many, count, c.requires)) (omega arith)
