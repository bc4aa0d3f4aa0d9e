-- `duration::sums::sequence` and `duration::sums::looped`, which call each other, meet their contracts.
-- Assumes nothing.
use Rattle.duration.specs.Summing.{no_sum, repeated}
use Rattle.duration.proofs.Summing.{sum_same, named, has_next, sum_begins, sum_done, sum_on, after_for, before_end, inner_nests, sum_over, sum_le, repeated_le}
use mathlib.Core.Path.{ap, ◌∙◌}
use native.Mathlib.Omega.{arith}
use Rattle.duration.proofs.sums.+looped_sequence.Goals as goal

pub looped-sequence-requires : goal.looped-sequence-requires
looped-sequence-requires t c =
    (omega (arith, c.decreases, c.requires.1), (c.requires.0, omega (arith, c.requires.2), c.requires.3))

pub looped-repeated-requires : goal.looped-repeated-requires
looped-repeated-requires t c = rw c.sequence.ensures.sum (sum_le _ _ _)

pub looped-returns : goal.looped-returns
looped-returns t c = record { sum = c.repeated.ensures.sum ∙ ap (repeated c.args.count) c.sequence.ensures.sum }

pub sequence-loop-i-init : goal.sequence-loop-i-init
sequence-loop-i-init t c =
    let z = c.default-sum.ensures in
    rw (sum_same {a = c.default-sum.result} {b = no_sum} z.0 z.1.0 z.1.1) (sum_begins _ _ _ c.requires.2)

pub sequence-looped-requires : goal.sequence-looped-requires
sequence-looped-requires t c =
    let q = c.loop-i.invariant in
    let le = c.requires.1 in
    let lt = c.loop-i-test.true in
    let due = c.line_at-line.ensures.line in
    let next = named _ _ c.next_after.ensures.line c.unwrap-n.ensures in
    let after = after_for _ _ _ _ _ q le lt _ due _ _ _ c.in-For.is next in
    let within = before_end _ _ _ _ _ q le lt _ due _ _ _ c.in-For.is next in (
      omega (arith, c.decreases, after, within, q.from),
      (c.requires.0, after, omega (arith, within, le), inner_nests _ _ _ _ _ q le lt _ due _ _ _ c.in-For.is next),
    )

pub sequence-unwrap-n-requires : goal.sequence-unwrap-n-requires
sequence-unwrap-n-requires t c =
    has_next _ _ _ _ _ c.loop-i.invariant c.requires.1 c.loop-i-test.true _ c.line_at-line.ensures.line _ _ c.in-For.is _ c.next_after.ensures.line

pub sequence-joined-sum-requires : goal.sequence-joined-sum-requires
sequence-joined-sum-requires t c = (c.loop-i.invariant.small, rw c.looped.ensures.sum (repeated_le _ _))

pub sequence-overflow_add-i : goal.sequence-overflow_add-i
sequence-overflow_add-i t c =
    let within = before_end _ _ _ _ _ c.loop-i.invariant c.requires.1 c.loop-i-test.true _ c.line_at-line.ensures.line _ _ _ c.in-For.is (named _ _ c.next_after.ensures.line c.unwrap-n.ensures) in
    omega (arith, within, c.requires.1)

pub sequence-loop-i-smaller-in-For : goal.sequence-loop-i-smaller-in-For
sequence-loop-i-smaller-in-For t c =
    let after = after_for _ _ _ _ _ c.loop-i.invariant c.requires.1 c.loop-i-test.true _ c.line_at-line.ensures.line _ _ _ c.in-For.is (named _ _ c.next_after.ensures.line c.unwrap-n.ensures) in
    omega (arith, after, c.loop-i-test.true)

pub sequence-loop-i-preserved-in-For : goal.sequence-loop-i-preserved-in-For
sequence-loop-i-preserved-in-For t c =
    sum_over _ _ _ _ _ c.loop-i.invariant c.requires.1 c.loop-i-test.true _ c.line_at-line.ensures.line _ _ _ c.in-For.is (named _ _ c.next_after.ensures.line c.unwrap-n.ensures) _ _
    c.looped.ensures.sum c.joined-sum.ensures.sum

pub sequence-with_line-sum-requires : goal.sequence-with_line-sum-requires
sequence-with_line-sum-requires t c = c.loop-i.invariant.small

pub sequence-loop-i-preserved : goal.sequence-loop-i-preserved
sequence-loop-i-preserved t c =
    sum_on _ _ _ _ _ c.loop-i.invariant c.requires.1 c.loop-i-test.true _ c.line_at-line.ensures.line c.in_default.not-For _ c.with_line-sum.ensures.sum

pub sequence-returns : goal.sequence-returns
sequence-returns t c = record { sum = sum_done _ _ _ _ _ c.loop-i.invariant c.requires.1 c.loop-i-test.false }
