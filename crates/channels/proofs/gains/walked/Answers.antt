-- `channels::gains::walked` meets its contract: the outer loop keeps what the records so far bring, the inner one which bits are still to be gone through.
-- Assumes nothing.
use Rattle.std.proofs.Common.{rules, ◌≡◌, refl, ap, ◌∙◌}
use Rattle.reader.specs.declared.Record.{Record}
use Rattle.channels.specs.Totals.{is_change, word_from, one_if}
use Rattle.channels.proofs.Walking.{walk_begins, bits_begin, asks, bits_go, walk_goes, walk_ends}
use Rattle.channels.proofs.gains.walked.Goals as goal

pub loop-k-init : goal.loop-k-init
loop-k-init c = walk_begins _ _ _ _ (search rules)

pub loop-altered-init : goal.loop-altered-init
loop-altered-init c =
    bits_begin _ _ _ _ _ c.loop-k.invariant.small c.word_from-next.type_inv (c.word_from-next.ensures.word ∙ ap word_from c.record_at-r.ensures.«record»)

pub switched-requires : goal.switched-requires
switched-requires c =
    let counted : c.from-counted.result ≡ one_if (is_change c.record_at-r.result) = search rules in
    let a = asks _ _ _ _ _ _ _ c.loop-k.invariant c.args.beside c.begun-gains.ensures.begun refl c.requires.2 c.requires.1
    c.loop-k-test.true c.loop-altered.invariant c.loop-altered-test.true c.record_at-r.ensures.«record» counted in
    (a.since, a.ticks, a.one, a.closings, a.openings)

pub loop-altered-preserved : goal.loop-altered-preserved
loop-altered-preserved c =
    let counted : c.from-counted.result ≡ one_if (is_change c.record_at-r.result) = search rules in
    bits_go _ _ _ _ _ _ _ c.loop-altered.invariant c.loop-altered-test.true (c.word_from-next.ensures.word ∙ ap word_from c.record_at-r.ensures.«record»)
    (ap (λ (x : Record). x.tick) c.record_at-r.ensures.«record») (counted ∙ ap (λ x. one_if (is_change x)) c.record_at-r.ensures.«record»)
    c.switched.ensures.switched

pub loop-k-preserved : goal.loop-k-preserved
loop-k-preserved c =
    walk_goes _ _ _ _ _ _ _ c.loop-altered.invariant _ _ _ c.loop-k.invariant c.loop-k-test.true c.word_from-next.type_inv
    (c.word_from-next.ensures.word ∙ ap word_from c.record_at-r.ensures.«record») c.loop-altered-test.false

pub returns : goal.returns
returns c = record { gains = walk_ends _ _ _ _ _ _ _ c.loop-k.invariant c.args.beside c.begun-gains.ensures.begun refl c.requires.2 c.loop-k-test.false }
