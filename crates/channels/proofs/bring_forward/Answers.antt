-- `channels::bring_forward` meets its contract: it is refused before anything is written, or all records are brought forward.
-- Assumes nothing.
use Rattle.std.proofs.Common.{arith, ◌≤◌, sym, ap, ◌∙◌, length}
use Rattle.std.proofs.lemmas.Result.{err_from_is_err_and}
use Rattle.channels.specs.Bringing.{beside_of, records_of}
use Rattle.channels.proofs.Thin.{all_fit_so, stopped_so, thirty_two, over_so, all_so}
use Rattle.channels.proofs.bring_forward.Goals as goal

pub returns-in_err-counts : goal.returns-in_err-counts
returns-in_err-counts c =
    let p = err_from_is_err_and c.from_residual.result c.from_residual.ensures.1 in
    let so = stopped_so _ _ _ _ c.in_err-counts.ensures.counted in
    record { answer = rw (p.1, p.2) (ap beside_of (sym so)); records = ap (records_of c.args.channels.now) (sym so) }

pub returns-then-not-all_fit : goal.returns-then-not-all_fit
returns-then-not-all_fit c =
    let counting = c.in_ok-counts.ensures.counted in
    let long : length c.args.channels.now ≤ length c.in_ok-counts.counts.gains = omega (arith, thirty_two _ _ _ _ counting) in
    let so = over_so _ _ _ _ counting (sym (all_fit_so _ _ long) ∙ sym c.all_fit.ensures.fit ∙ c.if-not-all_fit.true) in
    record { answer = ap beside_of (sym so); records = ap (records_of c.args.channels.now) (sym so) }

pub bring-requires : goal.bring-requires
bring-requires c = thirty_two _ _ _ _ c.in_ok-counts.ensures.counted

pub returns : goal.returns
returns c =
    let counting = c.in_ok-counts.ensures.counted in
    let long : length c.args.channels.now ≤ length c.in_ok-counts.counts.gains = omega (arith, thirty_two _ _ _ _ counting) in
    let so = all_so _ _ _ _ counting (sym (all_fit_so _ _ long) ∙ sym c.all_fit.ensures.fit ∙ c.if-not-all_fit.false) in
    record { answer = ap beside_of (sym so); records = c.bring.ensures.brought ∙ ap (records_of c.args.channels.now) (sym so) }
