-- `channels::count` meets its contract.
-- Assumes nothing.
use Rattle.std.proofs.Common.{rules, arith, ◌≡◌, ◌<◌, refl, sym, ◌∙◌, Some, None}
use Rattle.std.proofs.lemmas.Result.{err_from_is_err_and}
use Rattle.channels.specs.declared.Refusal.TheVariants.{PassesEnd}
use Rattle.channels.specs.Walk.{apart, lost}
use Rattle.channels.proofs.Counting.{reads_of}
use Rattle.channels.proofs.LastRead.{fills, few, joined_all, beside_is, kept_is, none_is}
use Rattle.channels.proofs.count.Goals as goal

pub join-requires : goal.join-requires
join-requires c = fills _ _ (reads_of _ _ _ c.in_ok-told.ensures.answer).0

pub returns-in_err-join : goal.returns-in_err-join
returns-in_err-join c =
    let p = err_from_is_err_and c.from_residual-in_err-join.result c.from_residual-in_err-join.ensures.1 in
    record { counted = rw (p.1, p.2) (apart _ (reads_of _ _ _ c.in_ok-told.ensures.answer).1 (sym c.in_err-join.ensures.joins)) }

pub returns-in_err-after : goal.returns-in_err-after
returns-in_err-after c =
    let p = err_from_is_err_and c.from_residual-in_err-after.result c.from_residual-in_err-after.ensures.1 in
    let r = reads_of _ _ _ c.in_ok-told.ensures.answer in
    let none : c.beside_after.result ≡ None = grind arith in
    let which : c.in_err-after.field-0.0 ≡ PassesEnd = grind arith in
    let fits : c.args.beside.unknown < 18446744073709551616 = search rules in
    record {
      counted =
          rw (p.1, p.2, which)
          (lost _ r.1 (sym c.in_ok-join.ensures.joins) (none_is _ (sym none ∙ c.beside_after.ensures.after ∙ beside_is _ _ r.0 c.args.beside (omega arith))) refl);
    }

pub gained-gains-requires : goal.gained-gains-requires
gained-gains-requires c =
    let r = reads_of _ _ _ c.in_ok-told.ensures.answer in
    let some : c.beside_after.result ≡ Some c.in_ok-after.after = grind arith in
    let fits : c.args.beside.unknown < 18446744073709551616 = search rules in
    let kept = kept_is (sym some ∙ c.beside_after.ensures.after ∙ beside_is _ _ r.0 c.args.beside (omega arith)) in
    (fills _ _ r.0, few _ _ r.0, joined_all _ _ r.0 c.args.beside (sym c.in_ok-join.ensures.joins), kept.0)

pub returns : goal.returns
returns c =
    let r = reads_of _ _ _ c.in_ok-told.ensures.answer in
    let some : c.beside_after.result ≡ Some c.in_ok-after.after = grind arith in
    let fits : c.args.beside.unknown < 18446744073709551616 = search rules in
    let kept = kept_is (sym some ∙ c.beside_after.ensures.after ∙ beside_is _ _ r.0 c.args.beside (omega arith)) in
    record {
      counted = record {
        records = _;
        read = r.1;
        joins = sym c.in_ok-join.ensures.joins;
        total = kept.1;
        bring = c.gained-gains.ensures.gains;
        beside = kept.0;
      };
    }
