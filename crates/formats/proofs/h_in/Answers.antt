-- `formats::h_in` meets its contract.
-- Assumes nothing.
use Rattle.std.proofs.Common.{◌≡◌, None, Some, arith}
use Rattle.std.proofs.lemmas.Result.{err_from_is_err_and}
use borrow.Author.Tests.{eq-eqb, ne_eqb}
use Rattle.formats.specs.Checks.{refused, passed, ◌>>◌, ◌or_else◌}
use Prim.Native.Nat.{◌^◌, ◌<◌}
use native.Mathlib.Nat.{mod-eq_of_lt}
use Rattle.formats.specs.Digits.{number_in, h_in}
use Rattle.formats.specs.declared.Error.TheVariants.{NotInFormat}
use Rattle.formats.proofs.NumbersRead.{number_told, number_fits}
use Rattle.formats.proofs.h_in.Goals as goal

pub returns-then-cs-ne2 : goal.returns-then-cs-ne2
unfolding h_in ◌>>◌ ◌or_else◌
returns-then-cs-ne2 c = record { h = simp (ne_eqb _ _ c.if-cs-ne2.true) }

pub returns-in_err-v : goal.returns-in_err-v
unfolding h_in ◌>>◌ ◌or_else◌
returns-in_err-v c = record {
  h =
      let n : c.number_in.result ≡ None = grind arith in
      let e : number_in 16 3 c.args.cs.now ≡ refused 3 = number_told 3 n (c.number_in.ensures.number 3) in
      let p = err_from_is_err_and c.from_residual.result c.from_residual.ensures.1 in
      let which : c.in_err-v.field-0.0 ≡ NotInFormat = grind arith in
      rw (p.1, p.2, which) (simp (eq-eqb _ _ c.if-cs-ne2.false, e));
}

pub returns : goal.returns
unfolding h_in ◌>>◌ ◌or_else◌
returns c = record {
  h =
      let n : c.number_in.result ≡ Some c.in_ok-v.v = grind arith in
      let e : number_in 16 3 c.args.cs.now ≡ passed c.in_ok-v.v = number_told 3 n (c.number_in.ensures.number 3) in
      let lt : c.in_ok-v.v < 16 ^ 2 = rw c.if-cs-ne2.false at (number_fits 16 3 _ _ e) in
      simp (eq-eqb _ _ c.if-cs-ne2.false, e, mod-eq_of_lt lt);
}
