-- `formats::d_in` meets its contract.
-- Assumes nothing.
use Rattle.std.proofs.Common.{◌≡◌, None, Some, arith}
use Rattle.std.proofs.lemmas.Result.{err_from_is_err_and}
use borrow.Author.Tests.{eq-eqb, ne_eqb, le-leb, lt-leb}
use Rattle.formats.specs.Checks.{refused, passed, ◌>>=◌, ◌>>◌, ◌or_else◌}
use Rattle.formats.specs.Digits.{number_in, d_in}
use Rattle.formats.specs.declared.Error.TheVariants.{NotInFormat}
use Rattle.formats.proofs.NumbersRead.{number_told}
use Rattle.formats.proofs.d_in.Goals as goal

pub returns-then-cs-ne3 : goal.returns-then-cs-ne3
unfolding d_in ◌>>◌ ◌or_else◌
returns-then-cs-ne3 c = record { d = simp (ne_eqb _ _ c.if-cs-ne3.true) }

pub returns-in_err-v : goal.returns-in_err-v
unfolding d_in ◌>>=◌ ◌>>◌ ◌or_else◌
returns-in_err-v c =
    let n : c.number_in.result ≡ None = grind arith in
    let e : number_in 10 3 c.args.cs.now ≡ refused 3 = number_told 3 n (c.number_in.ensures.number 3) in
    let p = err_from_is_err_and c.from_residual.result c.from_residual.ensures.1 in
    let which : c.in_err-v.field-0.0 ≡ NotInFormat = grind arith in
    record { d = rw (p.1, p.2, which) (simp (eq-eqb _ _ c.if-cs-ne3.false, e)) }

pub returns-then-v-gt255 : goal.returns-then-v-gt255
unfolding d_in ◌>>=◌ ◌>>◌ ◌or_else◌
returns-then-v-gt255 c =
    let n : c.number_in.result ≡ Some c.in_ok-v.v = grind arith in
    let e : number_in 10 3 c.args.cs.now ≡ passed c.in_ok-v.v = number_told 3 n (c.number_in.ensures.number 3) in
    record { d = simp (eq-eqb _ _ c.if-cs-ne3.false, e, lt-leb _ _ c.if-v-gt255.true) }

pub returns : goal.returns
unfolding d_in ◌>>=◌ ◌>>◌ ◌or_else◌
returns c =
    let n : c.number_in.result ≡ Some c.in_ok-v.v = grind arith in
    let e : number_in 10 3 c.args.cs.now ≡ passed c.in_ok-v.v = number_told 3 n (c.number_in.ensures.number 3) in
    record { d = simp (eq-eqb _ _ c.if-cs-ne3.false, e, le-leb _ _ c.if-v-gt255.false) }
