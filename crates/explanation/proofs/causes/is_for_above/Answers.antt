-- `explanation::causes::is_for_above` meets its contract: where it stops, such a For stands.
-- Assumes nothing.
use mathlib.Core.Path.{◌≡◌, sym}
use native.Mathlib.Omega.{arith}
use Rattle.std.specs.Prelude.{Some}
use Rattle.lines.proofs.Searches.{line_some}
use Rattle.explanation.proofs.Above.{is_one}
use Rattle.explanation.proofs.causes.is_for_above.Goals as goal

pub returns-then-eq : goal.returns-then-eq
returns-then-eq c =
    let same : c.for_counter.result ≡ Some c.args.c = grind arith in
    record { test = sym (line_some _ _ _ c.loop-j-test.true (is_one _ _ _ c.line_at.ensures.line c.for_counter.ensures.counter same)) }
