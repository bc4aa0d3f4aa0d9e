-- `texts::put_line_text` meets its contract: letter by letter and number by number.
-- Assumes nothing.
use native.Mathlib.Omega.{arith}
use Rattle.formats.specs.Checks.{text}
use Rattle.formats.proofs.TextWritten.{writes_nothing, writes_more, writes_as}
use Rattle.texts.specs.Text.{line_text}
use Rattle.texts.proofs.Texts.{zeros}
use Rattle.texts.proofs.put_line_text.Goals as goal

pub returns-in-State-clause-wrote : goal.returns-in-State-clause-wrote
unfolding line_text text
returns-in-State-clause-wrote c =
    rw c.in-State.is
    (writes_more c.char.ensures.wrote (writes_more (writes_as c.digits.ensures.wrote zeros) (writes_more c.digits-in-State.ensures.wrote c.digits-in-State-2.ensures.wrote)))

pub returns-in-For-clause-wrote : goal.returns-in-For-clause-wrote
unfolding line_text text
returns-in-For-clause-wrote c =
    rw c.in-For.is (writes_more c.char-in-For.ensures.wrote (writes_more c.digits-in-For.ensures.wrote c.digits-in-For-2.ensures.wrote))

pub returns-in-Next-clause-wrote : goal.returns-in-Next-clause-wrote
unfolding line_text text
returns-in-Next-clause-wrote c = rw c.in-Next.is (writes_more c.char-in-Next.ensures.wrote c.digits-in-Next.ensures.wrote)

pub returns-in-Bad-clause-wrote : goal.returns-in-Bad-clause-wrote
unfolding line_text
returns-in-Bad-clause-wrote c = rw c.in-Bad.is (writes_nothing _ (omega (arith, c.requires)))
