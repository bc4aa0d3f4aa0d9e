-- `formats::Text::error` meets its contract: three digits behind the letter.
-- Assumes nothing.
use Rattle.formats.specs.Checks.{text}
use Rattle.formats.specs.Digits.{error_text}
use Rattle.formats.proofs.TextWritten.{writes_more}
use Rattle.formats.proofs.Text.error.Goals as goal

pub returns-clause-wrote : goal.returns-clause-wrote
unfolding error_text text
returns-clause-wrote g c = writes_more c.char.ensures.wrote (rw c.number.ensures at c.digits.ensures.wrote)
