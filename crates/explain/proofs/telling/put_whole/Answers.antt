-- `explain::telling::put_whole` meets its contract: nothing waits, so that all of it fits.
-- Assumes nothing.
use Rattle.explain.proofs.Fits.{told_whole}
use Rattle.explain.proofs.telling.put_whole.Goals as goal

pub returns : goal.returns
returns c =
    let whole = told_whole _ _ _ c.requires c.put_told.ensures.follows in
    record {
      «open» = whole.1;
      whole = whole.0;
    }
