-- Laws of the bytes that are fed, one after the other.
-- Assumes nothing.
use mathlib.Core.Path.{◌≡◌, refl}
use Prim.Native.Nat.{ℕ, ◌+◌, ◌≤◌, ◌<◌}
use native.Mathlib.Numerals.{add-one}
use mathlib.Core.List.{List, [], ◌∷◌, ◌++◌}
use lib.ListN.{length, drop, get_or, drop_of_length-le}
use lib.Seq.{drop-cons}
use Rattle.plantext.specs.declared.Reader.{Reader}
use Rattle.plantext.specs.Reading.{step, fed}

-- one byte more, in a loop over them, and none that is left
pub fed_more : (bs : List ℕ) (i : ℕ) (r : Reader) → i < length bs → fed (step (get_or bs i 0) r) (drop (i + 1) bs) ≡ fed r (drop i bs)
unfolding fed
fed_more bs i r lt = rw (drop-cons bs i 0 lt, add-one i)

pub fed_all : (bs : List ℕ) (i : ℕ) (r : Reader) → length bs ≤ i → fed r (drop i bs) ≡ r
unfolding fed
fed_all bs i r le = rw (drop_of_length-le bs le)

pub ruleset by_bytes = (fed_more, fed_all)

-- Bytes that are fed in pieces are read as the whole is.
pub fed_pieces : (r : Reader) (xs bs : List ℕ) → fed r (xs ++ bs) ≡ fed (fed r xs) bs
unfolding fed
fed_pieces r [] bs = refl
fed_pieces r (x ∷ xs) bs = fed_pieces (step x r) xs bs
