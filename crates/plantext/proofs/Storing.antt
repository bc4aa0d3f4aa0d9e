-- Laws of the numbers that are stored: as long as there is room they stand one behind the other.
-- Assumes nothing.
use mathlib.Core.Path.{◌≡◌, refl, sym, ap, ◌∙◌}
use Prim.Native.Nat.{ℕ, zero, suc, ◌≤◌, ◌<◌}
use native.Mathlib.Omega.{arith}
use mathlib.Core.List.{List, [], ◌∷◌, ◌++◌, map, append_assoc, append-nil}
use lib.ListN.{length, take, length-append, length-take}
use lib.Seq.{take_all, take-append-le}
use Rattle.plantext.specs.Kept.{room, capped, kept}
use Rattle.plantext.specs.Reading.{put}

-- ---- one number more

pub put_more : (ns : List ℕ) (n : ℕ) → length ns < room → put ns n ≡ ns ++ (n ∷ [])
unfolding put
put_more ns n lt = take_all room (ns ++ (n ∷ [])) (omega (arith, length-append ns (n ∷ [])))

pub put_full : (ns : List ℕ) (n : ℕ) → length ns ≡ room → put ns n ≡ ns
unfolding put
put_full ns n is = take-append-le room ns (n ∷ []) (omega (arith, is)) ∙ take_all room ns (omega (arith, is))

pub ruleset one_more = (put_more, put_full)

-- ---- all of them

-- the numbers of a line, stored
unfoldable pub put_all : List ℕ → List ℕ → List ℕ
put_all st [] = st
put_all st (x ∷ ns) = put_all (put st (capped x)) ns

pub put_then : (st ns ms : List ℕ) → put_all st (ns ++ ms) ≡ put_all (put_all st ns) ms
unfolding put_all
put_then st [] ms = refl
put_then st (n ∷ ns) ms = put_then (put st (capped n)) ns ms

-- what is left out in between is left out in the end
take_front : (n : ℕ) (xs ys : List ℕ) → take n (take n xs ++ ys) ≡ take n (xs ++ ys)
take_front zero xs ys = refl
take_front (suc n) [] ys = refl
take_front (suc n) (x ∷ xs) ys = ap (λ l. x ∷ l) (take_front n xs ys)

put_long : (st : List ℕ) (n : ℕ) → length (put st n) ≤ room
unfolding put
put_long st n = omega (arith, length-take room (st ++ (n ∷ [])))

all_put : (st ns : List ℕ) → length st ≤ room → put_all st ns ≡ take room (st ++ map capped ns)
unfolding put_all put
all_put st [] le = sym (ap (take room) (append-nil st) ∙ take_all room st le)
all_put st (n ∷ ns) le =
    all_put (put st (capped n)) ns (put_long st (capped n))
    ∙ take_front room (st ++ (capped n ∷ [])) (map capped ns)
    ∙ ap (take room) (append_assoc st (capped n ∷ []) (map capped ns))

-- Of all numbers those are stored that are kept.
pub kept_put : (ns : List ℕ) → put_all [] ns ≡ kept ns
unfolding kept
kept_put ns = all_put [] ns (omega arith)
