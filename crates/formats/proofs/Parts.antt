-- Laws of parts of a list: one that is written over, one that is lent and comes back, one that is copied, and the rest of it.
-- Assumes nothing.
use mathlib.Core.Path.{◌≡◌, refl, sym, ap, ◌∙◌}
use Prim.Native.Nat.{ℕ, zero, suc, ◌+◌, ◌-◌, ◌≤◌, ◌<◌}
use native.Mathlib.Nat.{zero-add}
use native.Mathlib.Numerals.{add-one}
use native.Mathlib.Omega.{arith}
use mathlib.Core.List.{List, ◌++◌, append-nil}
use lib.ListN.{length, take, drop, set, get_or, replicate, length-take, length-drop}
use lib.Seq.{take_all, drop-length, drop-drop, paste-suc}
use Rattle.formats.specs.Bytes.{part}
use borrow.Rule.Slice.PartMut.{put_mid}

-- an element of a list of equal ones, or behind its end
pub replicated : {A : Type 0} (n : ℕ) (x : A) (i : ℕ) → get_or (replicate n x) i x ≡ x
replicated zero x i = refl
replicated (suc n) x zero = refl
replicated (suc n) x (suc i) = replicated n x i

-- what comes back of a lent part `&mut xs[a..a + n]` that now holds ys
pub given_back_lem : (a n : ℕ) (xs ys : List ℕ) → put_mid a (a + n - a) xs ys ≡ take a xs ++ (ys ++ drop (a + n) xs)
given_back_lem a n xs ys = let e : a + n - a ≡ n = omega arith in simp (e, drop-drop)

-- one byte more of a copy
pub copied_more : (from to : List ℕ) (i : ℕ) → i < length from → i < length to
    → set (take i from ++ drop i to) i (get_or from i 0) ≡ take (i + 1) from ++ drop (i + 1) to
copied_more from to i hf ht =
    let h : 0 + i < length to = omega arith in
    rw add-one (simp zero-add at (paste-suc to 0 from i 0 h hf))

-- a list that is copied over another of its length
pub copied_whole : (n : ℕ) (from to : List ℕ) → length from ≡ n → length to ≡ n → take n from ++ drop n to ≡ from
copied_whole n from to e f = rw (take_all n from (omega arith), ap (λ i. drop i to) (sym f) ∙ drop-length to) (append-nil from)

-- what a lent part `&xs[a..]` holds
pub rest_of : (a : ℕ) (xs : List ℕ) → take (length xs - a) (drop a xs) ≡ drop a xs
rest_of a xs = take_all (length xs - a) (drop a xs) (rw length-drop (omega arith))

-- how long a part is
pub length_part : (i n : ℕ) (xs : List ℕ) → i + n ≤ length xs → length (part i n xs) ≡ n
length_part i n xs le = simp (length-take, length-drop) (omega arith)
