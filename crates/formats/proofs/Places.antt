-- Laws of a record of n bytes in its place: it is found there, and every other place and byte stays.
-- Assumes nothing.
use mathlib.Core.Path.{◌≡◌, refl, sym, ap, ◌∙◌}
use mathlib.Core.Logic.{◌≢◌}
use Prim.Native.Nat.{ℕ, suc, ◌+◌, ◌*◌, ◌-◌, ◌≤◌, ◌<◌}
use mathlib.Core.Bool.{Bool, true, false}
use mathlib.Core.List.{List, ◌++◌, append_assoc}
use lib.ListN.{length, take, drop, length-append, length-drop, take-append-drop}
use lib.Seq.{length-take-le, take_at, drop_at, take-append-le, drop-append-le, drop-drop}
use lib.Dec.{ltb}
use native.Mathlib.Omega.{arith}
use native.Mathlib.Nat.{mul-le-mul_left}
use borrow.Author.Tests.{ltb-true, ltb-false}
use Rattle.formats.specs.Bytes.{part, placed}

-- a part that lies in the front of a list
part_of_front : (from n : ℕ) (xs ys : List ℕ) → from + n ≤ length xs → part from n (xs ++ ys) ≡ part from n xs
part_of_front from n xs ys le =
    rw (drop-append-le from xs ys (omega arith)) (take-append-le n (drop from xs) ys (rw length-drop (omega arith)))

-- a place ends before a later one begins
place_ends : (n i k : ℕ) → i < k → n * i + n ≤ n * k
place_ends n i k lt = let h : n * suc i ≤ n * k = mul-le-mul_left n (omega arith) in omega arith

module _ (n k : ℕ) (r bs : List ℕ) (whole : length r ≡ n) (fits : n * k + n ≤ length bs) where
  front : length (take (n * k) bs) ≡ n * k
  front = length-take-le (n * k) bs (omega arith)

  front_and_record : length (take (n * k) bs ++ r) ≡ n * k + n
  front_and_record = simp (length-append, front, whole)

  -- the bytes before it stay
  pub placed_before : take (n * k) (placed n k r bs) ≡ take (n * k) bs
  unfolding placed
  placed_before = take_at (take (n * k) bs) _ (n * k) front

  -- it stands behind them
  pub placed_at : take (n * k + n) (placed n k r bs) ≡ take (n * k) bs ++ r
  unfolding placed
  placed_at =
      rw (← append_assoc (take (n * k) bs) r (drop (n * k + n) bs)) (take_at (take (n * k) bs ++ r) _ (n * k + n) front_and_record)

  -- the bytes after it stay
  pub placed_after : drop (n * k + n) (placed n k r bs) ≡ drop (n * k + n) bs
  unfolding placed
  placed_after =
      rw (← append_assoc (take (n * k) bs) r (drop (n * k + n) bs)) (drop_at (take (n * k) bs ++ r) _ (n * k + n) front_and_record)

  pub length_placed : length (placed n k r bs) ≡ length bs
  unfolding placed
  length_placed = simp (length-append, length-drop, front, whole) (omega arith)

  -- it is found in its place
  pub same_place : part (n * k) n (placed n k r bs) ≡ r
  unfolding placed
  same_place = rw (drop_at (take (n * k) bs) (r ++ drop (n * k + n) bs) (n * k) front) (take_at r (drop (n * k + n) bs) n whole)

  place_before : (i : ℕ) → i < k → part (n * i) n (placed n k r bs) ≡ part (n * i) n bs
  unfolding placed
  place_before i lt =
      let le : n * i + n ≤ length (take (n * k) bs) = rw front (place_ends n i k lt) in
      part_of_front (n * i) n (take (n * k) bs) (r ++ drop (n * k + n) bs) le
      ∙ sym (part_of_front (n * i) n (take (n * k) bs) (drop (n * k) bs) le)
      ∙ ap (part (n * i) n) (take-append-drop (n * k) bs)

  place_after : (i : ℕ) → k < i → part (n * i) n (placed n k r bs) ≡ part (n * i) n bs
  place_after i lt =
      let gone = n * i - (n * k + n) in
      let back : n * k + n + gone ≡ n * i = omega (arith, place_ends n k i lt) in
      let there : (xs : List ℕ) → drop (n * i) xs ≡ drop gone (drop (n * k + n) xs) =
      λ xs. ap (λ m. drop m xs) (sym back) ∙ sym (drop-drop gone (n * k + n) xs) in
      ap (take n) (there (placed n k r bs) ∙ ap (drop gone) placed_after ∙ sym (there bs))

  -- every other place stays
  pub other_place : (i : ℕ) → i ≢ k → part (n * i) n (placed n k r bs) ≡ part (n * i) n bs
  other_place i ne = go (ltb i k) refl
    where
      go : (t : Bool) → ltb i k ≡ t → part (n * i) n (placed n k r bs) ≡ part (n * i) n bs
      go true e = place_before i (ltb-true i k e)
      go false e = let le : k ≤ i = ltb-false i k e in place_after i (omega arith)
