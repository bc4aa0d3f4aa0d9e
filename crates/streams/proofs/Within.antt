-- Texts that fit into a block: how long they are at most, piece by piece. Where the block has room for all of a text, nothing of it goes out before the
-- rest.
-- Assumes nothing.
use Prim.Native.Nat.{ℕ, zero, suc, ◌+◌, ◌/◌, ◌≤◌}
use Prim.Native.String.{String}
use native.Mathlib.Omega.{arith}
use mathlib.Core.List.{List, [], ◌∷◌, ◌++◌}
use mathlib.Core.Path.{◌≡◌, ap, ◌∙◌}
use lib.ListN.{length, length-append}
use lib.Dec.{ltb}
use Rattle.formats.specs.Checks.{text}
use Rattle.formats.specs.Digits.{shown, width, decimal, error_text}
use Rattle.formats.proofs.Checks.{if_case}
use Rattle.formats.proofs.Characters.{length_shown}
use Rattle.streams.specs.Gathering.{Waiting, Follows}

-- a text of at most n characters
pub record Within (n : ℕ) (xs : List ℕ) : Type 0 where
  pub fits : length xs ≤ n

pub lit : (s : String) → Within (length (text s)) (text s)
lit s = record { fits = omega arith }

-- the byte that ends a line, or any other
pub one_within : (x : ℕ) → Within 1 (x ∷ [])
one_within x = record { fits = omega arith }

-- one text behind the other
pub both : {m n : ℕ} {xs ys : List ℕ} → Within m xs → Within n ys → Within (m + n) (xs ++ ys)
both {xs = xs} {ys = ys} a b = record { fits = omega (arith, length-append xs ys, a.fits, b.fits) }

-- room for more
pub room : {m : ℕ} (n : ℕ) {xs : List ℕ} → Within m xs → m ≤ n → Within n xs
room n a le = record { fits = omega (arith, a.fits) }

-- ---- numbers

width_within : (n v : ℕ) → width n v ≤ n
unfolding width
width_within zero v = omega arith
width_within (suc n) v = if_case (λ w. w ≤ suc n) (ltb v 10) (λ _. omega arith) (λ _. omega (arith, width_within n (v / 10)))

pub decimal_within : (v : ℕ) → Within 20 (decimal v)
decimal_within v = record { fits = omega (arith, length_shown 10 (width 20 v) v, width_within 20 v) }

pub digits_within : (base n v : ℕ) → Within n (shown base n v)
digits_within base n v = record { fits = omega (arith, length_shown base n v) }

pub error_within : (e : ℕ) → Within 4 (error_text e)
unfolding error_text text
error_within e = both (lit "E") (digits_within 10 3 e)

-- ---- the block

-- In a block of which nothing waits, and which has room for it, a text waits whole, and no write fails.
pub waits_whole : {n size : ℕ} {xs : List ℕ} {o r : Waiting} → Within n xs → n ≤ size → o.waits ≡ [] → Follows size o xs r
    → (r.waits ≡ xs) × (r.open ≡ o.open)
waits_whole {xs = xs} within le none f =
    let empty = ap length none in
    let fits = within.fits in
    (f.waits (omega (arith, empty)) ∙ ap (λ w. w ++ xs) none, f.stays (omega (arith, empty)))
