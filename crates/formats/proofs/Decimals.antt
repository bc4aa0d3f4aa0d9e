-- Laws of a number in decimal without leading zeros: how many digits it has, and that a person reads it off them.
-- Assumes nothing.
use mathlib.Core.Path.{◌≡◌, refl, sym, ap, ◌∙◌}
use mathlib.Core.Logic.{◌≢◌}
use Prim.Native.Nat.{ℕ, zero, suc, ◌+◌, ◌*◌, ◌-◌, ◌/◌, ◌^◌, ◌≤◌, ◌<◌, min}
use native.Mathlib.Omega.{arith}
use native.Mathlib.Numerals.{add-one}
use native.Mathlib.Nat.{div-lt_iff_lt-mul, pow-suc}
use mathlib.Core.Bool.{Bool, true, false}
use mathlib.Core.List.{List, [], ◌∷◌}
use mathlib.Core.Option.{some}
use lib.ListN.{length, get_or}
use lib.Dec.{ltb}
use borrow.Author.Tests.{lt-ltb, le-ltb, ltb-true, ltb-false, eq-eqb, ne_eqb}
use Rattle.formats.specs.Checks.{refused, passed, ◌>>=◌, ◌>>◌, ◌or_else◌, text}
use Rattle.formats.specs.Digits.{digit_value, number_in, shown, width, most_digits, decimal, decimal_in}
use Rattle.std.specs.Prelude.{Some, None}
use Rattle.formats.specs.Numbers.{most_written, res_or}
use Rattle.formats.specs.Worth.{digit_worth, worth, are_digits, ReadAs, is_plain, in_decimal, in_hex}
use Rattle.formats.proofs.Checks.{if_case, both_true}
use Rattle.formats.proofs.Characters.{length_shown}
use Rattle.formats.proofs.Loops.{Read, read_none, read_bad, read_more, read_all}
use Rattle.formats.proofs.Worth.{are_digits_lem, is_worth, worth_below, shown_read}

width_one : (m v : ℕ) → v < 10 → width (suc m) v ≡ 1
unfolding width
width_one m v lt = rw (lt-ltb v 10 lt)

width_more : (m v : ℕ) → 10 ≤ v → width (suc m) v ≡ width m (v / 10) + 1
unfolding width
width_more m v le = rw (le-ltb v 10 le)

-- a number below a power of ten has at most as many digits
pub width_few : (k n v : ℕ) → v < 10 ^ suc k → width n v ≤ suc k
unfolding width
width_few k zero v lt = omega arith
width_few zero (suc n) v lt = rw (lt-ltb v 10 lt) (omega arith)
width_few (suc k) (suc n) v lt =
    let less : v / 10 < 10 ^ suc k = (div-lt_iff_lt-mul {k = 10} (omega arith)).1 (rw pow-suc at lt) in
    let few = width_few k n (v / 10) less in
    if_case (λ w. w ≤ suc (suc k)) (ltb v 10) (λ _. omega arith) (λ _. omega (arith, few))

-- so many characters has a number in decimal at most
pub decimal_long : (k v : ℕ) → v < 10 ^ suc k → length (decimal v) ≤ suc k
decimal_long k v lt = omega (arith, length_shown 10 (width most_digits v) v, width_few k most_digits v lt)

-- it has one at least
pub width_some : (n v : ℕ) → 0 < width (suc n) v
unfolding width
width_some n v = if_case (λ w. 0 < w) (ltb v 10) (λ _. omega arith) (λ _. omega arith)

-- they hold it
pub width_holds : (n v : ℕ) → v < 10 ^ n → v < 10 ^ width n v
unfolding width
width_holds zero v lt = lt
width_holds (suc n) v lt = go (ltb v 10) refl (width_holds n (v / 10))
  where
    go : (t : Bool) → ltb v 10 ≡ t → (v / 10 < 10 ^ n → v / 10 < 10 ^ width n (v / 10)) → v < 10 ^ width (suc n) v
    go true e more = rw (width_one n v (ltb-true v 10 e)) (ltb-true v 10 e)
    go false e more =
        let less : v / 10 < 10 ^ width n (v / 10) = more ((div-lt_iff_lt-mul (omega arith)).1 (rw pow-suc at lt)) in
        let whole : 10 ^ suc (width n (v / 10)) ≡ 10 ^ width n (v / 10) * 10 = pow-suc 10 (width n (v / 10)) in
        rw (width_more n v (ltb-false v 10 e), add-one (width n (v / 10))) (omega (arith, less, whole))

-- w digits, the first of them no zero, of a number from ten on
by_width : {v : ℕ} (w : ℕ) → 0 < w → 10 ≤ v → (1 < w → 10 ^ (w - 1) ≤ v / 10) → 10 ^ w ≤ v
by_width zero any le more = absurd (omega arith)
by_width (suc zero) any le more = le
by_width {v} (suc (suc w)) any le more =
    let one : suc (suc w) - 1 ≡ suc w = omega arith in
    let less : 10 ^ suc w ≤ v / 10 = rw one at (more (omega arith)) in
    let whole : 10 ^ suc (suc w) ≡ 10 ^ suc w * 10 = pow-suc 10 (suc w) in
    omega (arith, less, whole)

-- It has no leading zero.
pub decimal_fewest : (n v : ℕ) → 1 < width n v → 10 ^ (width n v - 1) ≤ v
unfolding width
decimal_fewest zero v lt = absurd (omega arith)
decimal_fewest (suc n) v lt = go (ltb v 10) refl (decimal_fewest n (v / 10))
  where
    go : (t : Bool) → ltb v 10 ≡ t → (1 < width n (v / 10) → 10 ^ (width n (v / 10) - 1) ≤ v / 10) → 10 ^ (width (suc n) v - 1) ≤ v
    go true e more = absurd (omega (arith, width_one n v (ltb-true v 10 e)))
    go false e more =
        let w = width n (v / 10) in
        let le : 10 ≤ v = ltb-false v 10 e in
        let down : width (suc n) v - 1 ≡ w = omega (arith, width_more n v le) in
        rw down (by_width w (omega (arith, width_more n v le)) le more)

-- k digits are counted, and rest is what stands before them
pub record Counted (v k rest : ℕ) : Type 0 where
  pub some : 1 ≤ k
  pub few : k ≤ most_digits
  pub all : width most_digits v + 1 ≡ k + width (suc (most_digits - k)) rest
  pub small : rest < 10 ^ suc (most_digits - k)

module _ (v k rest : ℕ) (c : Counted v k rest) where
  pub counted_all : rest < 10 → k ≡ width most_digits v
  counted_all lt = omega (arith, c.all, width_one (most_digits - k) rest lt)

  pub counted_on : 10 ≤ rest → Counted v (k + 1) (rest / 10)
  counted_on le =
      let m = most_digits - k in
      let not_all : k ≢ 20 = λ all. let one : rest < 10 ^ suc (most_digits - 20) = rw all at c.small in omega (arith, one) in
      let next : suc (most_digits - (k + 1)) ≡ m = omega (arith, c.few, not_all) in
      record {
        some = omega arith;
        few = omega (arith, c.few, not_all);
        all = c.all ∙ omega (arith, width_more m rest le, ap (λ i. width i (rest / 10)) next);
        small = rw next (omega (arith, c.small, pow-suc 10 m));
      }

-- ---- what a person reads

-- digits without a leading zero are a number in decimal
pub shown_decimal : (n v : ℕ) → v < 10 ^ n → is_plain (shown 10 n v) ≡ true → in_decimal (shown 10 n v) ≡ some v
unfolding in_decimal
shown_decimal n v lt plain = let r = shown_read 10 (omega arith) (omega arith) n v lt in rw (plain, r.digits) (ap some r.value)

-- one digit has none
pub one_plain : (v : ℕ) → is_plain (shown 10 1 v) ≡ true
one_plain v = rw (eq-eqb (length (shown 10 1 v)) 1 (length_shown 10 1 v))

-- a number that needs n digits and one more begins with no zero
first_some : (n v : ℕ) → 10 ^ n ≤ v → v < 10 ^ suc n → get_or (shown 10 (suc n) v) 0 0 ≢ 48
unfolding worth digit_worth text
first_some n v lo hi zero-first = go (shown 10 (suc n) v) (shown_read 10 (omega arith) (omega arith) (suc n) v hi) zero-first
  where
    go : (cs : List ℕ) → ReadAs 10 (suc n) v cs → get_or cs 0 0 ≡ 48 → ⊥
    go [] r z = omega (arith, r.long)
    go (c ∷ cs) r z =
        let long : length cs ≡ n = omega (arith, r.long) in
        let none : digit_worth c ≡ 0 = ap digit_worth z in
        let less : worth 10 cs < 10 ^ length cs = worth_below 10 cs (both_true (ltb (digit_worth c) 10) (are_digits 10 cs) r.digits).1 in
        let is : digit_worth c * 10 ^ length cs + worth 10 cs ≡ v = r.value in
        omega (arith, lo, rw long at less, rw none at is)

-- and more digits of a number that needs them have none
more_plain : (n v : ℕ) → 10 ^ suc n ≤ v → v < 10 ^ suc (suc n) → is_plain (shown 10 (suc (suc n)) v) ≡ true
more_plain n v lo hi =
    let long = length_shown 10 (suc (suc n)) v in
    rw (
      ne_eqb (length (shown 10 (suc (suc n)) v)) 1 (λ z. omega (arith, long)),
      lt-ltb 1 (length (shown 10 (suc (suc n)) v)) (omega (arith, long)),
      ne_eqb (get_or (shown 10 (suc (suc n)) v) 0 0) 48 (first_some (suc n) v lo hi),
    )

decimal_plain : (v : ℕ) → v ≤ most_written → is_plain (decimal v) ≡ true
decimal_plain v le = go (width most_digits v) refl (width_some 19 v) (width_holds most_digits v (omega arith)) (decimal_fewest most_digits v)
  where
    go : (w : ℕ) → width most_digits v ≡ w → 0 < width most_digits v → v < 10 ^ width most_digits v
        → (1 < width most_digits v → 10 ^ (width most_digits v - 1) ≤ v) → is_plain (decimal v) ≡ true
    go zero is any lt fewest = absurd (omega arith)
    go (suc zero) is any lt fewest = rw is (one_plain v)
    go (suc (suc n)) is any lt fewest =
        let down : suc (suc n) - 1 ≡ suc n = omega arith in
        rw is (more_plain n v (rw (is, down) at (fewest (omega (arith, is)))) (rw is at lt))

-- A number in decimal is read as that number.
pub decimal_read : (v : ℕ) → v ≤ most_written → in_decimal (decimal v) ≡ some v
decimal_read v le = shown_decimal (width most_digits v) v (width_holds most_digits v (omega arith)) (decimal_plain v le)

-- A word in eight hex digits is read as that word.
pub hex_read : (v : ℕ) → v < 16 ^ 8 → in_hex (shown 16 8 v) ≡ some v
unfolding in_hex
hex_read v less =
    let r = shown_read 16 (omega arith) (omega arith) 8 v less in
    rw (eq-eqb (length (shown 16 8 v)) 8 r.long, r.digits) (ap some r.value)

-- ---- what a person writes

-- i characters are digits, and v is their number, or the largest where that is more
pub record Kept (cs : List ℕ) (i v : ℕ) : Type 0 where
  pub whole : ℕ
  pub read : Read 10 cs i whole
  pub capped : v ≡ min whole most_written

pub kept_none : (cs : List ℕ) → Kept cs 0 0
kept_none cs = record { whole = 0; read = read_none 10 cs; capped = refl }

-- the next character has the value d
module _ (cs : List ℕ) (i v d : ℕ) (lt : i < length cs) (k : Kept cs i v) (is : d ≡ digit_value (get_or cs i 0)) where
  pub kept_more : d < 10 → {w : ℕ} → w ≡ min (v * 10 + d) most_written → Kept cs (i + 1) w
  kept_more below now = record {
    whole = k.whole * 10 + d;
    read = read_more 10 cs i k.whole d lt k.read is below;
    capped = omega (arith, now, k.capped);
  }

  -- it is no digit
  pub kept_bad : 10 ≤ d → (e : ℕ) → res_or e None ≡ decimal_in most_written e cs
  unfolding decimal_in ◌>>◌ ◌>>=◌ ◌or_else◌
  kept_bad le e = rw (ne_eqb (length cs) 0 (λ z. omega arith), ← read_bad 10 cs i k.whole d lt k.read is le e)

-- no character is no number
pub none_written : (cs : List ℕ) → length cs ≡ 0 → (e : ℕ) → res_or e None ≡ decimal_in most_written e cs
unfolding decimal_in ◌>>◌ ◌>>=◌ ◌or_else◌
none_written cs z e = rw (eq-eqb (length cs) 0 z)

-- all are read
pub kept_all : (cs : List ℕ) (i v : ℕ) → length cs ≤ i → length cs ≢ 0 → Kept cs i v → (e : ℕ) → res_or e (Some v) ≡ decimal_in most_written e cs
unfolding decimal_in ◌>>◌ ◌>>=◌ ◌or_else◌
kept_all cs i v le any k e = rw (ne_eqb (length cs) 0 any, ← read_all 10 cs i k.whole le k.read e, k.capped)

-- ---- what is written, in a reader's words

-- Digits are read as what they are worth, or as the largest number.
pub written_read : (most e : ℕ) (cs : List ℕ) → 0 < length cs → are_digits 10 cs ≡ true → decimal_in most e cs ≡ passed (min (worth 10 cs) most)
unfolding decimal_in number_in ◌>>◌ ◌>>=◌ ◌or_else◌
written_read most e cs any digits =
    rw (ne_eqb (length cs) 0 (λ z. omega arith), sym (are_digits_lem 10 cs) ∙ digits, is_worth 10 cs)

-- All else is no number.
pub written_other : (most e : ℕ) (cs : List ℕ) → are_digits 10 cs ≡ false → decimal_in most e cs ≡ refused e
unfolding decimal_in number_in ◌>>◌ ◌>>=◌ ◌or_else◌
written_other most e [] other = refl
written_other most e (c ∷ cs) other = rw (ne_eqb (length (c ∷ cs)) 0 (λ z. omega arith), sym (are_digits_lem 10 (c ∷ cs)) ∙ other)

pub written_none : (most e : ℕ) → decimal_in most e [] ≡ refused e
unfolding decimal_in ◌>>◌ ◌>>=◌ ◌or_else◌
written_none most e = refl
