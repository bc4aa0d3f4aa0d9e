-- The bits in which two words differ, and the lowest of them: where it stands, and what is left when it is cleared.
-- Assumes nothing.
use mathlib.Core.Path.{◌≡◌, refl, sym, ap, subst, ◌∙◌}
use mathlib.Core.Logic.{◌≢◌}
use Prim.Native.Nat.{ℕ, zero, suc, ◌+◌, ◌-◌, ◌*◌, ◌/◌, ◌%◌, ◌^◌, ◌≤◌, ◌<◌, min}
use native.Mathlib.Nat.{mod-lt, add-zero, mul_assoc, pow-suc, mul_comm, suc-mul, zero-div}
use native.Mathlib.Numerals.{add-one, one-add}
use native.Mathlib.Omega.{arith}
use mathlib.Core.Bool.{Bool, true, false}
use lib.Dec.{eqb, ltb}
use borrow.Author.Tests.{eqb-true, eqb-false, eq-eqb, ne_eqb, ltb-true, ltb-false}
use lib.Bits.{bit_and, bit_xor, differ, and_step, and_block, and_self, xor_step, xor_shr}
use lib.Count.{count_trailing_zeros, under}
use lib.Pow.{pow_pos, pow-add, shr-shr, shr_lt, shl-shr, ones_lt}
use Rattle.channels.specs.Totals.{is_closed}

-- ---- two words put together

differ_same : (x : ℕ) → differ x x ≡ 0
differ_same zero = refl
differ_same (suc x) = differ_same x

differ_small : (x y : ℕ) → x < 2 → y < 2 → differ x y < 2
differ_small zero y lx ly = ly
differ_small (suc zero) zero lx ly = lx
differ_small (suc zero) (suc y) lx ly = omega arith
differ_small (suc (suc x)) y lx ly = absurd (omega arith)

differ_none : (x y : ℕ) → x < 2 → y < 2 → differ x y ≢ 1 → x ≡ y
differ_none zero zero lx ly ne = refl
differ_none zero (suc zero) lx ly ne = absurd (ne refl)
differ_none zero (suc (suc y)) lx ly ne = absurd (omega arith)
differ_none (suc zero) zero lx ly ne = absurd (ne refl)
differ_none (suc zero) (suc zero) lx ly ne = refl
differ_none (suc zero) (suc (suc y)) lx ly ne = absurd (omega arith)
differ_none (suc (suc x)) y lx ly ne = absurd (omega arith)

xor_low : (v w : ℕ) → bit_xor v w % 2 ≡ differ (v % 2) (w % 2)
xor_low v w =
    ap (λ n. n % 2) (xor_step v w)
    ∙ lowest (bit_xor (v / 2) (w / 2)) (differ (v % 2) (w % 2)) (differ_small (v % 2) (w % 2) (mod-lt v (omega arith)) (mod-lt w (omega arith)))
  where
    lowest : (a d : ℕ) → d < 2 → (a * 2 + d) % 2 ≡ d
    lowest a d lt = omega arith

-- a bit of the two is set exactly where theirs differ
xor_bit : (i v w : ℕ) → bit_xor v w / 2 ^ i % 2 ≡ differ (v / 2 ^ i % 2) (w / 2 ^ i % 2)
xor_bit i v w = ap (λ n. n % 2) (xor_shr v w i) ∙ xor_low (v / 2 ^ i) (w / 2 ^ i)

pub set_differs : (i v w : ℕ) → is_closed i (bit_xor v w) ≡ true → v / 2 ^ i % 2 ≢ w / 2 ^ i % 2
unfolding is_closed
set_differs i v w set same =
    let one : differ (v / 2 ^ i % 2) (w / 2 ^ i % 2) ≡ 1 = sym (xor_bit i v w) ∙ eqb-true (bit_xor v w / 2 ^ i % 2) 1 set in
    let none : differ (v / 2 ^ i % 2) (w / 2 ^ i % 2) ≡ 0 = ap (λ x. differ x (w / 2 ^ i % 2)) same ∙ differ_same (w / 2 ^ i % 2) in
    omega arith

pub unset_same : (i v w : ℕ) → is_closed i (bit_xor v w) ≡ false → v / 2 ^ i % 2 ≡ w / 2 ^ i % 2
unfolding is_closed
unset_same i v w unset =
    differ_none (v / 2 ^ i % 2) (w / 2 ^ i % 2) (mod-lt (v / 2 ^ i) (omega arith)) (mod-lt (w / 2 ^ i) (omega arith))
    (λ e. eqb-false (bit_xor v w / 2 ^ i % 2) 1 unset (xor_bit i v w ∙ e))

-- ---- the lowest bit that is set

-- what stands above it, and it itself, in their place
pub record Lowest (k d : ℕ) : Type 0 where
  pub above : ℕ
  pub is : d ≡ (2 * above + 1) * 2 ^ count_trailing_zeros k d
  pub within : count_trailing_zeros k d < k

zeros_step : (k d : ℕ) → count_trailing_zeros (suc k) d ≡ under (d % 2) (count_trailing_zeros k (d / 2))
unfolding count_trailing_zeros
zeros_step k d = refl

pub lowest : (k d : ℕ) → 0 < d → d < 2 ^ k → Lowest k d
lowest zero d some lt = absurd (omega arith)
lowest (suc k) d some lt = go (d % 2) refl (mod-lt d (omega arith)) (λ more. lowest k (d / 2) more (half d lt))
  where
    half : (x : ℕ) → x < 2 ^ suc k → x / 2 < 2 ^ k
    half x lt = shr_lt k 1 (subst (λ n. x < 2 ^ n) (sym (add-one k)) lt)

    go : (b : ℕ) → d % 2 ≡ b → b < 2 → (0 < d / 2 → Lowest k (d / 2)) → Lowest (suc k) d
    go zero e small rest =
        let r = rest (omega arith) in
        let t = count_trailing_zeros k (d / 2) in
        let zeros : count_trailing_zeros (suc k) d ≡ suc t = zeros_step k d ∙ ap (λ x. under x t) e in
        record {
          above = r.above;
          is = twice d (d / 2) e refl ∙ ap (λ x. x * 2) r.is ∙ mul_assoc (2 * r.above + 1) (2 ^ t) 2
              ∙ ap (λ x. (2 * r.above + 1) * x) (sym (pow-suc 2 t)) ∙ ap (λ n. (2 * r.above + 1) * 2 ^ n) (sym zeros);
          within = subst (λ n. n < suc k) (sym zeros) (omega (arith, r.within));
        }
      where
        twice : (x h : ℕ) → x % 2 ≡ 0 → x / 2 ≡ h → x ≡ h * 2
        twice x h even is = omega arith
    go (suc zero) e small rest =
        let zeros : count_trailing_zeros (suc k) d ≡ 0 = zeros_step k d ∙ ap (λ x. under x (count_trailing_zeros k (d / 2))) e in
        record {
          above = d / 2;
          is = odd d e ∙ ap (λ n. (2 * (d / 2) + 1) * 2 ^ n) (sym zeros);
          within = subst (λ n. n < suc k) (sym zeros) (omega arith);
        }
      where
        odd : (x : ℕ) → x % 2 ≡ 1 → x ≡ (2 * (x / 2) + 1) * 2 ^ 0
        odd x e = omega arith
    go (suc (suc b)) e small rest = absurd (omega arith)

-- ---- bits of a number in its place

-- below the place there is none; from it on they are the number's own
low_bits : (a s j : ℕ) → j < s → a * 2 ^ s / 2 ^ j % 2 ≡ 0
low_bits a s j lt =
    let is : j + suc (s - j - 1) ≡ s = omega arith in
    ap (λ n. a * 2 ^ n / 2 ^ j % 2) (sym is) ∙ ap (λ x. a * x / 2 ^ j % 2) (pow-add 2 j (suc (s - j - 1)))
    ∙ ap (λ x. x / 2 ^ j % 2) (swapped a (2 ^ j) (2 ^ suc (s - j - 1))) ∙ ap (λ x. x % 2) (shl-shr (a * 2 ^ suc (s - j - 1)) j)
    ∙ ap (λ x. a * x % 2) (pow-suc 2 (s - j - 1)) ∙ ap (λ x. x % 2) (sym (mul_assoc a (2 ^ (s - j - 1)) 2)) ∙ even (a * 2 ^ (s - j - 1))
  where
    swapped : (a x y : ℕ) → a * (x * y) ≡ a * y * x
    swapped a x y = ap (λ z. a * z) (mul_comm x y) ∙ sym (mul_assoc a y x)

    even : (x : ℕ) → x * 2 % 2 ≡ 0
    even x = omega arith

high_bits : (a s m : ℕ) → a * 2 ^ s / 2 ^ (s + m) % 2 ≡ a / 2 ^ m % 2
high_bits a s m = ap (λ x. x % 2) (sym (shr-shr (a * 2 ^ s) s m)) ∙ ap (λ x. x / 2 ^ m % 2) (shl-shr a s)

-- above its lowest bit an odd number has the bits of the even one below it
odd_even : (h m : ℕ) → (2 * h + 1) / 2 ^ suc m ≡ 2 * h / 2 ^ suc m
odd_even h m =
    ap (λ n. (2 * h + 1) / 2 ^ n) (sym (one-add m)) ∙ sym (shr-shr (2 * h + 1) 1 m) ∙ ap (λ x. x / 2 ^ m) (halves h)
    ∙ shr-shr (2 * h) 1 m ∙ ap (λ n. 2 * h / 2 ^ n) (one-add m)
  where
    halves : (h : ℕ) → (2 * h + 1) / 2 ^ 1 ≡ 2 * h / 2 ^ 1
    halves h = omega arith

-- ---- the lowest bit cleared

module _ (d h s : ℕ) (is : d ≡ (2 * h + 1) * 2 ^ s) where
  pub cleared : bit_and d (d - 1) ≡ 2 * h * 2 ^ s
  cleared =
      let low = ones_lt s in
      ap (λ x. bit_and x (x - 1)) (is ∙ sym (add-zero ((2 * h + 1) * 2 ^ s)))
      ∙ ap (bit_and ((2 * h + 1) * 2 ^ s + 0)) (less (2 ^ s) (2 * h) (pow_pos s))
      ∙ and_block s (2 * h + 1) (2 * h) 0 (2 ^ s - 1) (pow_pos s) low ∙ ap (λ x. x * 2 ^ s + 0) both ∙ add-zero (2 * h * 2 ^ s)
    where
      less : (p a : ℕ) → 0 < p → (a + 1) * p + 0 - 1 ≡ a * p + (p - 1)
      less p a lt = let x : (a + 1) * p ≡ a * p + p = suc_mul' a p in omega arith
        where
          suc_mul' : (a p : ℕ) → (a + 1) * p ≡ a * p + p
          suc_mul' a p = ap (λ n. n * p) (add-one a) ∙ suc-mul a p

      both : bit_and (2 * h + 1) (2 * h) ≡ 2 * h
      both =
          and_step (2 * h + 1) (2 * h)
          ∙ ap (λ x. bit_and x (2 * h / 2) * 2 + min ((2 * h + 1) % 2) (2 * h % 2)) (first h)
          ∙ ap (λ x. bit_and h x * 2 + min ((2 * h + 1) % 2) (2 * h % 2)) (second h)
          ∙ ap (λ x. x * 2 + min ((2 * h + 1) % 2) (2 * h % 2)) (and_self h) ∙ ap (λ x. h * 2 + min ((2 * h + 1) % 2) x) (even h) ∙ rest h
        where
          first : (h : ℕ) → (2 * h + 1) / 2 ≡ h
          first h = omega arith

          second : (h : ℕ) → 2 * h / 2 ≡ h
          second h = omega arith

          even : (h : ℕ) → 2 * h % 2 ≡ 0
          even h = omega arith

          rest : (h : ℕ) → h * 2 + min ((2 * h + 1) % 2) 0 ≡ 2 * h
          rest h = omega arith

  pub cleared_less : bit_and d (d - 1) < d
  cleared_less = let some = pow_pos s in let x : (2 * h + 1) * 2 ^ s ≡ 2 * h * 2 ^ s + 2 ^ s = suc_mul'' (2 * h) (2 ^ s) in omega (arith, cleared, is, x)
    where
      suc_mul'' : (a p : ℕ) → (a + 1) * p ≡ a * p + p
      suc_mul'' a p = ap (λ n. n * p) (add-one a) ∙ suc-mul a p

  -- it was set, and is not
  pub bit_set : is_closed s d ≡ true
  unfolding is_closed
  bit_set =
      ap (λ x. eqb (x % 2) 1) (ap (λ x. x / 2 ^ s) is ∙ shl-shr (2 * h + 1) s) ∙ eq-eqb ((2 * h + 1) % 2) 1 (odd h)
    where
      odd : (h : ℕ) → (2 * h + 1) % 2 ≡ 1
      odd h = omega arith

  pub bit_cleared : is_closed s (bit_and d (d - 1)) ≡ false
  unfolding is_closed
  bit_cleared =
      ap (λ x. eqb (x % 2) 1) (ap (λ x. x / 2 ^ s) cleared ∙ shl-shr (2 * h) s) ∙ ne_eqb (2 * h % 2) 1 (even h)
    where
      even : (h : ℕ) → 2 * h % 2 ≢ 1
      even h e = omega arith

  -- every other bit is as it was
  pub bit_other : (j : ℕ) → j ≢ s → is_closed j (bit_and d (d - 1)) ≡ is_closed j d
  unfolding is_closed
  bit_other j ne = ap (λ x. eqb x 1) (ap (λ x. x / 2 ^ j % 2) cleared ∙ go (ltb j s) refl ∙ ap (λ x. x / 2 ^ j % 2) (sym is))
    where
      go : (x : Bool) → ltb j s ≡ x → 2 * h * 2 ^ s / 2 ^ j % 2 ≡ (2 * h + 1) * 2 ^ s / 2 ^ j % 2
      go true e = let lt = ltb-true j s e in low_bits (2 * h) s j lt ∙ sym (low_bits (2 * h + 1) s j lt)
      go false e =
          let le = ltb-false j s e in
          let there : s + suc (j - s - 1) ≡ j = beyond j s le ne in
          ap (λ n. 2 * h * 2 ^ s / 2 ^ n % 2) (sym there) ∙ high_bits (2 * h) s (suc (j - s - 1))
          ∙ ap (λ x. x % 2) (sym (odd_even h (j - s - 1))) ∙ sym (high_bits (2 * h + 1) s (suc (j - s - 1)))
          ∙ ap (λ n. (2 * h + 1) * 2 ^ s / 2 ^ n % 2) there
        where
          beyond : (j s : ℕ) → s ≤ j → j ≢ s → s + suc (j - s - 1) ≡ j
          beyond j s le ne = omega arith

-- a number without a bit has none set
pub none_set : (i : ℕ) → is_closed i 0 ≡ false
unfolding is_closed
none_set i = ap (λ x. eqb (x % 2) 1) (nothing i) ∙ refl
  where
    nothing : (i : ℕ) → 0 / 2 ^ i ≡ 0
    nothing i = zero-div (2 ^ i)
