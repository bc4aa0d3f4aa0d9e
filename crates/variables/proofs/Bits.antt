-- A byte put into a word by shift and mask, the bytes of that word, and the status byte.
-- Assumes nothing.
use Prim.Native.Nat.{ℕ, zero, suc, ◌+◌, ◌-◌, ◌*◌, ◌/◌, ◌%◌, ◌^◌, ◌<◌, ◌≤◌}
use native.Mathlib.Omega.{arith}
use native.Mathlib.Nat.{mod-eq_of_lt, mod-lt, add-zero, mul_assoc}
use mathlib.Core.Path.{◌≡◌, refl, sym, ◌∙◌, ap, subst}
use mathlib.Core.Bool.{Bool, true, false}
use lib.ListN.{length, get_or, set, length-set}
use lib.Pow.{pow_pos, pow-add, pow_mono, ones_split, ones_lt, shr_lt, shl_exact, split, mod-mod-pow}
use lib.Bits.{bit_and, bit_or, and_block, or_block, and_mask, or_shifted, or_zero_r}
use borrow.Author.Tests.{lt-ltb}
use mir.Val.{bool_byte}
use Rattle.formats.specs.Checks.{all}
use Rattle.formats.specs.Digits.{digits, number_after, number}
use Rattle.formats.specs.Bytes.{bytes}
use Rattle.formats.proofs.Checks.{all_set}
use Rattle.formats.proofs.Digits.{is_below, length_digits, number_below, digits_below, digits_number}
use Rattle.variables.specs.Variables.{status_bits, output_byte, with_output_byte}

-- w with its eight bits from bit s on replaced by b: what stands above them, b, and what stands below
unfoldable pub with_byte : ℕ → ℕ → ℕ → ℕ
with_byte w s b = (w / 2 ^ (8 + s) * 256 + b) * 2 ^ s + w % 2 ^ s

-- ---- shift and mask, for any shift

module _ (w s b j : ℕ) (j-is : j + (8 + s) ≡ 32) (w_Fits : w < 2 ^ 32) (b-fits : b < 2 ^ 8) where
  fits : w < 2 ^ (j + (8 + s))
  fits = subst (λ (k : ℕ). w < 2 ^ k) (sym j-is) w_Fits

  -- the mask: ones above and below the byte
  mask_is : 4294967295 - 255 * 2 ^ s ≡ (2 ^ j - 1) * 2 ^ (8 + s) + (2 ^ s - 1)
  mask_is =
      let whole : 4294967295 ≡ (2 ^ j - 1) * 2 ^ (8 + s) + (2 ^ (8 + s) - 1) = ap (λ (k : ℕ). 2 ^ k - 1) (sym j-is) ∙ ones_split j (8 + s) in
      let lower : 2 ^ (8 + s) - 1 ≡ 255 * 2 ^ s + (2 ^ s - 1) = ones_split 8 s in
      omega arith

  low_lt : 2 ^ s - 1 < 2 ^ (8 + s)
  low_lt = let l : 2 ^ s - 1 < 2 ^ s = ones_lt s in let m : 2 ^ s ≤ 2 ^ (8 + s) = pow_mono (omega arith) in omega arith

  cleared : bit_and w (4294967295 - 255 * 2 ^ s) ≡ w / 2 ^ (8 + s) * 2 ^ (8 + s) + w % 2 ^ s
  cleared =
      let a = w / 2 ^ (8 + s) in
      let r = w % 2 ^ (8 + s) in
      let high : bit_and (w / 2 ^ (8 + s)) (2 ^ j - 1) ≡ w / 2 ^ (8 + s) = and_mask a j ∙ mod-eq_of_lt (shr_lt j (8 + s) fits) in
      let low : bit_and (w % 2 ^ (8 + s)) (2 ^ s - 1) ≡ w % 2 ^ s = and_mask r s ∙ mod-mod-pow w 8 s in
      ap (bit_and w) mask_is
      ∙ ap (λ (x : ℕ). bit_and x ((2 ^ j - 1) * 2 ^ (8 + s) + (2 ^ s - 1))) (sym (split w (8 + s)))
      ∙ and_block (8 + s) a (2 ^ j - 1) r (2 ^ s - 1) (mod-lt w (pow_pos (8 + s))) low_lt
      ∙ ap (λ (x : ℕ). x * 2 ^ (8 + s) + bit_and r (2 ^ s - 1)) high
      ∙ ap (λ (x : ℕ). w / 2 ^ (8 + s) * 2 ^ (8 + s) + x) low

  pub masked : bit_or (bit_and w (4294967295 - 255 * 2 ^ s % 4294967296)) (b * 2 ^ s % 4294967296) ≡ with_byte w s b
  unfolding with_byte
  masked =
      let a = w / 2 ^ (8 + s) in
      let up : w / 2 ^ (8 + s) * 2 ^ (8 + s)
      ≡ w / 2 ^ (8 + s) * 256 * 2 ^ s = ap (λ (x : ℕ). w / 2 ^ (8 + s) * x) (pow-add 2 8 s)
      ∙ sym (mul_assoc (w / 2 ^ (8 + s)) 256 (2 ^ s)) in
      ap (λ (x : ℕ). bit_or (bit_and w (4294967295 - x)) (b * 2 ^ s % 4294967296)) (shl_exact 8 s 32 (omega arith) (omega arith))
      ∙ ap (λ (x : ℕ). bit_or (bit_and w (4294967295 - 255 * 2 ^ s)) x) (shl_exact 8 s 32 b-fits (omega arith))
      ∙ ap (λ (x : ℕ). bit_or x (b * 2 ^ s)) (cleared ∙ ap (λ (x : ℕ). x + w % 2 ^ s) up)
      ∙ ap (bit_or (a * 256 * 2 ^ s + w % 2 ^ s)) (sym (add-zero (b * 2 ^ s)))
      ∙ or_block s (a * 256) b (w % 2 ^ s) 0 (mod-lt w (pow_pos s)) (pow_pos s)
      ∙ ap (λ (x : ℕ). x * 2 ^ s + bit_or (w % 2 ^ s) 0) (or_shifted a 8 b b-fits)
      ∙ ap (λ (x : ℕ). (a * 256 + b) * 2 ^ s + x) (or_zero_r (w % 2 ^ s))

-- ---- the four bytes of a word, number i from the highest, which has 8 * (3 - i) bits below it

byte_of : (w i : ℕ) → i < 4 → w / 2 ^ (8 * (3 - i)) % 256 ≡ get_or (bytes 4 w) i 0
unfolding digits
byte_of w zero lt = omega arith
byte_of w (suc zero) lt = omega arith
byte_of w (suc (suc zero)) lt = omega arith
byte_of w (suc (suc (suc zero))) lt = omega arith
byte_of w (suc (suc (suc (suc i)))) lt = absurd (omega arith)

byte_set : (w b i : ℕ) → i < 4 → w < 2 ^ 32 → with_byte w (8 * (3 - i)) b ≡ number 256 (set (bytes 4 w) i b)
unfolding with_byte digits number_after
byte_set w b zero lt f = omega arith
byte_set w b (suc zero) lt f = omega arith
byte_set w b (suc (suc zero)) lt f = omega arith
byte_set w b (suc (suc (suc zero))) lt f = omega arith
byte_set w b (suc (suc (suc (suc i)))) lt f = absurd (omega arith)

-- at the addresses 203-206, with s bits below
module _ (w k s : ℕ) (low : 203 ≤ k) (high : k ≤ 206) (s-is : s ≡ 8 * (206 - k)) where
  below : s ≡ 8 * (3 - (k - 203))
  below = omega arith

  pub shifted_down : w / 2 ^ s % 256 ≡ output_byte k w
  unfolding output_byte
  shifted_down = ap (λ (x : ℕ). w / 2 ^ x % 256) below ∙ byte_of w (k - 203) (omega arith)

  pub masked_in : (b : ℕ) → w < 2 ^ 32 → b < 2 ^ 8
      → bit_or (bit_and w (4294967295 - 255 * 2 ^ s % 4294967296)) (b * 2 ^ s % 4294967296) ≡ with_output_byte k b w
  unfolding with_output_byte
  masked_in b w_Fits b-fits =
      masked w s b (24 - s) (omega arith) w_Fits b-fits ∙ ap (λ (x : ℕ). with_byte w x b) below ∙ byte_set w b (k - 203) (omega arith) w_Fits

-- ---- the bytes of a word with one of them set

module _ (k x w : ℕ) (is : x < 256) where
  set_bytes : all (is_below 256) (set (bytes 4 w) (k - 203) x) ≡ true
  set_bytes = all_set (is_below 256) (bytes 4 w) (k - 203) x (digits_below 256 (omega arith) 4 w) (lt-ltb x 256 is)

  set_four : length (set (bytes 4 w) (k - 203) x) ≡ 4
  set_four = length-set (bytes 4 w) (k - 203) x ∙ length_digits 256 4 w

  -- A write to 203-206 sets one byte of the word,
  pub bytes_with : bytes 4 (with_output_byte k x w) ≡ set (bytes 4 w) (k - 203) x
  unfolding with_output_byte
  bytes_with = digits_number 256 (omega arith) 4 (set (bytes 4 w) (k - 203) x) set_four set_bytes

  -- and what it gives is a word.
  pub word_with : with_output_byte k x w < 256 ^ 4
  unfolding with_output_byte
  word_with = rw set_four at (number_below 256 (set (bytes 4 w) (k - 203) x) set_bytes)

-- ---- the status byte

pub status_bits_lem : (u r p : Bool) → bit_or (bit_or (bool_byte u * 128 % 256) (bool_byte r * 2 % 256)) (bool_byte p) ≡ status_bits u r p
status_bits_lem false false false = refl
status_bits_lem false false true = refl
status_bits_lem false true false = refl
status_bits_lem false true true = refl
status_bits_lem true false false = refl
status_bits_lem true false true = refl
status_bits_lem true true false = refl
status_bits_lem true true true = refl
