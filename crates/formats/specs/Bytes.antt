-- Bytes that lie in a row: that they are bytes, a part of them, the number that some of them are, and a record in its place.
-- 01 has them in a line's time and count, in a record's tick and value, and where a line or a record stands in its area.
use Rattle.std.specs.Prelude.{ℕ, ◌+◌, ◌*◌, Bool, List, ◌++◌, take, drop, ltb}
use Rattle.formats.specs.Checks.{all}
use Rattle.formats.specs.Digits.{digits, number}

-- every one of them is a byte
abbrev pub are_bytes : List ℕ → Bool
are_bytes bs = all (λ b. ltb b 256) bs

-- n elements, the first of them number `from`
abbrev pub part : ℕ → ℕ → List ℕ → List ℕ
part from n bs = take n (drop from bs)

-- n bytes from place `from` on, as a number, high byte first
abbrev pub field : ℕ → ℕ → List ℕ → ℕ
field from n bs = number 256 (part from n bs)

-- a number in n bytes, high byte first
abbrev pub bytes : ℕ → ℕ → List ℕ
bytes n v = digits 256 n v

-- a record of n bytes is written into place k, the first being place 0; every other byte stays
unfoldable pub placed : ℕ → ℕ → List ℕ → List ℕ → List ℕ
placed n k r bs = take (n * k) bs ++ (r ++ drop (n * k + n) bs)
