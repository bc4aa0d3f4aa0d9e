-- The three ways in which a command names an address, for the promises that speak of it.
-- 01, 'The wire', check 3: "Address: three digits, or I (this direction's last address plus one) or D (minus one)."
use Rattle.std.specs.Prelude.{ℕ, ◌+◌, ◌≤◌, ◌≡◌, ◌⊎◌, List}
use Rattle.formats.specs.Checks.{text}
use Rattle.formats.specs.Digits.{shown}

-- the characters `a` name address k, where `next` is the address after this direction's last one; from "before 000", where it is 000, D
-- names none
pub data Names (next k : ℕ) (a : List ℕ) : Type 0 where
  by_digits : a ≡ shown 10 3 k → Names next k a
  by_i : a ≡ text "I" → k ≡ next → Names next k a
  by_d : a ≡ text "D" → k + 2 ≡ next → Names next k a

-- an address of one character, which may name none
abbrev pub IsStep : List ℕ → Type 0
IsStep a = (a ≡ text "I") ⊎ (a ≡ text "D")

-- `a` names none of 000-216
abbrev pub NamesNone : ℕ → List ℕ → Type 0
NamesNone next a = (k : ℕ) → k ≤ 216 → Names next k a → ⊥
