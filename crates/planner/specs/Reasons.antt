-- The reasons of refusals, in the words of the sentence.
-- 02, item 10: "Refusals, in order, nothing written: 030, 070 no or too many moves, 071 a time outside its range."
use Rattle.std.specs.Prelude.{ℕ, ◌+◌, ◌*◌, ◌≤◌, ◌≡◌, ◌≢◌, List, length, get_or, eqb}
use Rattle.std.specs.Prelude.{if◌then◌else◌}
use Rattle.planner.specs.Plan.{InRange}

-- The numbers are 1 to 16 whole moves.
pub record Whole (ns : List ℕ) (count : ℕ) : Type 0 where
  pub numbers : length ns ≡ 4 * count
  pub some : 1 ≤ count
  pub few : count ≤ 16

-- Move k of the plan has a time outside its range: its second number is the settling time, its fourth the reading time.
pub data OutOfRange (ns : List ℕ) : Type 0 where
  settles : (k : ℕ) → 4 * k + 4 ≤ length ns → (InRange (get_or ns (4 * k + 1) 0) → ⊥) → OutOfRange ns
  reads : (k : ℕ) → 4 * k + 4 ≤ length ns → (InRange (get_or ns (4 * k + 3) 0) → ⊥) → OutOfRange ns

-- A plan that is refused with the number r has its reason.
pub data Reason (ns area : List ℕ) (r : ℕ) : Type 0 where
  -- the program area is not of 1,600 bytes
  e030 : r ≡ 30 → length area ≢ 1600 → Reason ns area r
  -- "no or too many moves", or a part of one
  e070 : r ≡ 70 → ((count : ℕ) → Whole ns count → ⊥) → Reason ns area r
  -- "a time outside its range"
  e071 : r ≡ 71 → OutOfRange ns → Reason ns area r

-- "in order"
unfoldable pub place : ℕ → ℕ
place r =
    if eqb r 30 then 0
    else if eqb r 70 then 1
    else 2
