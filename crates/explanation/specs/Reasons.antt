-- The reasons of refusals, in the words of the sentence, and their order.
-- 02, item 9: "Refusals, in order: 030, 060 start line above 199, 061 limit too large."
use Rattle.std.specs.Prelude.{ℕ, ◌<◌, ◌≡◌, ◌≢◌, List, length, eqb}
use Rattle.std.specs.Prelude.{if◌then◌else◌}

-- What is refused with the number r has its reason.
pub data Reason (p : List ℕ) (k limit r : ℕ) : Type 0 where
  -- 01: "program area or saved copy is not exactly 1,600 bytes"
  e030 : r ≡ 30 → length p ≢ 1600 → Reason p k limit r
  -- "start line above 199"
  e060 : r ≡ 60 → 199 < k → Reason p k limit r
  -- "limit too large": "a limit of up to 100,000 ticks"
  e061 : r ≡ 61 → 100000 < limit → Reason p k limit r

-- "in order"
unfoldable pub place : ℕ → ℕ
place r = if eqb r 30 then 0 else if eqb r 60 then 1 else 2
