-- The reasons of refusals, in the words of the sentence: what must be true of a program that is refused.
-- 02, item 6: "Refusals, first that applies: 030 a program not of 1,600 bytes [...]; 042 no State with time 0; a For before the first such
-- line pairs with the first later Next of its counter anywhere: 040 two such loops cross, one starts inside another of its counter, a For has no
-- Next, or a Next before that line has no For; 041 that line is inside a loop; 044 a loop with count above 0 whose body takes 0 ticks; 014 a
-- Bad line before it; 043 more than 9,999,999,999 ticks".
use Rattle.std.specs.Prelude.{ℕ, ◌+◌, ◌≤◌, ◌<◌, ◌≡◌, ◌≢◌, List, length, eqb}
use Rattle.std.specs.Prelude.{if◌then◌else◌}
use Rattle.lines.specs.declared.Line.TheVariants.{State, For, Next, Bad}
use Rattle.lines.specs.Program.{line_at, FirstFrom, NoneFrom}
use Rattle.lines.specs.Loops.{NoEnd, End}
use Rattle.duration.specs.Report.{most_ticks}
use Rattle.duration.specs.ByTheRule.{TakesTicks}

-- A For on line k, before line e, has counter c and this count, and "pairs with the first later Next of its counter anywhere", line n.
pub record Loop (p : List ℕ) (e k c count n : ℕ) : Type 0 where
  pub before : k < e
  pub begins : line_at p k ≡ For c count
  pub next : FirstFrom p c (k + 1) n

-- "two such loops cross", "one starts inside another of its counter", "a For has no Next", "or a Next before that line has no For"
pub data Tangled (p : List ℕ) (e : ℕ) : Type 0 where
  crossing : {k c x m j d y n : ℕ} → Loop p e k c x m → Loop p e j d y n → k < j → j < m → m < n → Tangled p e
  in_own : {k c x m j y n : ℕ} → Loop p e k c x m → Loop p e j c y n → k < j → j < m → Tangled p e
  no_next : {k c x : ℕ} → k < e → line_at p k ≡ For c x → NoneFrom p c (k + 1) → Tangled p e
  no_for : {m d : ℕ} → m < e → line_at p m ≡ Next d → ((k c x : ℕ) → Loop p e k c x m → ⊥) → Tangled p e

-- "that line is inside a loop"
pub data EndInside (p : List ℕ) (e : ℕ) : Type 0 where
  inside : {k c x n : ℕ} → Loop p e k c x n → e < n → EndInside p e

-- The lines from i to before j take no tick: there are none, or the first takes none and those behind it take none. A State takes its time; a Next
-- and a Bad line take none; a loop, to its Next on line n, takes none if its count is 0 or its body takes none.
pub data TakesNone (p : List ℕ) : ℕ → ℕ → Type 0 where
  nothing : {i j : ℕ} → j ≤ i → TakesNone p i j
  state_of0 : {i j o : ℕ} → line_at p i ≡ State o 0 → TakesNone p (i + 1) j → TakesNone p i j
  next_line : {i j c : ℕ} → line_at p i ≡ Next c → TakesNone p (i + 1) j → TakesNone p i j
  bad_line : {i j : ℕ} → line_at p i ≡ Bad → TakesNone p (i + 1) j → TakesNone p i j
  loop_of_none : {i j c n : ℕ} → line_at p i ≡ For c 0 → FirstFrom p c (i + 1) n → TakesNone p (n + 1) j → TakesNone p i j
  idle_loop : {i j c x n : ℕ} → line_at p i ≡ For c x → FirstFrom p c (i + 1) n → TakesNone p (i + 1) n → TakesNone p (n + 1) j → TakesNone p i j

-- "a loop with count above 0 whose body takes 0 ticks"
pub data Idle (p : List ℕ) (e : ℕ) : Type 0 where
  idle : {k c x n : ℕ} → Loop p e k c x n → 0 < x → TakesNone p (k + 1) n → Idle p e

-- "a Bad line before it"
pub data BadBefore (p : List ℕ) (e : ℕ) : Type 0 where
  bad : {k : ℕ} → k < e → line_at p k ≡ Bad → BadBefore p e

-- A program that is refused with the number r has its reason.
pub data Reason (p : List ℕ) (r : ℕ) : Type 0 where
  -- "a program not of 1,600 bytes"
  e030 : r ≡ 30 → length p ≢ 1600 → Reason p r
  -- "no State with time 0"
  e042 : r ≡ 42 → NoEnd p 200 → Reason p r
  e040 : {e : ℕ} → r ≡ 40 → End p e → Tangled p e → Reason p r
  e041 : {e : ℕ} → r ≡ 41 → End p e → EndInside p e → Reason p r
  e044 : {e : ℕ} → r ≡ 44 → End p e → Idle p e → Reason p r
  e014 : {e : ℕ} → r ≡ 14 → End p e → BadBefore p e → Reason p r
  -- "more than 9,999,999,999 ticks", which the running rule takes
  e043 : {n : ℕ} → r ≡ 43 → most_ticks < n → TakesTicks p n → Reason p r

-- "Refusals, first that applies": their order
unfoldable pub place : ℕ → ℕ
place r =
    if eqb r 30 then 0
    else if eqb r 42 then 1
    else if eqb r 40 then 2
    else if eqb r 41 then 3
    else if eqb r 44 then 4
    else if eqb r 14 then 5
    else 6
