-- A run over ticks: what the n-th tick after a moment did, and when a program ends.
-- 02, item 6: "the one demand 3's running rule takes, the rule read without the end of the tick count (033)".
use Rattle.std.specs.Prelude.{ℕ, zero, suc, ◌<◌, ◌≡◌, true, false, List}
use Rattle.running.specs.declared.Ran.{Ran}
use Rattle.running.specs.Running.{tick}

-- What the n-th tick after x did, all of them taken unpaused: the run after it, and the event that it raised, 0 for none. The tick count is no
-- part of it, so that ticks have no end.
unfoldable pub after : List ℕ → ℕ → Ran → Ran
after p zero x = x
after p (suc n) x = after p n (tick p x.run)

-- The program runs on: no event was raised.
pub record Runs (x : Ran) : Type 0 where
  pub on : x.run.on ≡ true
  pub event : x.event ≡ 0

-- The program takes n ticks to its end: before tick n it runs, without an event, and there it ends with event e. The start itself is tick 0.
pub record EndsAfter (p : List ℕ) (n e : ℕ) (x : Ran) : Type 0 where
  pub before : (m : ℕ) → m < n → Runs (after p m x)
  pub event : (after p n x).event ≡ e
  pub off : (after p n x).run.on ≡ false
