-- What the number is: that of demand 3's running rule.
-- 02, item 6: "Prove that the number is the one demand 3's running rule takes, the rule read without the end of the tick count (033)."
use Rattle.std.specs.Prelude.{ℕ, List}
use Rattle.running.specs.Running.{start}
use Rattle.running.specs.Ticking.{EndsAfter}

-- "from a start at line 000 to event 011", whatever the outputs were
abbrev pub TakesTicks : List ℕ → ℕ → Type 0
TakesTicks p n = (outputs : ℕ) → EndsAfter p n 11 (start p 0 outputs)
