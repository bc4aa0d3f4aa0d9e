-- Sentences in an order, of which the first that holds is told: 01, 'The wire', "Order of checks on a finished command".
use Rattle.std.specs.Prelude.{ℕ, ◌<◌}

-- each sentence has its place in the order
module _ {A : Type 0} (place : A → ℕ) (Says : A → Type 0) where
  -- none before place n holds
  abbrev pub NoneBefore : ℕ → Type 0
  NoneBefore n = (b : A) → place b < n → Says b → ⊥

  -- that of a holds, and none before it does
  pub record First (a : A) : Type 0 where
    pub says : Says a
    pub none_before : NoneBefore (place a)
