-- Laws of the plan's own words: which word stands at a tick, and when the plan ends.
-- Assumes nothing.
use Prim.Native.Nat.{ℕ, ◌+◌, ◌-◌, ◌<◌}
use native.Mathlib.Omega.{arith}
use mathlib.Core.Path.{◌≡◌, refl, ap, ◌∙◌}
use mathlib.Core.List.{List, [], ◌∷◌, ◌++◌}
use borrow.Author.Tests.{lt-ltb, le-ltb}
use Rattle.planner.specs.declared.Move.{Move}
use Rattle.planner.specs.Plan.{move_ticks, total, word_at}

-- ---- the first move, and those behind it

module _ (m : Move) (ms : List Move) where
  pub word_settles : (n : ℕ) → n < m.settling → word_at (m ∷ ms) n ≡ m.moveword
  unfolding word_at
  word_settles n lt = rw (lt-ltb n m.settling lt)

  pub word_reads : (n : ℕ) → n < m.reading → word_at (m ∷ ms) (m.settling + n) ≡ m.readingword
  unfolding word_at
  word_reads n lt =
      rw (le-ltb (m.settling + n) m.settling (omega arith), lt-ltb (m.settling + n) (move_ticks m) (omega arith))

  pub word_later : (n : ℕ) → word_at (m ∷ ms) (move_ticks m + n) ≡ word_at ms n
  unfolding word_at
  word_later n =
      let over : move_ticks m + n - move_ticks m ≡ n = omega arith in
      rw (le-ltb (move_ticks m + n) m.settling (omega arith), le-ltb (move_ticks m + n) (move_ticks m) (omega arith), over)

-- ---- any move

pub total_append : (xs ys : List Move) → total (xs ++ ys) ≡ total xs + total ys
unfolding total
total_append [] ys = omega arith
total_append (x ∷ xs) ys = let e = total_append xs ys in omega arith

-- the ticks before a move are those of the moves before it
pub word_behind : (xs ys : List Move) (n : ℕ) → word_at (xs ++ ys) (total xs + n) ≡ word_at ys n
unfolding total
word_behind [] ys n = ap (word_at ys) (omega arith)
word_behind (x ∷ xs) ys n =
    let e : move_ticks x + total xs + n ≡ move_ticks x + (total xs + n) = omega arith in
    ap (word_at (x ∷ (xs ++ ys))) e ∙ word_later x (xs ++ ys) (total xs + n) ∙ word_behind xs ys n

-- A move begins when those before it are over. It has its own word while it settles, and the reading's while it is read.
module _ (before : List Move) (m : Move) (later : List Move) where
  pub settles : (n : ℕ) → n < m.settling → word_at (before ++ (m ∷ later)) (total before + n) ≡ m.moveword
  settles n lt = word_behind before (m ∷ later) n ∙ word_settles m later n lt

  pub reads : (n : ℕ) → n < m.reading → word_at (before ++ (m ∷ later)) (total before + m.settling + n) ≡ m.readingword
  reads n lt =
      let e : total before + m.settling + n ≡ total before + (m.settling + n) = omega arith in
      ap (word_at (before ++ (m ∷ later))) e ∙ word_behind before (m ∷ later) (m.settling + n) ∙ word_reads m later n lt

-- behind the last move all outputs are off
pub word_over : (ms : List Move) (n : ℕ) → word_at ms (total ms + n) ≡ 0
unfolding total word_at
word_over [] n = refl
word_over (m ∷ ms) n =
    let e : move_ticks m + total ms + n ≡ move_ticks m + (total ms + n) = omega arith in
    ap (word_at (m ∷ ms)) e ∙ word_later m ms (total ms + n) ∙ word_over ms n
