-- Laws of the table: its lines one behind the other, and its total.
-- Assumes nothing.
use Prim.Native.Nat.{ℕ, ◌+◌, ◌*◌, ◌≤◌}
use native.Mathlib.Omega.{arith}
use mathlib.Core.Path.{◌≡◌, sym, ap, subst, ◌∙◌}
use mathlib.Core.List.{List, [], ◌∷◌, ◌++◌, append_assoc}
use lib.ListN.{length, drop}
use Rattle.streams.specs.Gathering.{Waiting, Follows}
use Rattle.streams.proofs.Following.{follows_more}
use Rattle.planner.specs.declared.Move.{Move}
use Rattle.planner.specs.Plan.{move_at, moves_of, move_ticks, total}
use Rattle.planner.proofs.Moves.{moves_on, moves_over, counted_is}
use Rattle.plan.specs.Telling.{move_line, total_line, table_from, table}

-- ---- the loop over moves

-- The moves before number k are told, and the next begins at tick `at`: with the table from there on the table of the plan is whole.
pub record Tells (size : ℕ) (ns : List ℕ) (first : Waiting) (k at : ℕ) (o : Waiting) : Type 0 where
  pub rest : {r : Waiting} → Follows size o (table_from k at (moves_of (drop (4 * k) ns))) r → Follows size first (table (moves_of ns)) r

module _ {size : ℕ} {ns : List ℕ} {first : Waiting} {k at : ℕ} {o : Waiting} (t : Tells size ns first k at o) where
  -- one line more
  pub table_on : {next : ℕ} {o' : Waiting} {m : Move} → 4 * k + 4 ≤ length ns → m ≡ move_at ns k
      → next ≡ at + m.settling + m.reading → Follows size o (move_line k at m) o' → Tells size ns first (k + 1) next o'
  unfolding table_from
  table_on {next} {o'} {m} room is ticks line =
      let later : List Move = moves_of (drop (4 * (k + 1)) ns) in
      let so : moves_of (drop (4 * k) ns) ≡ m ∷ later = moves_on ns k room ∙ ap (λ x. x ∷ later) (sym is) in
      record {
        rest = λ {r} f.
            t.rest (subst (λ ms. Follows size o (table_from k at ms) r) (sym so)
            (follows_more line (subst (λ n. Follows size o' (table_from (k + 1) n later) r) ticks f)));
      }

  -- the total
  pub table_over : {r : Waiting} → length ns ≤ 4 * k → Follows size o (total_line at) r → Follows size first (table (moves_of ns)) r
  unfolding table_from
  table_over {r} over f = t.rest (subst (λ ms. Follows size o (table_from k at ms) r) (sym (moves_over ns k over)) f)

pub ruleset by_moves = (table_on, table_over, counted_is)

-- ---- the total

-- the lines of the moves alone
unfoldable pub lines_from : ℕ → ℕ → List Move → List ℕ
lines_from k at [] = []
lines_from k at (m ∷ ms) = move_line k at m ++ lines_from (k + 1) (at + m.settling + m.reading) ms

-- The total that is told is the sum of the times.
pub table_total : (k at : ℕ) (ms : List Move) → table_from k at ms ≡ lines_from k at ms ++ total_line (at + total ms)
unfolding table_from lines_from total
table_total k at [] = ap total_line (omega arith)
table_total k at (m ∷ ms) =
    let next : ℕ = at + m.settling + m.reading in
    let sum : next + total ms ≡ at + (move_ticks m + total ms) = omega arith in
    let line : List ℕ = move_line k at m in
    let later : List ℕ = lines_from (k + 1) next ms in
    ap (λ l. line ++ l) (table_total (k + 1) next ms) ∙ sym (append_assoc line later (total_line (next + total ms)))
    ∙ ap (λ n. line ++ later ++ total_line n) sum

-- Each move is told from the tick at which those before it are over.
pub table_at : (k at : ℕ) (before : List Move) (m : Move) (later : List Move)
    → table_from k at (before ++ (m ∷ later))
    ≡ lines_from k at before ++ (move_line (k + length before) (at + total before) m ++ table_from (k + length before + 1) (at + total before + move_ticks m) later)
unfolding table_from lines_from total
table_at k at [] m later =
    let number : k + 0 ≡ k = omega arith in
    let begin : at + 0 ≡ at = omega arith in
    let end : at + m.settling + m.reading ≡ at + 0 + move_ticks m = omega arith in
    sym (ap (λ j. move_line j (at + 0) m ++ table_from (j + 1) (at + 0 + move_ticks m) later) number
    ∙ ap (λ t. move_line k t m ++ table_from (k + 1) (at + 0 + move_ticks m) later) begin
    ∙ ap (λ t. move_line k at m ++ table_from (k + 1) t later) (sym end))
table_at k at (b ∷ before) m later =
    let next : ℕ = at + b.settling + b.reading in
    let line : List ℕ = move_line k at b in
    let lines : List ℕ = lines_from (k + 1) next before in
    let number : k + 1 + length before ≡ k + length (b ∷ before) = omega arith in
    let tick : next + total before ≡ at + (move_ticks b + total before) = omega arith in
    let rest : ℕ → ℕ → List ℕ = λ j t. move_line j t m ++ table_from (j + 1) (t + move_ticks m) later in
    ap (λ l. line ++ l) (table_at (k + 1) next before m later)
    ∙ sym (append_assoc line lines (rest (k + 1 + length before) (next + total before)))
    ∙ ap (λ j. line ++ lines ++ rest j (next + total before)) number
    ∙ ap (λ t. line ++ lines ++ rest (k + length (b ∷ before)) t) tick
