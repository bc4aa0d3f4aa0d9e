-- One record more: what is counted, and what is kept beside the totals, behind it.
-- Assumes nothing.
use mathlib.Core.Path.{◌≡◌, refl, sym, ap, ◌∙◌}
use Prim.Native.Nat.{ℕ, ◌+◌, ◌-◌, ◌≤◌}
use native.Mathlib.Nat.{add-zero, zero-add, add_assoc}
use native.Mathlib.Numerals.{add-one}
use native.Mathlib.Omega.{arith}
use mathlib.Core.Bool.{Bool, true, false}
use mathlib.Core.List.{List, [], ◌∷◌, ◌++◌}
use lib.ListN.{length}
use Rattle.std.specs.Prelude.{if◌then◌else◌}
use Rattle.reader.specs.declared.Record.{Record}
use Rattle.reader.specs.declared.Layout.TheVariants.{Sixteen}
use Rattle.reader.specs.Layout.{records_in}
use Rattle.reader.specs.Reading.{record_at}
use Rattle.reader.proofs.Rows.{records_more}
use Rattle.channels.specs.declared.Beside.{Beside}
use Rattle.channels.specs.Totals.{is_closed, word_from, one_if, count_of, ticks_closed, beside_one, beside_after}
use Rattle.channels.specs.Walk.{first_of}

-- one more of the first records of a log
pub first_more : (k : ℕ) (log : List ℕ) → first_of (k + 1) log ≡ first_of k log ++ (record_at Sixteen k log ∷ [])
first_more k log = ap (λ n. records_in Sixteen n log) (add-one k) ∙ records_more Sixteen k log

pub count_more : (test : Record → Bool) (rs ss : List Record) → count_of test (rs ++ ss) ≡ count_of test rs + count_of test ss
count_more test [] ss = sym (zero-add (count_of test ss))
count_more test (r ∷ rs) ss =
    ap (λ n. one_if (test r) + n) (count_more test rs ss) ∙ sym (add_assoc (one_if (test r)) (count_of test rs) (count_of test ss))

pub count_one : (test : Record → Bool) (r : Record) → count_of test (r ∷ []) ≡ one_if (test r)
count_one test r = add-zero (one_if (test r))

-- no more than there are records
pub count_few : (test : Record → Bool) (rs : List Record) → count_of test rs ≤ length rs
count_few test [] = omega arith
count_few test (r ∷ rs) = go (test r) (count_few test rs)
  where
    go : (b : Bool) → count_of test rs ≤ length rs → one_if b + count_of test rs ≤ length (r ∷ rs)
    go true few = omega arith
    go false few = omega arith

pub beside_more : (b : Beside) (rs ss : List Record) → beside_after b (rs ++ ss) ≡ beside_after (beside_after b rs) ss
unfolding beside_after
beside_more b [] ss = refl
beside_more b (r ∷ rs) ss = beside_more (beside_one b r) rs ss

pub beside_one_lem : (b : Beside) (r : Record) → beside_after b (r ∷ []) ≡ beside_one b r
unfolding beside_after
beside_one_lem b r = refl

pub ticks_more : (i : ℕ) (b : Beside) (rs ss : List Record)
    → ticks_closed i b.tick b.word (rs ++ ss)
    ≡ ticks_closed i b.tick b.word rs + ticks_closed i (beside_after b rs).tick (beside_after b rs).word ss
unfolding beside_after ticks_closed
ticks_more i b [] ss = sym (zero-add (ticks_closed i b.tick b.word ss))
ticks_more i b (r ∷ rs) ss =
    let now = if is_closed i b.word then r.tick - b.tick else 0 in
    ap (λ n. now + n) (ticks_more i (beside_one b r) rs ss)
    ∙ sym (add_assoc now (ticks_closed i r.tick (word_from r) rs)
    (ticks_closed i (beside_after (beside_one b r) rs).tick (beside_after (beside_one b r) rs).word ss))

pub ticks_one : (i t w : ℕ) (r : Record) → ticks_closed i t w (r ∷ []) ≡ (if is_closed i w then r.tick - t else 0)
unfolding ticks_closed
ticks_one i t w r = add-zero (if is_closed i w then r.tick - t else 0)

-- ---- what is kept beside the totals behind one record more of a log

pub beside_first : (b : Beside) (k : ℕ) (log : List ℕ)
    → beside_after b (first_of (k + 1) log) ≡ beside_one (beside_after b (first_of k log)) (record_at Sixteen k log)
beside_first b k log =
    ap (beside_after b) (first_more k log) ∙ beside_more b (first_of k log) (record_at Sixteen k log ∷ [])
    ∙ beside_one_lem (beside_after b (first_of k log)) (record_at Sixteen k log)
