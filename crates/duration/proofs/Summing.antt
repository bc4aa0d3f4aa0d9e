-- Laws of sums: a sum of lines is that of its first line, or loop, and that of the lines after it.
-- Assumes nothing.
use Prim.Native.Nat.{ℕ, ◌+◌, ◌*◌, ◌≤◌, ◌<◌}
use native.Mathlib.Omega.{arith}
use native.Mathlib.Nat.{zero-add}
use mathlib.Core.Path.{◌≡◌, refl, sym, ap, ◌∙◌}
use mathlib.Core.Logic.{◌≢◌}
use mathlib.Core.Bool.{Bool, true, false, ◌&&◌, ◌||◌}
use mathlib.Core.List.{List}
use lib.Dec.{leb, ltb, eqb}
use borrow.Author.Tests.{leb-true, leb-false, le-leb, eqb-true, eqb-false}
use Rattle.std.specs.Prelude.{Option, None, Some, is_some}
use Rattle.std.specs.Option.{unwrap_or}
use Rattle.formats.proofs.Checks.{both_true, either_true, or_true, or_false, by_both, not_so}
use Rattle.lines.specs.declared.Line.{Line}
use Rattle.lines.specs.declared.Line.TheVariants.{State, For, Next, Bad}
use Rattle.lines.specs.Line.{is_bad}
use Rattle.lines.specs.Program.{line_at, next_after}
use Rattle.duration.specs.declared.sums.Sum.{Sum}
use Rattle.lines.specs.Searches.{some_before}
use Rattle.lines.specs.Loops.{next_of}
use Rattle.duration.specs.Ticks.{run_ticks, is_idle, idles_at}
use Rattle.duration.specs.Summing.{more_ticks, capped, no_sum, plain_sum, joined, repeated, some_in, sum_of, Nests}
use Rattle.duration.specs.Report.{most_ticks}
use Rattle.duration.proofs.Capping.{capped_le, capped_small, capped_left, capped_right, capped_times, capped_zero}
use Rattle.lines.proofs.Searches.{some_line, line_some}
use Rattle.lines.proofs.Pairs.{next_of_lem, next_after_lem, pairs}
use Rattle.duration.proofs.Ticks.{run_none, run_state, run_loop, run_next, run_bad}

-- ---- sums behind each other

or_assoc : (a b c : Bool) → (a || b || c) ≡ (a || (b || c))
or_assoc true b c = refl
or_assoc false b c = refl

pub sum_same : {a b : Sum} → a.ticks ≡ b.ticks → a.idle ≡ b.idle → a.bad ≡ b.bad → a ≡ b
sum_same {a} {b} t i d =
    ap (λ n. record { ticks = n; idle = a.idle; bad = a.bad }) t ∙ ap (λ u. record { ticks = b.ticks; idle = u; bad = a.bad }) i
    ∙ ap (λ u. record { ticks = b.ticks; idle = b.idle; bad = u }) d

joined_assoc : (a b c : Sum) → joined (joined a b) c ≡ joined a (joined b c)
unfolding joined
joined_assoc a b c =
    let one = capped_left most_ticks (a.ticks + b.ticks) c.ticks in
    let two = capped_right most_ticks a.ticks (b.ticks + c.ticks) in
    let three : a.ticks + b.ticks + c.ticks ≡ a.ticks + (b.ticks + c.ticks) = omega arith in
    sum_same (one ∙ ap capped three ∙ sym two) (or_assoc a.idle b.idle c.idle) (or_assoc a.bad b.bad c.bad)

joined_none : (a : Sum) → a.ticks ≤ more_ticks → joined a no_sum ≡ a
unfolding joined
joined_none a le =
    let z : a.ticks + 0 ≡ a.ticks = omega arith in
    sum_same (ap capped z ∙ capped_small most_ticks a.ticks le) (or_false a.idle) (or_false a.bad)

none_joined : (a : Sum) → a.ticks ≤ more_ticks → joined no_sum a ≡ a
unfolding joined
none_joined a le = let z : 0 + a.ticks ≡ a.ticks = omega arith in sum_same (ap capped z ∙ capped_small most_ticks a.ticks le) refl refl

joined_le : (a b : Sum) → (joined a b).ticks ≤ more_ticks
unfolding joined
joined_le a b = capped_le most_ticks (a.ticks + b.ticks)

pub repeated_le : (x : ℕ) (a : Sum) → (repeated x a).ticks ≤ more_ticks
unfolding repeated
repeated_le x a = capped_le most_ticks (x * a.ticks)

pub sum_le : (p : List ℕ) (i j : ℕ) → (sum_of p i j).ticks ≤ more_ticks
unfolding sum_of
sum_le p i j = capped_le most_ticks (run_ticks p i j)

-- ---- some line of a run of lines

module _ (f : ℕ → Bool) where
  in_line : {X : Type 0} (i j : ℕ) → some_in f i j ≡ true → ((k : ℕ) → i ≤ k → k < j → f k ≡ true → X) → X
  unfolding some_in
  in_line i j e h = some_line (λ k. leb i k && f k) j e (λ k lt t. let b = both_true (leb i k) (f k) t in h k (leb-true i k b.0) lt b.1)

  line_in : (i j k : ℕ) → i ≤ k → k < j → f k ≡ true → some_in f i j ≡ true
  unfolding some_in
  line_in i j k le lt e = line_some (λ m. leb i m && f m) j k lt (rw (le-leb i k le, e))

  in_none : (i j : ℕ) → j ≤ i → some_in f i j ≡ false
  in_none i j le = not_so _ (λ e. in_line i j e (λ k a b _. omega arith))

  -- a line, and those after it
  in_first : (i j : ℕ) → i < j → some_in f i j ≡ (f i || some_in f (i + 1) j)
  in_first i j lt = by_both _ _ there back
    where
      there : some_in f i j ≡ true → (f i || some_in f (i + 1) j) ≡ true
      there e = in_line i j e λ k a b t. go k a b t (eqb k i) refl
        where
          go : (k : ℕ) → i ≤ k → k < j → f k ≡ true → (u : Bool) → eqb k i ≡ u → (f i || some_in f (i + 1) j) ≡ true
          go k a b t true is = let same : f i ≡ true = ap f (sym (eqb-true k i is)) ∙ t in rw same
          go k a b t false is =
              let ne : k ≢ i = eqb-false k i is in
              let on = line_in (i + 1) j k (omega arith) b t in
              rw on (or_true (f i))

      back : (f i || some_in f (i + 1) j) ≡ true → some_in f i j ≡ true
      back e = either_true (f i) (some_in f (i + 1) j) e (λ t. line_in i j i (omega arith) lt t)
          (λ t. in_line (i + 1) j t (λ k a b u. line_in i j k (omega arith) b u))

  -- lines, and those after them
  in_split : (i n j : ℕ) → i ≤ n → n ≤ j → some_in f i j ≡ (some_in f i n || some_in f n j)
  in_split i n j le up = by_both _ _ there back
    where
      there : some_in f i j ≡ true → (some_in f i n || some_in f n j) ≡ true
      there e = in_line i j e λ k a b t. go k a b t (leb n k) refl
        where
          go : (k : ℕ) → i ≤ k → k < j → f k ≡ true → (u : Bool) → leb n k ≡ u → (some_in f i n || some_in f n j) ≡ true
          go k a b t true is = let on = line_in n j k (leb-true n k is) b t in rw on (or_true (some_in f i n))
          go k a b t false is = let on = line_in i n k a (leb-false n k is) t in rw on

      back : (some_in f i n || some_in f n j) ≡ true → some_in f i j ≡ true
      back e = either_true (some_in f i n) (some_in f n j) e (λ t. in_line i n t (λ k a b u. line_in i j k a (omega arith) u))
          (λ t. in_line n j t (λ k a b u. line_in i j k (omega arith) b u))

  -- all of them
  pub in_all : (j : ℕ) → some_in f 0 j ≡ some_before f j
  in_all j = by_both _ _ (λ e. in_line 0 j e (λ k a b t. line_some f j k b t)) (λ e. some_line f j e (λ k lt t. line_in 0 j k (omega arith) lt t))

-- ---- the sum of a run of lines

or_swap : (a b c : Bool) → (a || (b || c)) ≡ (b || a || c)
or_swap true true c = refl
or_swap true false c = refl
or_swap false true c = refl
or_swap false false c = refl

module _ (p : List ℕ) where
  idle_at : (k : ℕ) {l : Line} → line_at p k ≡ l → idles_at p k ≡ is_idle l (run_ticks p (k + 1) (next_of p k))
  unfolding idles_at
  idle_at k e = ap (λ l. is_idle l (run_ticks p (k + 1) (next_of p k))) e

  sum_none : (i j : ℕ) → j ≤ i → sum_of p i j ≡ no_sum
  unfolding sum_of
  sum_none i j le =
      sum_same (ap capped (run_none p i j le) ∙ capped_small most_ticks 0 (omega arith)) (in_none (idles_at p) i j le) (in_none (λ k. is_bad (line_at p k)) i j le)

  module _ (i j : ℕ) (lt : i < j) (le : j ≤ 200) where
    -- by the ticks of the first line and what it is
    plain : {l : Line} → line_at p i ≡ l → run_ticks p i j ≡ (plain_sum l).ticks + run_ticks p (i + 1) j
        → is_idle l (run_ticks p (i + 1) (next_of p i)) ≡ (plain_sum l).idle
        → is_bad l ≡ (plain_sum l).bad → sum_of p i j ≡ joined (plain_sum l) (sum_of p (i + 1) j)
    unfolding sum_of joined
    plain {l} is ticks idle bad =
        sum_same (ap capped ticks ∙ sym (capped_right most_ticks (plain_sum l).ticks (run_ticks p (i + 1) j)))
        (in_first (idles_at p) i j lt ∙ ap (λ t. t || some_in (idles_at p) (i + 1) j) (idle_at i is ∙ idle))
        (in_first (λ k. is_bad (line_at p k)) i j lt ∙ ap (λ t. t || some_in (λ k. is_bad (line_at p k)) (i + 1) j) (ap is_bad is ∙ bad))

    -- a line that begins no loop
    sum_plain : (l : Line) → line_at p i ≡ l → ((c x : ℕ) → l ≡ For c x → ⊥) → sum_of p i j ≡ joined (plain_sum l) (sum_of p (i + 1) j)
    sum_plain (State o t) is not-for = plain is (run_state p i j lt le is) refl refl
    sum_plain (For c x) is not-for = absurd (not-for c x refl)
    sum_plain (Next c) is not-for = plain is (run_next p i j lt le is ∙ sym (zero-add _)) refl refl
    sum_plain Bad is not-for = plain is (run_bad p i j lt le is ∙ sym (zero-add _)) refl refl

    -- a loop
    module _ {c x d n : ℕ} (is : line_at p i ≡ For c x) (here : next_of p i ≡ n) (inside : i < n) (within : n < j) (ends : line_at p n ≡ Next d) where
      -- a test that its For passes as t, and its Next not
      in_loop : (f : ℕ → Bool) (t : Bool) → f i ≡ t → f n ≡ false → some_in f i j ≡ (some_in f (i + 1) n || t || some_in f (n + 1) j)
      in_loop f t at-for at_next =
          in_first f i j lt ∙ ap (λ u. u || some_in f (i + 1) j) at-for
          ∙ ap (λ u. t || u)
          (in_split f (i + 1) n j (omega arith) (omega arith)
          ∙ ap (λ u. some_in f (i + 1) n || u) (in_first f n j within ∙ ap (λ u. u || some_in f (n + 1) j) at_next))
          ∙ or_swap t (some_in f (i + 1) n) (some_in f (n + 1) j)

      body : ℕ
      body = run_ticks p (i + 1) n

      loop_idle : idles_at p i ≡ (ltb 0 x && eqb (capped body) 0)
      unfolding body
      loop_idle =
          idle_at i is ∙ ap (λ m. ltb 0 x && eqb (run_ticks p (i + 1) m) 0) here ∙ ap (λ u. ltb 0 x && u) (sym (capped_zero most_ticks (run_ticks p (i + 1) n)))

      sum_loop : sum_of p i j ≡ joined (repeated x (sum_of p (i + 1) n)) (sum_of p (n + 1) j)
      unfolding sum_of joined repeated body
      sum_loop =
          let one : run_ticks p i j
          ≡ x * body + run_ticks p (n + 1) j = run_loop p i j lt le is ∙ ap (λ m. x * run_ticks p (i + 1) m + run_ticks p (m + 1) j) here in
          let two : capped (x * body + run_ticks p (n + 1) j)
          ≡ capped (capped (x * capped body) + capped (run_ticks p (n + 1) j)) =
          sym
          (ap (λ m. capped (m + capped (run_ticks p (n + 1) j))) (capped_times most_ticks x body)
          ∙ capped_left most_ticks (x * body) (capped (run_ticks p (n + 1) j)) ∙ capped_right most_ticks (x * body) (run_ticks p (n + 1) j)) in
          sum_same (ap capped one ∙ two) (in_loop (idles_at p) (ltb 0 x && eqb (capped body) 0) loop_idle (idle_at n ends))
          (in_loop (λ k. is_bad (line_at p k)) false (ap is_bad is) (ap is_bad ends)
          ∙ ap (λ u. u || some_in (λ k. is_bad (line_at p k)) (n + 1) j) (or_false (some_in (λ k. is_bad (line_at p k)) (i + 1) n)))

-- ---- the loop that sums

-- the line that a search found, which tells 200 where it found none
pub named : (o : Option ℕ) (m : ℕ) {n : ℕ} → unwrap_or o 200 ≡ m → o ≡ Some n → n ≡ m
named o m is some = sym (ap (λ x. unwrap_or x 200) some) ∙ is

-- Up to line i this is summed.
pub record Summed (p : List ℕ) (at end i : ℕ) (s : Sum) : Type 0 where
  pub from : at ≤ i
  pub nests : Nests p i end
  pub small : s.ticks ≤ more_ticks
  pub is : sum_of p at end ≡ joined s (sum_of p i end)

pub sum_begins : (p : List ℕ) (at end : ℕ) → Nests p at end → Summed p at end at no_sum
sum_begins p at end n = record { from = omega arith; nests = n; small = omega arith; is = sym (none_joined (sum_of p at end) (sum_le p at end)) }

module _ (p : List ℕ) (i j : ℕ) (n : Nests p i j) where
  rest_nests : (m : ℕ) → i ≤ m → Nests p m j
  rest_nests m le = record { closed = λ k from to. n.closed k (omega arith) to; nested = λ k x from to. n.nested k x (omega arith) to }

  body_nests : i < j → Nests p (i + 1) (next_of p i)
  body_nests lt =
      let end = n.closed i (omega arith) lt in
      record {
        closed = λ k from to. n.nested i k (omega arith) lt (omega arith) to;
        nested = λ k x from to. n.nested k x (omega arith) (omega arith);
      }

module _ (p : List ℕ) (at end i : ℕ) (s : Sum) (q : Summed p at end i s) (le : end ≤ 200) where
  pub sum_done : end ≤ i → s ≡ sum_of p at end
  sum_done ge = sym (q.is ∙ ap (joined s) (sum_none p i end ge) ∙ joined_none s q.small)

  module _ (lt : i < end) (l : Line) (due : l ≡ line_at p i) where
    pub sum_on : ((c x : ℕ) → l ≡ For c x → ⊥) → (r : Sum) → r ≡ joined s (plain_sum l) → Summed p at end (i + 1) r
    sum_on not-for r is =
        record {
          from = omega (arith, q.from);
          nests = rest_nests p i end q.nests (i + 1) (omega arith);
          small = rw is (joined_le s (plain_sum l));
          is = q.is ∙ ap (joined s) (sum_plain p i end lt le l (sym due) not-for) ∙ sym (joined_assoc s (plain_sum l) (sum_of p (i + 1) end))
              ∙ ap (λ a. joined a (sum_of p (i + 1) end)) (sym is);
        }

    -- its For has a Next
    pub has_next : (c x : ℕ) → l ≡ For c x → (o : Option ℕ) → unwrap_or o 200 ≡ next_after p c i → is_some o ≡ true
    has_next c x is-for None next =
        let z = q.nests.closed i (omega arith) lt in
        let here = next_of_lem p i (sym due ∙ is-for) ∙ sym next in
        absurd (omega arith)
    has_next c x is-for (Some n) next = refl

    module _ (c x n : ℕ) (is-for : l ≡ For c x) (next : n ≡ next_after p c i) where
      here : next_of p i ≡ n
      here = next_of_lem p i (sym due ∙ is-for) ∙ sym next

      pub after_for : i < n
      after_for = let z = next_after_lem p i (omega arith) c in omega arith

      pub before_end : n < end
      before_end = let z = q.nests.closed i (omega arith) lt in let h = here in omega arith

      pub inner_nests : Nests p (i + 1) n
      inner_nests = rw here at (body_nests p i end q.nests lt)

      pub sum_over : (r y : Sum) → y ≡ repeated x (sum_of p (i + 1) n) → r ≡ joined s y → Summed p at end (n + 1) r
      sum_over r y loop is =
          let h = here in
          let ends = (pairs p i (omega arith) (sym due ∙ is-for) (λ z. omega (arith, before_end))).next in
          let whole = sum_loop p i end lt le (sym due ∙ is-for) here after_for before_end (rw here at ends) in
          record {
            from = omega (arith, q.from, after_for);
            nests = rest_nests p i end q.nests (n + 1) (omega (arith, after_for));
            small = rw is (joined_le s y);
            is = q.is ∙ ap (joined s) (whole ∙ ap (λ a. joined a (sum_of p (n + 1) end)) (sym loop))
                ∙ sym (joined_assoc s y (sum_of p (n + 1) end)) ∙ ap (λ a. joined a (sum_of p (n + 1) end)) (sym is);
          }
