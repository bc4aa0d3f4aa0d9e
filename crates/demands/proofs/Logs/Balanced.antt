-- Laws of the totals of a chain: closings against openings, and that there are no more of either than calls.
-- Assumes nothing.
use mathlib.Core.Path.{◌≡◌, refl, ap, ◌∙◌}
use Prim.Native.Nat.{ℕ, suc, ◌+◌, ◌-◌, ◌≤◌, ◌<◌}
use native.Mathlib.Nat.{add-zero}
use native.Mathlib.Omega.{arith}
use mathlib.Core.Bool.{Bool, true, false, not, ◌&&◌}
use mathlib.Core.List.{List, [], ◌∷◌, ◌++◌}
use lib.ListN.{length, get_or, length-append, length-take, length-drop}
use borrow.Author.Tests.{not-true}
use Rattle.formats.specs.Checks.{all}
use Rattle.formats.proofs.Checks.{both_true, below}
use Rattle.boxlog.specs.declared.Change.{Change}
use Rattle.boxlog.specs.Log.{places}
use Rattle.channels.specs.declared.Channel.{Channel}
use Rattle.reader.specs.declared.Record.{Record}
use Rattle.channels.specs.declared.Beside.{Beside}
use Rattle.channels.specs.Totals.{is_closed, is_change, word_from, closes, opens, one_if, count_of, beside_one, beside_after, unused}
use Rattle.demands.specs.Histories.{Made, Held, emptying_to, unpowered, next, after}
use Rattle.demands.specs.Seen.{note, notes}
use Rattle.demands.specs.Told.{told}
use Rattle.demands.specs.Changes.{changes}
use Rattle.demands.specs.Switchings.{is_closing, is_opening, closings, openings, Stretch, up_to, through, calls_of, sum_of, closed_from}
use Rattle.demands.specs.SwitchingGaps.{kept_of, lost_of, closings_in, openings_in, kept_closings, kept_openings, lost_number_of}
use Rattle.demands.proofs.Logs.Spans.{WordsJoin}
use Rattle.demands.proofs.Logs.Stretches.{OfStretch, AllOf}

-- ---- closings less openings

abbrev outs : Held → ℕ
outs h = h.state.run.outputs

-- one call
balance_one : (i v w : ℕ) → one_if (is_closing i v w) + one_if (is_closed i v) ≡ one_if (is_opening i v w) + one_if (is_closed i w)
unfolding is_closing is_opening
balance_one i v w = go (is_closed i v) (is_closed i w)
  where
    go : (x y : Bool) → one_if (not x && y) + one_if x ≡ one_if (x && not y) + one_if y
    go true true = refl
    go true false = refl
    go false true = refl
    go false false = refl

balance_record : (i w : ℕ) (r : Record) → is_change r ≡ true → r.word ≡ w
    → one_if (closes i r) + one_if (is_closed i w) ≡ one_if (opens i r) + one_if (is_closed i (word_from r))
unfolding closes opens word_from is_closing is_opening
balance_record i w r is same = rw (is, ← same) (balance_one i r.word r.value)

pub balance : (i : ℕ) (h : Held) (xs : List Made)
    → closings i (outs h) (notes h xs) + one_if (is_closed i (outs h)) ≡ openings i (outs h) (notes h xs) + one_if (is_closed i (outs (after h xs)))
unfolding notes note next after closings openings
balance i h [] = refl
balance i h (x ∷ xs) =
    let u = next h x in
    let one = balance_one i (outs h) (outs u) in
    let rest = balance i u xs in
    sums (one_if (is_closing i (outs h) (outs u))) (closings i (outs u) (notes u xs)) (one_if (is_closed i (outs h))) (one_if (is_opening i (outs h) (outs u)))
    (openings i (outs u) (notes u xs)) (one_if (is_closed i (outs u))) (one_if (is_closed i (outs (after u xs)))) one rest
  where
    sums : (a b c d e f g : ℕ) → a + c ≡ d + f → b + f ≡ e + g → (a + b) + c ≡ (d + e) + g
    sums a b c d e f g x y = omega arith

-- records of changes
pub balance_records : (i : ℕ) (b : Beside) (rs : List Record) → WordsJoin b.word rs → all is_change rs ≡ true
    → count_of (closes i) rs + one_if (is_closed i b.word) ≡ count_of (opens i) rs + one_if (is_closed i (beside_after b rs).word)
unfolding beside_after
balance_records i b [] join e = refl
balance_records i b (r ∷ rs) join e =
    let two = both_true (is_change r) (all is_change rs) e in
    let rest = balance_records i (beside_one b r) rs join.1 two.1 in
    sums (one_if (closes i r)) (count_of (closes i) rs) (one_if (is_closed i b.word)) (one_if (opens i r)) (count_of (opens i) rs)
    (one_if (is_closed i (word_from r))) (one_if (is_closed i (beside_after (beside_one b r) rs).word))
    (balance_record i b.word r two.0 (join.0 two.0)) rest
  where
    sums : (a b c d e f g : ℕ) → a + c ≡ d + f → b + f ≡ e + g → (a + b) + c ≡ (d + e) + g
    sums a b c d e f g x y = omega arith

-- of the 32 none is closed in the word 0
pub none_closed : (i : ℕ) → i < 32 → is_closed i 0 ≡ false
unfolding is_closed
none_closed i lt = not-true (is_closed i 0) (below (λ j. not (is_closed j 0)) 32 refl i lt)

-- the sum over the channels
pub sum_balance : (cs : List Channel) (k w : ℕ)
    → ((i : ℕ) → i < length cs → (get_or cs i unused).closings ≡ (get_or cs i unused).openings + one_if (is_closed (k + i) w))
    → sum_of (λ (c : Channel). c.closings) cs ≡ sum_of (λ (c : Channel). c.openings) cs + closed_from k (length cs) w
unfolding sum_of closed_from
sum_balance [] k w each = refl
sum_balance (c ∷ cs) k w each =
    let here : c.closings ≡ c.openings + one_if (is_closed k w) =
    each 0 (omega arith) ∙ ap (λ j. c.openings + one_if (is_closed j w)) (add-zero k) in
    let rest = sum_balance cs (k + 1) w (λ i lt. each (suc i) (omega arith) ∙ ap (λ j. (get_or cs i unused).openings + one_if (is_closed j w)) (places' k i)) in
    sums c.closings c.openings (one_if (is_closed k w)) (sum_of (λ (c : Channel). c.closings) cs) (sum_of (λ (c : Channel). c.openings) cs)
    (closed_from (k + 1) (length cs) w) here rest
  where
    places' : (k i : ℕ) → k + suc i ≡ (k + 1) + i
    places' k i = omega arith

    sums : (a b o c d e : ℕ) → a ≡ b + o → c ≡ d + e → a + c ≡ (b + d) + (o + e)
    sums a b o c d e x y = omega arith

-- ---- not more than calls

closings_few : (i : ℕ) (cs : List Change) → closings_in i cs ≤ length cs
unfolding closings_in
closings_few i [] = omega arith
closings_few i (c ∷ cs) = go (is_closing i c.before c.word) (closings_few i cs)
  where
    go : (x : Bool) → closings_in i cs ≤ length cs → one_if x + closings_in i cs ≤ suc (length cs)
    go true le = omega arith
    go false le = omega arith

openings_few : (i : ℕ) (cs : List Change) → openings_in i cs ≤ length cs
unfolding openings_in
openings_few i [] = omega arith
openings_few i (c ∷ cs) = go (is_opening i c.before c.word) (openings_few i cs)
  where
    go : (x : Bool) → openings_in i cs ≤ length cs → one_if x + openings_in i cs ≤ suc (length cs)
    go true le = omega arith
    go false le = omega arith

length_notes : (h : Held) (xs : List Made) → length (notes h xs) ≡ length xs
unfolding notes
length_notes h [] = refl
length_notes h (x ∷ xs) = ap suc (length_notes (next h x) xs)

-- the changes of a stretch
changes_few : (zs : List Made) (s : Stretch) → OfStretch zs s → length (changes (up_to zs s)) ≤ length s.calls
changes_few zs s o =
    let few = o.counts.few in
    let is : length (changes (up_to zs s)) ≡ length o.counts.more = ap (λ (cs : List Change). length cs) o.counted in
    omega (arith, length_notes (after unpowered zs) s.calls)

pub record Few (zs : List Made) (ss : List Stretch) : Type 0 where
  pub closed : (i : ℕ) → kept_closings i zs ss ≤ length (calls_of ss)
  pub opened : (i : ℕ) → kept_openings i zs ss ≤ length (calls_of ss)
  pub lost : lost_number_of zs ss ≤ length (calls_of ss)

few_more : (s : Stretch) (ss : List Stretch) (zs : List Made) → OfStretch zs s → Few (through zs s) ss → Few zs (s ∷ ss)
unfolding kept_closings kept_openings lost_number_of calls_of
few_more s ss zs o rest = record {
  closed = λ i. let c = closings_few i (kept_of zs s) in let r = rest.closed i in omega (arith, all, kept, long);
  opened = λ i. let c = openings_few i (kept_of zs s) in let r = rest.opened i in omega (arith, all, kept, long);
  lost = let r = rest.lost in omega (arith, all, gone, long);
}
  where
    n : ℕ
    n = places (told (up_to zs s)).log_length - 1

    all : length (changes (up_to zs s)) ≤ length s.calls
    all = changes_few zs s o

    kept : length (kept_of zs s) ≤ length (changes (up_to zs s))
    kept = let is = length-take n (changes (up_to zs s)) in omega arith

    gone : length (lost_of zs s) ≤ length (changes (up_to zs s))
    gone = let is = length-drop n (changes (up_to zs s)) in omega arith

    long : length (s.calls ++ (emptying_to s.lent ∷ calls_of ss)) ≡ length s.calls + length (emptying_to s.lent ∷ calls_of ss)
    long = length-append s.calls (emptying_to s.lent ∷ calls_of ss)

pub few_calls : (ss : List Stretch) (zs : List Made) → AllOf zs ss → Few zs ss
unfolding kept_closings kept_openings lost_number_of calls_of
few_calls [] zs of = record { closed = λ i. omega arith; opened = λ i. omega arith; lost = omega arith }
few_calls (s ∷ ss) zs of = few_more s ss zs of.0 (few_calls ss (through zs s) of.1)
