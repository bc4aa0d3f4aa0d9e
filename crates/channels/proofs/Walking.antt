-- The walk over the records of a log, and in each over the bits that differ: what the two loops keep.
-- Assumes nothing.
use mathlib.Core.Path.{◌≡◌, refl, sym, ap, subst, ◌∙◌}
use mathlib.Core.Logic.{◌≢◌}
use Prim.Native.Nat.{ℕ, ◌+◌, ◌-◌, ◌/◌, ◌%◌, ◌^◌, ◌≤◌, ◌<◌}
use native.Mathlib.Omega.{arith}
use native.Mathlib.Nat.{lt_of_lt_of_le, le_of_lt}
use mathlib.Core.Bool.{Bool, true, false, true≢false}
use mathlib.Core.List.{List, [], ◌∷◌, ◌++◌}
use lib.ListN.{get_or, set}
use lib.Bits.{bit_and, bit_xor, xor_lt}
use lib.Count.{count_trailing_zeros}
use lib.Dec.{eqb}
use borrow.Author.Tests.{eqb-true, eqb-false}
use Rattle.reader.specs.declared.Record.{Record}
use Rattle.reader.specs.declared.Layout.TheVariants.{Sixteen}
use Rattle.reader.specs.Layout.{most_records}
use Rattle.reader.specs.Reading.{record_at}
use Rattle.reader.proofs.Rows.{length_records_in}
use Rattle.channels.specs.declared.Beside.{Beside}
use Rattle.channels.specs.declared.Gain.{Gain}
use Rattle.channels.specs.Totals.{is_closed, is_change, word_from, closes, opens, one_if, beside_after}
use Rattle.channels.specs.Walk.{first_of, Joins, Joined, no_gain, switched_of, Stands, AllStand, PartStand, Begun}
use Rattle.channels.proofs.Behind.{first_more, beside_first, count_few}
use Rattle.channels.proofs.Switching.{part_begins, part_goes, part_ends, stands_none}
use Rattle.channels.proofs.Differing.{set_differs, Lowest, lowest, cleared_less, bit_set, bit_cleared, bit_other}

-- After k of the n records of a log, from the gains and the word that were there before the first.
pub record Walks (log : List ℕ) (n : ℕ) (first : List Gain) (word0 : ℕ) (gains : List Gain) (word k : ℕ) : Type 0 where
  pub inside : k ≤ n
  pub small : word < 2 ^ 32
  pub stands : (b : Beside) → Begun b.tick first → word0 ≡ b.word → Joined b n log
      → AllStand b (first_of k log) gains × (word ≡ (beside_after b (first_of k log)).word)

pub walk_begins : (log : List ℕ) (n : ℕ) (first : List Gain) (word0 : ℕ) → word0 < 2 ^ 32 → Walks log n first word0 first word0 0
unfolding beside_after
walk_begins log n first word0 small = record { inside = omega arith; small = small; stands = λ b begun e joined. (stands_none b first begun, e) }

-- Within record k, of the word before it and the word next after it: `altered` are the bits that are still to be gone through.
pub record Bits (log : List ℕ) (k : ℕ) (before : List Gain) (word next : ℕ) (gains : List Gain) (altered : ℕ) : Type 0 where
  pub small : altered < 2 ^ 32
  pub differs : (i : ℕ) → is_closed i altered ≡ true → word / 2 ^ i % 2 ≢ next / 2 ^ i % 2
  pub part : (b : Beside) → AllStand b (first_of k log) before → word ≡ (beside_after b (first_of k log)).word
      → Joins (beside_after b (first_of k log)) (record_at Sixteen k log)
      → PartStand b (first_of k log) (first_of k log ++ (record_at Sixteen k log ∷ [])) altered gains

pub bits_begin : (log : List ℕ) (k : ℕ) (before : List Gain) (word next : ℕ) → word < 2 ^ 32 → next < 2 ^ 32
    → next ≡ word_from (record_at Sixteen k log) → Bits log k before word next before (bit_xor word next)
bits_begin log k before word next f g n-is = record {
  small = xor_lt 32 word next f g;
  differs = λ i set. set_differs i word next set;
  part = λ b all e j.
      subst (λ v. PartStand b (first_of k log) (first_of k log ++ (record_at Sixteen k log ∷ [])) (bit_xor v next) before) (sym e)
      (subst (λ v. PartStand b (first_of k log) (first_of k log ++ (record_at Sixteen k log ∷ [])) (bit_xor (beside_after b (first_of k log)).word v) before)
      (sym n-is) (part_begins b (first_of k log) (record_at Sixteen k log) j before all));
}

module _ (log : List ℕ) (k : ℕ) (before : List Gain) (word next : ℕ) (gains : List Gain) (altered : ℕ) (bits : Bits log k before word next gains altered) where
  module _ (some : altered ≢ 0) where
    low : Lowest 32 altered
    low = lowest 32 altered (omega arith) bits.small

    -- the lowest of them is the bit of a channel
    pub bit_there : count_trailing_zeros 32 altered < 32
    bit_there = low.within

    pub less_left : bit_and altered (altered - 1) < altered
    less_left = cleared_less altered low.above (count_trailing_zeros 32 altered) low.is

    pub bits_go : next ≡ word_from (record_at Sixteen k log) → {g : Gain} {tick counted : ℕ} → tick ≡ (record_at Sixteen k log).tick
        → counted ≡ one_if (is_change (record_at Sixteen k log))
        → g ≡ switched_of (get_or gains (count_trailing_zeros 32 altered) no_gain) (next / 2 ^ count_trailing_zeros 32 altered) tick counted
        → Bits log k before word next (set gains (count_trailing_zeros 32 altered) g) (bit_and altered (altered - 1))
    bits_go n-is {g} {tick} {counted} t-is c-is is =
        let r = record_at Sixteen k log in
        let at = count_trailing_zeros 32 altered in
        let old = get_or gains at no_gain in
        let there = bit_set altered low.above at low.is in
        let gain : g ≡ switched_of old (word_from r / 2 ^ at) r.tick (one_if (is_change r)) =
        is ∙ ap (λ v. switched_of old (v / 2 ^ at) tick counted) n-is ∙ ap (λ t. switched_of old (word_from r / 2 ^ at) t counted) t-is
        ∙ ap (switched_of old (word_from r / 2 ^ at) r.tick) c-is in
        record {
          small = lt_of_lt_of_le less_left (le_of_lt bits.small);
          differs = λ i set. bits.differs i (left i set);
          part = λ b all e j.
              subst (λ h. PartStand b (first_of k log) (first_of k log ++ (r ∷ [])) (bit_and altered (altered - 1)) (set gains at h)) (sym gain)
              (part_goes b (first_of k log) r j altered gains (bits.part b all e j) low.above at low.is bit_there
              (subst (λ v. v / 2 ^ at % 2 ≢ word_from r / 2 ^ at % 2) e (subst (λ v. word / 2 ^ at % 2 ≢ v / 2 ^ at % 2) n-is (bits.differs at there))));
        }
      where
        left : (i : ℕ) → is_closed i (bit_and altered (altered - 1)) ≡ true → is_closed i altered ≡ true
        left i set = go (eqb i (count_trailing_zeros 32 altered)) refl
          where
            go : (x : Bool) → eqb i (count_trailing_zeros 32 altered) ≡ x → is_closed i altered ≡ true
            go true e =
                absurd (true≢false (sym set ∙ ap (λ m. is_closed m (bit_and altered (altered - 1))) (eqb-true i (count_trailing_zeros 32 altered) e)
                ∙ bit_cleared altered low.above (count_trailing_zeros 32 altered) low.is))
            go false e =
                sym (bit_other altered low.above (count_trailing_zeros 32 altered) low.is i (eqb-false i (count_trailing_zeros 32 altered) e)) ∙ set

    -- the channel that is next stands at what it asks of the record
    pub bit_asks : (b : Beside) → AllStand b (first_of k log) before → word ≡ (beside_after b (first_of k log)).word
        → Joins (beside_after b (first_of k log)) (record_at Sixteen k log)
        → Stands (count_trailing_zeros 32 altered) b (first_of k log) (get_or gains (count_trailing_zeros 32 altered) no_gain)
    bit_asks b all e j =
        (bits.part b all e j).due (count_trailing_zeros 32 altered) bit_there (bit_set altered low.above (count_trailing_zeros 32 altered) low.is)

  -- no bit is left: the record is done
  pub walk_goes : (n : ℕ) (first : List Gain) (word0 : ℕ) → Walks log n first word0 before word k → k < n → next < 2 ^ 32
      → next ≡ word_from (record_at Sixteen k log) → altered ≡ 0 → Walks log n first word0 gains next (k + 1)
  walk_goes n first word0 walks lt small n-is none = record {
    inside = omega arith;
    small = small;
    stands = λ b begun e joined.
        let old = walks.stands b begun e joined in
        let j = joined k lt in (
          subst (λ rs. AllStand b rs gains) (sym (first_more k log))
              (part_ends b (first_of k log) (record_at Sixteen k log) j altered gains (bits.part b old.0 old.1 j) none),
          n-is ∙ ap (λ (x : Beside). x.word) (sym (beside_first b k log)),
        );
  }

-- ---- what the walk asks of a gain at record k, and what it has at the end

module _ (log : List ℕ) (n : ℕ) (first : List Gain) (word0 : ℕ) (gains : List Gain) (word k : ℕ) (walks : Walks log n first word0 gains word k) where
  -- a channel that is switched: its numbers are in reach
  pub record Asks (g : Gain) (tick counted : ℕ) : Type 0 where
    pub since : g.since ≤ tick
    pub ticks : g.ticks ≤ g.since
    pub one : counted ≤ 1
    pub closings : g.closings < 8192
    pub openings : g.openings < 8192

  one_few : (x : Bool) → one_if x ≤ 1
  one_few true = omega arith
  one_few false = omega arith

  pub asks : (b : Beside) → Begun b.tick first → word0 ≡ b.word → Joined b n log → n ≤ most_records Sixteen → k < n → {now : List Gain}
      → {next altered : ℕ} → Bits log k gains word next now altered → altered ≢ 0 → {r : Record} {counted : ℕ} → r ≡ record_at Sixteen k log
      → counted ≡ one_if (is_change r) → Asks (get_or now (count_trailing_zeros 32 altered) no_gain) r.tick counted
  asks b begun e joined few lt {now} {next} {altered} bits some {r} {counted} r-is c-is =
      let old = walks.stands b begun e joined in
      let j = joined k lt in
      let at = count_trailing_zeros 32 altered in
      let s = bit_asks log k gains word next now altered bits some b old.0 old.1 j in
      let long = length_records_in Sixteen k log in
      let t = ap (λ (x : Record). x.tick) r-is in
      record {
        since = omega (arith, s.since, j.later);
        ticks = s.within;
        one = omega (arith, one_few (is_change r));
        closings = omega (arith, s.closings, count_few (closes at) (first_of k log));
        openings = omega (arith, s.openings, count_few (opens at) (first_of k log));
      }

  pub walk_ends : (b : Beside) → Begun b.tick first → word0 ≡ b.word → Joined b n log → n ≤ k → AllStand b (first_of n log) gains
  walk_ends b begun e joined le =
      let same : k ≡ n = omega (arith, walks.inside) in subst (λ m. AllStand b (first_of m log) gains) same (walks.stands b begun e joined).0
