-- What the reader told of a log, and what is kept beside the totals behind it.
-- Assumes nothing.
use mathlib.Core.Path.{◌≡◌, refl, sym, ap, subst, ◌∙◌}
use Prim.Native.Nat.{ℕ, zero, suc, ◌+◌, ◌*◌, ◌/◌, ◌≤◌, ◌<◌}
use native.Mathlib.Nat.{add-zero}
use native.Mathlib.Numerals.{add-one}
use native.Mathlib.Omega.{arith}
use mathlib.Core.Bool.{Bool, true, false, ◌&&◌, ◌||◌}
use mathlib.Core.List.{List, [], ◌∷◌}
use lib.ListN.{length, drop}
use lib.Dec.{eqb, leb, ltb}
use borrow.Author.Tests.{eqb-true, eq-eqb, leb-true, le-leb}
use Rattle.std.specs.Prelude.{if◌then◌else◌, Option, Some, None}
use Rattle.formats.specs.Checks.{passed, ◌>>◌, ◌or_else◌}
use Rattle.formats.proofs.Checks.{both_true, either_true, or_false, not_passed}
use Rattle.boxlog.specs.Record.{is_cause, is_kind_and_cause}
use Rattle.reader.specs.declared.Record.{Record}
use Rattle.reader.specs.declared.Told.{Told}
use Rattle.reader.specs.declared.Layout.TheVariants.{Sixteen}
use Rattle.reader.specs.Possible.{last_of}
use Rattle.reader.specs.Layout.{size_of, most_records}
use Rattle.reader.specs.Reading.{record_at, no_record, as_gap, gap_told, last_record, is_change_record, is_gap, joins, can_hold, may_follow}
use Rattle.reader.proofs.Possible.{last_snoc}
use Rattle.reader.proofs.Walking.{last_more}
use Rattle.reader.proofs.Rows.{length_records_in}
use Rattle.reader.proofs.Exactly.{accepted_whole, records_read, records_fill}
use Rattle.reader.proofs.Sizes.{most_records_lem}
use Rattle.reader.proofs.Following.{accepted_next, ticks_rise}
use Rattle.reader.proofs.PossibleKinds.{accepted_stand}
use Rattle.channels.specs.declared.Beside.{Beside}
use Rattle.channels.specs.Totals.{is_change, word_from, lost_in, is_or_more, beside_one, beside_after}
use Rattle.channels.specs.Bringing.{is_later, matches, is_total}
use Rattle.channels.specs.Walk.{first_of, Reads, joining, lost_told, beside_told, Joins, Joined}
use Rattle.channels.proofs.Behind.{first_more, beside_first}

-- ---- one record

-- a change loses nothing, and leaves its own word
pub no_loss : (r : Record) → r.kind ≡ 1 → lost_in r ≡ 0
unfolding lost_in
no_loss r e = rw (eq-eqb r.kind 1 e)

not_more : (r : Record) → r.kind ≡ 1 → is_or_more r ≡ false
unfolding is_or_more
not_more r e = ap (λ n. eqb n 4294967295) (no_loss r e)

pub own_word : (r : Record) → r.kind ≡ 1 → word_from r ≡ r.value
unfolding word_from
own_word r e = rw (eq-eqb r.kind 1 e)

-- what the reader takes for the number lost is what the last record says of it
lost_is : (r : Record) → is_kind_and_cause r.kind r.cause ≡ true → (as_gap r).value ≡ lost_in r
unfolding lost_in is_kind_and_cause
lost_is r possible =
    either_true (eqb r.kind 1 && is_cause r.cause) (eqb r.kind 2 && eqb r.cause 0) possible
    (λ x. one (eqb-true r.kind 1 (both_true (eqb r.kind 1) (is_cause r.cause) x).0))
    (λ x. two (eqb-true r.kind 2 (both_true (eqb r.kind 2) (eqb r.cause 0) x).0))
  where
    one : r.kind ≡ 1 → (as_gap r).value ≡ (if eqb r.kind 1 then 0 else r.value)
    one e = rw e

    two : r.kind ≡ 2 → (as_gap r).value ≡ (if eqb r.kind 1 then 0 else r.value)
    two e = rw e

-- and so it is told
gap_lost : (r : Record) → lost_told (gap_told (as_gap r)) ≡ (as_gap r).value
gap_lost r = go (eqb r.kind 2) refl
  where
    go : (x : Bool) → eqb r.kind 2 ≡ x → lost_told (gap_told (if x then r else no_record)) ≡ (if x then r else no_record).value
    go true e = rw e
    go false e = refl

-- ---- the first records

-- where they are changes, nothing is lost in them
changes_keep : (b : Beside) (log : List ℕ) (k : ℕ) → ((j : ℕ) → j < k → (record_at Sixteen j log).kind ≡ 1)
    → ((beside_after b (first_of k log)).unknown ≡ b.unknown) × ((beside_after b (first_of k log)).more ≡ b.more)
unfolding beside_after
changes_keep b log zero all = (refl, refl)
changes_keep b log (suc k) all =
    let old = changes_keep b log k (λ j lt. all j (omega arith)) in
    let l = beside_after b (first_of k log) in
    let r = record_at Sixteen k log in
    let is = ap (λ n. beside_after b (first_of n log)) (sym (add-one k)) ∙ beside_first b k log in
    let one = all k (omega arith) in (
      ap (λ (x : Beside). x.unknown) is ∙ ap (λ n. l.unknown + n) (no_loss r one) ∙ add-zero l.unknown ∙ old.0,
      ap (λ (x : Beside). x.more) is ∙ ap (λ m. l.more || m) (not_more r one) ∙ or_false l.more ∙ old.1,
    )

-- a record that joins to the change before it
follows_joins : (b r : Record) → may_follow Sixteen b r ≡ true → is_change r ≡ true → r.word ≡ b.value
unfolding may_follow joins is_gap
follows_joins b r may change =
    let x = both_true (eqb b.kind 1 && leb b.tick r.tick) ((is_change_record Sixteen r && eqb b.value r.word)
    || ((eqb r.kind 2 && eqb r.cause 0 && ltb 0 r.value) && can_hold Sixteen b r)) may in
    either_true (is_change_record Sixteen r && eqb b.value r.word) ((eqb r.kind 2 && eqb r.cause 0 && ltb 0 r.value) && can_hold Sixteen b r) x.1
    (λ y. sym (eqb-true b.value r.word (both_true (is_change_record Sixteen r) (eqb b.value r.word) y).1))
    (λ y. absurd (no_gap (both_true (eqb r.kind 2 && eqb r.cause 0 && ltb 0 r.value) (can_hold Sixteen b r) y).0))
  where
    no_gap : (eqb r.kind 2 && eqb r.cause 0 && ltb 0 r.value) ≡ true → ⊥
    no_gap e =
        let one = eqb-true r.kind 1 change in
        let two = eqb-true r.kind 2 (both_true (eqb r.kind 2) (eqb r.cause 0)
        (both_true (eqb r.kind 2 && eqb r.cause 0) (ltb 0 r.value) e).0).0 in
        omega arith

-- the first record of a log, where neither 072 nor 073 is told
join_says : (x y : Bool) → (x or_else 72 >> y or_else 73) ≡ passed tt → (x ≡ true) × (y ≡ true)
unfolding ◌>>◌ ◌or_else◌
join_says true true e = (refl, refl)
join_says true false e = absurd (not_passed e)
join_says false y e = absurd (not_passed e)

joins_first : (b : Beside) (r : Record) (rs : List Record) → joining b (r ∷ rs) ≡ passed tt → Joins (beside_after b []) r
unfolding joining is_later matches beside_after
joins_first b r rs e =
    let x = join_says (leb b.tick r.tick) (eqb r.word b.word) e in
    record { later = leb-true b.tick r.tick x.0; word = λ change. eqb-true r.word b.word x.1 }

-- ---- a log that is read

-- what is kept beside the totals, where the number unknown does not pass the end
abbrev pub whole : Beside → Option Beside
whole l = if is_total l.unknown then Some l else None

module _ (t : Told) (log : List ℕ) (reads : Reads t log) where
  abbrev rs : List Record
  rs = first_of t.records log

  long : length rs ≡ t.records
  long = length_records_in Sixteen t.records log

  -- its records fill it, and are no more than a log has
  pub fills : size_of Sixteen * t.records ≤ length log
  fills = omega (arith, records_fill Sixteen log rs reads.read, long)

  pub few : t.records ≤ most_records Sixteen
  few =
      let all : t.records ≡ length log / 16 =
      sym long ∙ ap length (records_read Sixteen log rs reads.read) ∙ length_records_in Sixteen (length log / 16) log in
      subst (λ m. m ≤ most_records Sixteen) (sym all) (most_records_lem Sixteen (length log) (accepted_whole Sixteen log rs reads.read).most)

  -- what is not last is a change
  change_before : (j : ℕ) → suc j < t.records → (record_at Sixteen j log).kind ≡ 1
  change_before j lt = (ticks_rise Sixteen log rs j reads.read (subst (λ m. suc j < m) (sym long) lt)).0

  module _ (b : Beside) where
    pub beside_none : t.records ≡ 0 → b ≡ beside_after b (first_of t.records log)
    unfolding beside_after
    beside_none e = ap (λ n. beside_after b (first_of n log)) (sym e)

    last_is : (m : ℕ) → t.records ≡ suc m → last_of no_record (first_of t.records log) ≡ record_at Sixteen m log
    last_is m e =
        ap (λ n. last_of no_record (first_of n log)) (e ∙ sym (add-one m)) ∙ ap (last_of no_record) (first_more m log)
        ∙ last_snoc no_record (first_of m log) (record_at Sixteen m log)

    last_read : (m : ℕ) → t.records ≡ suc m → t.last ≡ Some (record_at Sixteen m log)
    last_read m e =
        ap (λ (x : Told). x.last) reads.told ∙ ap (λ n. last_record (first_of n log)) (e ∙ sym (add-one m))
        ∙ ap last_record (first_more m log) ∙ last_more (first_of m log) (record_at Sixteen m log)

    lost_read : (m : ℕ) → t.records ≡ suc m → lost_told t.gap ≡ lost_in (record_at Sixteen m log)
    lost_read m e =
        let there = (accepted_stand Sixteen log rs m reads.read (subst (λ k. m < k) (sym (long ∙ e)) (omega arith))).1 in
        ap (λ (x : Told). lost_told x.gap) reads.told ∙ ap (λ (r : Record). lost_told (gap_told (as_gap r))) (last_is m e)
        ∙ gap_lost (record_at Sixteen m log) ∙ lost_is (record_at Sixteen m log) there

    beside_some : (m : ℕ) → t.records ≡ suc m → let r = record_at Sixteen m log in
        record { tick = r.tick; word = word_from r; unknown = b.unknown + lost_told t.gap; more = b.more || eqb (lost_told t.gap) 4294967295 }
        ≡ beside_after b (first_of t.records log)
    unfolding is_or_more
    beside_some m e =
        let l = beside_after b (first_of m log) in
        let r = record_at Sixteen m log in
        let lost = lost_read m e in
        let keep = changes_keep b log m (λ j lt. change_before j (subst (λ k. suc j < k) (sym e) (omega arith))) in
        let is : beside_after b (first_of t.records log) ≡ beside_one l r =
        ap (λ n. beside_after b (first_of n log)) (e ∙ sym (add-one m)) ∙ beside_first b m log in
        (λ i. record {
          tick = r.tick;
          word = word_from r;
          unknown = (ap (λ n. n + lost_told t.gap) (sym keep.0) ∙ ap (λ n. l.unknown + n) lost) i;
          more = (ap (λ x. x || eqb (lost_told t.gap) 4294967295) (sym keep.1) ∙ ap (λ n. l.more || eqb n 4294967295) lost) i;
        })
        ∙ sym is

    -- what the code keeps beside the totals
    pub beside_is : b.unknown ≤ 18446744073709551615 → beside_told b t.last (lost_told t.gap) ≡ whole (beside_after b (first_of t.records log))
    beside_is fits = go t.records refl
      where
        go : (k : ℕ) → t.records ≡ k → beside_told b t.last (lost_told t.gap) ≡ whole (beside_after b (first_of t.records log))
        go zero e =
            let none : t.last ≡ None = ap (λ (x : Told). x.last) reads.told ∙ ap (λ n. last_record (first_of n log)) e in
            ap (λ l. beside_told b l (lost_told t.gap)) none ∙ total (is_total b.unknown) (le-leb b.unknown 18446744073709551615 fits) ∙ ap whole (beside_none e)
          where
            total : (x : Bool) → x ≡ true → Some b ≡ (if x then Some b else None)
            total x is = rw is
        go (suc m) e = ap (λ l. beside_told b l (lost_told t.gap)) (last_read m e) ∙ ap whole (beside_some m e)

    -- each record joins to the one before it, where the first joins to what was read last
    pub joined_all : joining b (first_of t.records log) ≡ passed tt → Joined b t.records log
    joined_all fine zero lt = first_joins t.records refl
      where
        first_joins : (k : ℕ) → t.records ≡ k → Joins (beside_after b (first_of 0 log)) (record_at Sixteen 0 log)
        first_joins zero e = absurd (omega arith)
        first_joins (suc m) e = joins_first b (record_at Sixteen 0 log) (first_of m (drop 16 log)) (ap (λ n. joining b (first_of n log)) (sym e) ∙ fine)
    joined_all fine (suc k) lt =
        let may = accepted_next Sixteen log rs k reads.read (subst (λ m. suc k < m) (sym long) lt) in
        let x = ticks_rise Sixteen log rs k reads.read (subst (λ m. suc k < m) (sym long) lt) in
        let is = ap (λ n. beside_after b (first_of n log)) (sym (add-one k)) ∙ beside_first b k log in
        subst (λ (l : Beside). Joins l (record_at Sixteen (suc k) log)) (sym is)
        (record {
          later = x.1;
          word = λ change. follows_joins (record_at Sixteen k log) (record_at Sixteen (suc k) log) may change ∙ sym (own_word (record_at Sixteen k log) x.0);
        })

-- what is kept, or that a total would pass the end
pub kept_is : {l a : Beside} → Some a ≡ whole l → (a ≡ l) × (is_total l.unknown ≡ true)
kept_is {l} {a} e = go (is_total l.unknown) refl e
  where
    go : (x : Bool) → is_total l.unknown ≡ x → Some a ≡ (if x then Some l else None) → (a ≡ l) × (is_total l.unknown ≡ true)
    go true f z = (cc, f)
    go false f z = absurd (cc)

pub none_is : (l : Beside) → None ≡ whole l → is_total l.unknown ≡ false
none_is l e = go (is_total l.unknown) refl e
  where
    go : (x : Bool) → is_total l.unknown ≡ x → None ≡ (if x then Some l else None) → is_total l.unknown ≡ false
    go true f z = absurd (cc)
    go false f z = f
