-- The refusals: a log is refused with a number exactly if that number's reason is the first that holds.
-- Assumes nothing.
use Prim.Native.Nat.{ℕ, zero, suc, ◌+◌, ◌/◌, ◌≤◌, ◌<◌}
use native.Mathlib.Omega.{arith}
use native.Mathlib.Nat.{zero-add}
use mathlib.Core.Path.{◌≡◌, refl, sym, ap, subst, ◌∙◌}
use mathlib.Core.Logic.{◌≢◌}
use mathlib.Core.Bool.{Bool, true, false, ◌&&◌, true≢false, false≢true}
use mathlib.Core.List.{List, [], ◌∷◌}
use lib.ListN.{length, get_or, drop}
use lib.Dec.{eqb}
use borrow.Author.Tests.{eqb-false, ne_eqb, lt-leb, leb-false}
use Rattle.formats.specs.Bytes.{are_bytes}
use Rattle.formats.specs.Checks.{Res, refused, passed, in_order, ◌>>=◌, ◌>>◌, ◌or_else◌}
use Rattle.formats.proofs.Checks.{not_passed, refused_same, rule_refuses, rule_fails}
use Rattle.formats.proofs.Refusals.{Check, check_at, Before, Told, refuses, passes, told, Worded, told_first, first_told, none_told, passed_none}
use Rattle.reader.specs.declared.Record.{Record}
use Rattle.reader.specs.declared.Layout.{Layout}
use Rattle.reader.specs.declared.Layout.TheVariants.{Twelve, Sixteen}
use Rattle.reader.specs.Layout.{layout_of, records_in}
use Rattle.reader.specs.Reading.{record_at, reading_as, reading}
use Rattle.reader.specs.Reasons.{GoesBy}
use Rattle.reader.proofs.Exactly.{records_read}
use Rattle.reader.proofs.Reasons.{refused_exactly, goes_by, goes_alone}
use Rattle.channels.specs.declared.Channel.{Channel}
use Rattle.channels.specs.declared.Beside.{Beside}
use Rattle.channels.specs.Totals.{unused, closes, opens, count_of, ticks_closed, beside_after, map_from, all_from, forward_one}
use Rattle.channels.specs.Bringing.{is_sixteen, log_for, is_later, matches, is_total, are_totals, are_in_reach, brought_by, bringing}
use Rattle.channels.specs.Reasons.{records_of_log, most_total, PassesEnd, closings, openings, ticks, unknown}
use Rattle.channels.specs.Reasons.{Reason, FirstReason, e075, by_reader, e051, e072, e073, e074}
use Rattle.channels.proofs.Counting.{reading_numbers}
use Rattle.channels.proofs.Elements.{not_at, first_not}

-- ---- the checks, in their order

-- of the reader no more than whether it refuses
abbrev read_check : Res (List Record) → Check
read_check (refused e) = refused e
read_check (passed rs) = passed tt

module _ (cs : List Channel) (log : List ℕ) (b : Beside) where
  abbrev rs : List Record
  rs = records_of_log log

  abbrev whole : List Channel × Beside
  whole = (map_from (forward_one b rs) cs 0, beside_after b rs)

  abbrev checks : List Check
  checks =
      (eqb (length cs) 32 or_else 75) ∷ read_check (reading log) ∷ (is_sixteen (layout_of log) or_else 51) ∷ (is_later b rs or_else 72)
      ∷ (matches b rs or_else 73) ∷ (are_in_reach cs b rs or_else 74) ∷ []

  -- what is read of a log of 16-byte records
  read_is : (ss : List Record) → reading log ≡ passed ss → layout_of log ≡ Sixteen → ss ≡ rs
  read_is ss e m = records_read Sixteen log ss (ap (λ l. reading_as l log) (sym m) ∙ e)

  sixteen_is : (m : Layout) → is_sixteen m ≡ true → m ≡ Sixteen
  sixteen_is Sixteen e = refl
  sixteen_is Twelve e = absurd (false≢true e)

  by_checks : bringing cs log b ≡ in_order checks (passed whole)
  unfolding bringing log_for brought_by in_order ◌>>=◌ ◌>>◌ ◌or_else◌
  by_checks = go (eqb (length cs) 32) (reading log) (is_sixteen (layout_of log)) (λ ss e f. read_is ss e (sixteen_is (layout_of log) f)) refl refl
    where
      go : (x : Bool) (r : Res (List Record)) (y : Bool) → ((ss : List Record) → reading log ≡ passed ss → is_sixteen (layout_of log) ≡ true → ss ≡ rs)
          → reading log ≡ r → is_sixteen (layout_of log) ≡ y
          → ((x or_else 75 >> (r >>= (λ ss. y or_else 51 >> passed ss))) >>= (λ ss. brought_by cs b ss))
          ≡ in_order ((x or_else 75) ∷ read_check r ∷ (y or_else 51) ∷ (is_later b rs or_else 72) ∷ (matches b rs or_else 73) ∷ (are_in_reach cs b rs or_else 74) ∷ [])
          (passed whole)
      go false r y is er ey = refl
      go true (refused e) y is er ey = refl
      go true (passed ss) false is er ey = refl
      go true (passed ss) true is er ey = ap (brought_by cs b) (is ss er ey)

  -- ---- 072, 073

  nonempty : 16 ≤ length log → (n : ℕ) → length log / 16 ≡ suc n → rs ≡ record_at Sixteen 0 log ∷ records_in Sixteen n (drop 16 log)
  nonempty le n e = ap (λ m. records_in Sixteen m log) e

  -- the first record, where there is one
  at_first : (P : List Record → Type 0) → 16 ≤ length log → ((ss : List Record) → P (record_at Sixteen 0 log ∷ ss)) → P rs
  at_first P le f = go (length log / 16) refl
    where
      go : (n : ℕ) → length log / 16 ≡ n → P rs
      go zero e = absurd (omega arith)
      go (suc n) e = subst P (sym (nonempty le n e)) (f (records_in Sixteen n (drop 16 log)))

  -- a test of the first record that fails has one
  has_first : (test : List Record → Bool) → test [] ≡ true → test rs ≡ false
      → (16 ≤ length log) × ((ss : List Record) × (test (record_at Sixteen 0 log ∷ ss) ≡ false))
  has_first test none fails = go (length log / 16) refl
    where
      go : (n : ℕ) → length log / 16 ≡ n → (16 ≤ length log) × ((ss : List Record) × (test (record_at Sixteen 0 log ∷ ss) ≡ false))
      go zero e = absurd (true≢false (sym none ∙ ap (λ m. test (records_in Sixteen m log)) (sym e) ∙ fails))
      go (suc n) e = (omega arith, (records_in Sixteen n (drop 16 log), ap (λ m. test (records_in Sixteen m log)) (sym e) ∙ fails))

  -- ---- 074

  over : (v : ℕ) → is_total v ≡ false → most_total < v
  over v e = let lt = leb-false v most_total e in omega arith

  not_total : (v : ℕ) → most_total < v → is_total v ≡ false
  not_total v lt = lt-leb v most_total lt

  -- which of a channel's totals passes the end
  which : (i : ℕ) → i < length cs → are_totals (forward_one b rs (get_or cs i unused) i) ≡ false → PassesEnd cs b rs
  unfolding are_totals forward_one
  which i lt fails =
      go (is_total (c.closings + count_of (closes i) rs)) refl (is_total (c.openings + count_of (opens i) rs)) refl
      (is_total (c.ticks + ticks_closed i b.tick b.word rs)) refl fails
    where
      c : Channel
      c = get_or cs i unused

      go : (x : Bool) → is_total (c.closings + count_of (closes i) rs) ≡ x → (y : Bool) → is_total (c.openings + count_of (opens i) rs) ≡ y
          → (z : Bool) → is_total (c.ticks + ticks_closed i b.tick b.word rs) ≡ z → (x && (y && z)) ≡ false → PassesEnd cs b rs
      go false e y f z g is = closings i lt (over (c.closings + count_of (closes i) rs) e)
      go true e false f z g is = openings i lt (over (c.openings + count_of (opens i) rs) f)
      go true e true f false g is = ticks i lt (over (c.ticks + ticks_closed i b.tick b.word rs) g)
      go true e true f true g is = absurd (true≢false is)

  -- each of them does
  one_over : (c : Channel) (x y z : Bool) → is_total c.closings ≡ x → is_total c.openings ≡ y → is_total c.ticks ≡ z → (x && (y && z)) ≡ false
      → are_totals c ≡ false
  unfolding are_totals
  one_over c x y z e f g is = rw (e, f, g) is

  closings_over : (c : Channel) → most_total < c.closings → are_totals c ≡ false
  closings_over c lt = one_over c false (is_total c.openings) (is_total c.ticks) (not_total c.closings lt) refl refl refl

  openings_over : (c : Channel) → most_total < c.openings → are_totals c ≡ false
  openings_over c lt =
      one_over c (is_total c.closings) false (is_total c.ticks) refl (not_total c.openings lt) refl (and_false (is_total c.closings))
    where
      and_false : (x : Bool) → (x && false) ≡ false
      and_false true = refl
      and_false false = refl

  ticks_over : (c : Channel) → most_total < c.ticks → are_totals c ≡ false
  ticks_over c lt =
      one_over c (is_total c.closings) (is_total c.openings) false refl refl (not_total c.ticks lt)
      (both_false (is_total c.closings) (is_total c.openings))
    where
      both_false : (x y : Bool) → (x && (y && false)) ≡ false
      both_false true true = refl
      both_false true false = refl
      both_false false y = refl

  over_there : (i : ℕ) → i < length cs → are_totals (forward_one b rs (get_or cs i unused) i) ≡ false → are_in_reach cs b rs ≡ false
  unfolding are_in_reach
  over_there i lt fails =
      and_not (is_total (beside_after b rs).unknown)
      (not_at unused (λ c j. are_totals (forward_one b rs c j)) cs 0 i lt (ap (λ j. are_totals (forward_one b rs (get_or cs i unused) j)) (zero-add i) ∙ fails))
    where
      and_not : (x : Bool) {y : Bool} → y ≡ false → (x && y) ≡ false
      and_not true e = e
      and_not false e = refl

  passes_refuses : PassesEnd cs b rs → are_in_reach cs b rs ≡ false
  unfolding are_in_reach forward_one
  passes_refuses (closings i lt p) = over_there i lt (closings_over (forward_one b rs (get_or cs i unused) i) p)
  passes_refuses (openings i lt p) = over_there i lt (openings_over (forward_one b rs (get_or cs i unused) i) p)
  passes_refuses (ticks i lt p) = over_there i lt (ticks_over (forward_one b rs (get_or cs i unused) i) p)
  passes_refuses (unknown p) = rw (not_total (beside_after b rs).unknown p)

  reach_fails : are_in_reach cs b rs ≡ false → PassesEnd cs b rs
  unfolding are_in_reach
  reach_fails fails = go (is_total (beside_after b rs).unknown) refl fails
    where
      go : (x : Bool) → is_total (beside_after b rs).unknown ≡ x → (x && all_from (λ c i. are_totals (forward_one b rs c i)) cs 0) ≡ false → PassesEnd cs b rs
      go false e is = unknown (over (beside_after b rs).unknown e)
      go true e is =
          let x = first_not unused (λ c i. are_totals (forward_one b rs c i)) cs 0 is in
          which x.0 x.1.0 (ap (λ j. are_totals (forward_one b rs (get_or cs x.0 unused) j)) (sym (zero-add x.0)) ∙ x.1.1)

  later_fails : is_later b rs ≡ false → (16 ≤ length log) × ((record_at Sixteen 0 log).tick < b.tick)
  unfolding is_later
  later_fails fails = let x = has_first (is_later b) refl fails in (x.0, leb-false b.tick (record_at Sixteen 0 log).tick x.1.1)

  matches_fails : matches b rs ≡ false → (16 ≤ length log) × ((record_at Sixteen 0 log).word ≢ b.word)
  unfolding matches
  matches_fails fails = let x = has_first (matches b) refl fails in (x.0, eqb-false (record_at Sixteen 0 log).word b.word x.1.1)

  read_fails : (e : ℕ) (r : Res (List Record)) → read_check r ≡ refused e → r ≡ refused e
  read_fails e (refused d) is = ap refused (refused_same is)
  read_fails e (passed ss) is = absurd (not_passed (sym is))

  -- ---- the numbers

  -- no refusal is 0; and 072 and 073 are of a log with a record
  abbrev Numbered : ℕ → Type 0
  Numbered e = (0 < e) × (72 ≤ e → e ≤ 73 → 16 ≤ length log)

  number_at : (i e : ℕ) → i < 6 → check_at checks i ≡ refused e → Numbered e
  number_at zero e lt fails = let n = (rule_fails _ 75 fails).1 in (omega arith, λ low high. absurd (omega arith))
  number_at (suc zero) e lt fails =
      let n = reading_numbers (layout_of log) log e (read_fails e (reading log) fails) in (n.0, λ low high. absurd (omega (arith, n.1)))
  number_at (suc (suc zero)) e lt fails = let n = (rule_fails _ 51 fails).1 in (omega arith, λ low high. absurd (omega arith))
  number_at (suc (suc (suc zero))) e lt fails = let f = rule_fails _ 72 fails in (omega (arith, f.1), λ low high. (later_fails f.0).0)
  number_at (suc (suc (suc (suc zero)))) e lt fails = let f = rule_fails _ 73 fails in (omega (arith, f.1), λ low high. (matches_fails f.0).0)
  number_at (suc (suc (suc (suc (suc zero))))) e lt fails = let n = (rule_fails _ 74 fails).1 in (omega arith, λ low high. absurd (omega arith))
  number_at (suc (suc (suc (suc (suc (suc i)))))) e lt fails = absurd (omega arith)

  numbers : (e : ℕ) → bringing cs log b ≡ refused e → Numbered e
  numbers e is = go (told checks (passed whole))
    where
      go : Told checks (passed whole) (in_order checks (passed whole)) → Numbered e
      go (refuses i f lt before fails so) = subst Numbered (refused_same (sym so ∙ sym by_checks ∙ is)) (number_at i f lt fails)
      go (passes before so) = absurd (not_passed (sym is ∙ by_checks ∙ so))

  pub refused_above : (e : ℕ) → bringing cs log b ≡ refused e → 0 < e
  refused_above e is = (numbers e is).0

  pub joined_long : (e : ℕ) → bringing cs log b ≡ refused e → 72 ≤ e → e ≤ 73 → 16 ≤ length log
  joined_long e is = (numbers e is).1

  -- ---- the sentences

  module _ (are : are_bytes log ≡ true) where
    -- a sentence is named by its place and its number
    abbrev Says : ℕ × ℕ → Type 0
    Says s = Reason cs log b s.0 s.1

    abbrev place : ℕ × ℕ → ℕ
    place s = s.0

    abbrev number : ℕ × ℕ → ℕ
    number s = s.1

    read_passes : (r : Res (List Record)) → read_check r ≡ passed tt → (ss : List Record) × (r ≡ passed ss)
    read_passes (refused d) is = absurd (not_passed is)
    read_passes (passed ss) is = (ss, refl)

    twelve_is : (m : Layout) → is_sixteen m ≡ false → m ≡ Twelve
    twelve_is Twelve e = refl
    twelve_is Sixteen e = absurd (true≢false e)

    early : 16 ≤ length log → (record_at Sixteen 0 log).tick < b.tick → is_later b rs ≡ false
    unfolding is_later
    early le lt = at_first (λ ss. is_later b ss ≡ false) le (λ ss. lt-leb b.tick (record_at Sixteen 0 log).tick lt)

    other : 16 ≤ length log → (record_at Sixteen 0 log).word ≢ b.word → matches b rs ≡ false
    unfolding matches
    other le ne = at_first (λ ss. matches b ss ≡ false) le (λ ss. ne_eqb (record_at Sixteen 0 log).word b.word ne)

    reason_at : (i e : ℕ) → i < 6 → Before checks i → check_at checks i ≡ refused e → Reason cs log b i e
    reason_at zero e lt before fails = let f = rule_fails _ 75 fails in e075 refl f.1 (eqb-false (length cs) 32 f.0)
    reason_at (suc zero) e lt before fails = by_reader refl ((refused_exactly log are e).0 (read_fails e (reading log) fails))
    reason_at (suc (suc zero)) e lt before fails =
        let f = rule_fails _ 51 fails in
        let m = twelve_is (layout_of log) f.0 in
        e051 refl f.1 (read_passes (reading log) (before 1 (omega arith))) (subst (GoesBy log) m (goes_by log))
    reason_at (suc (suc (suc zero))) e lt before fails =
        let f = rule_fails _ 72 fails in
        let x = later_fails f.0 in e072 refl f.1 x.0 x.1
    reason_at (suc (suc (suc (suc zero)))) e lt before fails =
        let f = rule_fails _ 73 fails in
        let x = matches_fails f.0 in e073 refl f.1 x.0 x.1
    reason_at (suc (suc (suc (suc (suc zero))))) e lt before fails = let f = rule_fails _ 74 fails in e074 refl f.1 (reach_fails f.0)
    reason_at (suc (suc (suc (suc (suc (suc i)))))) e lt before fails = absurd (omega arith)

    refuses_there : (i e : ℕ) → Reason cs log b i e → check_at checks i ≡ refused e
    refuses_there i e (e075 at is ne) = rw (at, is) (rule_refuses 75 (ne_eqb (length cs) 32 ne))
    refuses_there i e (by_reader at first) = rw at (ap read_check ((refused_exactly log are e).1 first))
    refuses_there i e (e051 at is accepted goes) = rw (at, is) (rule_refuses 51 (ap is_sixteen (sym (goes_alone log Twelve goes))))
    refuses_there i e (e072 at is le lt) = rw (at, is) (rule_refuses 72 (early le lt))
    refuses_there i e (e073 at is le ne) = rw (at, is) (rule_refuses 73 (other le ne))
    refuses_there i e (e074 at is p) = rw (at, is) (rule_refuses 74 (passes_refuses p))

    worded : Worded place number Says checks
    worded = record {
      only = λ i e lt before fails. record { sentence = (i, e); says = reason_at i e lt before fails; there = refl; numbered = refl };
      so = λ s why before. refuses_there s.0 s.1 why;
    }

    -- A log is refused with a number if and only if the sentence of that number is the first that holds.
    pub refused_first : (e : ℕ) → bringing cs log b ≡ refused e → FirstReason cs log b e
    refused_first e is =
        let f = told_first worded whole e (sym by_checks ∙ is) in
        record {
          place = f.sentence.0;
          reason = subst (Reason cs log b f.sentence.0) f.numbered f.first.says;
          none_before = λ p g lt why. f.first.none_before (p, g) lt why;
        }

    pub first_refused : (e : ℕ) → FirstReason cs log b e → bringing cs log b ≡ refused e
    first_refused e f =
        by_checks ∙ first_told worded whole (f.place, e) (record { says = f.reason; none_before = λ s lt why. f.none_before s.0 s.1 lt why })

    -- It is brought forward if and only if none holds.
    pub passed_none_holds : (a : List Channel × Beside) → bringing cs log b ≡ passed a → (i e : ℕ) → Reason cs log b i e → ⊥
    passed_none_holds a is i e why = passed_none worded whole (sym by_checks ∙ is) (i, e) why

    pub none_holds_passed : ((i e : ℕ) → Reason cs log b i e → ⊥)
        → bringing cs log b ≡ passed (map_from (forward_one b (records_of_log log)) cs 0, beside_after b (records_of_log log))
    none_holds_passed none = by_checks ∙ none_told worded whole (λ s why. none s.0 s.1 why)
