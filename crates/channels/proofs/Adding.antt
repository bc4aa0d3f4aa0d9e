-- What is carried does not matter: a log brings records of any earlier totals what it brings unused ones. And what comes of a log that is refused, of one with
-- no record, and of logs behind a refused one.
-- Assumes nothing.
use mathlib.Core.Path.{◌≡◌, refl, sym, ap, subst, ◌∙◌}
use Prim.Native.Nat.{ℕ, zero, suc, ◌+◌, ◌≤◌, ◌<◌}
use native.Mathlib.Nat.{add-zero, zero-add, add_assoc}
use native.Mathlib.Omega.{arith}
use mathlib.Core.Bool.{Bool, true, false, ◌&&◌, ◌||◌}
use mathlib.Core.List.{List, [], ◌∷◌}
use lib.ListN.{length, get_or, replicate, get_or-replicate}
use borrow.Author.Tests.{le-leb, leb-true}
use Rattle.formats.specs.Checks.{Res, refused, passed, ◌>>=◌, ◌>>◌, ◌or_else◌}
use Rattle.formats.proofs.Checks.{not_passed, passed_same, both_true, or_false}
use Rattle.reader.specs.declared.Record.{Record}
use Rattle.reader.specs.Layout.{layout_of}
use Rattle.reader.specs.Reading.{read_after, reading_as}
use Rattle.channels.specs.declared.Channel.{Channel}
use Rattle.channels.specs.declared.Beside.{Beside}
use Rattle.channels.specs.Totals.{unused, is_or_more, lost_in, closes, opens, count_of, ticks_closed, beside_one, beside_after, map_from, all_from, forward_one}
use Rattle.channels.specs.Bringing.{log_for, is_later, matches, is_total, are_totals, are_in_reach, brought_by, bringing, bring_all, answer_of, records_of}
use Rattle.channels.specs.Adding.{plus, uncarried, Adds}
use Rattle.channels.proofs.Elements.{totals_are, all_at}
use Rattle.channels.proofs.Counting.{log_passes}

-- ---- what is brought

-- one channel's record
forward_adds : (b e : Beside) (rs : List Record) (c : Channel) (i : ℕ) → e.tick ≡ b.tick → e.word ≡ b.word
    → forward_one b rs c i ≡ plus c (forward_one e rs unused i)
unfolding forward_one
forward_adds b e rs c i t w =
    λ j. record {
      closings = c.closings + sym (zero-add (count_of (closes i) rs)) j;
      openings = c.openings + sym (zero-add (count_of (opens i) rs)) j;
      ticks = c.ticks + (ap (λ x. ticks_closed i x b.word rs) (sym t) ∙ ap (λ x. ticks_closed i e.tick x rs) (sym w)
          ∙ sym (zero-add (ticks_closed i e.tick e.word rs))) j;
    }

-- what is kept beside
or_assoc : (a b c : Bool) → ((a || b) || c) ≡ (a || (b || c))
or_assoc true b c = refl
or_assoc false b c = refl

record BesideAdds (b e : Beside) (rs : List Record) : Type 0 where
  tick : (beside_after b rs).tick ≡ (beside_after e rs).tick
  word : (beside_after b rs).word ≡ (beside_after e rs).word

beside_same : (b e : Beside) (rs : List Record) → e.tick ≡ b.tick → e.word ≡ b.word → BesideAdds b e rs
unfolding beside_after
beside_same b e [] t w = record { tick = sym t; word = sym w }
beside_same b e (r ∷ rs) t w = let x = beside_same (beside_one b r) (beside_one e r) rs refl refl in record { tick = x.tick; word = x.word }

unknown_adds : (b e : Beside) (n : ℕ) (rs : List Record) → b.unknown ≡ n + e.unknown → (beside_after b rs).unknown ≡ n + (beside_after e rs).unknown
unfolding beside_after
unknown_adds b e n [] is = is
unknown_adds b e n (r ∷ rs) is = unknown_adds (beside_one b r) (beside_one e r) n rs (ap (λ x. x + lost_in r) is ∙ add_assoc n e.unknown (lost_in r))

more_adds : (b e : Beside) (m : Bool) (rs : List Record) → b.more ≡ (m || e.more) → (beside_after b rs).more ≡ (m || (beside_after e rs).more)
unfolding beside_after
more_adds b e m [] is = is
more_adds b e m (r ∷ rs) is = more_adds (beside_one b r) (beside_one e r) m rs (ap (λ x. x || is_or_more r) is ∙ or_assoc m e.more (is_or_more r))

-- ---- element by element

module _ {A : Type 0} (d : A) where
  places : (j i : ℕ) → j + 1 + i ≡ j + suc i
  places j i = omega arith

  get_map : (f : A → ℕ → A) (cs : List A) (j i : ℕ) → i < length cs → get_or (map_from f cs j) i d ≡ f (get_or cs i d) (j + i)
  get_map f [] j i lt = absurd (omega arith)
  get_map f (c ∷ cs) j zero lt = ap (f c) (sym (add-zero j))
  get_map f (c ∷ cs) j (suc i) lt = get_map f cs (j + 1) i (omega arith) ∙ ap (f (get_or cs i d)) (places j i)

  all_there : (g : A → ℕ → Bool) (cs : List A) (j i : ℕ) → all_from g cs j ≡ true → i < length cs → g (get_or cs i d) (j + i) ≡ true
  all_there g [] j i e lt = absurd (omega arith)
  all_there g (c ∷ cs) j zero e lt = ap (g c) (add-zero j) ∙ (both_true (g c j) (all_from g cs (j + 1)) e).0
  all_there g (c ∷ cs) j (suc i) e lt =
      sym (ap (g (get_or cs i d)) (places j i)) ∙ all_there g cs (j + 1) i (both_true (g c j) (all_from g cs (j + 1)) e).1 (omega arith)

-- ---- a log that is brought forward

-- what its checks say
record Brought (cs : List Channel) (log : List ℕ) (b : Beside) (ds : List Channel) (d : Beside) (rs : List Record) : Type 0 where
  read : log_for (length cs) log ≡ passed rs
  later : is_later b rs ≡ true
  matched : matches b rs ≡ true
  reach : are_in_reach cs b rs ≡ true
  records : ds ≡ map_from (forward_one b rs) cs 0
  beside : d ≡ beside_after b rs

module _ (cs : List Channel) (log : List ℕ) (b : Beside) where
  abbrev checked : List Record → Bool → Bool → Bool → Res (List Channel × Beside)
  checked rs x y z = do
    x or_else 72
    y or_else 73
    z or_else 74
    passed (map_from (forward_one b rs) cs 0, beside_after b rs)

  brought_so : (ds : List Channel) (d : Beside) → bringing cs log b ≡ passed (ds, d) → (rs : List Record) × Brought cs log b ds d rs
  unfolding bringing brought_by ◌>>=◌ ◌>>◌ ◌or_else◌
  brought_so ds d is = go (log_for (length cs) log) refl is
    where
      behind : (rs : List Record) → log_for (length cs) log ≡ passed rs → (x : Bool) → is_later b rs ≡ x → (y : Bool) → matches b rs ≡ y
          → (z : Bool) → are_in_reach cs b rs ≡ z → checked rs x y z ≡ passed (ds, d) → Brought cs log b ds d rs
      behind rs r false ex y ey z ez is = absurd (not_passed is)
      behind rs r true ex false ey z ez is = absurd (not_passed is)
      behind rs r true ex true ey false ez is = absurd (not_passed is)
      behind rs r true ex true ey true ez is = record {
        read = r;
        later = ex;
        matched = ey;
        reach = ez;
        records = ap (λ (a : List Channel × Beside). a.0) (sym (passed_same is));
        beside = ap (λ (a : List Channel × Beside). a.1) (sym (passed_same is));
      }

      go : (r : Res (List Record)) → log_for (length cs) log ≡ r → (r >>= (λ rs. brought_by cs b rs)) ≡ passed (ds, d)
          → (rs : List Record) × Brought cs log b ds d rs
      go (refused e) er is = absurd (not_passed is)
      go (passed rs) er is = (rs, behind rs er (is_later b rs) refl (matches b rs) refl (are_in_reach cs b rs) refl is)

  so_brought : (rs : List Record) → log_for (length cs) log ≡ passed rs → is_later b rs ≡ true → matches b rs ≡ true → are_in_reach cs b rs ≡ true
      → bringing cs log b ≡ passed (map_from (forward_one b rs) cs 0, beside_after b rs)
  unfolding bringing brought_by ◌>>=◌ ◌>>◌ ◌or_else◌
  so_brought rs r x y z = rw (r, x, y, z)

later_uncarried : (b : Beside) (rs : List Record) → is_later (uncarried b) rs ≡ is_later b rs
unfolding is_later
later_uncarried b [] = refl
later_uncarried b (r ∷ rs) = refl

matches_uncarried : (b : Beside) (rs : List Record) → matches (uncarried b) rs ≡ matches b rs
unfolding matches
matches_uncarried b [] = refl
matches_uncarried b (r ∷ rs) = refl

says_totals : (c : Channel) → c.closings ≤ 18446744073709551615 → c.openings ≤ 18446744073709551615 → c.ticks ≤ 18446744073709551615 → are_totals c ≡ true
unfolding are_totals
says_totals c x y z = rw (le-leb c.closings 18446744073709551615 x, le-leb c.openings 18446744073709551615 y, le-leb c.ticks 18446744073709551615 z)

-- a part of a total is one
part_totals : (c d : Channel) → are_totals (plus c d) ≡ true → are_totals d ≡ true
part_totals c d e =
    let t = totals_are (plus c d) e in says_totals d (omega (arith, t.0)) (omega (arith, t.1)) (omega (arith, t.2))

part_total : (n v : ℕ) → is_total (n + v) ≡ true → is_total v ≡ true
part_total n v e = let t = leb-true (n + v) 18446744073709551615 e in le-leb v 18446744073709551615 (omega arith)

reached : (cs : List Channel) (b : Beside) (rs : List Record) → are_in_reach cs b rs ≡ true
    → (is_total (beside_after b rs).unknown && all_from (λ c i. are_totals (forward_one b rs c i)) cs 0) ≡ true
unfolding are_in_reach
reached cs b rs e = e

in_reach : (e : Beside) (rs : List Record) → is_total (beside_after e rs).unknown ≡ true → ((i : ℕ) → i < 32 → are_totals (forward_one e rs unused i) ≡ true)
    → are_in_reach (replicate 32 unused) e rs ≡ true
unfolding are_in_reach
in_reach e rs u each =
    rw u
    (all_at unused (λ c i. are_totals (forward_one e rs c i)) (replicate 32 unused) 0
    (λ i lt. ap (λ c. are_totals (forward_one e rs c (0 + i))) (get_or-replicate 32 i unused unused lt)
    ∙ ap (λ j. are_totals (forward_one e rs unused j)) (zero-add i)
    ∙ each i lt))

-- Whatever was carried, a log brings the same.
pub brings_the_same : (cs : List Channel) (log : List ℕ) (b : Beside) (ds : List Channel) (d : Beside) → bringing cs log b ≡ passed (ds, d) → Adds cs log b ds d
brings_the_same cs log b ds d is = go (brought_so cs log b ds d is)
  where
    fresh : List Channel
    fresh = replicate 32 unused

    go : ((rs : List Record) × Brought cs log b ds d rs) → Adds cs log b ds d
    go (rs, x) =
        let e = uncarried b in
        let count = (log_passes (length cs) log rs x.read).count in
        let adds : (i : ℕ)
        → forward_one b rs (get_or cs i unused) i
        ≡ plus (get_or cs i unused) (forward_one e rs unused i) =
        λ i. forward_adds b e rs (get_or cs i unused) i refl refl in
        let unknown = unknown_adds b e b.unknown rs (sym (add-zero b.unknown)) in
        let two = both_true (is_total (beside_after b rs).unknown) (all_from (λ c i. are_totals (forward_one b rs c i)) cs 0) (reached cs b rs x.reach) in
        let each : (i : ℕ) → i < 32
        → are_totals (forward_one e rs unused i)
        ≡ true =
        λ i lt. part_totals (get_or cs i unused) (forward_one e rs unused i)
        (ap are_totals (sym (adds i)) ∙ sym (ap (λ j. are_totals (forward_one b rs (get_or cs i unused) j)) (zero-add i))
        ∙ all_there unused (λ c j. are_totals (forward_one b rs c j)) cs 0 i two.1 (subst (λ n. i < n) (sym count) lt)) in
        let reach = in_reach e rs (part_total b.unknown (beside_after e rs).unknown (ap is_total (sym unknown) ∙ two.0)) each in
        let same = beside_same b e rs refl refl in
        record {
          zs = map_from (forward_one e rs) fresh 0;
          z = beside_after e rs;
          unused_ones = so_brought fresh log e rs (ap (λ n. log_for n log) (sym count) ∙ x.read) (later_uncarried b rs ∙ x.later)
              (matches_uncarried b rs ∙ x.matched) reach;
          channels =
              λ i lt.
              ap (λ l. get_or l i unused) x.records ∙ get_map unused (forward_one b rs) cs 0 i (subst (λ n. i < n) (sym count) lt)
              ∙ ap (forward_one b rs (get_or cs i unused)) (zero-add i) ∙ adds i
              ∙ ap (plus (get_or cs i unused))
              (sym (get_map unused (forward_one e rs) fresh 0 i lt
              ∙ ap (λ c. forward_one e rs c (0 + i)) (get_or-replicate 32 i unused unused lt)
              ∙ ap (forward_one e rs unused) (zero-add i)));
          tick = ap (λ (y : Beside). y.tick) x.beside ∙ same.tick;
          word = ap (λ (y : Beside). y.word) x.beside ∙ same.word;
          unknown = ap (λ (y : Beside). y.unknown) x.beside ∙ unknown;
          more = ap (λ (y : Beside). y.more) x.beside ∙ more_adds b e b.more rs (sym (or_false b.more));
        }

-- ---- refused, with no record, and in a row

-- "Nothing changes": the records and what is kept beside them are as they were; and the number is 0 exactly where nothing is refused.
pub refused_keeps : (cs : List Channel) (log : List ℕ) (b : Beside) (e : ℕ) → bringing cs log b ≡ refused e
    → (records_of cs (bringing cs log b) ≡ cs) × (answer_of b (bringing cs log b) ≡ record { refusal = e; beside = b })
refused_keeps cs log b e is = (ap (records_of cs) is, ap (answer_of b) is)

pub passed_answers : (cs : List Channel) (log : List ℕ) (b : Beside) (ds : List Channel) (d : Beside) → bringing cs log b ≡ passed (ds, d)
    → (records_of cs (bringing cs log b) ≡ ds) × (answer_of b (bringing cs log b) ≡ record { refusal = 0; beside = d })
passed_answers cs log b ds d is = (ap (records_of cs) is, ap (answer_of b) is)

-- The first log that is refused ends it, and one that is not leaves what it brought to those behind it.
pub refused_ends : (cs : List Channel) (b : Beside) (log : List ℕ) (logs : List (List ℕ)) (e : ℕ) → bringing cs log b ≡ refused e
    → bring_all cs b (log ∷ logs) ≡ refused e
unfolding bring_all ◌>>=◌
refused_ends cs b log logs e is = rw is

pub passed_goes_on : (cs : List Channel) (b : Beside) (log : List ℕ) (logs : List (List ℕ)) (ds : List Channel) (d : Beside)
    → bringing cs log b ≡ passed (ds, d)
    → bring_all cs b (log ∷ logs) ≡ bring_all ds d logs
unfolding bring_all ◌>>=◌
passed_goes_on cs b log logs ds d is = rw is

pub none_left : (cs : List Channel) (b : Beside) → bring_all cs b [] ≡ passed (cs, b)
unfolding bring_all
none_left cs b = refl

-- A log with no record changes nothing.
forward_none : (b : Beside) (c : Channel) (i : ℕ) → forward_one b [] c i ≡ c
unfolding forward_one ticks_closed
forward_none b c i =
    λ j. record { closings = add-zero c.closings j; openings = add-zero c.openings j; ticks = add-zero c.ticks j }

map_none : (b : Beside) (cs : List Channel) (k : ℕ) → map_from (forward_one b []) cs k ≡ cs
map_none b [] k = refl
map_none b (c ∷ cs) k =
    ap (λ (d : Channel). d ∷ map_from (forward_one b []) cs (k + 1)) (forward_none b c k) ∙ ap (λ (ds : List Channel). c ∷ ds) (map_none b cs (k + 1))

none_read : (n : ℕ) → n ≡ 32 → log_for n [] ≡ passed []
unfolding log_for ◌>>=◌ ◌>>◌ ◌or_else◌ reading_as read_after layout_of
none_read n e = rw e

none_reach : (cs : List Channel) (b : Beside) → length cs ≡ 32 → ((i : ℕ) → i < 32 → are_totals (get_or cs i unused) ≡ true) → is_total b.unknown ≡ true
    → are_in_reach cs b [] ≡ true
unfolding are_in_reach beside_after
none_reach cs b count each total =
    rw total
    (all_at unused (λ c i. are_totals (forward_one b [] c i)) cs 0
    (λ i lt. ap are_totals (forward_none b (get_or cs i unused) (0 + i)) ∙ each i (subst (λ n. i < n) count lt)))

pub empty_log : (cs : List Channel) (b : Beside) → length cs ≡ 32 → ((i : ℕ) → i < 32 → are_totals (get_or cs i unused) ≡ true) → is_total b.unknown ≡ true
    → bringing cs [] b ≡ passed (cs, b)
unfolding is_later matches beside_after
empty_log cs b count each total =
    so_brought cs [] b [] (none_read (length cs) count) refl refl (none_reach cs b count each total) ∙ ap (λ l. passed (l, b)) (map_none b cs 0)
