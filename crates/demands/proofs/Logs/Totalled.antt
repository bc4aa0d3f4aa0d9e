-- 02, item 11, of the box: what the totals say that the logs of a box bring, emptied one after the other since a power-on and none left out.
-- Assumes nothing.
use mathlib.Core.Path.{◌≡◌, refl, sym, ap, subst, ◌∙◌}
use Prim.Native.Nat.{ℕ, ◌+◌, ◌≤◌, ◌<◌}
use native.Mathlib.Nat.{zero-add}
use native.Mathlib.Omega.{arith}
use mathlib.Core.Bool.{true, false, true≢false}
use mathlib.Core.List.{List, [], ◌∷◌, ◌++◌, append-nil}
use lib.ListN.{length, get_or, replicate, length-replicate, get_or-replicate}
use lib.Dec.{leb}
use borrow.Author.Tests.{le-leb, leb-false}
use Rattle.formats.specs.Checks.{refused, passed, all}
use Rattle.formats.proofs.Checks.{neither, not_passed, passed_same, refused_same}
use Rattle.reader.specs.declared.Record.{Record}
use Rattle.reader.specs.Possible.{most_number}
use Rattle.channels.specs.declared.Channel.{Channel}
use Rattle.channels.specs.declared.Beside.{Beside}
use Rattle.channels.specs.Totals.{is_closed, is_change, one_if, closes, opens, count_of, ticks_closed, unused, at_start, beside_after, map_from, forward_one}
use Rattle.channels.specs.Bringing.{are_totals, are_in_reach}
use Rattle.controller.specs.Controller.{Areas}
use Rattle.demands.specs.Histories.{Made, powering, Held, unpowered, after, AllHandOn, powered_on, since_power_on}
use Rattle.demands.specs.Seen.{outputs, note, notes}
use Rattle.demands.specs.Told.{Told, tell, tell_all, told}
use Rattle.demands.specs.LentBytes.{lend_bytes}
use Rattle.channels.specs.Bringing.{totals_of}
use Rattle.demands.specs.Switchings.{closings, openings, ticks, last_switched, Stretch, through, calls_of, Chain, logs_of}
use Rattle.demands.specs.Switchings.{AllRead, TotalsSeen, sum_of, closed_from}
use Rattle.demands.specs.SwitchingGaps.{capped_of, lost_of, kept_closings, kept_openings, gapped_ticks, last_read, lost_number_of, is_some_at_cap, TotalsKept}
use Rattle.demands.proofs.History.Telling.{after_more, told_more}
use Rattle.demands.proofs.Logs.Leading.{changes_lead}
use Rattle.demands.proofs.Logs.LogWords.{powered_begins}
use Rattle.demands.proofs.Logs.Together.{Comes, comes, passes, brought_together, read_once, length_map_from, map_from_at, all_from_lem, says_totals}
use Rattle.demands.proofs.Logs.Spans.{spans, spans_all, closed_few, WordsJoin, words_front}
use Rattle.demands.proofs.Logs.Stretches.{AllOf, all_of}
use Rattle.demands.proofs.Logs.Chains.{end_is, Chained, chained}
use Rattle.demands.proofs.Logs.Balanced.{balance, balance_records, none_closed, sum_balance, few_calls}
use Rattle.demands.proofs.Logs.NoGaps.{NoneLost, none_lost, as_seen}

-- ---- the numbers lost

-- as the gaps tell them, they are not more than those lost
capped_least : (zs : List Made) (ss : List Stretch) → capped_of zs ss ≤ lost_number_of zs ss
unfolding capped_of lost_number_of
capped_least zs [] = omega arith
capped_least zs (s ∷ ss) = omega (arith, capped_least (through zs s) ss)

-- and are those, where no gap is at its cap
capped_exact : (zs : List Made) (ss : List Stretch) → is_some_at_cap zs ss ≡ false → capped_of zs ss ≡ lost_number_of zs ss
unfolding capped_of lost_number_of is_some_at_cap
capped_exact zs [] e = refl
capped_exact zs (s ∷ ss) e =
    let n = length (lost_of zs s) in
    let two = neither (leb 4294967295 n) (is_some_at_cap (through zs s) ss) e in
    let lt : n < 4294967295 = leb-false 4294967295 n two.0 in
    let rest = capped_exact (through zs s) ss two.1 in
    omega arith

-- where none is lost their number is 0, and no gap is at its cap
sum_of_none : (zs : List Made) (ss : List Stretch) → NoneLost zs ss → lost_number_of zs ss ≡ 0
unfolding lost_number_of
sum_of_none zs [] none = refl
sum_of_none zs (s ∷ ss) none = rw none.0 (zero-add (lost_number_of (through zs s) ss) ∙ sum_of_none (through zs s) ss none.1)

none_capped : (zs : List Made) (ss : List Stretch) → NoneLost zs ss → is_some_at_cap zs ss ≡ false
unfolding is_some_at_cap
none_capped zs [] none = refl
none_capped zs (s ∷ ss) none = rw none.0 (none_capped (through zs s) ss none.1)

-- behind a power-on no tick is taken
powered_ticks : (before : List Made) (lent : Areas) → (told (powered_on before lent)).ticks ≡ 0
unfolding notes note tell_all tell
powered_ticks before lent = ap (λ (t : Told). t.ticks) (told_more before (powering lent ∷ []))

-- Any calls, a power-on, and a chain behind it; from the power-on on the caller hands on both areas, and every lent area holds bytes.
module _ (before : List Made) (lent : Areas) (ss : List Stretch) (chain : Chain (powered_on before lent) ss)
    (hands : AllHandOn (after unpowered (powered_on before lent)) (calls_of ss)) (bytes : lend_bytes (since_power_on before lent (calls_of ss)) ≡ true) where
  abbrev on : List Made
  on = powered_on before lent

  abbrev first : List Channel
  first = replicate 32 unused

  of : AllOf on ss
  of = all_of before lent ss on [] (append-nil on) (powered_begins before lent).0 chain hands bytes

  whole : Chained on at_start ss
  whole = chained ss on at_start of (sym (powered_begins before lent).1) (omega arith)

  come : Comes first at_start whole.all (totals_of (logs_of on ss))
  come = brought_together (logs_of on ss) first at_start whole.all (length-replicate 32 unused) whole.joined

  -- what passes is what all records together bring
  module _ (cs : List Channel) (b : Beside) (goes : totals_of (logs_of (powered_on before lent) ss) ≡ passed (cs, b)) where
    both : ◌≡◌ {A = List Channel × Beside} (cs, b) (map_from (forward_one at_start whole.all) first 0, beside_after at_start whole.all)
    both = go come
      where
        go : Comes first at_start whole.all (totals_of (logs_of on ss))
            → ◌≡◌ {A = List Channel × Beside} (cs, b) (map_from (forward_one at_start whole.all) first 0, beside_after at_start whole.all)
        go (comes r) = passed_same (sym goes ∙ r)
        go (passes r out) = absurd (not_passed (sym r ∙ goes))

    cs_is : cs ≡ map_from (forward_one at_start whole.all) first 0
    cs_is = ap (λ (x : List Channel × Beside). x.0) both

    b_is : b ≡ beside_after at_start whole.all
    b_is = ap (λ (x : List Channel × Beside). x.1) both

    -- the record of a channel
    one_is : (i : ℕ) → i < 32 → get_or cs i unused ≡ forward_one at_start whole.all unused i
    one_is i lt =
        ap (λ l. get_or l i unused) cs_is ∙ map_from_at (forward_one at_start whole.all) first 0 i unused lt
        ∙ ap (λ c. forward_one at_start whole.all c (0 + i)) (get_or-replicate 32 i unused unused lt) ∙ ap (forward_one at_start whole.all unused) (zero-add i)

    closings_are : (i : ℕ) → i < 32 → (get_or cs i unused).closings ≡ kept_closings i on ss
    unfolding forward_one
    closings_are i lt = ap (λ (c : Channel). c.closings) (one_is i lt) ∙ zero-add (count_of (closes i) whole.all) ∙ whole.closed i

    openings_are : (i : ℕ) → i < 32 → (get_or cs i unused).openings ≡ kept_openings i on ss
    unfolding forward_one
    openings_are i lt = ap (λ (c : Channel). c.openings) (one_is i lt) ∙ zero-add (count_of (opens i) whole.all) ∙ whole.opened i

    ticks_are : (i : ℕ) → i < 32 → (get_or cs i unused).ticks ≡ gapped_ticks i b.tick on ss
    unfolding forward_one
    ticks_are i lt =
        let last = b.tick in
        ap (λ (c : Channel). c.ticks) (one_is i lt) ∙ zero-add (ticks_closed i 0 0 whole.all)
        ∙ sym (spans_all i last at_start whole.all whole.end whole.rising (ap (λ (x : Beside). x.tick) b_is))
        ∙ sym (ap (λ t. spans i last t 0 whole.all whole.end) (powered_ticks before lent))
        ∙ sym (ap (λ w. spans i last (told on).ticks w whole.all whole.end) (powered_begins before lent).1)
        ∙ whole.ticked i last

    word_is : b.word ≡ outputs (since_power_on before lent (calls_of ss))
    word_is = ap (λ (x : Beside). x.word) b_is ∙ whole.word ∙ ap outputs (end_is on ss)

    unknown_is : b.unknown ≡ capped_of on ss
    unknown_is = ap (λ (x : Beside). x.unknown) b_is ∙ whole.unknown ∙ zero-add (capped_of on ss)

    more_is : b.more ≡ is_some_at_cap on ss
    more_is = ap (λ (x : Beside). x.more) b_is ∙ whole.more

    tick_is : b.tick ≡ last_read 0 on ss
    tick_is = ap (λ (x : Beside). x.tick) b_is ∙ whole.tick

    -- The totals that a box's logs bring, with gaps: they are those of the changes kept, from each gap's tick on its word counts, and the number unknown is
    -- that of all changes lost, unless a gap is at its cap.
    pub totals_with_gaps : TotalsKept (powered_on before lent) ss cs b
    totals_with_gaps = record {
      count = ap (λ (l : List Channel). length l) cs_is ∙ length_map_from (forward_one at_start whole.all) first 0;
      closings = closings_are;
      openings = openings_are;
      ticks = ticks_are;
      tick = tick_is;
      word = word_is;
      told = unknown_is;
      unknown = λ e. unknown_is ∙ capped_exact on ss e;
      least = subst (λ n. n ≤ lost_number_of on ss) (sym unknown_is) (capped_least on ss);
      more = more_is;
    }

    -- A number is unknown where a change was lost, and only there.
    pub unknown_where_lost : (lost_number_of (powered_on before lent) ss ≡ 0 → b.unknown ≡ 0) × (b.unknown ≡ 0 → lost_number_of (powered_on before lent) ss ≡ 0)
    unknown_where_lost = (
      λ none. let le = totals_with_gaps.least in omega arith,
      λ zero. sum_of_none on ss (none_lost on ss (sym unknown_is ∙ zero)),
    )

    -- The totals that a box's logs bring, where no gap was met: they are what is seen of the calls.
    pub totals_as_seen : b.unknown ≡ 0 → TotalsSeen (powered_on before lent) ss cs b
    totals_as_seen zero =
        let none = none_lost on ss (sym unknown_is ∙ zero) in
        let seen = as_seen ss on of none in
        let w : outputs on ≡ 0 = (powered_begins before lent).1 in
        let t : (told on).ticks ≡ 0 = powered_ticks before lent in
        let ns = notes (after unpowered on) (calls_of ss) in
        record {
          count = totals_with_gaps.count;
          closings = λ i lt. closings_are i lt ∙ seen.closed i ∙ ap (λ x. closings i x ns) w;
          openings = λ i lt. openings_are i lt ∙ seen.opened i ∙ ap (λ x. openings i x ns) w;
          ticks = λ i lt. ticks_are i lt ∙ seen.ticked i b.tick ∙ ap (λ x. ticks i b.tick x (outputs on) ns) t ∙ ap (λ x. ticks i b.tick 0 x ns) w;
          tick = tick_is ∙ seen.switched 0 ∙ ap (λ x. last_switched 0 x (outputs on) ns) t ∙ ap (λ x. last_switched 0 0 x ns) w;
          word = word_is;
          more = more_is ∙ none_capped on ss none;
        }

    -- Of each channel the closings less the openings are 1 where it is closed in the last word, and 0 where it is open.
    pub closings_less_openings : b.unknown ≡ 0 → (i : ℕ) → i < 32
        → (get_or cs i unused).closings ≡ (get_or cs i unused).openings + one_if (is_closed i b.word)
    unfolding outputs
    closings_less_openings zero i lt =
        let t = totals_as_seen zero in
        let h = after unpowered on in
        let ns = notes h (calls_of ss) in
        let w : outputs on ≡ 0 = (powered_begins before lent).1 in
        let even = balance i h (calls_of ss) in
        let start : one_if (is_closed i (outputs on)) ≡ 0 = ap (λ x. one_if (is_closed i x)) w ∙ ap one_if (none_closed i lt) in
        let end : one_if (is_closed i b.word) ≡ one_if (is_closed i (after h (calls_of ss)).state.run.outputs) =
        ap (λ x. one_if (is_closed i x)) (word_is ∙ ap (λ (x : Held). x.state.run.outputs) (after_more on (calls_of ss))) in
        let closed : (get_or cs i unused).closings ≡ closings i (outputs on) ns = t.closings i lt ∙ sym (ap (λ x. closings i x ns) w) in
        let opened : (get_or cs i unused).openings ≡ openings i (outputs on) ns = t.openings i lt ∙ sym (ap (λ x. openings i x ns) w) in
        omega arith

    -- "The sum of closings less openings is the number of channels closed wherever no gap was met."
    pub sum_is_the_closed : b.unknown ≡ 0
        → sum_of (λ (c : Channel). c.closings) cs ≡ sum_of (λ (c : Channel). c.openings) cs + closed_from 0 32 b.word
    sum_is_the_closed zero =
        let long = totals_with_gaps.count in
        sum_balance cs 0 b.word
        (λ i lt. closings_less_openings zero i (subst (λ n. i < n) long lt)
        ∙ ap (λ j. (get_or cs i unused).openings + one_if (is_closed j b.word)) (sym (zero-add i)))
        ∙ ap (λ n. sum_of (λ (c : Channel). c.openings) cs + closed_from 0 n b.word) long

  -- And so at every record before the first gap: the records rs are the first of those that are read from all the logs.
  pub sum_at_each_record : (records rs rest : List Record) → AllRead (logs_of (powered_on before lent) ss) records → records ≡ rs ++ rest
      → all is_change rs ≡ true → let cs = map_from (forward_one at_start rs) (replicate 32 unused) 0 in
      sum_of (λ (c : Channel). c.closings) cs ≡ sum_of (λ (c : Channel). c.openings) cs + closed_from 0 32 (beside_after at_start rs).word
  unfolding forward_one
  sum_at_each_record records rs rest read is only =
      let joins = subst (WordsJoin 0) (sym (read_once (logs_of on ss) at_start whole.all records whole.joined read) ∙ is) whole.words in
      let cs = map_from (forward_one at_start rs) first 0 in
      let long : length cs ≡ 32 = length_map_from (forward_one at_start rs) first 0 in
      let one : (i : ℕ) → i < 32 → get_or cs i unused ≡ forward_one at_start rs unused i =
      λ i lt. map_from_at (forward_one at_start rs) first 0 i unused lt
      ∙ ap (λ c. forward_one at_start rs c (0 + i)) (get_or-replicate 32 i unused unused lt) ∙ ap (forward_one at_start rs unused) (zero-add i) in
      let each : (i : ℕ) → i < 32 → (get_or cs i unused).closings ≡ (get_or cs i unused).openings + one_if (is_closed i (beside_after at_start rs).word) =
      λ i lt.
      let even = balance_records i at_start rs (words_front 0 rs rest joins) only in
      let none : one_if (is_closed i 0) ≡ 0 = ap one_if (none_closed i lt) in
      let closed : (get_or cs i unused).closings ≡ 0 + count_of (closes i) rs = ap (λ (c : Channel). c.closings) (one i lt) in
      let opened : (get_or cs i unused).openings ≡ 0 + count_of (opens i) rs = ap (λ (c : Channel). c.openings) (one i lt) in
      omega arith in
      sum_balance cs 0 (beside_after at_start rs).word
      (λ i lt. each i (subst (λ n. i < n) long lt)
      ∙ ap (λ j. (get_or cs i unused).openings + one_if (is_closed j (beside_after at_start rs).word)) (sym (zero-add i)))
      ∙ ap (λ n. sum_of (λ (c : Channel). c.openings) cs + closed_from 0 n (beside_after at_start rs).word) long

  -- A box's logs, in order and none left out, are refused by 074 only: neither by the reader nor by 051, 072 or 073, gaps or not.
  pub refused_past_the_end : (e : ℕ) → totals_of (logs_of (powered_on before lent) ss) ≡ refused e → e ≡ 74
  refused_past_the_end e is = go come
    where
      go : Comes first at_start whole.all (totals_of (logs_of on ss)) → e ≡ 74
      go (comes r) = absurd (not_passed (sym is ∙ r))
      go (passes r out) = refused_same (sym is ∙ r)

  -- the ticks are always in reach
  ticks_few : (i : ℕ) → ticks_closed i 0 0 whole.all ≤ most_number
  ticks_few i =
      let le = closed_few i at_start whole.all whole.rising in
      let range = (changes_lead (since_power_on before lent (calls_of ss)) bytes).1.ticks in
      let in_time = subst (λ us. (beside_after at_start whole.all).tick ≤ (told us).ticks) (end_is on ss) whole.within in
      omega arith

  -- And that only where a total passes the end: if the changes kept that close and that open each channel are as many as can be counted, and so are the
  -- changes lost, the logs are taken.
  pub taken_in_reach : ((i : ℕ) → i < 32
      → (kept_closings i (powered_on before lent) ss ≤ 18446744073709551615) × (kept_openings i (powered_on before lent) ss ≤ 18446744073709551615))
      → lost_number_of (powered_on before lent) ss ≤ 18446744073709551615
      → (cs : List Channel) × ((b : Beside) × (totals_of (logs_of (powered_on before lent) ss) ≡ passed (cs, b)))
  unfolding are_in_reach forward_one
  taken_in_reach each lost = go come
    where
      unknown : (beside_after at_start whole.all).unknown ≤ 18446744073709551615
      unknown = let is = whole.unknown in omega (arith, capped_least on ss)

      totals : (i : ℕ) → i < 32 → are_totals (forward_one at_start whole.all unused i) ≡ true
      totals i lt =
          let c = whole.closed i in
          let o = whole.opened i in
          let e = each i lt in
          says_totals (forward_one at_start whole.all unused i) (omega (arith, e.0)) (omega (arith, e.1)) (omega (arith, ticks_few i))

      reach : are_in_reach first at_start whole.all ≡ true
      reach =
          rw (le-leb _ _ unknown)
          (all_from_lem (λ c i. are_totals (forward_one at_start whole.all c i)) first 0 unused
          (λ i lt. ap (λ c. are_totals (forward_one at_start whole.all c (0 + i))) (get_or-replicate 32 i unused unused lt)
          ∙ ap (λ j. are_totals (forward_one at_start whole.all unused j)) (zero-add i) ∙ totals i lt))

      go : Comes first at_start whole.all (totals_of (logs_of on ss)) → (cs : List Channel) × ((b : Beside) × (totals_of (logs_of on ss) ≡ passed (cs, b)))
      go (comes r) = (map_from (forward_one at_start whole.all) first 0, (beside_after at_start whole.all, r))
      go (passes r out) = absurd (true≢false (sym reach ∙ out))

  -- So they are taken unless there were more calls than a total can count.
  pub taken_if_so_many_calls : length (calls_of ss) ≤ 18446744073709551615
      → (cs : List Channel) × ((b : Beside) × (totals_of (logs_of (powered_on before lent) ss) ≡ passed (cs, b)))
  taken_if_so_many_calls le =
      let few = few_calls ss on of in
      taken_in_reach (λ i lt. let c = few.closed i in let o = few.opened i in (omega arith, omega arith)) (omega (arith, few.lost))
