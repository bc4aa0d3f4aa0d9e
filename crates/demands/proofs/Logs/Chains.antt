-- Laws of a chain of stretches: the logs emptied join, and their records together say what the stretches say.
-- Assumes nothing.
use mathlib.Core.Path.{◌≡◌, refl, sym, ap, ap₂, subst, ◌∙◌}
use Prim.Native.Nat.{ℕ, ◌+◌, ◌-◌, ◌≤◌, ◌<◌, min}
use native.Mathlib.Nat.{add-zero, add_assoc}
use native.Mathlib.Omega.{arith}
use mathlib.Core.Bool.{Bool, true, false, ◌||◌}
use mathlib.Core.List.{List, [], ◌∷◌, ◌++◌, append-nil, append_assoc}
use lib.ListN.{length, take-append-drop}
use lib.Dec.{eqb, leb}
use borrow.Author.Tests.{leb-true, leb-false, eq-eqb, ne_eqb}
use Rattle.formats.proofs.Checks.{or_false}
use Rattle.boxlog.specs.declared.Change.{Change}
use Rattle.boxlog.specs.Log.{places, last_word, lost_number}
use Rattle.reader.specs.declared.Record.{Record}
use Rattle.reader.specs.Possible.{last_of, are_next}
use Rattle.reader.proofs.Words.{last_word_lem}
use Rattle.channels.specs.declared.Beside.{Beside}
use Rattle.channels.specs.Totals.{is_closed, closes, opens, count_of, beside_after}
use Rattle.channels.proofs.Behind.{count_more, beside_more}
use Rattle.demands.specs.Histories.{Made, emptying_to, unpowered, after}
use Rattle.demands.specs.Seen.{outputs, Note, notes}
use Rattle.demands.specs.Told.{Told, tell_all, told}
use Rattle.demands.specs.Changes.{changes}
use Rattle.demands.specs.Switchings.{ticks_by, Stretch, up_to, through, calls_of, logs_of}
use Rattle.demands.specs.SwitchingGaps.{capped_of, kept_of, lost_of, with_gap}
use Rattle.demands.specs.SwitchingGaps.{kept_closings, kept_openings, gapped_ticks, last_read, is_some_at_cap}
use Rattle.demands.proofs.History.AsTold.{outputs_as_told}
use Rattle.demands.proofs.History.Telling.{told_more}
use Rattle.demands.proofs.Logs.Leading.{standing}
use Rattle.demands.proofs.Logs.Together.{Joined}
use Rattle.demands.proofs.Logs.Spans.{span_same, spans, spans_more, FromTick, Rising, rising_more, WordsJoin, words_more}
use Rattle.demands.proofs.Logs.Kept.{logged, left_by, closings_kept, openings_kept, rising_kept, words_kept, last_kept, from_kept}
use Rattle.demands.proofs.Logs.Kept.{first_joins, ticks_kept}
use Rattle.demands.proofs.Logs.Stretches.{OfStretch, AllOf}

-- all calls up to the last emptying
unfoldable pub end_of : List Made → List Stretch → List Made
end_of zs [] = zs
end_of zs (s ∷ ss) = end_of (through zs s) ss

pub end_is : (zs : List Made) (ss : List Stretch) → end_of zs ss ≡ zs ++ calls_of ss
unfolding end_of calls_of
end_is zs [] = sym (append-nil zs)
end_is zs (s ∷ ss) =
    end_is (through zs s) ss ∙ append_assoc (up_to zs s) (emptying_to s.lent ∷ []) (calls_of ss)
    ∙ append_assoc zs s.calls (emptying_to s.lent ∷ calls_of ss)

-- a gap that tells the cap
at_cap : (n : ℕ) → eqb (min n 4294967295) 4294967295 ≡ leb 4294967295 n
at_cap n = go (leb 4294967295 n) refl
  where
    below : n < 4294967295 → min n 4294967295 ≡ 4294967295 → ⊥
    below lt e = omega arith

    go : (b : Bool) → leb 4294967295 n ≡ b → eqb (min n 4294967295) 4294967295 ≡ b
    go true e = let le : 4294967295 ≤ n = leb-true 4294967295 n e in eq-eqb (min n 4294967295) 4294967295 (omega arith)
    go false e = ne_eqb (min n 4294967295) 4294967295 (below (leb-false 4294967295 n e))

or_assoc : (a b c : Bool) → ((a || b) || c) ≡ (a || (b || c))
or_assoc true b c = refl
or_assoc false b c = refl

-- What the records of all logs say, b being what was kept before.
pub record Chained (zs : List Made) (b : Beside) (ss : List Stretch) : Type 0 where
  pub all : List Record
  pub end : ℕ
  pub joined : Joined b (logs_of zs ss) all
  pub rising : Rising b all
  pub words : WordsJoin b.word all
  pub from : FromTick (told zs).ticks all end
  pub closed : (i : ℕ) → count_of (closes i) all ≡ kept_closings i zs ss
  pub opened : (i : ℕ) → count_of (opens i) all ≡ kept_openings i zs ss
  pub ticked : (i last : ℕ) → spans i last (told zs).ticks (outputs zs) all end ≡ gapped_ticks i last zs ss
  pub tick : (beside_after b all).tick ≡ last_read b.tick zs ss
  pub within : (beside_after b all).tick ≤ (told (end_of zs ss)).ticks
  pub word : (beside_after b all).word ≡ outputs (end_of zs ss)
  pub unknown : (beside_after b all).unknown ≡ b.unknown + capped_of zs ss
  pub more : (beside_after b all).more ≡ (b.more || is_some_at_cap zs ss)

-- ---- one stretch

module _ (zs : List Made) (s : Stretch) (o : OfStretch zs s) where
  abbrev p : Change
  p = standing (told zs)

  abbrev ks : List Change
  ks = kept_of zs s

  abbrev lost : List Change
  lost = lost_of zs s

  abbrev ns : List Note
  ns = notes (after unpowered zs) s.calls

  pub kept_and_lost : ks ++ lost ≡ changes (up_to zs s)
  kept_and_lost = take-append-drop (places (told (up_to zs s)).log_length - 1) (changes (up_to zs s))

  leads : are_next p (ks ++ lost) ≡ true
  leads = ap (are_next p) kept_and_lost ∙ o.reached.next

  in_time : (last_of p (ks ++ lost)).tick ≤ (told (through zs s)).ticks
  in_time =
      subst (λ cs. (last_of p cs).tick ≤ (told (through zs s)).ticks) (sym kept_and_lost)
      (subst (λ n. (last_of p (changes (up_to zs s))).tick ≤ n) (sym o.ticks) o.reached.tick)

  last_is : (last_of p (ks ++ lost)).word ≡ outputs (up_to zs s)
  last_is = ap (λ cs. (last_of p cs).word) kept_and_lost ∙ o.reached.word ∙ sym (outputs_as_told (up_to zs s))

  -- the last word read is the one that stands
  word_left : (b : Beside) → b.word ≡ outputs zs → (beside_after b (logged ks lost)).word ≡ outputs (through zs s)
  word_left b is =
      (left_by b ks lost).word ∙ ap (λ w. last_word w (ks ++ lost)) (is ∙ outputs_as_told zs) ∙ last_word_lem p (ks ++ lost) ∙ last_is ∙ sym o.stood

  tick_left : (b : Beside) → b.tick ≤ (told zs).ticks → (beside_after b (logged ks lost)).tick ≤ (told (through zs s)).ticks
  tick_left b le =
      let last = last_kept b.tick p ks lost leads le in
      let is = (left_by b ks lost).tick in
      omega (arith, in_time)

  pub ended : (tell_all (told zs) ns).ticks ≡ (told (through zs s)).ticks
  ended = sym (ap (λ (t : Told). t.ticks) (told_more zs s.calls)) ∙ sym o.ticks

  -- the ticks by its records
  stretch_ticks : (i last : ℕ)
      → spans i last (told zs).ticks (outputs zs) (logged ks lost) (told (through zs s)).ticks
      ≡ ticks_by (with_gap lost (outputs (up_to zs s))) i last (told zs).ticks (outputs zs) ns
  stretch_ticks i last =
      ap₂ (λ w e. spans i last (told zs).ticks w (logged ks lost) e) (outputs_as_told zs) (sym ended)
      ∙ ticks_kept i last p ks lost (told zs) ns o.counts (kept_and_lost ∙ o.counted) refl refl leads
      (subst (λ e. (last_of p (ks ++ lost)).tick ≤ e) (sym ended) in_time)
      ∙ ap₂ (λ g w. ticks_by (with_gap lost g) i last (told zs).ticks w ns) last_is (sym (outputs_as_told zs))

  -- and a chain after it
  module _ (b : Beside) (ss : List Stretch) (is : b.word ≡ outputs zs) (le : b.tick ≤ (told zs).ticks)
      (r : Chained (through zs s) (beside_after b (logged ks lost)) ss) where
    -- what stands at its beginning, as what is kept beside
    abbrev begun : Beside
    begun = record { tick = (told zs).ticks; word = outputs zs; unknown = 0; more = false }

    behind : beside_after b (logged ks lost ++ r.all) ≡ beside_after (beside_after b (logged ks lost)) r.all
    behind = beside_more b (logged ks lost) r.all

    chain_ticks : (i last : ℕ) → spans i last (told zs).ticks (outputs zs) (logged ks lost ++ r.all) r.end ≡ gapped_ticks i last zs (s ∷ ss)
    unfolding gapped_ticks
    chain_ticks i last =
        let e = (told (through zs s)).ticks in
        sym (spans_more i last begun (logged ks lost) r.all e r.end (tick_left begun (omega arith)) r.from)
        ∙ ap₂ (λ m n. m + n) (stretch_ticks i last) (ap (λ w. spans i last e w r.all r.end) (word_left begun refl) ∙ r.ticked i last)

    chain_one : Chained zs b (s ∷ ss)
    unfolding logs_of kept_closings kept_openings last_read is_some_at_cap capped_of end_of
    chain_one =
        let rs = logged ks lost in
        let left = left_by b ks lost in
        let first = first_joins b p (places (told (up_to zs s)).log_length - 1) (changes (up_to zs s)) o.some o.reached.next le
        (is ∙ outputs_as_told zs) in
        record {
          all = rs ++ r.all;
          end = r.end;
          joined = (rs, (r.all, (refl, record { read = o.read; layout = o.layout; later = first.0; matches = first.1 }, r.joined)));
          rising = rising_more b rs r.all (rising_kept b p ks lost leads le) r.rising;
          words = words_more b rs r.all (words_kept b.word p ks lost leads (is ∙ outputs_as_told zs)) r.words;
          from = from_kept p ks lost r.all (told (through zs s)).ticks r.end leads in_time r.from;
          closed = λ i. count_more (closes i) rs r.all ∙ ap₂ (λ m n. m + n) (closings_kept i ks lost) (r.closed i);
          opened = λ i. count_more (opens i) rs r.all ∙ ap₂ (λ m n. m + n) (openings_kept i ks lost) (r.opened i);
          ticked = chain_ticks;
          tick = ap (λ (x : Beside). x.tick) behind ∙ r.tick ∙ ap (λ l. last_read l (through zs s) ss) left.tick;
          within = subst (λ (x : Beside). x.tick ≤ (told (end_of (through zs s) ss)).ticks) (sym behind) r.within;
          word = ap (λ (x : Beside). x.word) behind ∙ r.word;
          unknown = ap (λ (x : Beside). x.unknown) behind ∙ r.unknown ∙ ap (λ n. n + capped_of (through zs s) ss) left.unknown
              ∙ add_assoc b.unknown (lost_number lost) (capped_of (through zs s) ss);
          more = ap (λ (x : Beside). x.more) behind ∙ r.more
              ∙ ap (λ x. x || is_some_at_cap (through zs s) ss) (left.more ∙ ap (λ x. b.more || x) (at_cap (length lost)))
              ∙ or_assoc b.more (leb 4294967295 (length lost)) (is_some_at_cap (through zs s) ss);
        }

-- ---- the chain

pub chained : (ss : List Stretch) (zs : List Made) (b : Beside) → AllOf zs ss → b.word ≡ outputs zs → b.tick ≤ (told zs).ticks → Chained zs b ss
unfolding logs_of kept_closings kept_openings gapped_ticks last_read is_some_at_cap capped_of end_of beside_after spans
chained [] zs b of is le = record {
  all = [];
  end = (told zs).ticks;
  joined = refl;
  rising = tt;
  words = tt;
  from = omega arith;
  closed = λ i. refl;
  opened = λ i. refl;
  ticked = λ i last. span_same (is_closed i (outputs zs)) last (told zs).ticks;
  tick = refl;
  within = le;
  word = is;
  unknown = sym (add-zero b.unknown);
  more = sym (or_false b.more);
}
chained (s ∷ ss) zs b of is le =
    let o = of.0 in
    chain_one zs s o b ss is le
    (chained ss (through zs s) (beside_after b (logged (kept_of zs s) (lost_of zs s))) of.1 (word_left zs s o b is) (tick_left zs s o b le))
