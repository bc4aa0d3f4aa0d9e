-- Laws of the records that a log holds of some changes: those kept, and the gap over those lost.
-- Assumes nothing.
use mathlib.Core.Path.{◌≡◌, refl, sym, ap, ◌∙◌}
use Prim.Native.Nat.{ℕ, zero, suc, ◌+◌, ◌≤◌, ◌<◌, min, max}
use native.Mathlib.Nat.{add-zero, zero-add}
use native.Mathlib.Omega.{arith}
use mathlib.Core.Bool.{true, ◌||◌, false≢true}
use mathlib.Core.List.{List, [], ◌∷◌, ◌++◌, map, append-nil}
use lib.ListN.{take, drop}
use lib.Dec.{eqb}
use borrow.Author.Tests.{le-leb, eq-eqb}
use Rattle.formats.proofs.Checks.{or_false}
use Rattle.boxlog.specs.declared.Change.{Change}
use Rattle.boxlog.specs.Log.{last_word, lost_number}
use Rattle.reader.specs.declared.Record.{Record}
use Rattle.reader.specs.declared.Layout.TheVariants.{Sixteen}
use Rattle.reader.specs.Possible.{last_of, are_next}
use Rattle.reader.specs.Produced.{kept, gaps_over}
use Rattle.reader.proofs.Possible.{next_says}
use Rattle.reader.proofs.Words.{last_word_lem}
use Rattle.channels.specs.declared.Beside.{Beside}
use Rattle.channels.specs.Totals.{is_closed, word_from, closes, opens, lost_in, is_or_more, one_if, count_of, beside_one, beside_after}
use Rattle.channels.specs.Bringing.{is_later, matches}
use Rattle.demands.specs.Seen.{Note}
use Rattle.demands.specs.Told.{Told, tell_all}
use Rattle.demands.specs.Switchings.{is_closing, is_opening, ticks_by, ticks}
use Rattle.demands.specs.SwitchingGaps.{closings_in, openings_in, with_gap, last_tick_of}
use Rattle.demands.proofs.Logs.Spans.{span, span_same, spans, WordsJoin, Rising, FromTick, later_than, spans_gap}
use Rattle.demands.proofs.Logs.Counted.{Counts, ticks_over, ticks_gap}

-- the records of the changes ks and of a gap over the lost, where some are lost
abbrev pub logged : List Change → List Change → List Record
logged ks lost = map (kept Sixteen) ks ++ gaps_over Sixteen lost

-- ---- what is kept beside the totals

pub record LeftBy (b : Beside) (ks lost : List Change) (a : Beside) : Type 0 where
  pub tick : a.tick ≡ last_tick_of b.tick ks lost
  pub word : a.word ≡ last_word b.word (ks ++ lost)
  pub unknown : a.unknown ≡ b.unknown + lost_number lost
  pub more : a.more ≡ (b.more || eqb (lost_number lost) 4294967295)

pub left_by : (b : Beside) (ks lost : List Change) → LeftBy b ks lost (beside_after b (logged ks lost))
unfolding beside_after word_from lost_in is_or_more
left_by b [] [] = record { tick = refl; word = refl; unknown = sym (add-zero b.unknown); more = sym (or_false b.more) }
left_by b [] (c ∷ lost) = record { tick = refl; word = refl; unknown = refl; more = refl }
left_by b (k ∷ ks) lost =
    let r = left_by (beside_one b (kept Sixteen k)) ks lost in
    record {
      tick = r.tick;
      word = r.word;
      unknown = r.unknown ∙ ap (λ n. n + lost_number lost) (add-zero b.unknown);
      more = r.more ∙ ap (λ x. x || eqb (lost_number lost) 4294967295) (or_false b.more);
    }

-- ---- how often a channel is switched

pub closings_kept : (i : ℕ) (ks lost : List Change) → count_of (closes i) (logged ks lost) ≡ closings_in i ks
unfolding closes closings_in is_closing
closings_kept i [] [] = refl
closings_kept i [] (c ∷ lost) = refl
closings_kept i (k ∷ ks) lost = ap (λ n. one_if (is_closing i k.before k.word) + n) (closings_kept i ks lost)

pub openings_kept : (i : ℕ) (ks lost : List Change) → count_of (opens i) (logged ks lost) ≡ openings_in i ks
unfolding opens openings_in is_opening
openings_kept i [] [] = refl
openings_kept i [] (c ∷ lost) = refl
openings_kept i (k ∷ ks) lost = ap (λ n. one_if (is_opening i k.before k.word) + n) (openings_kept i ks lost)

-- ---- the ticks of the records

first_sooner : (p : Change) (cs : List Change) → are_next p cs ≡ true → p.tick ≤ (last_of p cs).tick
first_sooner p [] e = omega arith
first_sooner p (c ∷ cs) e = let n = next_says p c cs e in omega (arith, n.after.later, first_sooner c cs n.more)

pub rising_kept : (b : Beside) (p : Change) (ks lost : List Change) → are_next p (ks ++ lost) ≡ true → b.tick ≤ p.tick → Rising b (logged ks lost)
rising_kept b p [] [] e le = tt
rising_kept b p [] (c ∷ lost) e le = let n = next_says p c lost e in (omega (arith, n.after.later), tt)
rising_kept b p (k ∷ ks) lost e le =
    let n = next_says p k (ks ++ lost) e in
    (omega (arith, n.after.later), rising_kept (beside_one b (kept Sixteen k)) k ks lost n.more (omega arith))

pub words_kept : (w : ℕ) (p : Change) (ks lost : List Change) → are_next p (ks ++ lost) ≡ true → w ≡ p.word → WordsJoin w (logged ks lost)
unfolding word_from
words_kept w p [] [] e is = tt
words_kept w p [] (c ∷ lost) e is = ((λ no. absurd (false≢true no)), tt)
words_kept w p (k ∷ ks) lost e is =
    let n = next_says p k (ks ++ lost) e in
    ((λ _. sym (is ∙ n.after.joined)), words_kept k.word k ks lost n.more refl)

-- the last of them is not later than the last change
pub last_kept : (l : ℕ) (p : Change) (ks lost : List Change) → are_next p (ks ++ lost) ≡ true → l ≤ p.tick → last_tick_of l ks lost ≤ (last_of p (ks ++ lost)).tick
last_kept l p [] [] e le = le
last_kept l p [] (c ∷ lost) e le = first_sooner c lost (next_says p c lost e).more
last_kept l p (k ∷ ks) lost e le = last_kept k.tick k ks lost (next_says p k (ks ++ lost) e).more (omega arith)

pub from_kept : (p : Change) (ks lost : List Change) (rs : List Record) (e f : ℕ) → are_next p (ks ++ lost) ≡ true → (last_of p (ks ++ lost)).tick ≤ e
    → FromTick e rs f → FromTick p.tick (logged ks lost ++ rs) f
from_kept p [] [] [] e f n le from = omega arith
from_kept p [] [] (r ∷ rs) e f n le from = omega arith
from_kept p [] (c ∷ lost) rs e f n le from = (next_says p c lost n).after.later
from_kept p (k ∷ ks) lost rs e f n le from = (next_says p k (ks ++ lost) n).after.later

-- The first record joins to what was read last.
pub first_joins : (b : Beside) (p : Change) (k : ℕ) (cs : List Change) → 0 < k → are_next p cs ≡ true → b.tick ≤ p.tick → b.word ≡ p.word
    → (is_later b (logged (take k cs) (drop k cs)) ≡ true) × (matches b (logged (take k cs) (drop k cs)) ≡ true)
unfolding is_later matches
first_joins b p zero cs lt e le is = absurd (omega arith)
first_joins b p (suc k) [] lt e le is = (refl, refl)
first_joins b p (suc k) (c ∷ cs) lt e le is =
    let n = next_says p c cs e in
    (le-leb b.tick c.tick (omega (arith, n.after.later)), eq-eqb c.before b.word (sym (is ∙ n.after.joined)))

-- ---- the ticks for which a channel is closed

high : (m g : ℕ) → g ≤ m → max m g ≡ m
high m g le = omega arith

low : (m g : ℕ) → m ≤ g → max m g ≡ g
low m g le = omega arith

-- By the records they are those at whose end the calls leave it closed, from the gap's tick on by the word at the end.
pub ticks_kept : (i last : ℕ) (p : Change) (ks lost : List Change) (t : Told) (ns : List Note) (c : Counts [] t ns) → ks ++ lost ≡ c.more
    → p.tick ≡ t.ticks → p.word ≡ t.run.outputs → are_next p (ks ++ lost) ≡ true → (last_of p (ks ++ lost)).tick ≤ (tell_all t ns).ticks
    → spans i last t.ticks t.run.outputs (logged ks lost) (tell_all t ns).ticks
    ≡ ticks_by (with_gap lost (last_of p (ks ++ lost)).word) i last t.ticks t.run.outputs ns
ticks_kept i last p ks lost t ns c is at word next le = go lost is next le
  where
    w : ℕ
    w = t.run.outputs

    counted : (stop : ℕ) → spans i stop t.ticks w (map (kept Sixteen) c.more) (tell_all t ns).ticks ≡ ticks i stop t.ticks w ns
    counted stop =
        c.ticked i stop t.ticks (omega arith)
        ∙ ap (λ n. n + ticks i stop t.ticks w ns) (span_same (is_closed i w) stop t.ticks) ∙ zero-add (ticks i stop t.ticks w ns)

    go : (ls : List Change) → ks ++ ls ≡ c.more → are_next p (ks ++ ls) ≡ true → (last_of p (ks ++ ls)).tick ≤ (tell_all t ns).ticks
        → spans i last t.ticks w (logged ks ls) (tell_all t ns).ticks ≡ ticks_by (with_gap ls (last_of p (ks ++ ls)).word) i last t.ticks w ns
    go [] is next le =
        ap (λ rs. spans i last t.ticks w rs (tell_all t ns).ticks) (append-nil (map (kept Sixteen) ks) ∙ ap (map (kept Sixteen)) (sym (append-nil ks) ∙ is))
        ∙ counted last
    go (d ∷ ls) is next le =
        let e = (tell_all t ns).ticks in
        let stop = min last d.tick in
        let g = (last_of p (ks ++ (d ∷ ls))).word in
        let by_gap : g ≡ last_word 0 (d ∷ ls) = last_after p ks d ls in
        let gap = spans_gap i last p ks d ls e w next in
        let sooner : t.ticks ≤ d.tick = omega (arith, later_than p ks d ls next) in
        let later : d.tick ≤ e = omega (arith, not_last p ks d ls next) in
        sym (ap (λ x. spans i last x w (logged ks (d ∷ ls)) e) at)
        ∙ sym gap
        ∙ ap (λ x. spans i stop x w (map (kept Sixteen) (ks ++ (d ∷ ls))) e + span i last (last_word 0 (d ∷ ls)) d.tick e) at
        ∙ ap (λ cs. spans i stop t.ticks w (map (kept Sixteen) cs) e + span i last (last_word 0 (d ∷ ls)) d.tick e) is
        ∙ ap (λ n. n + span i last (last_word 0 (d ∷ ls)) d.tick e) (counted stop)
        ∙ ap (λ x. ticks i stop t.ticks w ns + span i last x d.tick e) (sym by_gap)
        ∙ sym (ticks_gap i last d ls g t.ticks w ns
        ∙ ap (λ x. ticks i stop t.ticks w ns + span i last g x (max (ticks_over t.ticks ns) d.tick)) (low t.ticks d.tick sooner)
        ∙ ap (λ x. ticks i stop t.ticks w ns + span i last g d.tick (max x d.tick)) (sym c.count)
        ∙ ap (λ x. ticks i stop t.ticks w ns + span i last g d.tick x) (high e d.tick later))
      where
        last_after : (p : Change) (ks : List Change) (d : Change) (ls : List Change) → (last_of p (ks ++ (d ∷ ls))).word ≡ last_word 0 (d ∷ ls)
        last_after p [] d ls = sym (last_word_lem d ls)
        last_after p (k ∷ ks) d ls = last_after k ks d ls

        not_last : (p : Change) (ks : List Change) (d : Change) (ls : List Change) → are_next p (ks ++ (d ∷ ls)) ≡ true
            → d.tick ≤ (last_of p (ks ++ (d ∷ ls))).tick
        not_last p [] d ls e = first_sooner d ls (next_says p d ls e).more
        not_last p (k ∷ ks) d ls e = not_last k ks d ls (next_says p k (ks ++ (d ∷ ls)) e).more
