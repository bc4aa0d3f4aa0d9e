-- 02, item 8: what the yard wants the new record for. From a log the outputs are known at the end of every tick that ended before the emptying and is
-- outside the gap, and at the emptying too; and logs emptied one after the other join.
-- Assumes nothing.
use mathlib.Core.Path.{◌≡◌, refl, sym, ap, subst, ◌∙◌}
use Prim.Native.Nat.{ℕ, ◌≤◌}
use mathlib.Core.Bool.{true}
use mathlib.Core.List.{List, [], ◌∷◌, ◌++◌, append_assoc}
use lib.Dec.{leb}
use borrow.Author.Tests.{leb-true}
use Rattle.formats.specs.Checks.{passed}
use Rattle.formats.proofs.Checks.{both_true, passed_same, all_front}
use Rattle.boxlog.specs.declared.Change.{Change}
use Rattle.boxlog.specs.Log.{places}
use Rattle.reader.specs.declared.Record.{Record}
use Rattle.reader.specs.declared.Layout.TheVariants.{Sixteen}
use Rattle.reader.specs.Possible.{are_next}
use Rattle.reader.specs.Layout.{most_records}
use Rattle.reader.specs.Reading.{reading}
use Rattle.reader.specs.Produced.{Tells}
use Rattle.reader.specs.Words.{word_at_end, earliest_word, word_at, is_outside_gap, latest_word}
use Rattle.reader.proofs.Words.{last_word_lem, word_between, first_before_lem, earliest_told, word_told, latest_told}
use Rattle.controller.specs.Controller.{Areas}
use Rattle.demands.specs.Histories.{Made, powering, ticking, emptying_to, unpowered, after, HandsOn, AllHandOn, powered_on, since_power_on}
use Rattle.demands.specs.Seen.{is_taken, seen, emptied_by, outputs, note, notes}
use Rattle.demands.specs.Told.{Told, said, tell, tell_all, told, afterwards}
use Rattle.demands.specs.Changes.{none_begins, since, changes}
use Rattle.demands.specs.LentBytes.{lends_bytes, lend_bytes}
use Rattle.demands.proofs.History.AsTold.{outputs_as_told}
use Rattle.demands.proofs.History.Telling.{tell_taken, after_more, told_more, changes_more}
use Rattle.demands.proofs.Logs.Leading.{InRange, standing, Reached, changes_lead}
use Rattle.demands.proofs.Logs.Growing.{begun_at, grown_since, grown_ticked, hands_split}
use Rattle.demands.proofs.Logs.LogReads as LogReads

-- ---- a log that was emptied, and read

module _ (before : List Made) (lent : Areas) (ms : List Made) (hands : AllHandOn (after unpowered (powered_on before lent)) ms) where
  module _ (a : Areas) (hand : HandsOn (after unpowered (since_power_on before lent ms)) (emptying_to a))
      (ok : is_taken (seen (since_power_on before lent ms) (emptying_to a)) ≡ true) (bytes : lend_bytes (since_power_on before lent ms) ≡ true)
      (rs : List Record) (read : reading (emptied_by (since_power_on before lent ms) a) ≡ passed rs) where
    abbrev R : ℕ
    R = places (told (since_power_on before lent ms)).log_length

    -- the records tell the changes since power-on or the last emptying
    tells : Tells Sixteen R (changes (since_power_on before lent ms)) rs
    tells =
        let x = LogReads.emptied_reads before lent ms hands a hand ok bytes in
        subst (Tells Sixteen R (changes (since_power_on before lent ms))) (passed_same (sym x.1 ∙ read)) x.2

    two : 2 ≤ R
    two = leb-true 2 R (both_true (leb 2 R) (leb R (most_records Sixteen)) (LogReads.emptied_size (since_power_on before lent ms) a ok)).0

    -- The calls zs, after which no change is told yet, as behind each power-on and each emptying that is taken, and those after them, which begin no
    -- list of changes.
    module _ (zs ys : List Made) (is : since_power_on before lent ms ≡ zs ++ ys) (fresh : changes zs ≡ [])
        (none : none_begins (notes (after unpowered zs) ys) ≡ true) where
      abbrev from : Change
      from = standing (told zs)

      lends : lend_bytes (zs ++ ys) ≡ true
      lends = ap lend_bytes (sym is) ∙ bytes

      range : InRange (told zs)
      range = (changes_lead zs (all_front lends_bytes zs ys lends)).1

      reached : Reached from (changes (since_power_on before lent ms)) (told (since_power_on before lent ms))
      reached = subst (λ us. Reached from (changes us) (told us)) (sym is) (grown_since zs from range (begun_at zs fresh) ys lends none).reached

      stood : from.word ≡ outputs zs
      stood = sym (outputs_as_told zs)

      -- The word before all of the log, which its first record calls the earlier one, is the one that stood then.
      pub earliest_word_lem : earliest_word (outputs zs) rs ≡ outputs zs
      earliest_word_lem =
          subst (λ w. earliest_word w rs ≡ w) stood
          (earliest_told R (changes (since_power_on before lent ms)) rs two tells from.word
          ∙ first_before_lem from (changes (since_power_on before lent ms)) reached.next)

      -- After the gap, and where there is none after the last change: the word that the log tells last is the one that stands when it is emptied.
      pub latest_word_lem : latest_word (outputs zs) rs ≡ outputs (since_power_on before lent ms)
      latest_word_lem =
          subst (λ w. latest_word w rs ≡ outputs (since_power_on before lent ms)) stood
          (latest_told R (changes (since_power_on before lent ms)) rs two tells from.word
          ∙ last_word_lem from (changes (since_power_on before lent ms)) ∙ reached.word ∙ sym (outputs_as_told (since_power_on before lent ms)))

    -- At the end of every tick that ended before the emptying and is outside the gap, the word that the log tells for it is the one that stood: when
    -- the next tick is taken.
    pub word_at_tick : (zs xs ys : List Made) (b : Areas) → (since_power_on before lent ms) ≡ (zs ++ xs) ++ (ticking b ∷ ys) → changes zs ≡ []
        → none_begins (notes (after unpowered zs) xs) ≡ true → is_taken (seen (zs ++ xs) (ticking b)) ≡ true
        → none_begins (notes (after unpowered (zs ++ xs)) (ticking b ∷ ys)) ≡ true → is_outside_gap (told (zs ++ xs)).ticks rs ≡ true
        → word_at (outputs zs) (told (zs ++ xs)).ticks rs ≡ outputs (zs ++ xs)
    word_at_tick zs xs ys b is fresh calm taken none out =
        let us = zs ++ xs in
        let t = (told us).ticks in
        let from = standing (told zs) in
        let lends : lend_bytes (us ++ (ticking b ∷ ys)) ≡ true = ap lend_bytes (sym is) ∙ bytes in
        let first = all_front lends_bytes us (ticking b ∷ ys) lends in
        let range = (changes_lead zs (all_front lends_bytes zs xs first)).1 in
        let l = (grown_since zs from range (begun_at zs fresh) xs first calm).reached in
        let grown = grown_ticked us from (changes_lead us first).1 l b ys taken lends none in
        let split : changes (since_power_on before lent ms) ≡ changes us ++ grown.more = ap changes is ∙ grown.is in
        let next : are_next from (changes (since_power_on before lent ms)) ≡ true = ap (are_next from) (ap changes is) ∙ grown.reached.next in
        subst (λ w. word_at w t rs ≡ outputs us) (sym (outputs_as_told zs))
        (word_told R (changes (since_power_on before lent ms)) rs two tells from.word t out
        ∙ ap (λ w. word_at_end t w (changes (since_power_on before lent ms))) (first_before_lem from (changes (since_power_on before lent ms)) next)
        ∙ ap (word_at_end t from.word) split ∙ word_between t from (changes us) grown.more l.next l.tick grown.late
        ∙ l.word ∙ sym (outputs_as_told us))

-- ---- where a log begins

-- Behind a power-on all outputs are off, and no change is told.
pub powered_begins : (xs : List Made) (lent : Areas) → let zs = xs ++ (powering lent ∷ []) in (changes zs ≡ []) × (outputs zs ≡ 0)
unfolding since notes note tell_all tell
powered_begins xs lent =
    let zs = xs ++ (powering lent ∷ []) in
    (changes_more xs (powering lent ∷ []), outputs_as_told zs ∙ ap (λ (v : Told). v.run.outputs) (told_more xs (powering lent ∷ [])))

-- Behind an emptying that is taken the outputs are as they were, and no change is told.
pub emptied_begins : (xs : List Made) (b : Areas) → is_taken (seen xs (emptying_to b)) ≡ true
    → let zs = xs ++ (emptying_to b ∷ []) in (changes zs ≡ []) × (outputs zs ≡ outputs xs)
unfolding since notes note seen tell_all afterwards said
emptied_begins xs b ok =
    let zs = xs ++ (emptying_to b ∷ []) in
    let stays = told_more xs (emptying_to b ∷ []) ∙ tell_taken (told xs) (after unpowered xs) (emptying_to b) refl ok in (
      changes_more xs (emptying_to b ∷ []) ∙ rw ok,
      outputs_as_told zs ∙ ap (λ (v : Told). v.run.outputs) stays ∙ sym (outputs_as_told xs),
    )

-- ---- two logs, one emptied after the other

module _ (before : List Made) (lent : Areas) (ms ys : List Made) (b : Areas)
    (hands : AllHandOn (after unpowered (powered_on before lent)) (ms ++ (emptying_to b ∷ ys))) where
  first : AllHandOn (after unpowered (powered_on before lent)) ms
  first = (hands_split (after unpowered (powered_on before lent)) ms (emptying_to b) ys hands).0

  handed : HandsOn (after unpowered (since_power_on before lent ms)) (emptying_to b)
  handed =
      let on = before ++ (powering lent ∷ []) in
      subst (λ x. HandsOn x (emptying_to b)) (sym (after_more on ms)) (hands_split (after unpowered on) ms (emptying_to b) ys hands).1

  joined : (since_power_on before lent (ms ++ (emptying_to b ∷ ys))) ≡ (since_power_on before lent ms) ++ (emptying_to b ∷ ys)
  joined = sym (append_assoc (before ++ (powering lent ∷ [])) ms (emptying_to b ∷ ys))

  -- Two logs, with no power-on and no other emptying that is taken between them, join: the word that the first tells last is the one that stood before all
  -- of the second, and so the one that the first record of this calls the earlier. With logs that have no record between them it goes on so, from one to
  -- the next. The calls zs are those before the first log.
  pub logs_join : (ok : is_taken (seen (since_power_on before lent ms) (emptying_to b)) ≡ true) (a : Areas)
      (hand : HandsOn (after unpowered (since_power_on before lent (ms ++ (emptying_to b ∷ ys)))) (emptying_to a))
      (ok' : is_taken (seen (since_power_on before lent (ms ++ (emptying_to b ∷ ys))) (emptying_to a)) ≡ true)
      (bytes : lend_bytes (since_power_on before lent (ms ++ (emptying_to b ∷ ys))) ≡ true)
      → none_begins (notes (after unpowered ((since_power_on before lent ms) ++ (emptying_to b ∷ []))) ys) ≡ true → (zs us : List Made)
      → (since_power_on before lent ms) ≡ zs ++ us → changes zs ≡ []
      → none_begins (notes (after unpowered zs) us) ≡ true → (rs ss : List Record)
      → reading (emptied_by (since_power_on before lent ms) b) ≡ passed rs
      → reading (emptied_by (since_power_on before lent (ms ++ (emptying_to b ∷ ys))) a) ≡ passed ss
      → let w = latest_word (outputs zs) rs in (earliest_word w ss ≡ w) × (w ≡ outputs (since_power_on before lent ms))
  logs_join ok a hand ok' bytes none zs us is fresh calm rs ss read read' =
      let begins = emptied_begins (since_power_on before lent ms) b ok in
      let lends = all_front lends_bytes (since_power_on before lent ms) (emptying_to b ∷ ys) (ap lend_bytes (sym joined) ∙ bytes) in
      let last = latest_word_lem before lent ms first b handed ok lends rs read zs us is fresh calm in
      let split = joined ∙ sym (append_assoc (since_power_on before lent ms) (emptying_to b ∷ []) ys) in
      let early = earliest_word_lem before lent (ms ++ (emptying_to b ∷ ys)) hands a hand ok' bytes ss read'
      ((since_power_on before lent ms) ++ (emptying_to b ∷ [])) ys
      split begins.0 none in
      (subst (λ w. earliest_word w ss ≡ w) (begins.1 ∙ sym last) early, last)
