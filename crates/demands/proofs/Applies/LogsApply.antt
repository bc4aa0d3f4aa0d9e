-- Promises that apply, the log: a script that passes its tests meets the premises of `LogTells`, and, where every lent area holds bytes, those of `LogReads`
-- and `LogWords`.
-- Assumes nothing.
use mathlib.Core.Path.{◌≡◌, refl, sym, ap, subst, ◌∙◌}
use mathlib.Core.Bool.{true}
use mathlib.Core.List.{List, [], ◌∷◌, ◌++◌, append_assoc}
use Prim.Native.Nat.{ℕ}
use lib.ListN.{length}
use Rattle.formats.specs.Checks.{passed}
use Rattle.formats.proofs.Checks.{all_append}
use Rattle.boxlog.specs.Log.{places, history}
use Rattle.reader.specs.declared.Record.{Record}
use Rattle.reader.specs.Reading.{reading}
use Rattle.reader.specs.Words.{earliest_word, word_at, is_outside_gap, latest_word}
use Rattle.controller.specs.Controller.{Areas}
use Rattle.controller.specs.Deeds.{over}
use Rattle.controller.specs.Refusals.{tick, emptying}
use Rattle.demands.specs.Histories.{Made, powering, ticking, emptying_to, unpowered, after, HandsOn, AllHandOn}
use Rattle.demands.specs.Seen.{is_taken, seen, emptied_by, outputs, note, notes}
use Rattle.demands.specs.Told.{Told, told}
use Rattle.demands.specs.Changes.{none_begins, changes}
use Rattle.demands.specs.LentBytes.{lends_bytes, lend_bytes}
use Rattle.demands.specs.Walks.{asking, asks_of, set_out, made_of, Trail, trail, moment}
use Rattle.demands.specs.Premises.{copy, goes, ◌behind◌, one_more, powers_at, empties_to}
use Rattle.demands.specs.Applying.{is_outside, Logs, logs, lend}
use Rattle.demands.proofs.Applies.Walked.{
  calls,
  Reached,
  reached_none,
  reached_more,
  hands_reached,
  hands_append,
  begins_reached,
  begins_append,
  bytes_trail,
  hand_reached,
  taken_so,
  reply_so,
  one_reached,
  AllTrue,
  nth,
  holds_at,
}
use Rattle.demands.proofs.Logs.LogTells.{emptying_tells}
use Rattle.demands.proofs.Logs.LogReads as LogReads
use Rattle.demands.proofs.Logs.LogWords as LogWords

module _ (x : Logs) where
  abbrev before : List Made
  before = calls (set_out copy) (asks_of x.before)

  abbrev lent : Areas
  lent = (made_of (powers_at x.room) (goes x.before).last).areas

  -- the calls up to the power-on, up to the first emptying and up to the second
  abbrev on : List Made
  on = before ++ (powering lent ∷ [])

  abbrev o : Trail
  o = one_more (goes x.before) (powers_at x.room)

  abbrev ms : List Made
  ms = calls o.last (asks_of x.once)

  abbrev n : Trail
  n = o behind x.once

  abbrev once : List Made
  once = on ++ ms

  -- what the first emptying is lent
  abbrev b : Areas
  b = (made_of (empties_to x.first) n.last).areas

  abbrev f : Trail
  f = one_more n (empties_to x.first)

  abbrev us : List Made
  us = calls f.last (asks_of x.later)

  abbrev l : Trail
  l = f behind x.later

  -- what the tick is lent
  abbrev c : Areas
  c = (made_of (asking tick) l.last).areas

  abbrev k : Trail
  k = one_more l (asking tick)

  abbrev vs : List Made
  vs = calls k.last (asks_of x.last)

  abbrev m : Trail
  m = k behind x.last

  abbrev later : List Made
  later = us ++ (ticking c ∷ vs)

  abbrev twice : List Made
  twice = on ++ (ms ++ (emptying_to b ∷ later))

  abbrev a : Areas
  a = (made_of (empties_to x.second) m.last).areas

  at_on : Reached on o.last
  at_on = one_reached (reached_more (reached_none copy) (asks_of x.before)) (powers_at x.room)

  at_once : Reached once n.last
  at_once = reached_more at_on (asks_of x.once)

  emptied : Reached (once ++ (emptying_to b ∷ [])) f.last
  emptied = one_reached at_once (empties_to x.first)

  at_tick : Reached ((once ++ (emptying_to b ∷ [])) ++ us) l.last
  at_tick = reached_more emptied (asks_of x.later)

  ticked : Reached (((once ++ (emptying_to b ∷ [])) ++ us) ++ (ticking c ∷ [])) k.last
  ticked = one_reached at_tick (asking tick)

  at_last : Reached ((((once ++ (emptying_to b ∷ [])) ++ us) ++ (ticking c ∷ [])) ++ vs) m.last
  at_last = reached_more ticked (asks_of x.last)

  -- the same calls, in other brackets
  joined : (((once ++ (emptying_to b ∷ [])) ++ us) ++ (ticking c ∷ [])) ++ vs ≡ twice
  joined =
      append_assoc ((once ++ (emptying_to b ∷ [])) ++ us) (ticking c ∷ []) vs ∙ append_assoc (once ++ (emptying_to b ∷ [])) us (ticking c ∷ vs)
      ∙ append_assoc once (emptying_to b ∷ []) later ∙ append_assoc on ms (emptying_to b ∷ later)

  at_twice : Reached twice m.last
  at_twice = subst (λ cs. Reached cs m.last) joined at_last

  -- what `emptying_tells` says of both emptyings, the first being one of the calls before the second
  abbrev pub LogsSo : Type 0
  LogsSo =
      ((seen once (emptying_to b)).areas.out ≡ over (history (places (told once).log_length) (changes once)) b.out)
      × ((seen twice (emptying_to a)).areas.out ≡ over (history (places (told twice).log_length) (changes twice)) a.out)

  -- what `emptied_reads`, `logs_join` and `word_at_tick` say of them
  abbrev pub ListsSo : Type 0
  ListsSo = let zs = once ++ (emptying_to b ∷ []) in
      (rs : List Record) × ((ss : List Record) × (
      (reading (emptied_by once b) ≡ passed rs) × (reading (emptied_by twice a) ≡ passed ss)
      × (let w = latest_word (outputs on) rs in (earliest_word w ss ≡ w) × (w ≡ outputs once))
      × (word_at (outputs zs) (told (zs ++ us)).ticks ss ≡ outputs (zs ++ us))))

  module _ (ok : AllTrue (logs x)) where
    at : (i : ℕ) → nth i (logs x) ≡ true
    at = holds_at (logs x) ok

    hands_first : AllHandOn (after unpowered on) ms
    unfolding logs
    hands_first = hands_reached at_on (asks_of x.once) (at 0)

    first_taken : is_taken (seen once (emptying_to b)) ≡ true
    unfolding logs
    first_taken = taken_so at_once (empties_to x.first) (at 1)

    hands_later : AllHandOn (after unpowered (once ++ (emptying_to b ∷ []))) later
    unfolding logs after
    hands_later =
        hands_append (once ++ (emptying_to b ∷ [])) us (ticking c ∷ vs) (hands_reached emptied (asks_of x.later) (at 4))
        (hands_append ((once ++ (emptying_to b ∷ [])) ++ us) (ticking c ∷ []) vs (hand_reached at_tick tick 16, tt)
        (hands_reached ticked (asks_of x.last) (at 8)))

    hands : AllHandOn (after unpowered on) (ms ++ (emptying_to b ∷ later))
    unfolding after
    hands =
        hands_append on ms (emptying_to b ∷ later) hands_first
        (hands_append once (emptying_to b ∷ []) later (hand_reached at_once emptying (length x.first), tt) hands_later)

    second_taken : is_taken (seen twice (emptying_to a)) ≡ true
    unfolding logs
    second_taken = taken_so at_twice (empties_to x.second) (at 10)

    second_hand : HandsOn (after unpowered twice) (emptying_to a)
    second_hand = hand_reached at_twice emptying (length x.second)

    pub logs_apply : LogsSo
    logs_apply = (
      (emptying_tells before lent ms hands_first b (hand_reached at_once emptying (length x.first)) first_taken).0,
      (emptying_tells before lent (ms ++ (emptying_to b ∷ later)) hands a second_hand second_taken).0,
    )

    -- every lent area holds bytes
    module _ (ok' : AllTrue (lend x)) where
      bytes_at : (i : ℕ) → nth i (lend x) ≡ true
      bytes_at = holds_at (lend x) ok'

      bytes_once : lend_bytes once ≡ true
      unfolding lend trail moment
      bytes_once =
          all_append lends_bytes on ms
          (all_append lends_bytes before (powering lent ∷ []) (bytes_trail (goes x.before).moments (bytes_at 0)) (bytes_trail o.moments (bytes_at 1)))
          (bytes_trail n.moments (bytes_at 2))

      bytes_later : lend_bytes (emptying_to b ∷ later) ≡ true
      unfolding lend trail moment
      bytes_later =
          all_append lends_bytes (emptying_to b ∷ []) later (bytes_trail f.moments (bytes_at 3))
          (all_append lends_bytes us (ticking c ∷ vs) (bytes_trail l.moments (bytes_at 4))
          (all_append lends_bytes (ticking c ∷ []) vs (bytes_trail k.moments (bytes_at 5)) (bytes_trail m.moments (bytes_at 6))))

      bytes_twice : lend_bytes twice ≡ true
      bytes_twice = ap lend_bytes (sym (append_assoc on ms (emptying_to b ∷ later))) ∙ all_append lends_bytes once (emptying_to b ∷ later) bytes_once bytes_later

      -- no list of changes begins
      none_tick : none_begins (notes (after unpowered ((once ++ (emptying_to b ∷ [])) ++ us)) (ticking c ∷ vs)) ≡ true
      unfolding logs notes note
      none_tick = begins_append ((once ++ (emptying_to b ∷ [])) ++ us) (ticking c ∷ []) vs refl (begins_reached ticked (asks_of x.last) (at 9))

      none_later : none_begins (notes (after unpowered (once ++ (emptying_to b ∷ []))) us) ≡ true
      unfolding logs
      none_later = begins_reached emptied (asks_of x.later) (at 5)

      none_once : none_begins (notes (after unpowered on) ms) ≡ true
      unfolding logs
      none_once = begins_reached at_on (asks_of x.once) (at 3)

      -- what `emptied_reads` finds in both logs
      first_records : (rs : List Record) × (reading (emptied_by once b) ≡ passed rs)
      first_records =
          let r = LogReads.emptied_reads before lent ms hands_first b (hand_reached at_once emptying (length x.first)) first_taken bytes_once in
          (r.0, r.1)

      second_records : (rs : List Record) × (reading (emptied_by twice a) ≡ passed rs)
      second_records =
          let r = LogReads.emptied_reads before lent (ms ++ (emptying_to b ∷ later)) hands a second_hand second_taken bytes_twice in
          (r.0, r.1)

      join_so : let w = latest_word (outputs on) first_records.0 in (earliest_word w second_records.0 ≡ w) × (w ≡ outputs once)
      join_so =
          LogWords.logs_join before lent ms later b hands first_taken a second_hand second_taken bytes_twice
          (begins_append (once ++ (emptying_to b ∷ [])) us (ticking c ∷ vs) none_later none_tick) on ms refl (LogWords.powered_begins before lent).0 none_once
          first_records.0 second_records.0 first_records.1 second_records.1

      word_so : let zs = once ++ (emptying_to b ∷ []) in word_at (outputs zs) (told (zs ++ us)).ticks second_records.0 ≡ outputs (zs ++ us)
      unfolding logs
      word_so =
          let zs = once ++ (emptying_to b ∷ []) in
          let is : twice ≡ (zs ++ us) ++ (ticking c ∷ vs) = sym joined ∙ append_assoc (zs ++ us) (ticking c ∷ []) vs in
          let read : reading x.second ≡ passed second_records.0 =
          ap reading (sym (reply_so at_twice (empties_to x.second) x.second (at 11))) ∙ second_records.1 in
          let out : is_outside_gap (told (zs ++ us)).ticks second_records.0 ≡ true =
          ap (λ (t : Told). is_outside_gap t.ticks second_records.0) at_tick.told ∙ sym (ap (is_outside l.last.told.ticks) read) ∙ at 7 in
          LogWords.word_at_tick before lent (ms ++ (emptying_to b ∷ later)) hands a second_hand second_taken bytes_twice second_records.0 second_records.1
          zs us vs c is (LogWords.emptied_begins once b first_taken).0 none_later (taken_so at_tick (asking tick) (at 6)) none_tick out

      pub lists_apply : ListsSo
      lists_apply = (first_records.0, (second_records.0, (first_records.1, second_records.1, join_so, word_so)))
