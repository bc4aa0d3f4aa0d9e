-- Laws of the calls since a power-on, cut at the emptyings that are taken: what the box says of each stretch.
-- Assumes nothing.
use mathlib.Core.Path.{◌≡◌, refl, sym, ap, subst, ◌∙◌}
use Prim.Native.Nat.{◌-◌, ◌≤◌, ◌<◌}
use native.Mathlib.Omega.{arith}
use mathlib.Core.Bool.{true}
use mathlib.Core.List.{List, [], ◌∷◌, ◌++◌, append_assoc}
use lib.Dec.{leb}
use borrow.Author.Tests.{leb-true}
use Rattle.formats.specs.Checks.{passed}
use Rattle.formats.proofs.Checks.{both_true, all_front}
use Rattle.boxlog.specs.Log.{places}
use Rattle.reader.specs.declared.Layout.TheVariants.{Sixteen}
use Rattle.reader.specs.Layout.{most_records, layout_of}
use Rattle.reader.specs.Reading.{reading}
use Rattle.reader.specs.Produced.{records_for}
use Rattle.reader.proofs.Exactly.{produced_layout}
use Rattle.controller.specs.Controller.{Areas}
use Rattle.demands.specs.Histories.{Made, emptying_to, unpowered, after, HandsOn, AllHandOn, powered_on, since_power_on}
use Rattle.demands.specs.Seen.{is_taken, seen, emptied_by, outputs, note, notes}
use Rattle.demands.specs.Told.{Told, tell_all, told, afterwards}
use Rattle.demands.specs.Changes.{since, changes}
use Rattle.demands.specs.LentBytes.{lends_bytes, lend_bytes}
use Rattle.demands.specs.Switchings.{Stretch, up_to, through, calls_of, IsStretch, Chain}
use Rattle.demands.specs.SwitchingGaps.{kept_of, lost_of}
use Rattle.demands.proofs.Calls.Answered.{invariant_always}
use Rattle.demands.proofs.History.Telling.{tell_taken, after_more, told_more, changes_more, held_as_told}
use Rattle.demands.proofs.Logs.Leading.{standing, Reached, changes_lead}
use Rattle.demands.proofs.Logs.LogReads as LogReads
use Rattle.demands.proofs.Logs.LogWords.{emptied_begins}
use Rattle.demands.proofs.Logs.Growing.{begun_at, grown_since, hands_split}
use Rattle.demands.proofs.Logs.Counted.{Counts, counts_all}
use Rattle.demands.proofs.Logs.Kept.{logged}

-- the notes of the calls of a stretch are `notes (after unpowered zs) s.calls`
pub record OfStretch (zs : List Made) (s : Stretch) : Type 0 where
  -- the log is read, and holds the changes kept and the gap over those lost
  pub read : reading (emptied_by (up_to zs s) s.lent) ≡ passed (logged (kept_of zs s) (lost_of zs s))
  pub layout : layout_of (emptied_by (up_to zs s) s.lent) ≡ Sixteen
  pub some : 0 < places (told (up_to zs s)).log_length - 1
  -- the changes lead from what stood to what stands, and say what the calls switch
  pub reached : Reached (standing (told zs)) (changes (up_to zs s)) (told (up_to zs s))
  pub counts : Counts [] (told zs) (notes (after unpowered zs) s.calls)
  pub counted : changes (up_to zs s) ≡ counts.more
  -- the emptying leaves outputs and tick count, and begins a list of changes
  pub fresh : changes (through zs s) ≡ []
  pub stood : outputs (through zs s) ≡ outputs (up_to zs s)
  pub ticks : (told (through zs s)).ticks ≡ (told (up_to zs s)).ticks

abbrev pub AllOf : List Made → List Stretch → Type 0
AllOf zs [] = Unit {0}
AllOf zs (s ∷ ss) = OfStretch zs s × AllOf (through zs s) ss

-- an emptying that is taken is no tick
emptied_ticks : (xs : List Made) (b : Areas) → is_taken (seen xs (emptying_to b)) ≡ true → (told (xs ++ (emptying_to b ∷ []))).ticks ≡ (told xs).ticks
unfolding notes note seen tell_all afterwards
emptied_ticks xs b ok = ap (λ (v : Told). v.ticks) (told_more xs (emptying_to b ∷ []) ∙ tell_taken (told xs) (after unpowered xs) (emptying_to b) refl ok)

module _ (before : List Made) (lent : Areas) where
  -- what `LogReads` says of an emptying behind the calls us
  abbrev ReadBehind : List Made → Type 0
  ReadBehind us = (a : Areas) → HandsOn (after unpowered us) (emptying_to a) → is_taken (seen us (emptying_to a)) ≡ true → lend_bytes us ≡ true
      → (reading (emptied_by us a) ≡ passed (records_for Sixteen (places (told us).log_length) (changes us))) × (layout_of (emptied_by us a) ≡ Sixteen)

  read_behind : (ms : List Made) → AllHandOn (after unpowered (powered_on before lent)) ms → ReadBehind (since_power_on before lent ms)
  read_behind ms hands a hand ok bytes =
      let r = LogReads.emptied_reads before lent ms hands a hand ok bytes in (
        r.1 ∙ ap passed r.2.records,
        produced_layout (emptied_by (since_power_on before lent ms) a) (LogReads.emptied_produced before lent ms hands a hand ok bytes),
      )

  module _ (zs : List Made) (s : Stretch) (fresh : changes zs ≡ []) (of : IsStretch zs s) (reads : ReadBehind (up_to zs s))
      (hand : HandsOn (after unpowered (up_to zs s)) (emptying_to s.lent)) (bytes : lend_bytes (up_to zs s) ≡ true) where
    stretch_counts : Counts [] (told zs) (notes (after unpowered zs) s.calls)
    stretch_counts = counts_all [] (told zs) (after unpowered zs) s.calls (held_as_told zs) (invariant_always zs) of.none

    of_stretch : OfStretch zs s
    unfolding records_for
    of_stretch =
        let size = LogReads.emptied_size (up_to zs s) s.lent of.taken in
        let R = places (told (up_to zs s)).log_length in
        let two : 2 ≤ R = leb-true 2 R (both_true (leb 2 R) (leb R (most_records Sixteen)) size).0 in
        let r = reads s.lent hand of.taken bytes in
        let range = (changes_lead zs (all_front lends_bytes zs s.calls bytes)).1 in
        let begun = emptied_begins (up_to zs s) s.lent of.taken in
        record {
          read = r.0;
          layout = r.1;
          some = omega arith;
          reached = (grown_since zs (standing (told zs)) range (begun_at zs fresh) s.calls bytes of.none).reached;
          counts = stretch_counts;
          counted = changes_more zs s.calls ∙ ap (λ ds. since ds (told zs) (notes (after unpowered zs) s.calls)) fresh ∙ stretch_counts.is;
          fresh = begun.0;
          stood = begun.1;
          ticks = emptied_ticks (up_to zs s) s.lent of.taken;
        }

  -- The calls zs are those up to a power-on and the calls ms after it; what comes after them is a chain, the caller hands on both areas, and every lent area
  -- holds bytes.
  pub all_of : (ss : List Stretch) (zs ms : List Made) → since_power_on before lent ms ≡ zs → changes zs ≡ [] → Chain zs ss
      → AllHandOn (after unpowered (powered_on before lent)) (ms ++ calls_of ss) → lend_bytes (zs ++ calls_of ss) ≡ true → AllOf zs ss
  unfolding calls_of
  all_of [] zs ms is fresh chain hands bytes = tt
  all_of (s ∷ ss) zs ms is fresh chain hands bytes = (here, all_of ss (through zs s) (xs ++ (em ∷ [])) is_next_lem here.fresh chain.1 hands_next bytes_next)
    where
      on : List Made
      on = powered_on before lent

      em : Made
      em = emptying_to s.lent

      xs : List Made
      xs = ms ++ s.calls

      rest : List Made
      rest = calls_of ss

      hands_all : AllHandOn (after unpowered on) (xs ++ (em ∷ rest))
      hands_all = subst (AllHandOn (after unpowered on)) (sym (append_assoc ms s.calls (em ∷ rest))) hands

      split : AllHandOn (after unpowered on) xs × HandsOn (after (after unpowered on) xs) em
      split = hands_split (after unpowered on) xs em rest hands_all

      is_here : since_power_on before lent xs ≡ up_to zs s
      is_here = sym (append_assoc on ms s.calls) ∙ ap (λ l. l ++ s.calls) is

      hand : HandsOn (after unpowered (up_to zs s)) em
      hand = subst (λ h. HandsOn h em) (sym (after_more on xs) ∙ ap (after unpowered) is_here) split.1

      bytes_all : lend_bytes (up_to zs s ++ (em ∷ rest)) ≡ true
      bytes_all = ap lend_bytes (append_assoc zs s.calls (em ∷ rest)) ∙ bytes

      here : OfStretch zs s
      here =
          of_stretch zs s fresh chain.0 (subst ReadBehind is_here (read_behind xs split.0)) hand
          (all_front lends_bytes (up_to zs s) (em ∷ rest) bytes_all)

      is_next_lem : since_power_on before lent (xs ++ (em ∷ [])) ≡ through zs s
      is_next_lem = sym (append_assoc on xs (em ∷ [])) ∙ ap (λ l. l ++ (em ∷ [])) is_here

      hands_next : AllHandOn (after unpowered on) ((xs ++ (em ∷ [])) ++ rest)
      hands_next = subst (AllHandOn (after unpowered on)) (sym (append_assoc xs (em ∷ []) rest)) hands_all

      bytes_next : lend_bytes (through zs s ++ rest) ≡ true
      bytes_next = ap lend_bytes (append_assoc (up_to zs s) (em ∷ []) rest) ∙ bytes_all
