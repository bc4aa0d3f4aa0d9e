-- 02, item 1: "Reading what the box wrote gives the changes and the lost number of that history."
-- Assumes nothing.
use mathlib.Core.Path.{◌≡◌, sym, ap, subst, ◌∙◌}
use Prim.Native.Nat.{ℕ}
use mathlib.Core.Bool.{true}
use mathlib.Core.List.{List, map}
use lib.ListN.{length, take, drop}
use lib.Seq.{take_at}
use lib.Dec.{eqb}
use borrow.Author.Tests.{eqb-true}
use Rattle.formats.specs.Checks.{passed}
use Rattle.formats.proofs.Checks.{both_true}
use Rattle.boxlog.specs.Record.{is_area}
use Rattle.boxlog.specs.Log.{places, history}
use Rattle.reader.specs.declared.Record.{Record}
use Rattle.reader.specs.declared.Layout.TheVariants.{Sixteen}
use Rattle.reader.specs.Layout.{layout_of}
use Rattle.reader.specs.Reading.{reading_as, reading}
use Rattle.reader.specs.Listing.{listing}
use Rattle.reader.specs.ReadBack.{TextRead, numbers_of}
use Rattle.reader.specs.Produced.{is_size, Produced, records_for, Tells}
use Rattle.reader.proofs.Accepts.{area_size, reads_history}
use Rattle.reader.proofs.Exactly.{produced_layout, accepts_new}
use Rattle.reader.proofs.ReadBack.{answer_read}
use Rattle.controller.specs.Controller.{Areas}
use Rattle.controller.specs.Refusals.{emptying}
use Rattle.controller.proofs.Refusals.{accepted_call}
use Rattle.demands.specs.Histories.{Made, emptying_to, unpowered, outcome, after, HandsOn, AllHandOn, powered_on, since_power_on}
use Rattle.demands.specs.Seen.{is_taken, seen, emptied_by}
use Rattle.demands.specs.Told.{told}
use Rattle.demands.specs.Changes.{changes}
use Rattle.demands.specs.LentBytes.{lend_bytes}
use Rattle.demands.proofs.History.Telling.{held_as_told}
use Rattle.demands.proofs.Logs.LogTells.{emptying_tells}
use Rattle.demands.proofs.Logs.Possible.{changes_possible}

-- the log that an emptying is taken with has as many places as a reader's size
pub emptied_size : (ms : List Made) (a : Areas) → is_taken (seen ms (emptying_to a)) ≡ true → is_size Sixteen (places (told ms).log_length) ≡ true
unfolding seen outcome
emptied_size ms a ok =
    let c = (after unpowered ms).state in
    let ch = (accepted_call emptying c a (eqb-true _ _ ok)).0 in
    let two = both_true (is_area (length a.log)) (eqb (length a.log) c.log.length) ch.checks.0.log in
    let long : length a.log ≡ (told ms).log_length = eqb-true (length a.log) c.log.length two.1 ∙ (held_as_told ms).log_length in
    area_size (told ms).log_length (rw long at two.0)

-- A power-on after any calls, and any calls after it; from it on the caller hands on both areas, and every lent area holds bytes.
module _ (before : List Made) (lent : Areas) (ms : List Made) (hands : AllHandOn (after unpowered (powered_on before lent)) ms) where
  module _ (a : Areas) (hand : HandsOn (after unpowered (since_power_on before lent ms)) (emptying_to a))
      (ok : is_taken (seen (since_power_on before lent ms) (emptying_to a)) ≡ true) (bytes : lend_bytes (since_power_on before lent ms) ≡ true) where
    abbrev given : List ℕ
    given = emptied_by (since_power_on before lent ms) a

    abbrev R : ℕ
    R = places (told (since_power_on before lent ms)).log_length

    given_is : given ≡ history R (changes (since_power_on before lent ms))
    given_is =
        let both = emptying_tells before lent ms hands a hand ok in
        let log = history R (changes (since_power_on before lent ms)) in
        ap (take (seen (since_power_on before lent ms) (emptying_to a)).written) both.0
        ∙ take_at log (drop (length log) a.out) (seen (since_power_on before lent ms) (emptying_to a)).written (sym both.1)

    -- The bytes that an emptying which is taken gives are such as the log rule can produce.
    pub emptied_produced : Produced Sixteen (emptied_by (since_power_on before lent ms) a)
    emptied_produced = record {
      R = R;
      size = emptied_size (since_power_on before lent ms) a ok;
      changes = changes (since_power_on before lent ms);
      possible = changes_possible (since_power_on before lent ms) bytes;
      log = given_is;
    }

    -- They do not begin with the older mark.
    given_layout : layout_of given ≡ Sixteen
    given_layout = produced_layout given emptied_produced

    -- They are read, and the records read tell of each change since power-on or the last emptying, in order, or of the first of them, of how
    -- many were lost, of the tick of the first lost and of the word after the last.
    pub emptied_reads : (rs : List Record) × (reading (emptied_by (since_power_on before lent ms) a) ≡ passed rs)
        × Tells Sixteen (places (told (since_power_on before lent ms)).log_length) (changes (since_power_on before lent ms)) rs
    emptied_reads =
        let read = reads_history Sixteen R (changes (since_power_on before lent ms)) (emptied_size (since_power_on before lent ms) a ok)
        (changes_possible (since_power_on before lent ms) bytes) in
        let mark : reading given ≡ reading_as Sixteen given = ap (λ m. reading_as m given) given_layout in
        (read.0, mark ∙ ap (reading_as Sixteen) given_is ∙ read.1, read.2)

    -- So a person who reads their text finds the numbers of each of those changes, line by line, and those of the gap.
    pub emptied_lists : TextRead (listing (emptied_by (since_power_on before lent ms) a))
        (map (numbers_of Sixteen)
        (records_for Sixteen (places (told (since_power_on before lent ms)).log_length) (changes (since_power_on before lent ms))))
    emptied_lists =
        let r = emptied_reads in
        let text : TextRead (listing given) (map (numbers_of (layout_of given)) r.0) =
        answer_read given r.0 ((accepts_new given).1 emptied_produced).0 r.1 in
        subst (λ rs. TextRead (listing given) (map (numbers_of Sixteen) rs)) r.2.records
        (subst (λ m. TextRead (listing given) (map (numbers_of m) r.0)) given_layout text)
