-- What a log brings: its refusals, and what comes of a log that has none.
-- Assumes nothing.
use mathlib.Core.Path.{◌≡◌, refl, sym, ap, subst, ◌∙◌}
use mathlib.Core.Logic.{◌≢◌}
use Prim.Native.Nat.{ℕ, zero, suc, ◌/◌, ◌%◌, ◌≤◌, ◌<◌}
use native.Mathlib.Omega.{arith}
use mathlib.Core.Bool.{Bool, true, false, not, false≢true}
use mathlib.Core.List.{List, [], ◌∷◌, ◌++◌}
use lib.ListN.{length, drop}
use lib.Dec.{eqb, leb}
use borrow.Author.Tests.{eq-eqb, ne_eqb, eqb-true, le-leb, lt-leb}
use Rattle.formats.specs.Checks.{Res, refused, passed, ◌>>=◌, ◌>>◌, ◌or_else◌}
use Rattle.formats.proofs.Checks.{not_passed, refused_same, passed_same}
use Rattle.reader.specs.declared.Record.{Record}
use Rattle.reader.specs.declared.Told.{Told}
use Rattle.reader.specs.declared.Layout.{Layout}
use Rattle.reader.specs.declared.Layout.TheVariants.{Twelve, Sixteen}
use Rattle.reader.specs.Possible.{last_of}
use Rattle.reader.specs.Layout.{size_of, most_bytes, other_than, is_marked, layout_of, record_in, records_in}
use Rattle.reader.specs.Reading.{record_at, is_possible, may_stand, no_record, read_after, reading_as, reading, told, told_of}
use Rattle.reader.proofs.Walking.{refused_answer, ToldOf, log_answer}
use Rattle.reader.proofs.Exactly.{records_read}
use Rattle.reader.proofs.Rows.{length_records_in}
use Rattle.channels.specs.declared.Beside.{Beside}
use Rattle.channels.specs.Bringing.{is_sixteen, log_for, is_later, matches}
use Rattle.channels.specs.Walk.{first_of, Reads, joining}

-- ---- the numbers of the reader's refusals: none is 0, and none above 56

abbrev pub InReader : ℕ → Type 0
InReader e = (0 < e) × (e ≤ 56)

numbered : (n e : ℕ) (A : Type 0) → InReader n → ◌≡◌ {A = Res A} (refused n) (refused e) → InReader e
numbered n e A here same = subst InReader (refused_same same) here

stand_numbers : (m : Layout) (k : ℕ) (b : Record) (bs : List ℕ) (e : ℕ) (r : Res (List Record)) → (may_stand m k b bs >> r) ≡ refused e
    → (r ≡ refused e → InReader e) → InReader e
unfolding may_stand ◌>>◌ ◌or_else◌
stand_numbers m k b bs e r is rest = go (is_marked (other_than m) bs) (is_marked m bs) (is_possible m k b (record_in m bs)) is
  where
    go : (x y z : Bool) → ((not x or_else 53 >> (y or_else 51 >> z or_else 52)) >> r) ≡ refused e → InReader e
    go true y z is = numbered 53 e (List Record) (omega arith, omega arith) is
    go false false z is = numbered 51 e (List Record) (omega arith, omega arith) is
    go false true false is = numbered 52 e (List Record) (omega arith, omega arith) is
    go false true true is = rest is

read_numbers : (m : Layout) (rs : List Record) (n : ℕ) (bs : List ℕ) (e : ℕ) → read_after m rs n bs ≡ refused e → InReader e
unfolding read_after
read_numbers m rs zero bs e is = absurd (not_passed (sym is))
read_numbers m rs (suc n) bs e is =
    stand_numbers m (length rs) (last_of no_record rs) bs e (read_after m (rs ++ (record_in m bs ∷ [])) n (drop (size_of m) bs)) is
    (λ x. read_numbers m (rs ++ (record_in m bs ∷ [])) n (drop (size_of m) bs) e x)

pub reading_numbers : (m : Layout) (bs : List ℕ) (e : ℕ) → reading_as m bs ≡ refused e → InReader e
unfolding reading_as ◌>>◌ ◌or_else◌
reading_numbers m bs e is = go (leb (length bs) (most_bytes m)) (eqb (length bs % size_of m) 0) is
  where
    go : (x y : Bool) → (x or_else 56 >> (y or_else 50 >> read_after m [] (length bs / size_of m) bs)) ≡ refused e → InReader e
    go false y is = numbered 56 e (List Record) (omega arith, omega arith) is
    go true false is = numbered 50 e (List Record) (omega arith, omega arith) is
    go true true is = read_numbers m [] (length bs / size_of m) bs e is

-- ---- the records of a log, where there are n channel records

module _ (n : ℕ) (log : List ℕ) where
  -- the checks by themselves
  abbrev checked : Bool → Res (List Record) → Bool → Res (List Record)
  checked x r y = do
    x or_else 75
    rs ← r
    y or_else 51
    passed rs

  pub other_count : n ≢ 32 → refused 75 ≡ told_of Sixteen (log_for n log)
  unfolding log_for ◌>>=◌ ◌>>◌ ◌or_else◌
  other_count ne = rw (ne_eqb n 32 ne)

  module _ (count : n ≡ 32) where
    -- the checks behind the first
    behind : (r : Res (List Record)) (m : Layout) → reading log ≡ r → layout_of log ≡ m → log_for n log ≡ checked true r (is_sixteen m)
    unfolding log_for
    behind r m er em =
        ap (λ x. checked x (reading log) (is_sixteen (layout_of log))) (eq-eqb n 32 count) ∙ ap (λ y. checked true y (is_sixteen (layout_of log))) er
        ∙ ap (λ l. checked true r (is_sixteen l)) em

    pub log_refused : {e : ℕ} → refused e ≡ told_of (layout_of log) (reading log) → refused e ≡ told_of Sixteen (log_for n log)
    unfolding ◌>>=◌ ◌>>◌ ◌or_else◌
    log_refused {e} is = ap (told_of Sixteen) (sym (behind (refused e) (layout_of log) (refused_answer (layout_of log) (reading log) e is) refl))

    module _ {t : Told} (is : passed t ≡ told_of (layout_of log) (reading log)) where
      accepted : ToldOf (layout_of log) (reading log) t
      accepted = log_answer (layout_of log) (reading log) t is

      layout_is : layout_of log ≡ t.layout
      layout_is = sym (ap (λ (y : Told). y.layout) accepted.is)

      pub log_older : t.layout ≡ Twelve → refused 51 ≡ told_of Sixteen (log_for n log)
      unfolding ◌>>=◌ ◌>>◌ ◌or_else◌
      log_older twelve = ap (told_of Sixteen) (sym (behind (passed accepted.records) Twelve accepted.read (layout_is ∙ twelve)))

      pub log_new : t.layout ≡ Sixteen → passed t ≡ told_of Sixteen (log_for n log)
      unfolding ◌>>=◌ ◌>>◌ ◌or_else◌
      log_new sixteen =
          let m = layout_is ∙ sixteen in
          ap passed (accepted.is ∙ ap (λ k. told k accepted.records) m) ∙ ap (told_of Sixteen) (sym (behind (passed accepted.records) Sixteen accepted.read m))

  -- a log that passes them
  pub record Passes (rs : List Record) : Type 0 where
    pub count : n ≡ 32
    pub read : reading log ≡ passed rs
    pub sixteen : layout_of log ≡ Sixteen

  is_sixteen_lem : (m : Layout) → is_sixteen m ≡ true → m ≡ Sixteen
  is_sixteen_lem Sixteen e = refl
  is_sixteen_lem Twelve e = absurd (false≢true e)

  pub log_passes : (rs : List Record) → log_for n log ≡ passed rs → Passes rs
  unfolding log_for ◌>>=◌ ◌>>◌ ◌or_else◌
  log_passes rs is = go (eqb n 32) refl (reading log) refl (is_sixteen (layout_of log)) refl is
    where
      go : (x : Bool) → eqb n 32 ≡ x → (r : Res (List Record)) → reading log ≡ r → (y : Bool) → is_sixteen (layout_of log) ≡ y
          → checked x r y ≡ passed rs → Passes rs
      go false ex r er y ey is = absurd (not_passed is)
      go true ex (refused d) er y ey is = absurd (not_passed is)
      go true ex (passed ss) er false ey is = absurd (not_passed is)
      go true ex (passed ss) er true ey is =
          record { count = eqb-true n 32 ex; read = er ∙ ap passed (passed_same is); sixteen = is_sixteen_lem (layout_of log) ey }

  pub reads_of : (t : Told) → passed t ≡ told_of Sixteen (log_for n log) → Reads t log × (log_for n log ≡ passed (first_of t.records log))
  reads_of t is =
      let a = log_answer Sixteen (log_for n log) t is in
      let p = log_passes a.records a.read in
      let by16 = ap (λ m. reading_as m log) (sym p.sixteen) ∙ p.read in
      let all = records_read Sixteen log a.records by16 in
      let long : t.records ≡ length log / 16 =
      ap (λ (y : Told). y.records) a.is ∙ ap length all ∙ length_records_in Sixteen (length log / 16) log in
      let same : a.records ≡ first_of t.records log = all ∙ ap (λ m. records_in Sixteen m log) (sym long) in
      (record { read = by16 ∙ ap passed same; told = a.is ∙ ap (told Sixteen) same }, a.read ∙ ap passed same)

-- ---- 072 and 073

module _ (b : Beside) (log : List ℕ) where
  pub join_none : (n : ℕ) → n ≡ 0 → passed tt ≡ joining b (first_of n log)
  unfolding joining is_later matches ◌>>◌ ◌or_else◌
  join_none n e = rw e

  module _ (n : ℕ) (some : n ≢ 0) {first : Record} (is : first ≡ record_at Sixteen 0 log) where
    by_first : (r : Res (Unit {0})) → (is_later b (first ∷ []) or_else 72 >> matches b (first ∷ []) or_else 73) ≡ r → r ≡ joining b (first_of n log)
    unfolding joining is_later matches
    by_first r e = go n refl
      where
        go : (k : ℕ) → n ≡ k → r ≡ joining b (first_of n log)
        go zero z = absurd (some z)
        go (suc k) z =
            sym e ∙ ap (λ (f : Record). leb b.tick f.tick or_else 72 >> eqb f.word b.word or_else 73) is
            ∙ ap (λ m. joining b (first_of m log)) (sym z)

    pub join_early : first.tick < b.tick → refused 72 ≡ joining b (first_of n log)
    unfolding is_later matches ◌>>◌ ◌or_else◌
    join_early lt = by_first (refused 72) (rw (lt-leb b.tick first.tick lt))

    module _ (le : b.tick ≤ first.tick) where
      pub join_other : first.word ≢ b.word → refused 73 ≡ joining b (first_of n log)
      unfolding is_later matches ◌>>◌ ◌or_else◌
      join_other other = by_first (refused 73) (rw (le-leb b.tick first.tick le, ne_eqb first.word b.word other))

      pub join_well : first.word ≡ b.word → passed tt ≡ joining b (first_of n log)
      unfolding is_later matches ◌>>◌ ◌or_else◌
      join_well same = by_first (passed tt) (rw (le-leb b.tick first.tick le, eq-eqb first.word b.word same))
