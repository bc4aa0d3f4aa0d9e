-- The gains of the channels, over one record more: what each channel's bit says of it.
-- Assumes nothing.
use mathlib.Core.Path.{◌≡◌, refl, sym, ap, subst, ◌∙◌}
use mathlib.Core.Logic.{◌≢◌}
use Prim.Native.Nat.{ℕ, zero, suc, ◌+◌, ◌-◌, ◌*◌, ◌/◌, ◌%◌, ◌^◌, ◌≤◌, ◌<◌}
use native.Mathlib.Omega.{arith}
use native.Mathlib.Nat.{mod-lt}
use mathlib.Core.Bool.{Bool, true, false, not, ◌&&◌, true≢false}
use mathlib.Core.List.{List, [], ◌∷◌, ◌++◌}
use lib.ListN.{get_or, set, length-set}
use lib.Seq.{get_or-set_same, get_or-set_other}
use lib.Bits.{bit_and, bit_xor}
use lib.Dec.{eqb}
use borrow.Author.Tests.{eqb-true, eqb-false, eq-eqb, ne_eqb}
use Rattle.std.specs.Prelude.{if◌then◌else◌}
use Rattle.reader.specs.declared.Record.{Record}
use Rattle.channels.specs.declared.Beside.{Beside}
use Rattle.channels.specs.declared.Gain.{Gain}
use Rattle.channels.specs.Totals.{is_closed, is_change, word_from, one_if, closes, opens, count_of, ticks_closed, beside_one, beside_after}
use Rattle.channels.specs.Walk.{Joins, no_gain, switched_of, closed_for, Stands, AllStand, PartStand, Begun}
use Rattle.channels.proofs.Differing.{unset_same, bit_set, bit_cleared, bit_other, none_set}
use Rattle.channels.proofs.Behind.{count_more, count_one, beside_more, beside_one_lem, ticks_more, ticks_one}

-- ---- one channel

module _ (i : ℕ) (b : Beside) (rs : List Record) (r : Record) (g : Gain) (j : Joins (beside_after b rs) r) (s : Stands i b rs g) where
  abbrev l : Beside
  l = beside_after b rs

  abbrev ss : List Record
  ss = rs ++ (r ∷ [])

  -- 1 for a change
  abbrev one : ℕ
  one = one_if (is_change r)

  behind : beside_after b ss ≡ beside_one l r
  behind = beside_more b rs (r ∷ []) ∙ beside_one_lem l r

  -- by the bits before and after the record
  closed_by : one_if (closes i r) ≡ (if not (is_closed i l.word) && is_closed i (word_from r) then one else 0)
  unfolding closes word_from
  closed_by = go (is_change r) refl
    where
      go : (c : Bool) → is_change r ≡ c
          → one_if (c && (not (is_closed i r.word) && is_closed i r.value))
          ≡ (if not (is_closed i l.word) && is_closed i (if c then r.value else r.word) then one_if c else 0)
      go true e = ap (λ w. one_if (not (is_closed i w) && is_closed i r.value)) (j.word e)
      go false e = none (not (is_closed i l.word) && is_closed i r.word)
        where
          none : (x : Bool) → ◌≡◌ {A = ℕ} 0 (if x then 0 else 0)
          none true = refl
          none false = refl

  opened_by : one_if (opens i r) ≡ (if is_closed i l.word && not (is_closed i (word_from r)) then one else 0)
  unfolding opens word_from
  opened_by = go (is_change r) refl
    where
      go : (c : Bool) → is_change r ≡ c
          → one_if (c && (is_closed i r.word && not (is_closed i r.value)))
          ≡ (if is_closed i l.word && not (is_closed i (if c then r.value else r.word)) then one_if c else 0)
      go true e = ap (λ w. one_if (is_closed i w && not (is_closed i r.value))) (j.word e)
      go false e = none (is_closed i l.word && not (is_closed i r.word))
        where
          none : (x : Bool) → ◌≡◌ {A = ℕ} 0 (if x then 0 else 0)
          none true = refl
          none false = refl

  closings_are : count_of (closes i) ss ≡ g.closings + (if not (is_closed i l.word) && is_closed i (word_from r) then one else 0)
  closings_are =
      count_more (closes i) rs (r ∷ []) ∙ ap (λ n. count_of (closes i) rs + n) (count_one (closes i) r ∙ closed_by)
      ∙ ap (λ n. n + (if not (is_closed i l.word) && is_closed i (word_from r) then one else 0)) (sym s.closings)

  openings_are : count_of (opens i) ss ≡ g.openings + (if is_closed i l.word && not (is_closed i (word_from r)) then one else 0)
  openings_are =
      count_more (opens i) rs (r ∷ []) ∙ ap (λ n. count_of (opens i) rs + n) (count_one (opens i) r ∙ opened_by)
      ∙ ap (λ n. n + (if is_closed i l.word && not (is_closed i (word_from r)) then one else 0)) (sym s.openings)

  ticks_are : ticks_closed i b.tick b.word ss
      ≡ g.ticks + (if is_closed i l.word then l.tick - g.since else 0) + (if is_closed i l.word then r.tick - l.tick else 0)
  unfolding closed_for
  ticks_are =
      ticks_more i b rs (r ∷ []) ∙ ap (λ n. ticks_closed i b.tick b.word rs + n) (ticks_one i l.tick l.word r)
      ∙ ap (λ n. n + (if is_closed i l.word then r.tick - l.tick else 0)) (sym s.ticks)

  -- the gain h behind the record, by its parts
  behind_it : (h : Gain) → h.closings ≡ count_of (closes i) ss → h.openings ≡ count_of (opens i) ss
      → h.ticks + (if is_closed i (word_from r) then r.tick - h.since else 0) ≡ ticks_closed i b.tick b.word ss
      → h.since ≤ r.tick → h.ticks ≤ h.since → Stands i b ss h
  unfolding closed_for
  behind_it h c o t since within = record {
    closings = c;
    openings = o;
    ticks = ap (λ (x : Beside). h.ticks + (if is_closed i x.word then x.tick - h.since else 0)) behind ∙ t;
    since = subst (λ (x : Beside). h.since ≤ x.tick) (sym behind) since;
    within = within;
  }

  -- by the bits a before and z after the record, what is counted
  counted_so : (a z : Bool) → is_closed i l.word ≡ a → is_closed i (word_from r) ≡ z
      → (count_of (closes i) ss ≡ g.closings + (if not a && z then one else 0)) × (count_of (opens i) ss ≡ g.openings + (if a && not z then one else 0))
      × (ticks_closed i b.tick b.word ss ≡ g.ticks + (if a then l.tick - g.since else 0) + (if a then r.tick - l.tick else 0))
  counted_so a z x y = (closings_are ∙ rw (x, y), openings_are ∙ rw (x, y), ticks_are ∙ rw x)

  -- the gain h behind the record, where the bit after it is z
  ends_so : (z : Bool) → is_closed i (word_from r) ≡ z → (h : Gain) → h.closings ≡ count_of (closes i) ss → h.openings ≡ count_of (opens i) ss
      → h.ticks + (if z then r.tick - h.since else 0) ≡ ticks_closed i b.tick b.word ss → h.since ≤ r.tick → h.ticks ≤ h.since → Stands i b ss h
  ends_so z y h c o t since within = behind_it h c o (ap (λ x. h.ticks + (if x then r.tick - h.since else 0)) y ∙ t) since within

  -- the bit is the same before and after: the gain stands
  pub stands_same : is_closed i l.word ≡ is_closed i (word_from r) → Stands i b ss g
  stands_same same = go (is_closed i (word_from r)) refl
    where
      go : (z : Bool) → is_closed i (word_from r) ≡ z → Stands i b ss g
      go true y =
          let so = counted_so true true (same ∙ y) y in
          ends_so true y g (omega (arith, so.0)) (omega (arith, so.1)) (omega (arith, so.2, s.since, j.later))
          (omega (arith, s.since, j.later)) s.within
      go false y =
          let so = counted_so false false (same ∙ y) y in
          ends_so false y g (omega (arith, so.0)) (omega (arith, so.1)) (omega (arith, so.2)) (omega (arith, s.since, j.later)) s.within

  -- the channel closes, or opens
  abbrev closing : Gain
  closing = record { closings = g.closings + one; openings = g.openings; ticks = g.ticks; since = r.tick }

  abbrev opening : Gain
  opening = record { closings = g.closings; openings = g.openings + one; ticks = g.ticks + (r.tick - g.since); since = r.tick }

  stands_closing : is_closed i l.word ≡ false → is_closed i (word_from r) ≡ true → Stands i b ss closing
  stands_closing x y =
      let so = counted_so false true x y in
      ends_so true y closing (sym so.0) (omega (arith, so.1)) (omega (arith, so.2)) (omega arith) (omega (arith, s.since, s.within, j.later))

  stands_opening : is_closed i l.word ≡ true → is_closed i (word_from r) ≡ false → Stands i b ss opening
  stands_opening x y =
      let so = counted_so true false x y in
      ends_so false y opening (omega (arith, so.0)) (sym so.1) (omega (arith, so.2, s.since, j.later)) (omega arith)
      (omega (arith, s.since, s.within, j.later))

  -- the gain that the code stores: v and w are the words before and after the record, from the channel's bit on, which differs
  pub stands_on : (v w : ℕ) → v ≡ l.word / 2 ^ i → w ≡ word_from r / 2 ^ i → v % 2 ≢ w % 2 → Stands i b ss (switched_of g w r.tick one)
  unfolding switched_of is_closed
  stands_on v w v-is w-is ne = go (eqb (w % 2) 1) refl
    where
      v_bit : (x : Bool) → eqb (v % 2) 1 ≡ x → is_closed i l.word ≡ x
      v_bit x e = ap (λ n. eqb (n % 2) 1) (sym v-is) ∙ e

      w_bit : (x : Bool) → eqb (w % 2) 1 ≡ x → is_closed i (word_from r) ≡ x
      w_bit x e = ap (λ n. eqb (n % 2) 1) (sym w-is) ∙ e

      go : (z : Bool) → eqb (w % 2) 1 ≡ z → Stands i b ss (if z then closing else opening)
      go true y =
          let odd = eqb-true (w % 2) 1 y in stands_closing (v_bit false (ne_eqb (v % 2) 1 (λ e. ne (e ∙ sym odd)))) (w_bit true y)
      go false y =
          let even = eqb-false (w % 2) 1 y in
          stands_opening (v_bit true (eq-eqb (v % 2) 1 (other (v % 2) (w % 2) (mod-lt v (omega arith)) (mod-lt w (omega arith)) ne even))) (w_bit false y)
        where
          other : (m n : ℕ) → m < 2 → n < 2 → m ≢ n → n ≢ 1 → m ≡ 1
          other m n lm ln ne even = omega arith

-- ---- all channels, bit by bit

-- words whose bits are the same there
pub same_bit : (i v w : ℕ) → v / 2 ^ i % 2 ≡ w / 2 ^ i % 2 → is_closed i v ≡ is_closed i w
unfolding is_closed
same_bit i v w e = ap (λ x. eqb x 1) e

module _ (b : Beside) (rs : List Record) (r : Record) (j : Joins (beside_after b rs) r) where
  -- the bits that the record alters are those in which the two words differ
  pub part_begins : (gains : List Gain) → AllStand b rs gains
      → PartStand b rs (rs ++ (r ∷ [])) (bit_xor (beside_after b rs).word (word_from r)) gains
  part_begins gains all = record {
    count = all.count;
    due = λ i in32 set. all.each i in32;
    done = λ i in32 unset.
        stands_same i b rs r (get_or gains i no_gain) j (all.each i in32)
        (same_bit i (beside_after b rs).word (word_from r) (unset_same i (beside_after b rs).word (word_from r) unset));
  }

  module _ (altered : ℕ) (gains : List Gain) (p : PartStand b rs (rs ++ (r ∷ [])) altered gains) where
    -- the lowest of them is gone through and cleared
    pub part_goes : (h n : ℕ) → altered ≡ (2 * h + 1) * 2 ^ n → n < 32 → (beside_after b rs).word / 2 ^ n % 2 ≢ word_from r / 2 ^ n % 2
        → PartStand b rs (rs ++ (r ∷ [])) (bit_and altered (altered - 1))
        (set gains n (switched_of (get_or gains n no_gain) (word_from r / 2 ^ n) r.tick (one_if (is_change r))))
    part_goes h n is lt differs = record { count = length-set gains n g ∙ p.count; due = due_at; done = done_at }
      where
        g : Gain
        g = switched_of (get_or gains n no_gain) (word_from r / 2 ^ n) r.tick (one_if (is_change r))

        here : Stands n b (rs ++ (r ∷ [])) (get_or (set gains n g) n no_gain)
        here =
            subst (Stands n b (rs ++ (r ∷ []))) (sym (get_or-set_same gains n g no_gain (subst (λ m. n < m) (sym p.count) lt)))
            (stands_on n b rs r (get_or gains n no_gain) j (p.due n lt (bit_set altered h n is)) ((beside_after b rs).word / 2 ^ n) (word_from r / 2 ^ n)
            refl refl differs)

        due_at : (i : ℕ) → i < 32 → is_closed i (bit_and altered (altered - 1)) ≡ true → Stands i b rs (get_or (set gains n g) i no_gain)
        due_at i in32 set' = go (eqb i n) refl
          where
            go : (x : Bool) → eqb i n ≡ x → Stands i b rs (get_or (set gains n g) i no_gain)
            go true e =
                absurd (true≢false (sym set' ∙ ap (λ m. is_closed m (bit_and altered (altered - 1))) (eqb-true i n e) ∙ bit_cleared altered h n is))
            go false e =
                let ne = eqb-false i n e in
                subst (Stands i b rs) (sym (get_or-set_other gains n i g no_gain ne)) (p.due i in32 (sym (bit_other altered h n is i ne) ∙ set'))

        done_at : (i : ℕ) → i < 32 → is_closed i (bit_and altered (altered - 1)) ≡ false → Stands i b (rs ++ (r ∷ [])) (get_or (set gains n g) i no_gain)
        done_at i in32 unset = go (eqb i n) refl
          where
            go : (x : Bool) → eqb i n ≡ x → Stands i b (rs ++ (r ∷ [])) (get_or (set gains n g) i no_gain)
            go true e = subst (λ m. Stands m b (rs ++ (r ∷ [])) (get_or (set gains n g) m no_gain)) (sym (eqb-true i n e)) here
            go false e =
                let ne = eqb-false i n e in
                subst (Stands i b (rs ++ (r ∷ []))) (sym (get_or-set_other gains n i g no_gain ne))
                (p.done i in32 (sym (bit_other altered h n is i ne) ∙ unset))

    -- none is left
    pub part_ends : altered ≡ 0 → AllStand b (rs ++ (r ∷ [])) gains
    part_ends e = record { count = p.count; each = λ i in32. p.done i in32 (ap (is_closed i) e ∙ none_set i) }

-- ---- before the first record

abbrev repeated : ℕ → Gain → List Gain
repeated zero g = []
repeated (suc n) g = g ∷ repeated n g

get_repeated : (n : ℕ) (g : Gain) (i : ℕ) → i < n → get_or (repeated n g) i no_gain ≡ g
get_repeated zero g i lt = absurd (omega arith)
get_repeated (suc n) g zero lt = refl
get_repeated (suc n) g (suc i) lt = get_repeated n g i (omega arith)

pub begins : (tick : ℕ) → Begun tick (repeated 32 (record { closings = 0; openings = 0; ticks = 0; since = tick }))
begins tick = record { count = refl; each = λ i lt. get_repeated 32 (record { closings = 0; openings = 0; ticks = 0; since = tick }) i lt }

none_closed : (i : ℕ) (b : Beside) → closed_for (record { closings = 0; openings = 0; ticks = 0; since = b.tick }) b i ≡ 0
unfolding closed_for
none_closed i b = go (is_closed i b.word)
  where
    go : (x : Bool) → 0 + (if x then b.tick - b.tick else 0) ≡ 0
    go true = omega arith
    go false = refl

begun_stands : (i : ℕ) (b : Beside) → Stands i b [] (record { closings = 0; openings = 0; ticks = 0; since = b.tick })
unfolding beside_after ticks_closed
begun_stands i b = record { closings = refl; openings = refl; ticks = none_closed i b; since = omega arith; within = omega arith }

pub stands_none : (b : Beside) (gains : List Gain) → Begun b.tick gains → AllStand b [] gains
stands_none b gains begun = record { count = begun.count; each = λ i lt. subst (Stands i b []) (sym (begun.each i lt)) (begun_stands i b) }

-- ---- the gain of one bit, and of the last record, as the code has them

-- by a bit of 0 or 1, without a branch
abbrev by_bit : Gain → ℕ → ℕ → ℕ → Gain
by_bit g v tick n =
    record { closings = g.closings + v * n; openings = g.openings + (1 - v) * n; ticks = g.ticks + (1 - v) * (tick - g.since); since = tick }

abbrev by_test : Gain → ℕ → ℕ → ℕ → Gain
by_test g v tick n =
    if eqb v 1 then record { closings = g.closings + n; openings = g.openings; ticks = g.ticks; since = tick }
    else record { closings = g.closings; openings = g.openings + n; ticks = g.ticks + (tick - g.since); since = tick }

none_of : (a n : ℕ) → a + 0 * n ≡ a
none_of a n = omega arith

once : (a n : ℕ) → a + 1 * n ≡ a + n
once a n = omega arith

bit_or_test : (g : Gain) (v tick n : ℕ) → v < 2 → by_bit g v tick n ≡ by_test g v tick n
bit_or_test g zero tick n lt =
    λ i. record { closings = none_of g.closings n i; openings = once g.openings n i; ticks = once g.ticks (tick - g.since) i; since = tick }
bit_or_test g (suc zero) tick n lt =
    λ i. record { closings = once g.closings n i; openings = none_of g.openings n i; ticks = none_of g.ticks (tick - g.since) i; since = tick }
bit_or_test g (suc (suc v)) tick n lt = absurd (omega arith)

pub switched_by : (g : Gain) (w tick n : ℕ) → by_bit g (w % 2) tick n ≡ switched_of g w tick n
unfolding switched_of
switched_by g w tick n = bit_or_test g (w % 2) tick n (mod-lt w (omega arith))
