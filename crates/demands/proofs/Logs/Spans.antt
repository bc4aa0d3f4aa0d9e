-- Laws of the ticks for which a channel is closed: up to a tick at which the counting ends, by records one after the other, and with a gap.
-- Assumes nothing.
use mathlib.Core.Path.{◌≡◌, refl, sym, ap, ap₂, ◌∙◌}
use Prim.Native.Nat.{ℕ, ◌+◌, ◌-◌, ◌≤◌, ◌<◌, min, max}
use native.Mathlib.Nat.{add-zero, add_assoc}
use native.Mathlib.Omega.{arith}
use mathlib.Core.Bool.{Bool, true, false, ◌&&◌}
use mathlib.Core.List.{List, [], ◌∷◌, ◌++◌, map}
use lib.Dec.{leb, ltb}
use borrow.Author.Tests.{leb-true, leb-false, ltb-true, ltb-false}
use Rattle.std.specs.Prelude.{if◌then◌else◌}
use Rattle.boxlog.specs.declared.Change.{Change}
use Rattle.boxlog.specs.Log.{last_word}
use Rattle.reader.specs.declared.Record.{Record}
use Rattle.reader.specs.declared.Layout.TheVariants.{Sixteen}
use Rattle.reader.specs.Possible.{are_next}
use Rattle.reader.specs.Produced.{kept, gap_of}
use Rattle.reader.proofs.Possible.{next_says}
use Rattle.channels.specs.declared.Beside.{Beside}
use Rattle.channels.specs.Totals.{is_closed, is_change, word_from, one_if, ticks_closed, beside_one, beside_after}

-- ---- one word, from tick s to tick e

-- the ticks before tick `last`, where x says whether the channel is closed
abbrev pub span_if : Bool → ℕ → ℕ → ℕ → ℕ
span_if x last s e = if x then min e last - min s last else 0

abbrev pub span : ℕ → ℕ → ℕ → ℕ → ℕ → ℕ
span i last w s e = span_if (is_closed i w) last s e

pub span_join : (x : Bool) (last s e f : ℕ) → s ≤ e → e ≤ f → span_if x last s e + span_if x last e f ≡ span_if x last s f
span_join true last s e f le le' = omega arith
span_join false last s e f le le' = refl

pub span_same : (x : Bool) (last s : ℕ) → span_if x last s s ≡ 0
span_same true last s = omega arith
span_same false last s = refl

pub span_late : (x : Bool) (last s e : ℕ) → last ≤ s → span_if x last s e ≡ 0
span_late true last s e le = omega arith
span_late false last s e le = refl

-- where the counting ends later
min_cut : (last g s : ℕ) → s ≤ g → min s (min last g) ≡ min s last
min_cut last g s le = omega arith

span_cut : (x : Bool) (last g s e : ℕ) → s ≤ g → e ≤ g → span_if x (min last g) s e ≡ span_if x last s e
span_cut true last g s e le le' = ap₂ (λ m n. m - n) (min_cut last g e le') (min_cut last g s le)
span_cut false last g s e le le' = refl

span_all : (x : Bool) (last s e : ℕ) → s ≤ last → e ≤ last → span_if x last s e ≡ (if x then e - s else 0)
span_all true last s e le le' = omega arith
span_all false last s e le le' = refl

-- one tick more
pub span_tick : (x : Bool) (last s t : ℕ) → s ≤ t → span_if x last s (t + 1) ≡ span_if x last s t + one_if (ltb t last && x)
span_tick x last s t le = go x (ltb t last) refl
  where
    go : (x b : Bool) → ltb t last ≡ b → span_if x last s (t + 1) ≡ span_if x last s t + one_if (b && x)
    go true true e = let lt : t < last = ltb-true t last e in omega arith
    go true false e = let le' : last ≤ t = ltb-false t last e in omega arith
    go false true e = refl
    go false false e = refl

-- a tick behind g and before the end
inside : (t g last : ℕ) → g ≤ t → t ≤ last → min (max t g) last ≡ t
inside t g last le le' = omega arith

reaches : (e t g last : ℕ) → t + 1 ≤ e → t < last → t + 1 ≤ min (max e g) last
reaches e t g last le lt = omega arith

one_sooner : (m t : ℕ) → t + 1 ≤ m → 1 + (m - (t + 1)) ≡ 0 + (m - t)
one_sooner m t le = omega arith

-- one tick more, where from tick g on x says whether the channel is closed, and y before
pub gap_tick : (x y : Bool) (last g t e : ℕ) → t + 1 ≤ e
    → one_if (ltb t last && (if leb g t then x else y)) + span_if x last (max (t + 1) g) (max e g)
    ≡ one_if (ltb t (min last g) && y) + span_if x last (max t g) (max e g)
gap_tick x y last g t e fits = go x y (leb g t) refl (ltb t last) refl (ltb t (min last g)) refl
  where
    low : t < g → max (t + 1) g ≡ max t g
    low lt = omega arith

    high : last ≤ t → min (max (t + 1) g) last ≡ min (max t g) last
    high le' = omega arith

    go : (x y a : Bool) → leb g t ≡ a → (b : Bool) → ltb t last ≡ b → (c : Bool) → ltb t (min last g) ≡ c
        → one_if (b && (if a then x else y)) + span_if x last (max (t + 1) g) (max e g) ≡ one_if (c && y) + span_if x last (max t g) (max e g)
    go x y true p b q true r =
        let le : g ≤ t = leb-true g t p in
        let lt : t < min last g = ltb-true t (min last g) r in
        absurd (omega arith)
    go true y true p true q false r =
        let le : g ≤ t = leb-true g t p in
        let lt : t < last = ltb-true t last q in
        rw (inside (t + 1) g last (omega arith) (omega arith), inside t g last le (omega arith))
        (one_sooner (min (max e g) last) t (reaches e t g last fits lt))
    go true y true p false q false r = ap (λ m. 0 + (min (max e g) last - m)) (high (ltb-false t last q))
    go false y true p true q false r = refl
    go false y true p false q false r = refl
    go x y false p true q false r =
        let lt : t < g = leb-false g t p in
        let lt' : t < last = ltb-true t last q in
        let le' : min last g ≤ t = ltb-false t (min last g) r in
        absurd (omega arith)
    go x y false p false q true r =
        let le' : last ≤ t = ltb-false t last q in
        let lt : t < min last g = ltb-true t (min last g) r in
        absurd (omega arith)
    go x y false p true q true r = ap (λ m. one_if y + span_if x last m (max e g)) (low (leb-false g t p))
    go x y false p false q false r = ap (λ m. 0 + span_if x last m (max e g)) (low (leb-false g t p))

-- ---- records one after the other

-- by the records rs, from tick s, at which the word w stands, to tick e
unfoldable pub spans : ℕ → ℕ → ℕ → ℕ → List Record → ℕ → ℕ
spans i last s w [] e = span i last w s e
spans i last s w (r ∷ rs) e = span i last w s r.tick + spans i last r.tick (word_from r) rs e

-- the first of some records, and where there is none the end, is not before tick t
abbrev pub FromTick : ℕ → List Record → ℕ → Type 0
FromTick t [] e = t ≤ e
FromTick t (r ∷ rs) e = t ≤ r.tick

-- from the same tick on, the word standing a while longer
spans_wait : (i last s t w : ℕ) (rs : List Record) (e : ℕ) → s ≤ t → FromTick t rs e
    → span i last w s t + spans i last t w rs e ≡ spans i last s w rs e
unfolding spans
spans_wait i last s t w [] e le f = span_join (is_closed i w) last s t e le f
spans_wait i last s t w (r ∷ rs) e le f =
    sym (add_assoc (span i last w s t) (span i last w t r.tick) (spans i last r.tick (word_from r) rs e))
    ∙ ap (λ n. n + spans i last r.tick (word_from r) rs e) (span_join (is_closed i w) last s t r.tick le f)

-- records, and others after them from tick e on
pub spans_more : (i last : ℕ) (b : Beside) (rs ss : List Record) (e f : ℕ) → (beside_after b rs).tick ≤ e → FromTick e ss f
    → spans i last b.tick b.word rs e + spans i last e (beside_after b rs).word ss f ≡ spans i last b.tick b.word (rs ++ ss) f
unfolding spans beside_after
spans_more i last b [] ss e f le from = spans_wait i last b.tick e b.word ss f le from
spans_more i last b (r ∷ rs) ss e f le from =
    add_assoc (span i last b.word b.tick r.tick) (spans i last r.tick (word_from r) rs e)
    (spans i last e (beside_after (beside_one b r) rs).word ss f)
    ∙ ap (λ n. span i last b.word b.tick r.tick + n) (spans_more i last (beside_one b r) rs ss e f le from)

-- ticks do not fall
abbrev pub Rising : Beside → List Record → Type 0
Rising b [] = Unit {0}
Rising b (r ∷ rs) = (b.tick ≤ r.tick) × Rising (beside_one b r) rs

pub rising_more : (b : Beside) (rs ss : List Record) → Rising b rs → Rising (beside_after b rs) ss → Rising b (rs ++ ss)
unfolding beside_after
rising_more b [] ss x y = y
rising_more b (r ∷ rs) ss x y = (x.0, rising_more (beside_one b r) rs ss x.1 y)

pub rising_last : (b : Beside) (rs : List Record) → Rising b rs → b.tick ≤ (beside_after b rs).tick
unfolding beside_after
rising_last b [] x = omega arith
rising_last b (r ∷ rs) x = omega (arith, x.0, rising_last (beside_one b r) rs x.1)

-- the word before each change is the one that stood
abbrev pub WordsJoin : ℕ → List Record → Type 0
WordsJoin w [] = Unit {0}
WordsJoin w (r ∷ rs) = (is_change r ≡ true → r.word ≡ w) × WordsJoin (word_from r) rs

pub words_more : (b : Beside) (rs ss : List Record) → WordsJoin b.word rs → WordsJoin (beside_after b rs).word ss → WordsJoin b.word (rs ++ ss)
unfolding beside_after
words_more b [] ss x y = y
words_more b (r ∷ rs) ss x y = (x.0, words_more (beside_one b r) rs ss x.1 y)

pub words_front : (w : ℕ) (rs ss : List Record) → WordsJoin w (rs ++ ss) → WordsJoin w rs
words_front w [] ss x = tt
words_front w (r ∷ rs) ss x = (x.0, words_front (word_from r) rs ss x.1)

-- up to the last record
pub spans_all : (i last : ℕ) (b : Beside) (rs : List Record) (e : ℕ) → Rising b rs → last ≡ (beside_after b rs).tick
    → spans i last b.tick b.word rs e ≡ ticks_closed i b.tick b.word rs
unfolding spans beside_after ticks_closed
spans_all i last b [] e x is = span_late (is_closed i b.word) last b.tick e (omega arith)
spans_all i last b (r ∷ rs) e x is =
    let le = rising_last (beside_one b r) rs x.1 in
    ap₂ (λ m n. m + n) (span_all (is_closed i b.word) last b.tick r.tick (omega (arith, x.0)) (omega arith))
    (spans_all i last (beside_one b r) rs e x.1 is)

-- a channel is closed for no more ticks than there are
pub closed_few : (i : ℕ) (b : Beside) (rs : List Record) → Rising b rs → b.tick + ticks_closed i b.tick b.word rs ≤ (beside_after b rs).tick
unfolding beside_after ticks_closed
closed_few i b [] x = omega arith
closed_few i b (r ∷ rs) x = go (is_closed i b.word) (closed_few i (beside_one b r) rs x.1) x.0
  where
    go : (c : Bool) → r.tick + ticks_closed i r.tick (word_from r) rs ≤ (beside_after (beside_one b r) rs).tick → b.tick ≤ r.tick
        → b.tick + ((if c then r.tick - b.tick else 0) + ticks_closed i r.tick (word_from r) rs) ≤ (beside_after (beside_one b r) rs).tick
    go true le from = omega arith
    go false le from = omega arith

-- ---- the records of changes, and a gap

module _ (i last : ℕ) where
  -- behind the end of the counting
  spans_late : (p : Change) (w : ℕ) (cs : List Change) (e : ℕ) → are_next p cs ≡ true → last ≤ p.tick → spans i last p.tick w (map (kept Sixteen) cs) e ≡ 0
  unfolding spans
  spans_late p w [] e n le = span_late (is_closed i w) last p.tick e le
  spans_late p w (c ∷ cs) e n le =
      let x = next_says p c cs n in
      ap₂ (λ m q. m + q) (span_late (is_closed i w) last p.tick c.tick le)
      (spans_late c (word_from (kept Sixteen c)) cs e x.more (omega (arith, x.after.later)))

-- a change is not before those that came sooner
pub later_than : (p : Change) (ks : List Change) (c : Change) (lost : List Change) → are_next p (ks ++ (c ∷ lost)) ≡ true → p.tick ≤ c.tick
later_than p [] c lost n = (next_says p c lost n).after.later
later_than p (k ∷ ks) c lost n = let x = next_says p k (ks ++ (c ∷ lost)) n in omega (arith, x.after.later, later_than k ks c lost x.more)

-- Some changes and then a gap over the others: before the gap's tick it is as if all were kept, and from there on the gap's word stands.
pub spans_gap : (i last : ℕ) (p : Change) (ks : List Change) (c : Change) (lost : List Change) (e w : ℕ) → are_next p (ks ++ (c ∷ lost)) ≡ true
    → spans i (min last c.tick) p.tick w (map (kept Sixteen) (ks ++ (c ∷ lost))) e + span i last (last_word 0 (c ∷ lost)) c.tick e
    ≡ spans i last p.tick w (map (kept Sixteen) ks ++ (gap_of Sixteen (c ∷ lost) ∷ [])) e
unfolding spans word_from
spans_gap i last p [] c lost e w n =
    let x = next_says p c lost n in
    let stop = min last c.tick in
    rw (spans_late i stop c c.word lost e x.more (omega arith), add-zero (span i stop w p.tick c.tick))
    (ap (λ m. m + span i last (last_word 0 (c ∷ lost)) c.tick e)
    (span_cut (is_closed i w) last c.tick p.tick c.tick x.after.later (omega arith)))
spans_gap i last p (k ∷ ks) c lost e w n =
    let x = next_says p k (ks ++ (c ∷ lost)) n in
    let stop = min last c.tick in
    let le = later_than k ks c lost x.more in
    add_assoc (span i stop w p.tick k.tick) (spans i stop k.tick k.word (map (kept Sixteen) (ks ++ (c ∷ lost))) e)
    (span i last (last_word 0 (c ∷ lost)) c.tick e)
    ∙ ap₂ (λ m q. m + q) (span_cut (is_closed i w) last c.tick p.tick k.tick (omega (arith, x.after.later)) le)
    (spans_gap i last k ks c lost e k.word x.more)
