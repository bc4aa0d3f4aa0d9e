-- Laws of logs brought forward one after the other: it is their records brought forward together.
-- Assumes nothing.
use mathlib.Core.Path.{◌≡◌, refl, sym, ap, ap₂, ◌∙◌}
use Prim.Native.Nat.{ℕ, zero, suc, ◌+◌, ◌≤◌, ◌<◌}
use native.Mathlib.Nat.{add-zero, add_assoc, not-suc-le-zero}
use native.Mathlib.Omega.{arith}
use mathlib.Core.Bool.{Bool, true, false, ◌&&◌, true≢false}
use mathlib.Core.List.{List, [], ◌∷◌, ◌++◌}
use lib.ListN.{length, get_or}
use borrow.Author.Tests.{eq-eqb, leb-true, le-leb}
use Rattle.formats.specs.Checks.{Res, refused, passed, ◌>>=◌, ◌>>◌, ◌or_else◌}
use Rattle.formats.proofs.Checks.{both_true, passed_same}
use Rattle.reader.specs.declared.Record.{Record}
use Rattle.reader.specs.declared.Layout.TheVariants.{Sixteen}
use Rattle.reader.specs.Layout.{layout_of}
use Rattle.reader.specs.Reading.{reading}
use Rattle.channels.specs.declared.Channel.{Channel}
use Rattle.channels.specs.declared.Beside.{Beside}
use Rattle.channels.specs.Totals.{closes, opens, count_of, ticks_closed, beside_one, beside_after, map_from, all_from, forward_one}
use Rattle.channels.specs.Bringing.{log_for, is_later, matches, is_total, are_totals, are_in_reach, brought_by, bringing}
use Rattle.channels.proofs.Behind.{count_more, beside_more, ticks_more}
use Rattle.channels.specs.Bringing.{bring_all}
use Rattle.demands.specs.Switchings.{AllRead}

-- ---- one channel's record, by records and then by others

module _ (b : Beside) (rs ss : List Record) (c : Channel) (i : ℕ) where
  pub forward_together : forward_one (beside_after b rs) ss (forward_one b rs c i) i ≡ forward_one b (rs ++ ss) c i
  unfolding forward_one
  forward_together =
      let x : c.closings + count_of (closes i) rs + count_of (closes i) ss ≡ c.closings + count_of (closes i) (rs ++ ss) =
      add_assoc c.closings (count_of (closes i) rs) (count_of (closes i) ss) ∙ ap (λ n. c.closings + n) (sym (count_more (closes i) rs ss)) in
      let y : c.openings + count_of (opens i) rs + count_of (opens i) ss ≡ c.openings + count_of (opens i) (rs ++ ss) =
      add_assoc c.openings (count_of (opens i) rs) (count_of (opens i) ss) ∙ ap (λ n. c.openings + n) (sym (count_more (opens i) rs ss)) in
      let later = ticks_closed i (beside_after b rs).tick (beside_after b rs).word ss in
      let z : c.ticks + ticks_closed i b.tick b.word rs + later ≡ c.ticks + ticks_closed i b.tick b.word (rs ++ ss) =
      add_assoc c.ticks (ticks_closed i b.tick b.word rs) later ∙ ap (λ n. c.ticks + n) (sym (ticks_more i b rs ss)) in
      rw (x, y, z)

  -- the totals do not fall
  pub forward_grows : ((forward_one b rs c i).closings ≤ (forward_one b (rs ++ ss) c i).closings)
      × ((forward_one b rs c i).openings ≤ (forward_one b (rs ++ ss) c i).openings) × ((forward_one b rs c i).ticks ≤ (forward_one b (rs ++ ss) c i).ticks)
  unfolding forward_one
  forward_grows = (
    omega (arith, count_more (closes i) rs ss),
    omega (arith, count_more (opens i) rs ss),
    omega (arith, ticks_more i b rs ss),
  )

pub forward_none : (b : Beside) (c : Channel) (i : ℕ) → forward_one b [] c i ≡ c
unfolding forward_one ticks_closed
forward_none b c i = rw (add-zero c.closings, add-zero c.openings, add-zero c.ticks)

-- ---- all of them

pub length_map_from : {A : Type 0} (f : A → ℕ → A) (cs : List A) (k : ℕ) → length (map_from f cs k) ≡ length cs
length_map_from f [] k = refl
length_map_from f (c ∷ cs) k = ap suc (length_map_from f cs (k + 1))

-- the one at place i
pub map_from_at : {A : Type 0} (f : A → ℕ → A) (cs : List A) (k i : ℕ) (d : A) → i < length cs → get_or (map_from f cs k) i d ≡ f (get_or cs i d) (k + i)
map_from_at f [] k i d lt = absurd (not-suc-le-zero lt)
map_from_at f (c ∷ cs) k zero d lt = ap (f c) (sym (add-zero k))
map_from_at f (c ∷ cs) k (suc i) d lt = map_from_at f cs (k + 1) i d (omega arith) ∙ ap (f (get_or cs i d)) (places k i)
  where
    places : (k i : ℕ) → (k + 1) + i ≡ k + suc i
    places k i = omega arith

-- a test of each, by the test at each place
pub all_from_lem : {A : Type 0} (g : A → ℕ → Bool) (cs : List A) (k : ℕ) (d : A) → ((i : ℕ) → i < length cs → g (get_or cs i d) (k + i) ≡ true)
    → all_from g cs k ≡ true
all_from_lem g [] k d h = refl
all_from_lem g (c ∷ cs) k d h =
    let first : g c k ≡ true = ap (g c) (sym (add-zero k)) ∙ h 0 (omega arith) in
    rw (first, all_from_lem g cs (k + 1) d (λ i lt. ap (g (get_or cs i d)) (places k i) ∙ h (suc i) (omega arith)))
  where
    places : (k i : ℕ) → (k + 1) + i ≡ k + suc i
    places k i = omega arith

map_none : (b : Beside) (cs : List Channel) (k : ℕ) → map_from (forward_one b []) cs k ≡ cs
map_none b [] k = refl
map_none b (c ∷ cs) k = ap₂ (λ x xs. x ∷ xs) (forward_none b c k) (map_none b cs (k + 1))

module _ (b : Beside) (rs ss : List Record) where
  map_together : (cs : List Channel) (k : ℕ)
      → map_from (forward_one (beside_after b rs) ss) (map_from (forward_one b rs) cs k) k ≡ map_from (forward_one b (rs ++ ss)) cs k
  map_together [] k = refl
  map_together (c ∷ cs) k = ap₂ (λ x xs. x ∷ xs) (forward_together b rs ss c k) (map_together cs (k + 1))

  all_together : (cs : List Channel) (k : ℕ)
      → all_from (λ c i. are_totals (forward_one (beside_after b rs) ss c i)) (map_from (forward_one b rs) cs k) k
      ≡ all_from (λ c i. are_totals (forward_one b (rs ++ ss) c i)) cs k
  all_together [] k = refl
  all_together (c ∷ cs) k = ap₂ (λ x y. x && y) (ap are_totals (forward_together b rs ss c k)) (all_together cs (k + 1))

-- ---- within reach

record Totals (c : Channel) : Type 0 where
  closings : c.closings ≤ 18446744073709551615
  openings : c.openings ≤ 18446744073709551615
  ticks : c.ticks ≤ 18446744073709551615

totals_say : (c : Channel) → are_totals c ≡ true → Totals c
unfolding are_totals
totals_say c e =
    let x = both_true (is_total c.closings) (is_total c.openings && is_total c.ticks) e in
    let y = both_true (is_total c.openings) (is_total c.ticks) x.1 in
    record { closings = leb-true _ _ x.0; openings = leb-true _ _ y.0; ticks = leb-true _ _ y.1 }

pub says_totals : (c : Channel) → c.closings ≤ 18446744073709551615 → c.openings ≤ 18446744073709551615 → c.ticks ≤ 18446744073709551615
    → are_totals c ≡ true
unfolding are_totals
says_totals c x y z = rw (le-leb _ _ x, le-leb _ _ y, le-leb _ _ z)

module _ (b : Beside) (rs ss : List Record) where
  sooner_totals : (c : Channel) (i : ℕ) → are_totals (forward_one b (rs ++ ss) c i) ≡ true → are_totals (forward_one b rs c i) ≡ true
  sooner_totals c i e =
      let t = totals_say (forward_one b (rs ++ ss) c i) e in
      let g = forward_grows b rs ss c i in
      says_totals (forward_one b rs c i) (omega (arith, t.closings, g.0)) (omega (arith, t.openings, g.1)) (omega (arith, t.ticks, g.2))

  sooner_all : (cs : List Channel) (k : ℕ) → all_from (λ c i. are_totals (forward_one b (rs ++ ss) c i)) cs k ≡ true
      → all_from (λ c i. are_totals (forward_one b rs c i)) cs k ≡ true
  sooner_all [] k e = refl
  sooner_all (c ∷ cs) k e =
      let x = both_true (are_totals (forward_one b (rs ++ ss) c k)) _ e in
      rw (sooner_totals c k x.0, sooner_all cs (k + 1) x.1)

-- the number unknown does not fall
unknown_grows : (b : Beside) (rs : List Record) → b.unknown ≤ (beside_after b rs).unknown
unfolding beside_after
unknown_grows b [] = omega arith
unknown_grows b (r ∷ rs) = omega (arith, unknown_grows (beside_one b r) rs)

module _ (b : Beside) (rs ss : List Record) (cs : List Channel) where
  reach_sooner : are_in_reach cs b (rs ++ ss) ≡ true → are_in_reach cs b rs ≡ true
  unfolding are_in_reach
  reach_sooner e =
      let x = both_true (is_total (beside_after b (rs ++ ss)).unknown) _ e in
      let all = (beside_after b (rs ++ ss)).unknown in
      let more : all ≤ 18446744073709551615 = leb-true _ _ x.0 in
      let is : all ≡ (beside_after (beside_after b rs) ss).unknown = ap (λ (y : Beside). y.unknown) (beside_more b rs ss) in
      let le : (beside_after b rs).unknown ≤ 18446744073709551615 = omega (arith, unknown_grows (beside_after b rs) ss) in
      rw (le-leb _ _ le, sooner_all b rs ss cs 0 x.1)

  reach_later : are_in_reach cs b (rs ++ ss) ≡ are_in_reach (map_from (forward_one b rs) cs 0) (beside_after b rs) ss
  unfolding are_in_reach
  reach_later =
      ap₂ (λ (y : Beside) z. is_total y.unknown && z) (beside_more b rs ss) (sym (all_together b rs ss cs 0))

-- ---- records, and others behind them

-- the first of them says whether they join
first_later : (b : Beside) (rs ss : List Record) → is_later (beside_after b rs) ss ≡ true → is_later b (rs ++ ss) ≡ is_later b rs
unfolding is_later beside_after
first_later b [] ss e = e
first_later b (r ∷ rs) ss e = refl

first_matches : (b : Beside) (rs ss : List Record) → matches (beside_after b rs) ss ≡ true → matches b (rs ++ ss) ≡ matches b rs
unfolding matches beside_after
first_matches b [] ss e = e
first_matches b (r ∷ rs) ss e = refl

-- Records brought forward one after the other are all of them brought forward together, a refusal included.
module _ (cs : List Channel) (b : Beside) (rs ss : List Record) (later : is_later (beside_after b rs) ss ≡ true)
    (match : matches (beside_after b rs) ss ≡ true) where
  pub one_after_the_other : (brought_by cs b rs >>= λ a. brought_by a.0 a.1 ss) ≡ brought_by cs b (rs ++ ss)
  unfolding brought_by ◌>>=◌ ◌>>◌ ◌or_else◌
  one_after_the_other =
      rw (first_later b rs ss later, first_matches b rs ss match)
      (go (is_later b rs) (matches b rs) (are_in_reach cs b rs) refl (are_in_reach cs b (rs ++ ss)) refl)
    where
      once : Res (List Channel × Beside)
      once = passed (map_from (forward_one b rs) cs 0, beside_after b rs)

      ends : Res (List Channel × Beside)
      ends = passed (map_from (forward_one b (rs ++ ss)) cs 0, beside_after b (rs ++ ss))

      go : (x y z : Bool) → are_in_reach cs b rs ≡ z → (v : Bool) → are_in_reach cs b (rs ++ ss) ≡ v
          → (((x or_else 72) >> ((y or_else 73) >> ((z or_else 74) >> once))) >>= λ a. brought_by a.0 a.1 ss)
          ≡ ((x or_else 72) >> ((y or_else 73) >> ((v or_else 74) >> ends)))
      go false y z e v f = refl
      go true false z e v f = refl
      go true true false e false f = refl
      go true true false e true f = absurd (true≢false (sym (reach_sooner b rs ss cs f) ∙ e))
      go true true true e v f =
          rw (later, match, sym (reach_later b rs ss cs) ∙ f)
          (ap (λ a. (v or_else 74) >> passed a) (pair (map_together b rs ss cs 0) (sym (beside_more b rs ss))))
        where
          pair : {m n : List Channel} {x y : Beside} → m ≡ n → x ≡ y → ◌≡◌ {A = List Channel × Beside} (m, x) (n, y)
          pair p q = ap₂ (λ k l. (k, l)) p q

-- ---- logs

-- a log of 16-byte records that is accepted, with the records rs, and that joins to what was read last
pub record Link (b : Beside) (log : List ℕ) (rs : List Record) : Type 0 where
  pub read : reading log ≡ passed rs
  pub layout : layout_of log ≡ Sixteen
  pub later : is_later b rs ≡ true
  pub matches : matches b rs ≡ true

-- logs one after the other, each joining to the one before it; their records are `all`
abbrev pub Joined : Beside → List (List ℕ) → List Record → Type 0
Joined b [] all = all ≡ []
Joined b (log ∷ logs) all = (rs : List Record) × ((rest : List Record) × ((all ≡ rs ++ rest) × Link b log rs × Joined (beside_after b rs) logs rest))

-- there is no other way to read them
pub read_once : (logs : List (List ℕ)) (b : Beside) (all records : List Record) → Joined b logs all → AllRead logs records → records ≡ all
read_once [] b all records j r = r ∙ sym j
read_once (log ∷ logs) b all records j r =
    let same : r.0 ≡ j.0 = passed_same (sym r.1.1.0 ∙ j.1.1.1.read) in
    let rest = read_once logs (beside_after b j.0) j.1.0 r.1.0 j.1.1.2 r.1.1.2 in
    r.1.1.1 ∙ ap₂ (λ x y. x ++ y) same rest ∙ sym j.1.1.0

-- what comes of records that join
abbrev Brought : List Channel → Beside → List Record → Res (List Channel × Beside)
Brought cs b rs = passed (map_from (forward_one b rs) cs 0, beside_after b rs)

bring_one : (cs : List Channel) (b : Beside) (log : List ℕ) (rs : List Record) → length cs ≡ 32 → Link b log rs
    → bringing cs log b ≡ ((are_in_reach cs b rs or_else 74) >> Brought cs b rs)
unfolding bringing log_for brought_by ◌>>=◌ ◌>>◌ ◌or_else◌
bring_one cs b log rs long l = rw (eq-eqb (length cs) 32 long, l.read, l.layout, l.later, l.matches)

-- by whether the totals are in reach
bring_in : (cs : List Channel) (b : Beside) (log : List ℕ) (rs : List Record) → length cs ≡ 32 → Link b log rs → are_in_reach cs b rs ≡ true
    → bringing cs log b ≡ Brought cs b rs
unfolding ◌>>◌ ◌or_else◌
bring_in cs b log rs long l e = bring_one cs b log rs long l ∙ rw e

bring_out : (cs : List Channel) (b : Beside) (log : List ℕ) (rs : List Record) → length cs ≡ 32 → Link b log rs → are_in_reach cs b rs ≡ false
    → bringing cs log b ≡ refused 74
unfolding ◌>>◌ ◌or_else◌
bring_out cs b log rs long l e = bring_one cs b log rs long l ∙ rw e

-- They bring the channel records forward as all their records together do, or a total would pass the end.
pub data Comes (cs : List Channel) (b : Beside) (all : List Record) (r : Res (List Channel × Beside)) : Type 0 where
  comes : r ≡ passed (map_from (forward_one b all) cs 0, beside_after b all) → Comes cs b all r
  passes : r ≡ refused 74 → are_in_reach cs b all ≡ false → Comes cs b all r

pub brought_together : (logs : List (List ℕ)) (cs : List Channel) (b : Beside) (all : List Record) → length cs ≡ 32 → Joined b logs all
    → Comes cs b all (bring_all cs b logs)
unfolding bring_all beside_after ◌>>=◌
brought_together [] cs b all long is = comes (rw (is, map_none b cs 0))
brought_together (log ∷ logs) cs b all long j = go (are_in_reach cs b rs) refl
    (brought_together logs (map_from (forward_one b rs) cs 0) (beside_after b rs) rest (length_map_from (forward_one b rs) cs 0 ∙ long) j.1.1.2)
  where
    rs : List Record
    rs = j.0

    rest : List Record
    rest = j.1.0

    is : all ≡ rs ++ rest
    is = j.1.1.0

    next : List Channel
    next = map_from (forward_one b rs) cs 0

    go : (x : Bool) → are_in_reach cs b rs ≡ x → Comes next (beside_after b rs) rest (bring_all next (beside_after b rs) logs)
        → Comes cs b all (bringing cs log b >>= λ a. bring_all a.0 a.1 logs)
    go true e c = rw (bring_in cs b log rs long j.1.1.1 e) (on c)
      where
        on : Comes next (beside_after b rs) rest (bring_all next (beside_after b rs) logs) → Comes cs b all (bring_all next (beside_after b rs) logs)
        on (comes r) = comes (r ∙ ap₂ (λ x y. passed (x, y)) (map_together b rs rest cs 0) (sym (beside_more b rs rest)) ∙ ap (Brought cs b) (sym is))
        on (passes r out) = passes r (ap (are_in_reach cs b) is ∙ reach_later b rs rest cs ∙ out)
    go false e c = passes (rw (bring_out cs b log rs long j.1.1.1 e)) (sooner (are_in_reach cs b all) refl)
      where
        sooner : (y : Bool) → are_in_reach cs b all ≡ y → are_in_reach cs b all ≡ false
        sooner true t = absurd (true≢false (sym (reach_sooner b rs rest cs (sym (ap (are_in_reach cs b) is) ∙ t)) ∙ e))
        sooner false t = t
