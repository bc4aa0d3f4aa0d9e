-- The 32 records brought forward one by one are what the definition says, or its refusal: what a function over them needs.
-- Assumes nothing.
use mathlib.Core.Path.{◌≡◌, refl, sym, ap, ap₂, ◌∙◌}
use Prim.Native.Nat.{ℕ, suc, ◌+◌, ◌≤◌, ◌<◌}
use native.Mathlib.Omega.{arith}
use native.Mathlib.Nat.{zero-add, add-zero}
use mathlib.Core.Bool.{Bool, true, false, ◌&&◌}
use mathlib.Core.List.{List, [], ◌∷◌}
use lib.ListN.{length, get_or}
use Rattle.std.specs.Prelude.{if◌then◌else◌, Option, Some, None}
use Rattle.std.specs.List.{zip, list_all}
use Rattle.formats.specs.Checks.{Res, refused, passed, ◌>>=◌, ◌>>◌, ◌or_else◌}
use Rattle.formats.proofs.Checks.{both_true}
use Rattle.reader.specs.declared.Record.{Record}
use Rattle.channels.specs.declared.Channel.{Channel}
use Rattle.channels.specs.declared.Beside.{Beside}
use Rattle.channels.specs.declared.Gain.{Gain}
use Rattle.channels.specs.declared.Counts.{Counts}
use Rattle.channels.specs.Totals.{beside_after, map_from, all_from, forward_one}
use Rattle.channels.specs.Bringing.{log_for, is_later, matches, is_total, are_totals, are_in_reach, brought_by, bringing}
use Rattle.channels.specs.Walk.{joining, no_gain, AllBring, Counting, Stopped, unread, apart, lost, sum_with, moved_of, fits_of, next_of}
use Rattle.channels.proofs.Counting.{log_passes}

-- ---- one record, as the code brings it forward

module _ (gains : List Gain) (c : Channel) (i : ℕ) {r : Option Channel} (is : r ≡ moved_of c (get_or gains i no_gain)) where
  pub moved_well : {d : Channel} → r ≡ Some d → d ≡ next_of gains c i
  moved_well {d} e = go (fits_of gains c i) (sum_with c (get_or gains i no_gain)) (sym e ∙ is)
    where
      go : (t : Bool) (s : Channel) → Some d ≡ (if t then Some s else None) → d ≡ (if t then s else c)
      go true s z = cc
      go false s z = absurd (cc)

  pub moved_not : r ≡ None → c ≡ next_of gains c i
  moved_not e = go (fits_of gains c i) (sum_with c (get_or gains i no_gain)) (sym e ∙ is)
    where
      go : (t : Bool) (s : Channel) → None ≡ (if t then Some s else None) → c ≡ (if t then s else c)
      go true s z = absurd (cc)
      go false s z = refl

-- ---- all records, tested side by side with their gains, as the code tests them

module _ (gains : List Gain) where
  abbrev fit : Channel × Gain → Bool
  fit p = are_totals (sum_with p.0 p.1)

  -- the gains from place j on
  abbrev From : List Gain → ℕ → Type 0
  From gs j = (i : ℕ) → i < length gs → get_or gains (j + i) no_gain ≡ get_or gs i no_gain

  from_next : (g : Gain) (gs : List Gain) (j : ℕ) → From (g ∷ gs) j → From gs (j + 1)
  from_next g gs j from i lt = ap (λ n. get_or gains n no_gain) (places j i) ∙ from (suc i) (omega arith)
    where
      places : (j i : ℕ) → j + 1 + i ≡ j + suc i
      places j i = omega arith

  fits_here : (c : Channel) (g : Gain) (gs : List Gain) (j : ℕ) → From (g ∷ gs) j → fits_of gains c j ≡ are_totals (sum_with c g)
  fits_here c g gs j from =
      ap (λ (x : Gain). are_totals (sum_with c x)) (ap (λ n. get_or gains n no_gain) (sym (add-zero j)) ∙ from 0 (omega arith))

  pairs_fit : (cs : List Channel) (gs : List Gain) (j : ℕ) → length cs ≤ length gs → From gs j → list_all fit (zip cs gs) ≡ all_from (fits_of gains) cs j
  pairs_fit [] gs j le from = refl
  pairs_fit (c ∷ cs) [] j le from = absurd (omega arith)
  pairs_fit (c ∷ cs) (g ∷ gs) j le from =
      ap₂ (λ x y. x && y) (sym (fits_here c g gs j from)) (pairs_fit cs gs (j + 1) (omega arith) (from_next g gs j from))

  pub all_fit_so : (cs : List Channel) → length cs ≤ length gains → list_all fit (zip cs gains) ≡ all_from (fits_of gains) cs 0
  all_fit_so cs le = pairs_fit cs gains 0 le (λ i lt. ap (λ n. get_or gains n no_gain) (zero-add i))

-- ---- all of them, by the records of a log

module _ (b : Beside) (rs : List Record) (gains : List Gain) (bring : AllBring b rs gains) where
  sum_is : (c : Channel) (i : ℕ) → i < 32 → sum_with c (get_or gains i no_gain) ≡ forward_one b rs c i
  unfolding forward_one
  sum_is c i lt =
      let x = bring i lt in
      λ j. record { closings = c.closings + x.closings j; openings = c.openings + x.openings j; ticks = c.ticks + x.ticks j }

  all_fit : (cs : List Channel) (i : ℕ) → i + length cs ≡ 32 → all_from (fits_of gains) cs i ≡ all_from (λ c j. are_totals (forward_one b rs c j)) cs i
  all_fit [] i e = refl
  all_fit (c ∷ cs) i e =
      ap (λ x. x && all_from (fits_of gains) cs (i + 1)) (ap are_totals (sum_is c i (omega arith)))
      ∙ ap (λ x. are_totals (forward_one b rs c i) && x) (all_fit cs (i + 1) (omega arith))

  all_next : (cs : List Channel) (i : ℕ) → i + length cs ≡ 32 → all_from (fits_of gains) cs i ≡ true → map_from (next_of gains) cs i ≡ map_from (forward_one b rs) cs i
  all_next [] i e fit = refl
  all_next (c ∷ cs) i e fit =
      let x = both_true (fits_of gains c i) (all_from (fits_of gains) cs (i + 1)) fit in
      let s = sum_with c (get_or gains i no_gain) in
      ap (λ (d : Channel). d ∷ map_from (next_of gains) cs (i + 1)) (ap (λ t. if t then s else c) x.0 ∙ sum_is c i (omega arith))
      ∙ ap (λ ds. forward_one b rs c i ∷ ds) (all_next cs (i + 1) (omega arith) x.1)

-- ---- what the definition answers

module _ (cs : List Channel) (b : Beside) (rs : List Record) where
  -- the check behind the first two
  abbrev reached : Bool → Res (List Channel × Beside)
  reached z = z or_else 74 >> passed (map_from (forward_one b rs) cs 0, beside_after b rs)

  by_join : {x : Res (Unit {0})} → joining b rs ≡ x → brought_by cs b rs ≡ (x >> reached (are_in_reach cs b rs))
  unfolding joining brought_by ◌>>◌ ◌or_else◌
  by_join is = go (is_later b rs) (matches b rs) (reached (are_in_reach cs b rs)) ∙ ap (λ y. y >> reached (are_in_reach cs b rs)) is
    where
      go : (x y : Bool) (r : Res (List Channel × Beside)) → (x or_else 72 >> (y or_else 73 >> r)) ≡ ((x or_else 72 >> y or_else 73) >> r)
      go false y r = refl
      go true false r = refl
      go true true r = refl

  module _ (j : joining b rs ≡ passed tt) where
    reach_is : (u v : Bool) → is_total (beside_after b rs).unknown ≡ u → all_from (λ c i. are_totals (forward_one b rs c i)) cs 0 ≡ v
        → brought_by cs b rs ≡ reached (u && v)
    unfolding are_in_reach ◌>>◌
    reach_is u v e f = by_join j ∙ ap (λ x. reached (x && all_from (λ c i. are_totals (forward_one b rs c i)) cs 0)) e ∙ ap (λ x. reached (u && x)) f

    too_many : is_total (beside_after b rs).unknown ≡ false → brought_by cs b rs ≡ refused 74
    unfolding ◌>>◌ ◌or_else◌
    too_many e = reach_is false (all_from (λ c i. are_totals (forward_one b rs c i)) cs 0) e refl

    module _ (u : is_total (beside_after b rs).unknown ≡ true) where
      one_over : all_from (λ c i. are_totals (forward_one b rs c i)) cs 0 ≡ false → brought_by cs b rs ≡ refused 74
      unfolding ◌>>◌ ◌or_else◌
      one_over e = reach_is true false u e

      all_in : all_from (λ c i. are_totals (forward_one b rs c i)) cs 0 ≡ true → brought_by cs b rs ≡ passed (map_from (forward_one b rs) cs 0, beside_after b rs)
      unfolding ◌>>◌ ◌or_else◌
      all_in e = reach_is true true u e

-- ---- what comes of the records ys and a log

module _ (ys : List Channel) (bs : List ℕ) (b : Beside) where
  unread_so : (e : ℕ) → log_for (length ys) bs ≡ refused e → bringing ys bs b ≡ refused e
  unfolding bringing ◌>>=◌
  unread_so e is = rw is

  read_so : (rs : List Record) → log_for (length ys) bs ≡ passed rs → bringing ys bs b ≡ brought_by ys b rs
  unfolding bringing ◌>>=◌
  read_so rs is = rw is

  -- the log is refused
  pub stopped_so : (e : ℕ) → Stopped (length ys) bs b e → bringing ys bs b ≡ refused e
  unfolding ◌>>◌
  stopped_so e (unread is) = unread_so e is
  stopped_so e (apart rs is join) = read_so rs is ∙ by_join ys b rs join
  stopped_so e (lost rs is join over n) = read_so rs is ∙ too_many ys b rs join over ∙ ap refused (sym n)

  module _ (k : Counts) (c : Counting (length ys) bs b k) where
    pub thirty_two : length ys ≡ 32
    thirty_two = (log_passes (length ys) bs c.records c.read).count

    all_here : all_from (fits_of k.gains) ys 0 ≡ all_from (λ d j. are_totals (forward_one b c.records d j)) ys 0
    all_here = all_fit b c.records k.gains c.bring ys 0 (zero-add (length ys) ∙ thirty_two)

    -- a total would pass the end
    pub over_so : all_from (fits_of k.gains) ys 0 ≡ false → bringing ys bs b ≡ refused 74
    over_so over = read_so c.records c.read ∙ one_over ys b c.records c.joins c.total (sym all_here ∙ over)

    -- none would
    pub all_so : all_from (fits_of k.gains) ys 0 ≡ true → bringing ys bs b ≡ passed (map_from (next_of k.gains) ys 0, k.beside)
    all_so fit =
        read_so c.records c.read ∙ all_in ys b c.records c.joins c.total (sym all_here ∙ fit)
        ∙ ap (λ zs. passed (zs, beside_after b c.records)) (sym (all_next b c.records k.gains c.bring ys 0 (zero-add (length ys) ∙ thirty_two) fit))
        ∙ ap (λ x. passed (map_from (next_of k.gains) ys 0, x)) (sym c.beside)
