-- A run goes one way: it comes to one moment from which no line follows, and of the lines that it has gone through one State is the last.
-- Assumes nothing.
use Prim.Native.Nat.{ℕ, ◌<◌}
use native.Mathlib.Omega.{arith}
use mathlib.Core.Path.{◌≡◌, refl, sym, ap, subst, ◌∙◌}
use mathlib.Core.Bool.{Bool, true, false, true≢false}
use mathlib.Core.List.{List, [], ◌∷◌, ◌++◌}
use lib.ListN.{length}
use lib.Dec.{ltb}
use borrow.Author.Tests.{ne_eqb, ltb-true, ltb-false}
use Rattle.formats.specs.Checks.{all}
use Rattle.formats.proofs.Checks.{both_true}
use Rattle.formats.proofs.Order.{last_or_before}
use Rattle.lines.specs.declared.Line.TheVariants.{State}
use Rattle.lines.specs.Program.{line_at}
use Rattle.running.specs.declared.Run.{Run}
use Rattle.running.specs.declared.How.TheVariants.{Holds, Ends}
use Rattle.running.specs.Running.{run_line, is_for_or_next, step}
use Rattle.running.specs.Gone.{behind, FollowedBy, goes, waits, Gone, begins, further, LoopLines, LastState}
use Rattle.running.proofs.Gone.{ends_not, holds_not}

-- ---- a run goes one way

module _ (p : List ℕ) where
  -- a State line with a time is held
  pub state_held : (r : Run) {o t : ℕ} → line_at p r.line ≡ State o t → 0 < t → (step p r).how ≡ Holds
  unfolding step run_line
  state_held r {o} {t} line above = rw (line, ne_eqb t 0 (λ z. omega arith))

  followed_one : {n l m : ℕ} (r s t : Run) → FollowedBy p n r l s → FollowedBy p n r m t → (l ≡ m) × (s ≡ t)
  followed_one r s t (goes _ x _ is) (goes _ y _ so) = (omega arith, sym is ∙ so)
  followed_one r s t (goes _ _ how _) (waits _ state above _ _) = holds_not (sym (state_held r state above) ∙ how)
  followed_one r s t (waits _ state above _ _) (goes _ _ how _) = holds_not (sym (state_held r state above) ∙ how)
  followed_one r s t (waits {o = o} x state _ _ is) (waits {o = q} y also _ _ so) =
      let same : o ≡ q = outputs_of (sym state ∙ also) in (omega arith, sym is ∙ ap (λ w. behind w r) same ∙ so)
    where
      outputs_of : {o t q u : ℕ} → State o t ≡ State q u → o ≡ q
      outputs_of e = cc

  -- the line of r leads no further, behind n For and Next lines of its call
  abbrev pub Last : ℕ → Run → Type 0
  Last n r = (m : ℕ) (s : Run) → FollowedBy p n r m s → ⊥

  module _ (b : Run) where
    -- behind as many lines stands one moment, and they are the same lines
    gone_one : {n m : ℕ} {g h : List ℕ} (s t : Run) → Gone p b n g s → Gone p b m h t → length g ≡ length h → (g ≡ h) × (s ≡ t) × (n ≡ m)
    gone_one s t (begins is) (begins so) e = (refl, sym is ∙ so, refl)
    gone_one s t (begins is) (further w f) e = absurd (omega arith)
    gone_one s t (further w f) (begins so) e = absurd (omega arith)
    gone_one s t (further {n = n} {m = l} {gone = g} {r = r} v f) (further {n = i} {m = m} {gone = h} {r = q} w e) lengths =
        let both = gone_one r q v w (omega arith) in
        let lines : r.line ∷ g ≡ q.line ∷ h = ap (λ (x : Run). x.line ∷ g) both.1 ∙ ap (λ ls. q.line ∷ ls) both.0 in
        let same : FollowedBy p i q l s = subst (λ j. FollowedBy p j q l s) both.2 (subst (λ (x : Run). FollowedBy p n x l s) both.1 f) in
        let next = followed_one q s t same e in
        (lines, next.1, next.0)

    -- a run that went further went on from there
    went_on : {n m : ℕ} {g h : List ℕ} (s t : Run) → Gone p b n g s → Gone p b m h t → length g < length h → Last n s → ⊥
    went_on s t v (begins is) lt last = omega arith
    went_on {n} {m} {g} s t v (further {n = i} {m = l} {gone = h} {r = r} w f) lt last =
        last_or_before (length g) (length h) lt
        (λ e.
        let one = gone_one s r v w e in
        last l t (subst (λ j. FollowedBy p j s l t) (sym one.2) (subst (λ (x : Run). FollowedBy p i x l t) (sym one.1) f)))
        (λ before. went_on s r v w before last)

    -- A run comes to one moment from which no line follows, by one way.
    pub one_way : {n m : ℕ} (g h : List ℕ) (s t : Run) → Gone p b n g s → Gone p b m h t → Last n s → Last m t → (g ≡ h) × (s ≡ t)
    one_way g h s t v w last also = go (ltb (length g) (length h)) refl (ltb (length h) (length g)) refl
      where
        go : (x : Bool) → ltb (length g) (length h) ≡ x → (y : Bool) → ltb (length h) (length g) ≡ y → (g ≡ h) × (s ≡ t)
        go true x y e = absurd (went_on s t v w (ltb-true (length g) (length h) x) last)
        go false x true e = absurd (went_on t s w v (ltb-true (length h) (length g) e) also)
        go false x false e =
            let one = gone_one s t v w (omega (arith, ltb-false (length g) (length h) x, ltb-false (length h) (length g) e)) in (one.0, one.1)

  -- a line that ends the program leads no further,
  pub ends_last : (n : ℕ) (s : Run) {e : ℕ} → (step p s).how ≡ Ends e → Last n s
  ends_last n s is m u (goes _ _ how _) = ends_not (sym is ∙ how)
  ends_last n s is m u (waits _ state above _ _) = ends_no_hold (sym is ∙ state_held s state above)
    where
      ends_no_hold : {e : ℕ} → Ends e ≡ Holds → ⊥
      ends_no_hold q = let z : ◌≡◌ {A = ℕ} 0 1 = cc in omega arith

  -- nor does a 401st For or Next
  pub over_last : (s : Run) → is_for_or_next (line_at p s.line) ≡ true → Last 400 s
  over_last s loop m u (goes few _ _ _) = omega arith
  over_last s loop m u (waits _ state above _ _) = true≢false (sym loop ∙ ap is_for_or_next state)

-- ---- the State line last held

module _ (p : List ℕ) where
  state_no_loop : (k : ℕ) {o t : ℕ} → line_at p k ≡ State o t → is_for_or_next (line_at p k) ≡ true → ⊥
  state_no_loop k state loop = true≢false (sym loop ∙ ap is_for_or_next state)

  -- the first of lines that are all For and Next, and the others
  loops_first : (l : ℕ) (ls : List ℕ) → LoopLines p (l ∷ ls) → (is_for_or_next (line_at p l) ≡ true) × LoopLines p ls
  loops_first l ls h = both_true (is_for_or_next (line_at p l)) (all (λ k. is_for_or_next (line_at p k)) ls) h

  -- of lines that are all For and Next none is a State
  pub no_state : (gone : List ℕ) {j n : ℕ} → LoopLines p gone → LastState p j n gone → ⊥
  no_state gone {j} loops s = go s.since (subst (λ ls. LoopLines p ls) s.ran loops)
    where
      go : (since : List ℕ) → LoopLines p (since ++ (j ∷ s.before)) → ⊥
      go [] h = state_no_loop j s.line (loops_first j s.before h).0
      go (l ∷ ls) h = go ls (loops_first l (ls ++ (j ∷ s.before)) h).1

  -- there is one last State
  pub last_state_one : (gone : List ℕ) {j i n m : ℕ} → LastState p j n gone → LastState p i m gone → j ≡ i
  last_state_one gone {j} {i} s t = go s.since t.since s.loops t.loops (sym s.ran ∙ t.ran)
    where
      go : (xs ys : List ℕ) → LoopLines p xs → LoopLines p ys → xs ++ (j ∷ s.before) ≡ ys ++ (i ∷ t.before) → j ≡ i
      go [] [] a b e = cc
      go [] (y ∷ ys) a b e =
          let first : y ≡ j = cc in
          absurd (state_no_loop j s.line (ap (λ l. is_for_or_next (line_at p l)) (sym first) ∙ (loops_first y ys b).0))
      go (x ∷ xs) [] a b e =
          let first : x ≡ i = cc in
          absurd (state_no_loop i t.line (ap (λ l. is_for_or_next (line_at p l)) (sym first) ∙ (loops_first x xs a).0))
      go (x ∷ xs) (y ∷ ys) a b e = go xs ys (loops_first x xs a).1 (loops_first y ys b).1 (cc)
