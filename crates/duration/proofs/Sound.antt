-- What a program is that no refusal before 043 meets: its loops are whole and lie one in the other, and each that runs takes time.
-- Assumes nothing.
use Prim.Native.Nat.{ℕ, ◌+◌, ◌≤◌, ◌<◌}
use native.Mathlib.Omega.{arith}
use mathlib.Core.Path.{◌≡◌, refl, sym, ap, ◌∙◌}
use mathlib.Core.Logic.{◌≢◌}
use mathlib.Core.Bool.{Bool, true, false}
use mathlib.Core.List.{List}
use lib.Dec.{eqb, ltb}
use borrow.Author.Tests.{eqb-true, eqb-false, ltb-true, ltb-false}
use Rattle.lines.specs.declared.Line.TheVariants.{State, For, Next, Bad}
use Rattle.lines.specs.Program.{line_at, FirstFrom}
use Rattle.lines.specs.Loops.{next_of}
use Rattle.duration.specs.Ticks.{run_ticks}
use Rattle.duration.specs.Summing.{Nests}
use Rattle.lines.proofs.Pairs.{for_no_next, begins, pairs}

-- the Next on line m has its For on line k, which is not before line i
pub record Closes (p : List ℕ) (i m : ℕ) : Type 0 where
  pub k : ℕ
  pub from : i ≤ k
  pub earlier : k < m
  pub next : next_of p k ≡ m

-- the For stands later, if it is not on line i
closes_later : {p : List ℕ} {i m : ℕ} (q : Closes p i m) → q.k ≢ i → Closes p (i + 1) m
closes_later q other = record { k = q.k; from = omega (arith, q.from, other); earlier = q.earlier; next = q.next }

pub record Sound (p : List ℕ) (e : ℕ) : Type 0 where
  pub in_program : e < 200
  pub timed : (i o t : ℕ) → i < e → line_at p i ≡ State o t → 0 < t
  pub good : (i : ℕ) → i < e → line_at p i ≢ Bad
  pub nests : Nests p 0 e
  pub begun : (m c : ℕ) → m < e → line_at p m ≡ Next c → Closes p 0 m
  pub moves : (k c x : ℕ) → k < e → line_at p k ≡ For c x → 0 < x → 0 < run_ticks p (k + 1) (next_of p k)

-- The run of lines from i to before j holds all of each loop that it holds a For or a Next of.
pub record Whole (p : List ℕ) (i j : ℕ) : Type 0 where
  pub fors : (k c x : ℕ) → i ≤ k → k < j → line_at p k ≡ For c x → next_of p k < j
  pub nexts : (m c : ℕ) → i ≤ m → m < j → line_at p m ≡ Next c → Closes p i m

module _ (p : List ℕ) (e : ℕ) (s : Sound p e) where
  -- all lines before the end
  pub whole : Whole p 0 e
  whole = record { fors = λ k c x le lt is. s.nests.closed k le lt; nexts = λ m c le lt is. s.begun m c lt is }

  -- the first later Next of a For
  pub first : {k c x : ℕ} → k < e → line_at p k ≡ For c x → FirstFrom p c (k + 1) (next_of p k)
  first {k} {c} {x} lt is = pairs p k (omega (arith, s.in_program)) is (λ z. omega (arith, s.in_program, s.nests.closed k (omega arith) lt))

  module _ (i j : ℕ) (w : Whole p i j) (lt : i < j) (le : j ≤ e) where
    -- it does not begin with a Next
    pub no_next : {c : ℕ} → line_at p i ≡ Next c → ⊥
    no_next {c} is = let q = w.nexts i c (omega arith) lt is in omega (arith, q.from, q.earlier)

    -- behind a line that is no For
    pub rest : ((c x : ℕ) → line_at p i ≡ For c x → ⊥) → Whole p (i + 1) j
    rest plain = record { fors = λ k c x from before is. w.fors k c x (omega arith) before is; nexts = nexts }
      where
        nexts : (m c : ℕ) → i + 1 ≤ m → m < j → line_at p m ≡ Next c → Closes p (i + 1) m
        nexts m c from before is =
            let q = w.nexts m c (omega arith) before is in
            let other : q.k ≢ i = λ same.
            let here : 0 < next_of p i = let n : next_of p i ≡ m = ap (next_of p) (sym same) ∙ q.next in omega arith in
            begins p i here plain in
            closes_later q other

    module _ {c x : ℕ} (is : line_at p i ≡ For c x) where
      after : i < next_of p i
      after = omega (arith, (first (omega arith) is).not_before)

      inside : next_of p i < j
      inside = w.fors i c x (omega arith) lt is

      -- the body of a loop
      pub body : Whole p (i + 1) (next_of p i)
      body = record { fors = λ k d y from before at. s.nests.nested i k (omega arith) (omega arith) (omega arith) before; nexts = nexts }
        where
          nexts : (m d : ℕ) → i + 1 ≤ m → m < next_of p i → line_at p m ≡ Next d → Closes p (i + 1) m
          nexts m d from before at =
              let q = w.nexts m d (omega arith) (omega (arith, inside)) at in
              let other : q.k ≢ i = λ same. let z : next_of p i ≡ m = ap (next_of p) (sym same) ∙ q.next in omega arith in
              closes_later q other

      -- a For that is not before this one and ends behind its Next begins behind it too
      beyond : (k : ℕ) → i ≤ k → k < e → next_of p i < next_of p k → next_of p i < k
      beyond k from before far = begins p k (omega arith) λ d y at. go d y at (ltb (next_of p i) k) refl (eqb k i) refl (eqb k (next_of p i)) refl
        where
          go : (d y : ℕ) → line_at p k ≡ For d y → (a : Bool) → ltb (next_of p i) k ≡ a → (b : Bool) → eqb k i ≡ b → (f : Bool) → eqb k (next_of p i) ≡ f
              → next_of p i < k
          go d y at true g b h f l = ltb-true (next_of p i) k g
          go d y at false g true h f l = let same : k ≡ i = eqb-true k i h in let z : next_of p k ≡ next_of p i = ap (next_of p) same in absurd (omega arith)
          go d y at false g false h true l =
              let same : k ≡ next_of p i = eqb-true k (next_of p i) l in
              absurd (for_no_next (sym at ∙ ap (line_at p) same ∙ (first (omega arith) is).next))
          go d y at false g false h false l =
              let le = ltb-false (next_of p i) k g in
              let a : k ≢ i = eqb-false k i h in
              let b : k ≢ next_of p i = eqb-false k (next_of p i) l in
              let z = s.nests.nested i k (omega arith) (omega arith) (omega arith) (omega arith) in
              absurd (omega arith)

      -- and what stands behind its Next
      pub behind : Whole p (next_of p i + 1) j
      behind = record { fors = λ k d y from before at. w.fors k d y (omega (arith, after)) before at; nexts = nexts }
        where
          nexts : (m d : ℕ) → next_of p i + 1 ≤ m → m < j → line_at p m ≡ Next d → Closes p (next_of p i + 1) m
          nexts m d from before at =
              let q = w.nexts m d (omega (arith, after)) before at in
              let next = q.next in
              let far = beyond q.k q.from (omega (arith, q.earlier)) (omega arith) in
              record { k = q.k; from = omega arith; earlier = q.earlier; next = q.next }
