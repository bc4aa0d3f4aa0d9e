-- Laws of loops: a For and the Next that it pairs with.
-- Assumes nothing.
use Prim.Native.Nat.{ℕ, suc, ◌+◌, ◌-◌, ◌≤◌, ◌<◌}
use native.Mathlib.Omega.{arith}
use mathlib.Core.Path.{◌≡◌, refl, sym, ap, ◌∙◌}
use mathlib.Core.Logic.{◌≢◌}
use mathlib.Core.Bool.{Bool, true, false, false≢true}
use mathlib.Core.List.{List}
use lib.Dec.{eqb}
use borrow.Author.Tests.{eqb-true, eqb-false}
use Rattle.lines.specs.declared.Line.{Line}
use Rattle.lines.specs.declared.Line.TheVariants.{State, For, Next, Bad}
use Rattle.lines.specs.Program.{line_at, next_after, FirstFrom}
use Rattle.lines.proofs.Places.{line_ranged}
use Rattle.lines.proofs.Search.{next_first, first_next_lem, none_next, next_none}
use Rattle.lines.specs.Line.{is_for, is_next, for_counter}
use Rattle.lines.specs.Loops.{next_for, next_of, counter_at}

-- ---- kinds of lines

pub for_no_next : {c x d : ℕ} → For c x ≡ Next d → ⊥
for_no_next e = false≢true (ap is_next e)

pub state_no_next : {o t c : ℕ} → State o t ≡ Next c → ⊥
state_no_next e = false≢true (ap is_next e)

pub state_no_for : {o t c x : ℕ} → State o t ≡ For c x → ⊥
state_no_for e = false≢true (ap is_for e)

pub same_next : {c d : ℕ} → Next c ≡ Next d → c ≡ d
same_next e = ap named e
  where
    named : Line → ℕ
    named (State o t) = 0
    named (For c x) = 0
    named (Next c) = c
    named Bad = 0

-- a counter is 1 to 4
pub counter_ranged : (p : List ℕ) (k c x : ℕ) → line_at p k ≡ For c x → (1 ≤ c) × (c ≤ 4)
counter_ranged p k c x is = let r = rw is at (line_ranged p k) in r.range.0

pub next_ranged : (p : List ℕ) (k c : ℕ) → line_at p k ≡ Next c → (1 ≤ c) × (c ≤ 4)
next_ranged p k c is = let r = rw is at (line_ranged p k) in r.range

-- ---- a For and its Next

module _ (p : List ℕ) (k : ℕ) where
  -- the counter and the Next of a For
  pub counter_of : {c x : ℕ} → line_at p k ≡ For c x → counter_at p k ≡ c
  unfolding counter_at
  counter_of e = rw e

  pub next_of_lem : {c x : ℕ} → line_at p k ≡ For c x → next_of p k ≡ next_after p c k
  unfolding next_of
  next_of_lem e = rw e

  -- a loop begins on a line that has a Next
  pub begins : {X : Type 0} → 0 < next_of p k → ((c x : ℕ) → line_at p k ≡ For c x → X) → X
  unfolding next_of
  begins {X} lt h = go (line_at p k) refl lt
    where
      go : (l : Line) → line_at p k ≡ l → 0 < next_for p k l → X
      go (State o t) e lt = absurd (omega arith)
      go (For c x) e lt = h c x e
      go (Next c) e lt = absurd (omega arith)
      go Bad e lt = absurd (omega arith)

  -- a line that has a counter is a For
  pub begins_so : {X : Type 0} → 0 < counter_at p k → ((c x : ℕ) → line_at p k ≡ For c x → X) → X
  unfolding counter_at
  begins_so {X} lt h = go (line_at p k) refl lt
    where
      go : (l : Line) → line_at p k ≡ l → 0 < for_counter l → X
      go (State o t) e lt = absurd (omega arith)
      go (For c x) e lt = h c x e
      go (Next c) e lt = absurd (omega arith)
      go Bad e lt = absurd (omega arith)

  pub next_by : {c : ℕ} → counter_at p k ≡ c → 0 < c → next_of p k ≡ next_after p c k
  next_by {c} is lt = begins_so (omega arith) λ d x at. next_of_lem at ∙ ap (λ n. next_after p n k) (sym (counter_of at) ∙ is)

  -- a line that has a Next has a counter of 1 to 4
  pub counted : {X : Type 0} → 0 < next_of p k → ((d : ℕ) → d < 4 → counter_at p k ≡ suc d → X) → X
  counted lt h =
      begins lt λ c x at.
      let r = counter_ranged p k c x at in
      h (c - 1) (omega (arith, r.0, r.1)) (counter_of at ∙ one_up c r.0)
    where
      one_up : (c : ℕ) → 1 ≤ c → c ≡ suc (c - 1)
      one_up c le = omega arith

  module _ (in_program_lem : k < 200) where
    -- the Next stands behind its For, and in the program, if there is one
    next_range : (c : ℕ) → (k < next_after p c k) × (next_after p c k ≤ 200)
    next_range c = go (eqb (next_after p c k) 200) refl
      where
        go : (t : Bool) → eqb (next_after p c k) 200 ≡ t → (k < next_after p c k) × (next_after p c k ≤ 200)
        go true e = let is : next_after p c k ≡ 200 = eqb-true _ _ e in (omega arith, omega arith)
        go false e =
            let f = next_first p c k in_program_lem (eqb-false _ _ e) in
            (omega (arith, f.not_before), omega (arith, f.in_program))

    pub next_after_lem : (c : ℕ) → k < next_after p c k
    next_after_lem c = (next_range c).0

    pub of_within : next_of p k ≤ 200
    unfolding next_of
    of_within = go (line_at p k)
      where
        go : (l : Line) → next_for p k l ≤ 200
        go (State o t) = omega arith
        go (For c x) = (next_range c).1
        go (Next c) = omega arith
        go Bad = omega arith

    -- the first later Next of its counter
    pub pairs : {c x : ℕ} → line_at p k ≡ For c x → next_of p k ≢ 200 → FirstFrom p c (k + 1) (next_of p k)
    pairs {c} e ne = let is = next_of_lem e in rw is (next_first p c k in_program_lem (λ z. ne (is ∙ z)))

    pub paired : {c x n : ℕ} → line_at p k ≡ For c x → FirstFrom p c (k + 1) n → next_of p k ≡ n
    paired {c} {x} {n} e f = next_of_lem e ∙ first_next_lem p c k in_program_lem n f

-- the first Next from line i on is that from a later line on that is not behind it
pub first_later : {p : List ℕ} {c i j n : ℕ} → FirstFrom p c i n → i ≤ j → j ≤ n → FirstFrom p c j n
first_later f le up =
    record { not_before = up; in_program = f.in_program; next = f.next; none_between = λ m from to. f.none_between m (omega arith) to }

-- a For and one before it of the same counter, whose Next is behind it, have the same Next
pub later_next : (p : List ℕ) (c k i : ℕ) → k < i → i < 200 → i < next_after p c k → next_after p c i ≡ next_after p c k
later_next p c k i lt up before = go (eqb (next_after p c k) 200) refl
  where
    go : (t : Bool) → eqb (next_after p c k) 200 ≡ t → next_after p c i ≡ next_after p c k
    go true e =
        let is : next_after p c k ≡ 200 = eqb-true _ _ e in
        let none = next_none p c k (omega arith) is in
        none_next p c i up (λ j le to. none j (omega arith) to) ∙ sym is
    go false e =
        let f = next_first p c k (omega arith) (eqb-false _ _ e) in
        first_next_lem p c i up (next_after p c k) (first_later f (omega arith) (omega arith))

-- the loops of one counter around a line have one Next
pub own_next : (p : List ℕ) (k j c : ℕ) → counter_at p k ≡ c → counter_at p j ≡ c → 0 < c → k < j → j < 200 → j < next_of p k → next_of p j ≡ next_of p k
own_next p k j c one other above up lt before =
    let at-k = next_by p k one above in
    next_by p j other above ∙ later_next p c k j up lt (omega arith) ∙ sym at-k
