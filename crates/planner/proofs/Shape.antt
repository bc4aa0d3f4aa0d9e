-- The shape of a plan's program: State lines, and loops of one State line, one behind the other. What stands on a line says what stands around it.
-- Assumes nothing.
use Prim.Native.Nat.{ℕ, zero, suc, ◌+◌, ◌-◌, ◌/◌, ◌%◌, ◌≤◌, ◌<◌}
use native.Mathlib.Omega.{arith}
use mathlib.Core.Path.{◌≡◌, refl, sym, ap, subst, ◌∙◌}
use mathlib.Core.Bool.{Bool, true, false}
use mathlib.Core.List.{List, [], ◌∷◌, ◌++◌}
use lib.ListN.{length, replicate}
use lib.Dec.{ltb, eqb}
use borrow.Author.Tests.{ltb-true, ltb-false, eqb-true, eqb-false}
use Rattle.lines.specs.declared.Line.{Line}
use Rattle.lines.specs.declared.Line.TheVariants.{State, For, Next, Bad}
use Rattle.lines.specs.Line.{end_mark, is_next}
use Rattle.lines.specs.Program.{line_at}
use Rattle.planner.specs.declared.Move.{Move}
use Rattle.planner.specs.Plan.{AllProper}
use Rattle.planner.specs.Lines.{lines_for, loop_lines, move_lines, plan_lines, program_lines, program_of}
use Rattle.planner.proofs.Laying.{short_lines, long_lines, no_remainder, some_remainder}
use Rattle.planner.proofs.Found.{Stand, stands_here, stands_behind, stand_program, lines_all}

pub data Shape : List Line → Type 0 where
  none : Shape []
  state : {o t : ℕ} {ls : List Line} → Shape ls → Shape (State o t ∷ ls)
  loop : {c x o t : ℕ} {ls : List Line} → 0 < x → 0 < t → Shape ls → Shape (For c x ∷ State o t ∷ Next c ∷ ls)

shape_append : {xs ys : List Line} → Shape xs → Shape ys → Shape (xs ++ ys)
shape_append none b = b
shape_append (state a) b = state (shape_append a b)
shape_append (loop some above a) b = loop some above (shape_append a b)

-- ---- a plan's program has it

time_shape : (w t : ℕ) → Shape (lines_for w t)
unfolding loop_lines
time_shape w t = go (ltb 9999 t) refl (eqb (t % 9999) 0) refl
  where
    go : (a : Bool) → ltb 9999 t ≡ a → (b : Bool) → eqb (t % 9999) 0 ≡ b → Shape (lines_for w t)
    go false a b e = rw (short_lines w t (ltb-false 9999 t a)) (state none)
    go true a true e =
        rw (long_lines w t (ltb-true 9999 t a), no_remainder w (t % 9999) (eqb-true (t % 9999) 0 e))
        (loop {x = t / 9999} {t = 9999} (let gt = ltb-true 9999 t a in omega arith) (omega arith) none)
    go true a false e =
        rw (long_lines w t (ltb-true 9999 t a), some_remainder w (t % 9999) (eqb-false (t % 9999) 0 e))
        (loop {x = t / 9999} {t = 9999} (let gt = ltb-true 9999 t a in omega arith) (omega arith) (state none))

plan_shape : (ms : List Move) → Shape (plan_lines ms)
unfolding plan_lines move_lines
plan_shape [] = none
plan_shape (m ∷ ms) =
    shape_append (shape_append (time_shape m.moveword m.settling) (time_shape m.readingword m.reading)) (plan_shape ms)

ends_shape : (n : ℕ) → Shape (replicate n end_mark)
ends_shape zero = none
ends_shape (suc n) = state (ends_shape n)

pub program_shape : (ms : List Move) → Shape (program_lines ms)
unfolding program_lines
program_shape ms = shape_append (plan_shape ms) (ends_shape (200 - length (plan_lines ms)))

-- ---- what stands on a line, and around it

-- A For on line k: a State with a time behind it, and behind that its Next.
pub record LoopAt (p : List ℕ) (last k c x : ℕ) : Type 0 where
  pub begins : line_at p k ≡ For c x
  pub some : 0 < x
  pub outputs : ℕ
  pub time : ℕ
  pub state : line_at p (k + 1) ≡ State outputs time
  pub above : 0 < time
  pub next : line_at p (k + 2) ≡ Next c
  pub inside : k + 2 < last
  pub alone : k + 3 < last → is_next (line_at p (k + 3)) ≡ false

pub data Around (p : List ℕ) (last k : ℕ) : Type 0 where
  a_state : (o t : ℕ) → line_at p k ≡ State o t → Around p last k
  a_for : (c x : ℕ) → LoopAt p last k c x → Around p last k
  a_next : (j c x : ℕ) → k ≡ j + 2 → LoopAt p last j c x → Around p last k

-- no shape begins with a Next
first_alone : (p : List ℕ) (i : ℕ) (ls : List Line) → Shape ls → Stand p i ls → 0 < length ls → is_next (line_at p i) ≡ false
first_alone p i [] none s lt = absurd (omega arith)
first_alone p i (l ∷ ls) (state a) s lt = ap is_next (stands_here s)
first_alone p i (l ∷ ls) (loop some above a) s lt = ap is_next (stands_here s)

module _ (p : List ℕ) where
  here : (i : ℕ) (c x o t : ℕ) (ls : List Line) → 0 < x → 0 < t → Shape ls → Stand p i (For c x ∷ State o t ∷ Next c ∷ ls)
      → LoopAt p (i + length (For c x ∷ State o t ∷ Next c ∷ ls)) i c x
  here i c x o t ls some above a s =
      let two : i + 1 + 1 ≡ i + 2 = omega arith in
      let three : i + 1 + 1 + 1 ≡ i + 3 = omega arith in
      let on = stands_behind (stands_behind s) in
      record {
        begins = stands_here s;
        some = some;
        outputs = o;
        time = t;
        state = stands_here (stands_behind s);
        above = above;
        next = sym (ap (line_at p) two) ∙ stands_here on;
        inside = omega arith;
        alone = λ lt. sym (ap (λ k. is_next (line_at p k)) three) ∙ first_alone p (i + 1 + 1 + 1) ls a (stands_behind on) (omega arith);
      }

  pub around : (ls : List Line) (i last : ℕ) → Shape ls → Stand p i ls → last ≡ i + length ls → (k : ℕ) → i ≤ k → k < last → Around p last k
  around [] i last none s is k le lt = absurd (omega arith)
  around (State o t ∷ ls) i last (state a) s is k le lt =
      go (ltb i k) refl (λ up. around ls (i + 1) last a (stands_behind s) (omega arith) k (omega arith) lt)
    where
      go : (b : Bool) → ltb i k ≡ b → (i < k → Around p last k) → Around p last k
      go true e on = on (ltb-true i k e)
      go false e on = a_state o t (let down = ltb-false i k e in let at : k ≡ i = omega arith in ap (line_at p) at ∙ stands_here s)
  around (For c x ∷ State o t ∷ Next _ ∷ ls) i last (loop some above a) s is k le lt =
      go (ltb (i + 2) k) refl (ltb (i + 1) k) refl (ltb i k) refl
      (λ up. around ls (i + 1 + 1 + 1) last a (stands_behind (stands_behind (stands_behind s))) (omega arith) k (omega arith) lt)
    where
      at_loop : LoopAt p last i c x
      at_loop = subst (λ n. LoopAt p n i c x) (sym is) (here i c x o t ls some above a s)

      go : (d : Bool) → ltb (i + 2) k ≡ d → (e : Bool) → ltb (i + 1) k ≡ e → (f : Bool) → ltb i k ≡ f → (i + 2 < k → Around p last k) → Around p last k
      go true d e f g h on = on (ltb-true (i + 2) k d)
      go false d true f g h on = a_next i c x (let up = ltb-true (i + 1) k f in let down = ltb-false (i + 2) k d in omega arith) at_loop
      go false d false f true h on =
          let up = ltb-true i k h in
          let down = ltb-false (i + 1) k f in
          let at : k ≡ i + 1 = omega arith in
          a_state at_loop.outputs at_loop.time (ap (line_at p) at ∙ at_loop.state)
      go false d false f false h on =
          let down = ltb-false i k h in
          let at : i ≡ k = omega arith in
          a_for c x (subst (λ j. LoopAt p last j c x) at at_loop)
  around (For c x ∷ []) i last wrong s is k le lt = elim wrong [ ]
  around (For c x ∷ (State o t ∷ [])) i last wrong s is k le lt = elim wrong [ ]
  around (For c x ∷ (State o t ∷ (State _ _ ∷ ls))) i last wrong s is k le lt = elim wrong [ ]
  around (For c x ∷ (State o t ∷ (For _ _ ∷ ls))) i last wrong s is k le lt = elim wrong [ ]
  around (For c x ∷ (State o t ∷ (Bad ∷ ls))) i last wrong s is k le lt = elim wrong [ ]
  around (For c x ∷ (For _ _ ∷ _)) i last wrong s is k le lt = elim wrong [ ]
  around (For c x ∷ (Next _ ∷ _)) i last wrong s is k le lt = elim wrong [ ]
  around (For c x ∷ (Bad ∷ _)) i last wrong s is k le lt = elim wrong [ ]
  around (Next _ ∷ ls) i last wrong s is k le lt = elim wrong [ ]
  around (Bad ∷ ls) i last wrong s is k le lt = elim wrong [ ]

-- every line of a plan's program
pub program_around : (ms : List Move) → length ms ≤ 16 → AllProper ms → (k : ℕ) → k < 200 → Around (program_of ms) 200 k
program_around ms few proper k lt =
    let l = lines_all ms few in
    around (program_of ms) (program_lines ms) 0 200 (program_shape ms) (stand_program ms few proper) (omega arith) k (omega arith) lt
