-- The lines of a plan's program are found where they were laid, and there are never more than 129 of them.
-- Assumes nothing.
use Prim.Native.Nat.{ℕ, zero, suc, ◌+◌, ◌*◌, ◌-◌, ◌/◌, ◌%◌, ◌≤◌, ◌<◌}
use native.Mathlib.Omega.{arith}
use native.Mathlib.Nat.{zero-add}
use mathlib.Core.Path.{◌≡◌, refl, sym, ap, ◌∙◌}
use mathlib.Core.Bool.{Bool, true, false}
use mathlib.Core.List.{List, [], ◌∷◌, ◌++◌}
use lib.ListN.{length, drop, get_or, replicate, length-append, length-replicate, get_or-replicate, get_or-append}
use lib.Seq.{drop-append-add, get_or-append-add}
use lib.Dec.{ltb, eqb}
use borrow.Author.Tests.{ltb-true, ltb-false, eqb-true, eqb-false}
use Rattle.lines.specs.declared.Line.{Line}
use Rattle.lines.specs.declared.Line.TheVariants.{State, For, Next, Bad}
use Rattle.lines.specs.Line.{end_mark, read_line, bytes_of, Fits}
use Rattle.lines.specs.Program.{line_at, FirstFrom, IsProgram}
use Rattle.lines.proofs.Pairs.{state_no_next}
use Rattle.lines.proofs.Lines.{bytes_back, length_bytes}
use Rattle.planner.specs.declared.Move.{Move}
use Rattle.planner.specs.Plan.{InRange, IsWord, Proper, AllProper}
use Rattle.planner.specs.Plan as Plan
use Rattle.planner.specs.Lines.{lines_for, move_lines, plan_lines, program_lines, laid, program_of, loop_lines, remainder}
use Rattle.planner.proofs.Laying.{length_laid, few_lines, short_lines, long_lines, no_remainder, some_remainder}

-- ---- lines in a row

-- The lines stand in the program from line i on.
pub record Stand (p : List ℕ) (i : ℕ) (ls : List Line) : Type 0 where
  pub at : (k : ℕ) → k < length ls → line_at p (i + k) ≡ get_or ls k Bad

-- every one of them can be a line
pub data AllFit : List Line → Type 0 where
  none : AllFit []
  more : (l : Line) {ls : List Line} → Fits l → AllFit ls → AllFit (l ∷ ls)

pub fit_append : {xs ys : List Line} → AllFit xs → AllFit ys → AllFit (xs ++ ys)
fit_append none b = b
fit_append (more l f a) b = more l f (fit_append a b)

-- behind a line
behind : (l : Line) (ls : List Line) (n : ℕ) → drop (8 + n) (bytes_of l ++ laid ls) ≡ drop n (laid ls)
behind l ls n = ap (λ m. drop (m + n) (bytes_of l ++ laid ls)) (sym (length_bytes l)) ∙ drop-append-add (bytes_of l) (laid ls) n

-- what is laid is found
found : (ls : List Line) → AllFit ls → (k : ℕ) → k < length ls → line_at (laid ls) k ≡ get_or ls k Bad
unfolding line_at laid
found [] _ k lt = elim lt [ ]
found (l ∷ ls) (more _ f a) zero lt = bytes_back l (laid ls) f
found (l ∷ ls) (more _ f a) (suc k) lt =
    let next : 8 * suc k ≡ 8 + 8 * k = omega arith in
    let past : drop (8 * suc k) (bytes_of l ++ laid ls) ≡ drop (8 * k) (laid ls) = ap (λ n. drop n (bytes_of l ++ laid ls)) next ∙ behind l ls (8 * k) in
    ap read_line past ∙ found ls a k (omega arith)

pub stand_laid : (ls : List Line) → AllFit ls → Stand (laid ls) 0 ls
stand_laid ls a = record { at = λ k lt. ap (line_at (laid ls)) (zero-add k) ∙ found ls a k lt }

module _ {p : List ℕ} {i : ℕ} (xs ys : List Line) (s : Stand p i (xs ++ ys)) where
  pub stand_first : Stand p i xs
  stand_first =
      record { at = λ k lt. s.at k (omega (arith, length-append xs ys)) ∙ get_or-append xs ys Bad k lt }

  pub stand_rest : {j : ℕ} → j ≡ i + length xs → Stand p j ys
  stand_rest {j} is =
      record {
        at = λ k lt.
            let e : j + k ≡ i + (length xs + k) = omega arith in
            ap (line_at p) e ∙ s.at (length xs + k) (omega (arith, length-append xs ys)) ∙ get_or-append-add xs ys k Bad;
      }

-- the first line of them, and those behind it
module _ {p : List ℕ} {i : ℕ} {l : Line} {ls : List Line} (s : Stand p i (l ∷ ls)) where
  pub stands_here : line_at p i ≡ l
  stands_here = ap (line_at p) (omega arith) ∙ s.at 0 (omega arith)

  pub stands_behind : Stand p (i + 1) ls
  stands_behind = stand_rest (l ∷ []) ls s (omega arith)

-- the Next of a loop of one State
pub two_on : (p : List ℕ) (k c : ℕ) {o t : ℕ} → line_at p (k + 1) ≡ State o t → line_at p (k + 2) ≡ Next c → k + 2 < 200 → FirstFrom p c (k + 1) (k + 2)
two_on p k c state next inside =
    record {
      not_before = omega arith;
      in_program = inside;
      next = next;
      none_between = λ j from to is.
          let e : j ≡ k + 1 = omega arith in
          state_no_next (sym state ∙ sym (ap (line_at p) e) ∙ is);
    }

-- ---- the lines of a plan

time_fits : (w t : ℕ) → IsWord w → InRange t → AllFit (lines_for w t)
unfolding loop_lines
time_fits w t word time = go (ltb 9999 t) refl
  where
    rest_fits : AllFit (remainder w (t % 9999))
    rest_fits = rest (eqb (t % 9999) 0) refl
      where
        rest : (b : Bool) → eqb (t % 9999) 0 ≡ b → AllFit (remainder w (t % 9999))
        rest true e = rw (no_remainder w (t % 9999) (eqb-true (t % 9999) 0 e)) none
        rest false e = rw (some_remainder w (t % 9999) (eqb-false (t % 9999) 0 e)) (more (State w (t % 9999)) (word, omega arith) none)

    go : (b : Bool) → ltb 9999 t ≡ b → AllFit (lines_for w t)
    go false e = rw (short_lines w t (ltb-false 9999 t e)) (more (State w t) (word, ltb-false 9999 t e) none)
    go true e =
        rw (long_lines w t (ltb-true 9999 t e))
        (more (For 1 (t / 9999)) ((omega arith, omega arith), omega (arith, time.1))
        (more (State w 9999) (word, omega arith) (more (Next 1) (omega arith, omega arith) rest_fits)))

pub move_fits : (m : Move) → Proper m → AllFit (move_lines m)
unfolding move_lines
move_fits m so =
    fit_append (time_fits m.moveword m.settling so.moveword so.settling) (time_fits m.readingword m.reading so.readingword so.reading)

pub plan_fits : (ms : List Move) → AllProper ms → AllFit (plan_lines ms)
unfolding plan_lines
plan_fits [] Plan.none = none
plan_fits (m ∷ ms) (Plan.more so all) = fit_append (move_fits m so) (plan_fits ms all)

ends_fit : (n : ℕ) → AllFit (replicate n end_mark)
ends_fit zero = none
ends_fit (suc n) = more end_mark (omega arith, omega arith) (ends_fit n)

-- at most eight lines for each move
pub move_few : (m : Move) → length (move_lines m) ≤ 8
unfolding move_lines
move_few m =
    let a = few_lines m.moveword m.settling in
    let b = few_lines m.readingword m.reading in
    let e = length-append (lines_for m.moveword m.settling) (lines_for m.readingword m.reading) in
    omega arith

pub plan_few : (ms : List Move) → length (plan_lines ms) ≤ 8 * length ms
unfolding plan_lines
plan_few [] = omega arith
plan_few (m ∷ ms) =
    let a = move_few m in
    let b = plan_few ms in
    let e = length-append (move_lines m) (plan_lines ms) in
    omega arith

-- ---- the program of a plan

-- the lines of a plan that is taken, with its end mark: "200 lines always suffice"
pub lines_used : (ms : List Move) → length ms ≤ 16 → length (plan_lines ms) + 1 ≤ 129
lines_used ms few = let a = plan_few ms in omega arith

module _ (ms : List Move) (few : length ms ≤ 16) where
  near : length (plan_lines ms) ≤ 128
  near = let a = plan_few ms in omega arith

  pub lines_all : length (program_lines ms) ≡ 200
  unfolding program_lines
  lines_all =
      let e = length-append (plan_lines ms) (replicate (200 - length (plan_lines ms)) end_mark) in
      let n = length-replicate (200 - length (plan_lines ms)) end_mark in
      let l = near in
      omega arith

  pub bytes_all : IsProgram (program_of ms)
  unfolding program_of
  bytes_all = let e = length_laid (program_lines ms) in let l = lines_all in omega arith

  module _ (all : AllProper ms) where
    pub stand_program : Stand (program_of ms) 0 (program_lines ms)
    unfolding program_of program_lines
    stand_program = stand_laid (program_lines ms) (fit_append (plan_fits ms all) (ends_fit (200 - length (plan_lines ms))))

    -- the lines of the moves, from line 000 on
    pub stand_plan : Stand (program_of ms) 0 (plan_lines ms)
    unfolding program_lines
    stand_plan = stand_first (plan_lines ms) (replicate (200 - length (plan_lines ms)) end_mark) stand_program

    -- and behind them end marks
    pub stand_ends : (k : ℕ) → length (plan_lines ms) ≤ k → k < 200 → line_at (program_of ms) k ≡ State 0 0
    unfolding program_lines
    stand_ends k le lt =
        let ends = replicate (200 - length (plan_lines ms)) end_mark in
        let s : Stand (program_of ms) (length (plan_lines ms)) ends = stand_rest (plan_lines ms) ends stand_program (omega arith) in
        let n = length-replicate (200 - length (plan_lines ms)) end_mark in
        let is : length (plan_lines ms) + (k - length (plan_lines ms)) ≡ k = omega arith in
        sym (ap (line_at (program_of ms)) is) ∙ s.at (k - length (plan_lines ms)) (omega arith)
        ∙ get_or-replicate (200 - length (plan_lines ms)) (k - length (plan_lines ms)) end_mark Bad (omega arith)
