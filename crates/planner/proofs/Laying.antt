-- Laws of lines that are laid one behind the other, and of writing them into a program.
-- Assumes nothing.
use Prim.Native.Nat.{ℕ, ◌+◌, ◌*◌, ◌-◌, ◌/◌, ◌%◌, ◌≤◌, ◌<◌}
use native.Mathlib.Omega.{arith}
use mathlib.Core.Path.{◌≡◌, refl, sym, ap, subst, ◌∙◌}
use mathlib.Core.Bool.{Bool, true, false}
use mathlib.Core.List.{List, [], ◌∷◌, ◌++◌, append_assoc, append-nil}
use lib.ListN.{length, replicate, length-append, drop_of_length-le, replicate-append-replicate}
use lib.Dec.{leb, eqb}
use borrow.Author.Tests.{le-leb, lt-leb, eq-eqb, ne_eqb}
use Rattle.formats.specs.Bytes.{placed}
use Rattle.formats.proofs.Writing.{wrote_nothing, wrote_more, wrote_as}
use Rattle.lines.specs.declared.Line.{Line}
use Rattle.lines.specs.declared.Line.TheVariants.{State, For, Next}
use Rattle.lines.specs.Line.{end_mark, bytes_of}
use Rattle.lines.specs.Program.{put_line}
use Rattle.lines.proofs.Lines.{length_bytes}
use Rattle.planner.specs.declared.Writer.{Writer}
use Rattle.planner.specs.Laid.{LaysOn}
use Rattle.planner.specs.Lines.{longest, loop_lines, remainder, lines_for, laid, Lays}

-- ---- bytes of lines

pub laid_append : (xs ys : List Line) → laid (xs ++ ys) ≡ laid xs ++ laid ys
unfolding laid
laid_append [] ys = refl
laid_append (x ∷ xs) ys = ap (λ bs. bytes_of x ++ bs) (laid_append xs ys) ∙ sym (append_assoc (bytes_of x) (laid xs) (laid ys))

pub length_laid : (ls : List Line) → length (laid ls) ≡ 8 * length ls
unfolding laid
length_laid [] = refl
length_laid (l ∷ ls) =
    let e = length-append (bytes_of l) (laid ls) in
    let f = length_bytes l in
    let g = length_laid ls in
    omega arith

pub laid_one : (l : Line) → laid (l ∷ []) ≡ bytes_of l
unfolding laid
laid_one l = append-nil (bytes_of l)

-- ---- lines that are written

module _ {at next : ℕ} {ls : List Line} {before after : List ℕ} (w : Lays at ls before next after) where
  -- the line behind them
  pub lays_behind : next ≡ at + length ls
  lays_behind = omega (arith, w.wrote.behind, length_laid ls)

  -- more lines right behind
  pub lays_more : {last : ℕ} {ms : List Line} {whole : List ℕ} → 8 * next ≤ length before → Lays next ms after last whole
      → Lays at (ls ++ ms) before last whole
  lays_more {ms = ms} room m = record { wrote = wrote_as (wrote_more w.wrote room m.wrote) (sym (laid_append ls ms)) }

  -- the same lines, said otherwise
  pub lays_as : {ms : List Line} → ls ≡ ms → Lays at ms before next after
  lays_as is = rw (← is) w

-- one line
pub put_lays : {k : ℕ} {l : Line} {p q : List ℕ} → q ≡ put_line k l p → Lays k (l ∷ []) p (k + 1) q
unfolding placed
put_lays {k} {l} is =
    let one : length (laid (l ∷ [])) ≡ 8 = length_laid (l ∷ []) in
    record { wrote = record { behind = omega arith; there = rw (one, laid_one l) is } }

-- no line
pub lays_none : (k : ℕ) (p : List ℕ) → Lays k [] p k p
unfolding laid
lays_none k p = record { wrote = wrote_nothing (8 * k) p }

-- all of a program
pub lays_all : {ls : List Line} {before after : List ℕ} → Lays 0 ls before 200 after → length before ≡ 1600 → after ≡ laid ls
lays_all {ls} {before} w long =
    let n : length (laid ls) ≡ 1600 = omega (arith, w.wrote.behind) in
    w.wrote.there ∙ ap (λ l. laid ls ++ l) (drop_of_length-le before {i = 0 + length (laid ls)} (omega arith)) ∙ append-nil (laid ls)

-- ---- the same of a writer

-- more lines right behind
pub laid_more : {xs ys : List Line} {a b c : Writer} → LaysOn xs a b → 8 * b.at ≤ length a.program.now → LaysOn ys b c → LaysOn (xs ++ ys) a c
laid_more w room v = record { size = v.size ∙ w.size; lays = lays_more w.lays room v.lays }

-- the same lines, said otherwise
pub laid_as : {xs ys : List Line} {a b : Writer} → LaysOn xs a b → xs ≡ ys → LaysOn ys a b
laid_as w is = record { size = w.size; lays = lays_as w.lays is }

-- ---- the lines of a time

pub short_lines : (w t : ℕ) → t ≤ 9999 → lines_for w t ≡ State w t ∷ []
unfolding lines_for
short_lines w t le = rw (le-leb t longest le)

pub long_lines : (w t : ℕ) → 9999 < t → lines_for w t ≡ loop_lines w (t / 9999) ++ remainder w (t % 9999)
unfolding lines_for
long_lines w t lt = rw (lt-leb t longest lt)

pub no_remainder : (w r : ℕ) → r ≡ 0 → remainder w r ≡ []
unfolding remainder
no_remainder w r is = rw (eq-eqb r 0 is)

pub some_remainder : (w r : ℕ) → (r ≡ 0 → ⊥) → remainder w r ≡ State w r ∷ []
unfolding remainder
some_remainder w r ne = rw (ne_eqb r 0 ne)

-- A longer time is "a For of time / 9,999, a State of 9,999, a Next", where the loop takes all of it,
pub long_even : (w t : ℕ) → 9999 < t → t % 9999 ≡ 0 → lines_for w t ≡ For 1 (t / 9999) ∷ State w 9999 ∷ Next 1 ∷ []
unfolding loop_lines
long_even w t lt is = long_lines w t lt ∙ ap (λ ls. loop_lines w (t / 9999) ++ ls) (no_remainder w (t % 9999) is)

-- "and a State of the remainder", where it does not.
pub long_odd : (w t : ℕ) → 9999 < t → (t % 9999 ≡ 0 → ⊥)
    → lines_for w t ≡ For 1 (t / 9999) ∷ State w 9999 ∷ Next 1 ∷ State w (t % 9999) ∷ []
unfolding loop_lines
long_odd w t lt ne = long_lines w t lt ∙ ap (λ ls. loop_lines w (t / 9999) ++ ls) (some_remainder w (t % 9999) ne)

-- at most four
pub few_lines : (w t : ℕ) → length (lines_for w t) ≤ 4
unfolding lines_for loop_lines remainder
few_lines w t = go (leb t 9999) refl (eqb (t % 9999) 0) refl
  where
    go : (a : Bool) → leb t 9999 ≡ a → (b : Bool) → eqb (t % 9999) 0 ≡ b → length (lines_for w t) ≤ 4
    go true a b e = rw a (omega arith)
    go false a true e = rw (a, e) (omega arith)
    go false a false e = rw (a, e) (omega arith)

-- ---- end marks

pub ends_begin : (at i : ℕ) (p : List ℕ) → i ≡ at → Lays at (replicate (i - at) end_mark) p i p
ends_begin at i p is =
    let z : i - at ≡ 0 = omega arith in
    rw z (subst (λ j. Lays at [] p j p) (sym is) (lays_none at p))

pub ends_more : {at i next : ℕ} {before after whole : List ℕ} → Lays at (replicate (i - at) end_mark) before i after → at ≤ i → 8 * i ≤ length before
    → Lays i (end_mark ∷ []) after next whole → next ≡ i + 1 → Lays at (replicate (next - at) end_mark) before next whole
ends_more {at} {i} {next} w le room m is =
    let n : (i - at) + 1 ≡ next - at = omega arith in
    lays_as (lays_more w room m) (replicate-append-replicate (i - at) 1 end_mark ∙ ap (λ j. replicate j end_mark) n)
