-- Promises that apply: the calls that a premise excludes are those of its sentence and no others, so that no promise ends sooner than the paper says.
-- Assumes nothing.
use mathlib.Core.Path.{◌≡◌, refl, sym, ap}
use mathlib.Core.Logic.{◌⊎◌, inl, inr}
use Prim.Native.Nat.{ℕ, ◌≤◌}
use Prim.Native.Char.{code}
use native.Mathlib.Omega.{arith}
use mathlib.Core.Bool.{Bool, true, false, not, ◌&&◌, ◌||◌, true≢false}
use mathlib.Core.List.{List, [], ◌∷◌, ◌++◌}
use lib.ListN.{get_or}
use lib.Dec.{eqb, leb}
use borrow.Author.Tests.{eqb-true, leb-true, not-true}
use Rattle.formats.proofs.Checks.{both_true, either_true}
use Rattle.formats.specs.Bytes.{are_bytes}
use Rattle.lines.specs.declared.Line.{Line}
use Rattle.controller.specs.Refusals.{Call, power_on, byte, tick, press, emptying}
use Rattle.controller.specs.Effects.{is_power_on, is_press, is_end, is_emptying}
use Rattle.demands.specs.Capitals.{in_capitals}
use Rattle.demands.specs.Seen.{is_taken, reply, is_error, Note}
use Rattle.demands.specs.Said.{Said, silence, reads, writes_line, writes_outputs, writes_parameter, gives, given, is_outputs, reads_event}
use Rattle.demands.specs.Told.{Told, said, tell, tell_all, Never}
use Rattle.demands.specs.Changes.{begins}
use Rattle.demands.specs.Histories.{Made}
use Rattle.demands.specs.LentBytes.{lends_bytes}
use Rattle.demands.specs.ReadBack.{replaced_by, is_replaced}
use Rattle.demands.specs.FirstSteps.{is_answered, has_read, has_written}
use Rattle.demands.specs.Undisturbed.{is_broken, is_pausing, is_touched}

-- ---- one call, and what it says

pressed : (b : ℕ) (k : Call) → is_press b k ≡ true → k ≡ press b
pressed b power_on e = absurd (true≢false (sym e))
pressed b (byte x) e = absurd (true≢false (sym e))
pressed b tick e = absurd (true≢false (sym e))
pressed b (press n) e = ap press (eqb-true n b e)
pressed b emptying e = absurd (true≢false (sym e))

is_13 : (k : Call) → is_end k ≡ true → k ≡ byte 13
is_13 power_on e = absurd (true≢false (sym e))
is_13 (byte x) e = ap byte (eqb-true x 13 e)
is_13 tick e = absurd (true≢false (sym e))
is_13 (press n) e = absurd (true≢false (sym e))
is_13 emptying e = absurd (true≢false (sym e))

empties : (k : Call) → is_emptying k ≡ true → k ≡ emptying
empties power_on e = absurd (true≢false (sym e))
empties (byte x) e = absurd (true≢false (sym e))
empties tick e = absurd (true≢false (sym e))
empties (press n) e = absurd (true≢false (sym e))
empties emptying e = refl

-- a code that is none of no command's
gave : (s : Said) (n : ℕ) → 1 ≤ n → given s ≡ n → s ≡ gives n
gave silence n lo e = absurd (omega arith)
gave (reads j) n lo e = absurd (omega arith)
gave (writes_line j l) n lo e = absurd (omega arith)
gave (writes_outputs j x) n lo e = absurd (omega arith)
gave (writes_parameter v) n lo e = absurd (omega arith)
gave (gives m) n lo e = ap gives e

read_212 : (s : Said) → reads_event s ≡ true → s ≡ reads 212
read_212 silence e = absurd (true≢false (sym e))
read_212 (reads j) e = ap reads (eqb-true j 212 e)
read_212 (writes_line j l) e = absurd (true≢false (sym e))
read_212 (writes_outputs j x) e = absurd (true≢false (sym e))
read_212 (writes_parameter v) e = absurd (true≢false (sym e))
read_212 (gives n) e = absurd (true≢false (sym e))

wrote_outputs : (s : Said) → is_outputs s ≡ true → (j : ℕ) × (x : ℕ) × (s ≡ writes_outputs j x)
wrote_outputs silence e = absurd (true≢false (sym e))
wrote_outputs (reads j) e = absurd (true≢false (sym e))
wrote_outputs (writes_line j l) e = absurd (true≢false (sym e))
wrote_outputs (writes_outputs j x) e = (j, x, refl)
wrote_outputs (writes_parameter v) e = absurd (true≢false (sym e))
wrote_outputs (gives n) e = absurd (true≢false (sym e))

-- ---- the premises

-- "until a later write, a load [...] replaces it": an accepted write of a line to k, or 007
replaced_by_lem : (k : ℕ) (s : Said) → replaced_by k s ≡ true → ((l : Line) × (s ≡ writes_line k l)) ⊎ ((s ≡ gives 7) × (k ≤ 199))
replaced_by_lem k silence e = absurd (true≢false (sym e))
replaced_by_lem k (reads j) e = absurd (true≢false (sym e))
replaced_by_lem k (writes_line j l) e = inl (l, ap (λ i. writes_line i l) (sym (eqb-true k j e)))
replaced_by_lem k (writes_outputs j x) e = absurd (true≢false (sym e))
replaced_by_lem k (writes_parameter v) e = absurd (true≢false (sym e))
replaced_by_lem k (gives n) e = let two = both_true (eqb n 7) (leb k 199) e in inr (ap gives (eqb-true n 7 two.0), leb-true k 199 two.1)

module _ (t : Told) (n : Note) where
  -- what `Unreplaced k` excludes
  pub replaced_only : (k : ℕ) → is_replaced k t n ≡ true
      → (is_power_on n.call ≡ true) ⊎ ((is_taken n.seen ≡ true) × (((l : Line) × (said t n ≡ writes_line k l)) ⊎ ((said t n ≡ gives 7) × (k ≤ 199))))
  unfolding is_replaced
  replaced_only k e =
      either_true (is_power_on n.call) (is_taken n.seen && replaced_by k (said t n)) e inl λ f.
      let two = both_true (is_taken n.seen) (replaced_by k (said t n)) f in inr (two.0, replaced_by_lem k (said t n) two.1)

  -- what `Unbroken` excludes
  pub broken_only : is_broken t n ≡ true
      → (is_power_on n.call ≡ true) ⊎ ((is_taken n.seen ≡ true) × ((said t n ≡ gives 1) ⊎ (n.call ≡ press 1)))
  unfolding is_broken
  broken_only e =
      either_true (is_power_on n.call) (is_taken n.seen && (eqb (given (said t n)) 1 || is_press 1 n.call)) e inl λ f.
      let two = both_true (is_taken n.seen) (eqb (given (said t n)) 1 || is_press 1 n.call) f in
      inr (
        two.0,
        either_true (eqb (given (said t n)) 1) (is_press 1 n.call) two.1
            (λ g. inl (gave (said t n) 1 (omega arith) (eqb-true (given (said t n)) 1 g))) (λ g. inr (pressed 1 n.call g)),
      )

  -- what `pauses_only` excludes
  pub pausing_only : is_pausing t n ≡ true
      → (is_taken n.seen ≡ true) × ((said t n ≡ gives 2) ⊎ (said t n ≡ gives 4) ⊎ (n.call ≡ press 2))
  unfolding is_pausing
  pausing_only e =
      let g = given (said t n) in
      let two = both_true (is_taken n.seen) (eqb g 2 || eqb g 4 || is_press 2 n.call) e in (
        two.0,
        either_true (eqb g 2 || eqb g 4) (is_press 2 n.call) two.1
            (λ f. either_true (eqb g 2) (eqb g 4) f (λ a. inl (gave (said t n) 2 (omega arith) (eqb-true g 2 a)))
            (λ a. inr (inl (gave (said t n) 4 (omega arith) (eqb-true g 4 a))))) (λ f. inr (inr (pressed 2 n.call f))),
      )

  -- what `Untouched` excludes
  pub touched_only : is_touched t n ≡ true
      → (is_power_on n.call ≡ true) ⊎ ((is_taken n.seen ≡ true) × ((n.call ≡ press 1) ⊎ ((i : ℕ) × (1 ≤ i) × (i ≤ 6) × (said t n ≡ gives i))
      ⊎ ((j : ℕ) × (x : ℕ) × (said t n ≡ writes_outputs j x)) ⊎ (said t n ≡ reads 212)))
  unfolding is_touched
  touched_only e =
      let s = said t n in
      let g = given s in
      either_true (is_power_on n.call) (is_taken n.seen && (is_press 1 n.call || (leb 1 g && leb g 6) || is_outputs s || reads_event s)) e inl λ f.
      let two = both_true (is_taken n.seen) (is_press 1 n.call || (leb 1 g && leb g 6) || is_outputs s || reads_event s) f in
      inr (
        two.0,
        either_true (is_press 1 n.call || (leb 1 g && leb g 6) || is_outputs s) (reads_event s) two.1
            (λ a. either_true (is_press 1 n.call || (leb 1 g && leb g 6)) (is_outputs s) a
            (λ b. either_true (is_press 1 n.call) (leb 1 g && leb g 6) b (λ c. inl (pressed 1 n.call c))
            (λ c. let ends = both_true (leb 1 g) (leb g 6) c in
            inr (inl (g, leb-true 1 g ends.0, leb-true g 6 ends.1, gave s g (leb-true 1 g ends.0) refl))))
            (λ b. inr (inr (inl (wrote_outputs s b))))) (λ a. inr (inr (inr (read_212 s a)))),
      )

  -- what `none_begins` excludes
  pub begins_only : begins n ≡ true → (is_power_on n.call ≡ true) ⊎ ((n.call ≡ emptying) × (is_taken n.seen ≡ true))
  begins_only e =
      either_true (is_power_on n.call) (is_emptying n.call && is_taken n.seen) e inl λ f.
      let two = both_true (is_emptying n.call) (is_taken n.seen) f in inr (empties n.call two.0, two.1)

  answered : is_answered n ≡ true → (is_taken n.seen ≡ true) × (n.call ≡ byte 13) × (is_error (reply n.seen) ≡ false)
  answered e =
      let two = both_true (is_taken n.seen && is_end n.call) (not (is_error (reply n.seen))) e in
      let first = both_true (is_taken n.seen) (is_end n.call) two.0 in
      (first.0, is_13 n.call first.1, not-true (is_error (reply n.seen)) two.1)

  -- what `Unread` and `Unwritten` exclude
  pub read_only : has_read t n ≡ true
      → (is_taken n.seen ≡ true) × (n.call ≡ byte 13) × (is_error (reply n.seen) ≡ false) × (get_or (in_capitals t.received) 1 0 ≡ code "R")
  read_only e =
      let two = both_true (is_answered n) (eqb (get_or (in_capitals t.received) 1 0) (code "R")) e in
      let a = answered two.0 in (a.0, a.1, a.2, eqb-true _ (code "R") two.1)

  pub written_only : has_written t n ≡ true
      → (is_taken n.seen ≡ true) × (n.call ≡ byte 13) × (is_error (reply n.seen) ≡ false) × (eqb (get_or (in_capitals t.received) 1 0) (code "R") ≡ false)
  written_only e =
      let two = both_true (is_answered n) (not (eqb (get_or (in_capitals t.received) 1 0) (code "R"))) e in
      let a = answered two.0 in (a.0, a.1, a.2, not-true _ two.1)

-- ---- premises over many calls

-- `Never` holds if none of the calls is such a one
pub never_so : (is : Told → Note → Bool) (ns : List Note) (t : Told)
    → ((xs ys : List Note) (n : Note) → ns ≡ xs ++ (n ∷ ys) → is (tell_all t xs) n ≡ false) → Never is t ns
unfolding tell_all
never_so is [] t none = tt
never_so is (n ∷ ns) t none = (none [] ns n refl, never_so is ns (tell t n) λ xs ys m e. none (n ∷ xs) ys m (ap (λ more. n ∷ more) e))

-- what is lent is of bytes if each of the four areas is
pub lends_so : (m : Made) → are_bytes m.areas.program ≡ true → are_bytes m.areas.saved ≡ true → are_bytes m.areas.log ≡ true
    → are_bytes m.areas.out ≡ true → lends_bytes m ≡ true
lends_so m p s l o = rw (p, s, l, o)
