-- To come to a line: the moment at which it falls due, how many For and Next lines its call has run by then, and the counters.
-- Assumes nothing.
use Prim.Native.Nat.{ℕ, suc, ◌+◌, ◌-◌, ◌≤◌, ◌<◌}
use native.Mathlib.Omega.{arith}
use mathlib.Core.Path.{◌≡◌, sym, ap, subst, ◌∙◌}
use mathlib.Core.Bool.{true}
use mathlib.Core.List.{List}
use lib.ListN.{get_or}
use Rattle.lines.specs.declared.Line.TheVariants.{State, For}
use Rattle.lines.specs.Program.{line_at}
use Rattle.running.specs.declared.Counter.{Counter}
use Rattle.running.specs.declared.Run.{Run}
use Rattle.running.specs.declared.Ran.{Ran}
use Rattle.running.specs.declared.Step.{Step}
use Rattle.running.specs.Running.{free, at_line, with_outputs, stopped, goes_to, stops, follow, is_for_or_next, step, run_due}
use Rattle.running.specs.Ticking.{after, Runs, EndsAfter}
use Rattle.running.proofs.Steps.{end_mark, loop_counts}
use Rattle.running.proofs.Reaching.{Reaches, and_then, reaches_as}

-- a run that goes on, on line i and with these counters
pub record At (i : ℕ) (cs : List Counter) (r : Run) : Type 0 where
  pub on : r.on ≡ true
  pub line : r.line ≡ i
  pub counters : r.counters ≡ cs

-- ---- the lines that a call has run

-- Those of the call in which a line falls due, `len` lines and t ticks after another: of a call that began on the way, or, where no tick was
-- taken, with the n before them.
pub data Few (t n len lines : ℕ) : Type 0 where
  fresh : lines ≤ len → Few t n len lines
  same : t ≡ 0 → lines ≤ n + len → Few t n len lines

pub few_sum : {t n len lines : ℕ} → Few t n len lines → lines ≤ n + len
few_sum (fresh le) = omega arith
few_sum (same z le) = le

pub few_fresh : {t n len lines : ℕ} → 0 < t → Few t n len lines → lines ≤ len
few_fresh lt (fresh le) = le
few_fresh lt (same z le) = absurd (omega arith)

pub few_then : {s t n len more all lines last : ℕ} → len + more ≡ all → Few s n len lines → Few t lines more last → Few (s + t) n all last
few_then is a (fresh le) = fresh (omega arith)
few_then is (fresh a) (same z le) = fresh (omega arith)
few_then is (same y a) (same z le) = same (omega arith) (omega arith)

-- its numbers, said in another way
pub few_is : {t u n len more lines : ℕ} → t ≡ u → len ≤ more → Few t n len lines → Few u n more lines
few_is is up (fresh le) = fresh (omega arith)
few_is is up (same z le) = same (sym is ∙ z) (omega arith)

-- ---- to come to a line

-- x comes to line j in t ticks, in a call that has run few lines, with these counters; meanwhile P holds, tick by tick
pub record Arrives (p : List ℕ) (P : ℕ → Ran → Type 0) (x : Ran) (t j : ℕ) (cs : List Counter) (n len : ℕ) : Type 0 where
  pub run : Run
  pub lines : ℕ
  pub left : ℕ
  pub budget : lines + left ≡ 400
  pub few : Few t n len lines
  pub reaches : Reaches p P x t (run_due p left lines run)
  pub at : At j cs run

-- one way before another
pub led : {p : List ℕ} (P : ℕ → Ran → Type 0) {x y : Ran} {s t u j : ℕ} {cs : List Counter} {m n more all : ℕ}
    → Reaches p P x s y → (q : Arrives p (λ i. P (s + i)) y t j cs m more) → u ≡ s + t → Few u n all q.lines → Arrives p P x u j cs n all
led {p} P way q is few =
    record {
      run = q.run;
      lines = q.lines;
      left = q.left;
      budget = q.budget;
      few = few;
      reaches = rw is (and_then p P way q.reaches);
      at = q.at;
    }

-- what holds meanwhile, and its numbers, said in another way
pub arrives_as : {p : List ℕ} {P Q : ℕ → Ran → Type 0} {x : Ran} {t j : ℕ} {cs : List Counter} {n len : ℕ}
    → ((m : ℕ) (z : Ran) → m < t → P m z → Q m z) → Arrives p P x t j cs n len → Arrives p Q x t j cs n len
arrives_as {p} f a =
    record { run = a.run; lines = a.lines; left = a.left; budget = a.budget; few = a.few; reaches = reaches_as p f a.reaches; at = a.at }

pub arrives_is : {p : List ℕ} {P : ℕ → Ran → Type 0} {x : Ran} {t u i j : ℕ} {cs : List Counter} {n len more : ℕ} → t ≡ u → i ≡ j → len ≤ more
    → Arrives p P x t i cs n len → Arrives p P x u j cs n more
arrives_is {p} {P} {x} time at_line_lem up a =
    record {
      run = a.run;
      lines = a.lines;
      left = a.left;
      budget = a.budget;
      few = few_is time up a.few;
      reaches = subst (λ m. Reaches p P x m (run_due p a.left a.lines a.run)) time a.reaches;
      at = record { on = a.at.on; line = a.at.line ∙ at_line_lem; counters = a.at.counters };
    }

-- at an end mark the program ends with event 011, and has its outputs
pub arrives_end : {p : List ℕ} {P : ℕ → Ran → Type 0} {x : Ran} {t e o : ℕ} {cs : List Counter} {n len : ℕ} → line_at p e ≡ State o 0
    → (a : Arrives p P x t e cs n len) → after p t x ≡ stops 11 a.lines (with_outputs o a.run)
arrives_end {p} {o = o} mark a = a.reaches.there ∙ end_mark p a.run o (ap (line_at p) a.at.line ∙ mark) a.left a.lines

pub arrives_ends : {p : List ℕ} {P : ℕ → Ran → Type 0} {x : Ran} {t e o : ℕ} {cs : List Counter} {n len : ℕ} → line_at p e ≡ State o 0
    → ((m : ℕ) (z : Ran) → P m z → Runs z) → Arrives p P x t e cs n len → EndsAfter p t 11 x
unfolding stopped
arrives_ends {p} {x = x} mark f a =
    let end = arrives_end mark a in
    record {
      before = λ m lt. f m (after p m x) (a.reaches.before m lt);
      event = ap (λ (y : Ran). y.event) end;
      off = ap (λ (y : Ran). y.run.on) end;
    }

-- a For or a Next that goes on to line k
pub goes_to_lem : (p : List ℕ) (left n : ℕ) (r : Run) (k : ℕ) (s : Run) → is_for_or_next (line_at p r.line) ≡ true → step p r ≡ goes_to k s
    → run_due p (suc left) n r ≡ run_due p left (n + 1) (at_line k s)
goes_to_lem p left n r k s loop is =
    loop_counts p r loop left n ∙ ap (λ (x : Step). follow x.how (n + 1) x.run (λ y. run_due p left (n + 1) y)) is

-- the counters of the loops in a run of lines are free
unfoldable pub Free : List ℕ → ℕ → ℕ → List Counter → Type 0
Free p i j cs = (k c x : ℕ) → i ≤ k → k < j → line_at p k ≡ For c x → get_or cs (c - 1) free ≡ free
