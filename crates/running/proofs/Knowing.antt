-- What is known of a program: how it is gathered line by line, and that a turn by it is the line's.
-- Assumes nothing.
use Prim.Native.Nat.{ℕ, ◌+◌, ◌<◌}
use native.Mathlib.Omega.{arith}
use mathlib.Core.Path.{◌≡◌, refl, sym, ap, subst, ◌∙◌}
use mathlib.Core.Bool.{true, false}
use mathlib.Core.List.{List}
use lib.ListN.{length, get_or, set}
use lib.Seq.{get_or-set_same, get_or-set_other}
use Rattle.formats.proofs.Order.{last_or_before}
use Rattle.lines.specs.declared.Line.{Line}
use Rattle.std.specs.Option.{is_some}
use Rattle.lines.specs.Line.{counter_in}
use Rattle.lines.specs.Program.{line_at}
use Rattle.running.specs.declared.Run.{Run}
use Rattle.running.specs.declared.Ran.{Ran}
use Rattle.running.specs.declared.How.{How}
use Rattle.running.specs.declared.How.TheVariants.{Holds, Ends, GoesOn}
use Rattle.running.specs.Running.{is_for_or_next, step, stops, rests, follow, run_due}
use Rattle.running.specs.declared.known.Known.{Known}
use Rattle.running.specs.Known.{IsKnown, Below, unknown}
use Rattle.running.proofs.Turns.{is_counted, not_counted, none_left}

-- ---- line by line

module _ (p : List ℕ) where
  pub none_yet : (ts : List Known) → Below p 0 ts
  none_yet ts k lt = absurd (omega arith)

  -- a table that is right below line i, with what is right of it
  pub one_more : (ts : List Known) (i : ℕ) (x : Known) → i < length ts → IsKnown p i x → Below p i ts → Below p (i + 1) (set ts i x)
  one_more ts i x lt is below k up =
      last_or_before k i (omega arith)
      (λ e. subst (λ j. IsKnown p j (get_or (set ts i x) j unknown)) (sym e) (rw (get_or-set_same ts i x unknown lt) is))
      (λ before. rw (get_or-set_other ts i k x unknown (λ e. omega arith)) (below k before))

-- ---- the last line of a call

-- what a call leaves, where n lines are counted before it
abbrev after : ℕ → Ran → Ran
after n x = record { run = x.run; event = x.event; lines = n }

follow_after : (h : How) (n : ℕ) (s : Run) → after n (follow h 0 s (λ t. rests 0 t)) ≡ follow h n s (λ t. rests n t)
follow_after Holds n s = refl
follow_after (Ends e) n s = refl
follow_after GoesOn n s = refl

module _ (p : List ℕ) (r : Run) (n : ℕ) {l : Line} (due : l ≡ line_at p r.line) where
  -- a For or a Next, and no more may be run
  pub last_over : is_some (counter_in l) ≡ true → stops 13 n r ≡ run_due p 0 n r
  unfolding run_due
  last_over some = rw (ap is_for_or_next (sym due) ∙ is_counted l some)

  after_last : is_for_or_next (line_at p r.line) ≡ false → after n (run_due p 0 0 r) ≡ run_due p 0 n r
  unfolding run_due
  after_last not = rw not (follow_after (step p r).how n (step p r).run)

  -- any other line ends the call, however many may be run
  pub last_other : {x : Ran} → is_some (counter_in l) ≡ false → x ≡ run_due p 400 0 r → after n x ≡ run_due p 0 n r
  last_other none is =
      ap (after n) (is ∙ sym (none_left p r 0 due none 400)) ∙ after_last (ap is_for_or_next (sym due) ∙ not_counted l none)
