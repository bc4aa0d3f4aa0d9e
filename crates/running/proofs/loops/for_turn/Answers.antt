-- `running::loops::for_turn` meets its contract: each way out by its tests.
-- Assumes nothing.
use Prim.Native.Nat.{◌<◌}
use mathlib.Core.Path.{◌≡◌, sym, ap, ◌∙◌}
use native.Mathlib.Omega.{arith}
use borrow.Author.Tests.{eq-eqb, ne_eqb, lt-ltb, le-ltb}
use Rattle.std.specs.Option.{unwrap_or}
use Rattle.lines.specs.Program.{next_after}
use Rattle.running.specs.Running.{run_line}
use Rattle.running.specs.Turn.{turned}
use Rattle.running.proofs.Turns.{unchanged, stays}
use Rattle.running.proofs.loops.for_turn.Goals as goal

pub returns-then-held-gt0 : goal.returns-then-held-gt0
unfolding run_line
returns-then-held-gt0 c =
    record { turn = λ p d found within s at is. ap (λ t. turned d t s) c.ended.ensures.turn ∙ stays d s at is ∙ simp (is, lt-ltb _ _ c.if-held-gt0.true) }

pub returns-in_default : goal.returns-in_default
unfolding run_line
returns-in_default c =
    record {
      turn =
          λ p d found within s at is.
          let none : next_after p d c.args.k ≡ 200 = sym found ∙ ap (λ o. unwrap_or o 200) c.in_default.is in
          ap (λ t. turned d t s) c.ended-in_default.ensures.turn ∙ stays d s at is
          ∙ simp (at, is, le-ltb _ _ c.if-held-gt0.false, eq-eqb _ _ none);
    }

pub returns-then-count-eq0 : goal.returns-then-count-eq0
unfolding run_line
returns-then-count-eq0 c =
    record {
      turn =
          λ p d found within s at is.
          let some : next_after p d c.args.k ≡ c.in-Some.next = sym found ∙ ap (λ o. unwrap_or o 200) c.in-Some.is in
          let lt : c.in-Some.next < 200 = rw c.in-Some.is at within in
          c.past.ensures.turn _ s
          ∙ simp (unchanged _ s is, at, is, le-ltb _ _ c.if-held-gt0.false, some, ne_eqb c.in-Some.next 200 (λ e. omega (arith, lt, e)), eq-eqb _ _ c.if-count-eq0.true);
    }

pub returns : goal.returns
unfolding run_line
returns c =
    record {
      turn =
          λ p d found within s at is.
          let some : next_after p d c.args.k ≡ c.in-Some.next = sym found ∙ ap (λ o. unwrap_or o 200) c.in-Some.is in
          let lt : c.in-Some.next < 200 = rw c.in-Some.is at within in
          c.past-2.ensures.turn _ s
          ∙ simp (at, is, le-ltb _ _ c.if-held-gt0.false, some, ne_eqb c.in-Some.next 200 (λ e. omega (arith, lt, e)), ne_eqb _ _ c.if-count-eq0.false);
    }
