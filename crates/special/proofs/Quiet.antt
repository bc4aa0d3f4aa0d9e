-- What the table allows: while a program runs or is paused, only stop, pause and continue.
-- Assumes nothing.
use mathlib.Core.Path.{◌≡◌, refl, sym, ap}
use mathlib.Core.Logic.{◌≢◌}
use mathlib.Core.Bool.{Bool, true, false, not, ◌||◌, true≢false}
use lib.Dec.{eqb}
use Rattle.special.specs.declared.Mode as M
use Rattle.special.specs.declared.Mode.{Mode}
use Rattle.special.specs.declared.Special.{Special}
use Rattle.special.specs.declared.Special.TheVariants.{Stop, Pause, Start, Continue, StartAt, Execute, Load, Save}
use Rattle.special.specs.Special.{mode_of, forbidden, allowed, special_of}
use Rattle.special.proofs.Table.{column_of, every}

abbrev pub quiet_special : Special → Bool
quiet_special Stop = true
quiet_special Pause = true
quiet_special Start = false
quiet_special Continue = true
quiet_special StartAt = false
quiet_special Execute = false
quiet_special Load = false
quiet_special Save = false

-- in a column of the table other than Stop
only_quiet : (s : Special) (mode : Mode) → (eqb (column_of mode) 0 || not (allowed s mode) || quiet_special s) ≡ true
unfolding forbidden special_of
only_quiet = every (λ s mode. eqb (column_of mode) 0 || not (allowed s mode) || quiet_special s) refl

pub special_quiet : (s : Special) (mode : Mode) → mode ≢ M.TheVariants.Stop → allowed s mode ≡ true → quiet_special s ≡ true
special_quiet s M.TheVariants.Stop ne e = absurd (ne refl)
special_quiet s M.TheVariants.Pause ne e = rw e at (only_quiet s M.TheVariants.Pause)
special_quiet s M.TheVariants.Auto ne e = rw e at (only_quiet s M.TheVariants.Auto)

-- ---- the table's columns, read backwards

-- a program that runs, paused or not, is not stopped
pub runs_mode : (on paused : Bool) → on ≡ true → mode_of on paused ≢ M.TheVariants.Stop
runs_mode true true e z = true≢false (ap (λ m. eqb (column_of m) 1) z)
runs_mode true false e z = true≢false (ap (λ m. eqb (column_of m) 2) z)
runs_mode false paused e z = absurd (true≢false (sym e))

-- a start is allowed to a stopped program alone
pub start_stopped : (on paused : Bool) → allowed Start (mode_of on paused) ≡ true → on ≡ false
unfolding forbidden
start_stopped false paused e = refl
start_stopped true true e = sym e
start_stopped true false e = sym e

pub start_at_stopped : (on paused : Bool) → allowed StartAt (mode_of on paused) ≡ true → on ≡ false
unfolding forbidden
start_at_stopped false paused e = refl
start_at_stopped true true e = sym e
start_at_stopped true false e = sym e

-- a pause to one that runs
pub pause_runs : (on paused : Bool) → allowed Pause (mode_of on paused) ≡ true → on ≡ true
unfolding forbidden
pause_runs false paused e = e
pause_runs true paused e = refl
