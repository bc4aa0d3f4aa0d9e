-- While a program runs or is paused, a command that passes the checks is a read, sets the parameter, or is one of the special
-- commands stop, pause and continue.
-- Assumes nothing.
use mathlib.Core.Path.{◌≡◌, refl, sym, ◌∙◌}
use mathlib.Core.Logic.{◌≢◌}
use Prim.Native.Nat.{ℕ}
use mathlib.Core.Bool.{Bool, true, false, ◌||◌}
use mathlib.Core.List.{List}
use lib.Dec.{eqb}
use borrow.Author.Tests.{eqb-true}
use Rattle.formats.specs.Checks.{passed, ◌>>=◌, Ok}
use Rattle.formats.specs.Digits.{d_in}
use Rattle.formats.proofs.Checks.{if_case, either_true, ok_bind, ok_passed, ok_guard}
use Rattle.wire.specs.declared.Wire.{Wire}
use Rattle.special.specs.declared.Mode as M
use Rattle.special.specs.declared.Mode.{Mode}
use Rattle.wire.specs.declared.Data.{Data}
use Rattle.wire.specs.declared.Data.TheVariants.{WriteLine, WriteOutputs, WriteParameter, WriteSpecial}
use Rattle.wire.specs.declared.Asked.{Asked}
use Rattle.wire.specs.declared.Asked.TheVariants.{Read, Write}
use Rattle.wire.specs.Collecting.{sent}
use Rattle.special.specs.Special.{allowed, in_reach, special_of}
use Rattle.special.proofs.Quiet.{quiet_special, special_quiet}
use Rattle.wire.specs.Command.{is_read, is_writable, is_open, rest, address_in, special_in, data_in, read_command, write_command, command_in, command}

abbrev pub quiet_data : Data → Bool
quiet_data (WriteLine l) = false
quiet_data (WriteOutputs x) = false
quiet_data (WriteParameter v) = true
quiet_data (WriteSpecial s) = quiet_special s

abbrev pub quiet : Asked → Bool
quiet (Read k) = true
quiet (Write k x) = quiet_data x

abbrev QuietData : Data → Type 0
QuietData x = quiet_data x ≡ true

abbrev Quiet : Asked → Type 0
Quiet q = quiet q ≡ true

-- in Pause and Auto only 209 and 210 are open
pub open_else : (mode : Mode) (k : ℕ) → mode ≢ M.TheVariants.Stop → is_open mode k ≡ (eqb k 209 || eqb k 210)
open_else M.TheVariants.Stop k ne = absurd (ne refl)
open_else M.TheVariants.Pause k ne = refl
open_else M.TheVariants.Auto k ne = refl

-- which are open in every mode
pub always_open : (mode : Mode) (k : ℕ) → (eqb k 209 || eqb k 210) ≡ true → is_open mode k ≡ true
always_open M.TheVariants.Stop k e = refl
always_open M.TheVariants.Pause k e = e
always_open M.TheVariants.Auto k e = e

module _ (mode : Mode) (parameter : ℕ) (runs : mode ≢ M.TheVariants.Stop) where
  special_in_quiet : (cs : List ℕ) → Ok QuietData (special_in mode parameter cs)
  unfolding special_in
  special_in_quiet cs =
      ok_passed QuietData (d_in cs) _ λ n _. ok_passed QuietData (special_of n) _ λ s _.
      ok_guard QuietData (allowed s mode) _ _ λ e. ok_guard QuietData (in_reach s parameter) _ _ λ _. special_quiet s mode runs e

  parameter_quiet : (cs : List ℕ) → Ok QuietData (d_in cs >>= (λ v. passed (WriteParameter v)))
  parameter_quiet cs = ok_passed QuietData (d_in cs) _ λ v _. refl

  write_quiet : (k : ℕ) (cs : List ℕ) → is_open mode k ≡ true → Ok QuietData (data_in mode parameter k cs)
  unfolding data_in
  write_quiet k cs e =
      either_true (eqb k 209) (eqb k 210) (sym (open_else mode k runs) ∙ e)
      (λ f. rw (eqb-true k 209 f) (parameter_quiet cs)) (λ f. rw (eqb-true k 210 f) (special_in_quiet cs))

  -- The sentence at the top.
  pub command_quiet : (w : Wire) → Ok (λ (q : Asked). quiet q ≡ true) (command w mode parameter)
  unfolding command command_in read_command write_command
  command_quiet w =
      ok_guard Quiet _ _ _ λ _. ok_guard Quiet _ _ _ λ _.
      if_case (Ok Quiet) (is_read (sent w))
      (λ _. ok_passed Quiet (address_in w.nextread (sent w)) _ λ k _. ok_guard Quiet _ _ _ λ _. refl) λ _.
      ok_passed Quiet (address_in w.nextwrite (sent w)) _ λ k _.
      ok_guard Quiet (is_writable k) _ _ λ _. ok_guard Quiet (is_open mode k) _ _ λ e.
      ok_bind Quiet QuietData (data_in mode parameter k (rest (sent w))) _ (write_quiet k (rest (sent w)) e) λ x q. q
