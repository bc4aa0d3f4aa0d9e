-- The ways a command goes through its checks, one law for each.
-- Assumes nothing.
use mathlib.Core.Path.{◌≡◌}
use Prim.Native.Nat.{ℕ, ◌≤◌, ◌<◌}
use native.Mathlib.Omega.{arith}
use Prim.Native.Char.{code}
use mathlib.Core.Bool.{Bool, true, false}
use mathlib.Core.List.{List}
use lib.ListN.{length, take}
use borrow.Author.Tests.{eq-eqb, ne_eqb, le-leb, lt-leb}
use Rattle.formats.specs.Checks.{Res, refused, passed, ◌>>=◌, ◌>>◌, ◌or_else◌}
use Rattle.formats.specs.Digits.{h_in, d_in}
use Rattle.lines.specs.declared.Line.{Line}
use Rattle.texts.specs.Text.{line_in}
use Rattle.special.specs.declared.Mode.{Mode}
use Rattle.special.specs.declared.Special.{Special}
use Rattle.special.specs.Special.{forbidden, allowed, special_of, in_reach}
use Rattle.wire.specs.declared.Data.TheVariants.{WriteLine, WriteOutputs, WriteParameter, WriteSpecial}
use Rattle.wire.specs.declared.Wire.{Wire}
use Rattle.wire.specs.declared.Asked.{Asked}
use Rattle.wire.specs.Collecting.{sent}
use Rattle.wire.specs.Command.{char, has_address, special_in, data_in, in_format, read_command, write_command, command_in, command}

-- the format of a read and of a write
pub format_read : (cs : List ℕ) (overlong : Bool) → overlong ≡ false → char cs 0 ≡ code "C" → char cs 1 ≡ code "R" → in_format overlong cs ≡ has_address cs
format_read cs overlong a b d = rw (a, eq-eqb _ _ b, eq-eqb _ _ d)

pub format_write : (cs : List ℕ) (overlong : Bool) → overlong ≡ false → char cs 0 ≡ code "C" → (char cs 1 ≡ code "R" → ⊥)
    → char cs 1 ≡ code "W" → in_format overlong cs ≡ has_address cs
format_write cs overlong a b d e = rw (a, eq-eqb _ _ b, ne_eqb _ _ d, eq-eqb _ _ e)

-- the whole command: too short, not in the format, a read or a write
module _ (cs : List ℕ) (w : Wire) (mode : Mode) (parameter : ℕ) where
  pub short : length cs < 3 → command_in cs w mode parameter ≡ refused 1
  unfolding command_in ◌>>◌ ◌or_else◌
  short lt = rw (lt-leb _ _ lt)

  pub odd : 3 ≤ length cs → in_format w.overlong cs ≡ false → command_in cs w mode parameter ≡ refused 2
  unfolding command_in ◌>>◌ ◌or_else◌
  odd le f = rw (le-leb _ _ le, f)

  pub reads_one : 3 ≤ length cs → in_format w.overlong cs ≡ true → char cs 1 ≡ code "R" → command_in cs w mode parameter ≡ read_command w.nextread cs
  unfolding command_in ◌>>◌ ◌or_else◌
  reads_one le f e = rw (le-leb _ _ le, f, eq-eqb _ _ e)

  pub writes_one : 3 ≤ length cs → in_format w.overlong cs ≡ true → (char cs 1 ≡ code "R" → ⊥)
      → command_in cs w mode parameter ≡ write_command mode parameter w.nextwrite cs
  unfolding command_in ◌>>◌ ◌or_else◌
  writes_one le f e = rw (le-leb _ _ le, f, ne_eqb _ _ e)

-- a special command, check by check: its three digits, its code, the state, the parameter
module _ (mode : Mode) (parameter : ℕ) (cs : List ℕ) where
  pub no_number : (e : ℕ) → d_in cs ≡ refused e → special_in mode parameter cs ≡ refused e
  unfolding special_in ◌>>=◌
  no_number e r = rw r

  module _ (n : ℕ) (is : d_in cs ≡ passed n) where
    pub no_code_lem : (e : ℕ) → special_of n ≡ refused e → special_in mode parameter cs ≡ refused e
    unfolding special_in ◌>>=◌
    no_code_lem e r = rw (is, r)

    module _ (s : Special) (names : special_of n ≡ passed s) where
      -- whatever the parameter
      pub not_allowed : (e : ℕ) → (allowed s mode or_else forbidden s mode) ≡ refused e → special_in mode parameter cs ≡ refused e
      unfolding special_in ◌>>=◌ ◌>>◌
      not_allowed e f = rw (is, names, f)

      pub out_of_reach : (allowed s mode or_else forbidden s mode) ≡ passed tt → in_reach s parameter ≡ false → special_in mode parameter cs ≡ refused 23
      unfolding special_in ◌>>=◌ ◌>>◌ ◌or_else◌
      out_of_reach may f = rw (is, names, may, f)

      pub is_given : (allowed s mode or_else forbidden s mode) ≡ passed tt → in_reach s parameter ≡ true → special_in mode parameter cs ≡ passed (WriteSpecial s)
      unfolding special_in ◌>>=◌ ◌>>◌ ◌or_else◌
      is_given may reaches = rw (is, names, may, reaches)

-- the data of a write, by its address
module _ (mode : Mode) (parameter k : ℕ) (cs : List ℕ) where
  module _ (le : k ≤ 200) where
    pub a_line : (l : Line) → line_in cs ≡ passed l → data_in mode parameter k cs ≡ passed (WriteLine l)
    unfolding data_in ◌>>=◌
    a_line l e = rw (le-leb k 200 le, e)

    pub no_line_lem : (e : ℕ) → line_in cs ≡ refused e → data_in mode parameter k cs ≡ refused e
    unfolding data_in ◌>>=◌
    no_line_lem e r = rw (le-leb k 200 le, r)

  module _ (lt : 200 < k) (le : k ≤ 206) where
    pub outputs : (x : ℕ) → h_in cs ≡ passed x → data_in mode parameter k cs ≡ passed (WriteOutputs x)
    unfolding data_in ◌>>=◌
    outputs x e = rw (lt-leb k 200 lt, le-leb k 206 le, e)

    pub no_outputs : (e : ℕ) → h_in cs ≡ refused e → data_in mode parameter k cs ≡ refused e
    unfolding data_in ◌>>=◌
    no_outputs e r = rw (lt-leb k 200 lt, le-leb k 206 le, r)

  module _ (at : k ≡ 209) where
    pub a_parameter : (v : ℕ) → d_in cs ≡ passed v → data_in mode parameter k cs ≡ passed (WriteParameter v)
    unfolding data_in ◌>>=◌
    a_parameter v e = rw (at, e)

    pub no_parameter : (e : ℕ) → d_in cs ≡ refused e → data_in mode parameter k cs ≡ refused e
    unfolding data_in ◌>>=◌
    no_parameter e r = rw (at, r)

  pub a_special : 206 < k → (k ≡ 209 → ⊥) → data_in mode parameter k cs ≡ special_in mode parameter cs
  unfolding data_in ◌>>=◌
  a_special lt ne = rw (lt-leb k 200 (omega arith), lt-leb k 206 lt, ne_eqb k 209 ne)

pub ruleset special_ways = (no_number, no_code_lem, not_allowed, out_of_reach, is_given)

pub ruleset data_ways = (a_line, no_line_lem, outputs, no_outputs, a_parameter, no_parameter, a_special)

pub ruleset command_ways = (short, odd, reads_one, writes_one)
