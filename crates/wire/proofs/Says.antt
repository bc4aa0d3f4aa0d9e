-- Laws of a command that passes the checks: what it asks for is what its characters say.
-- Assumes nothing.
use mathlib.Core.Path.{◌≡◌, refl, sym, ap, ◌∙◌}
use Prim.Native.Nat.{ℕ, ◌≤◌}
use Prim.Native.Char.{code}
use mathlib.Core.Bool.{Bool, true, false, not, ◌&&◌, ◌||◌}
use mathlib.Core.List.{List}
use lib.Dec.{eqb, leb}
use borrow.Author.Tests.{leb-true, eqb-true}
use Rattle.formats.specs.Checks.{passed, Ok}
use Rattle.formats.specs.Digits.{h_in, d_in}
use Rattle.formats.proofs.Checks.{if_case, both_true, ok_at, ok_passed, ok_guard}
use Rattle.texts.specs.Text.{line_in}
use Rattle.special.specs.declared.Mode.{Mode}
use Rattle.special.specs.Special.{code_of, allowed, special_of, in_reach}
use Rattle.special.proofs.Codes.{code_named}
use Rattle.wire.specs.declared.Wire.{Wire}
use Rattle.wire.specs.declared.Data.{Data}
use Rattle.wire.specs.declared.Data.TheVariants.{WriteLine, WriteOutputs, WriteParameter, WriteSpecial}
use Rattle.wire.specs.declared.Asked.{Asked}
use Rattle.wire.specs.declared.Asked.TheVariants.{Read, Write}
use Rattle.wire.specs.Collecting.{sent}
use Rattle.wire.specs.Command.{char, is_read, is_write, has_address, rest, address_in, is_writable, is_open, special_in, data_in}
use Rattle.wire.specs.Command.{in_format, read_command, write_command, command_in, command}
use Rattle.wire.proofs.Addresses.{outputs_from}

-- ---- data

-- the data of a write to address k is what its characters say
abbrev pub Heard : ℕ → List ℕ → Data → Type 0
Heard k cs (WriteLine l) = (k ≤ 200) × (line_in cs ≡ passed l)
Heard k cs (WriteOutputs x) = ((203 ≤ k) × (k ≤ 206)) × (h_in cs ≡ passed x)
Heard k cs (WriteParameter v) = (k ≡ 209) × (d_in cs ≡ passed v)
Heard k cs (WriteSpecial s) = (k ≡ 210) × (d_in cs ≡ passed (code_of s))

-- of the writable addresses 210 comes last
pub last_writable : (k : ℕ) → is_writable k ≡ true → leb k 200 ≡ false → leb k 206 ≡ false → eqb k 209 ≡ false → k ≡ 210
last_writable k can a b c = go (leb 203 k) refl
  where
    go : (t : Bool) → leb 203 k ≡ t → k ≡ 210
    go true e = eqb-true k 210 (rw (a, b, c, e) at can)
    go false e = eqb-true k 210 (rw (a, b, c, e) at can)

module _ (mode : Mode) (parameter : ℕ) where
  special_heard : (k : ℕ) (cs : List ℕ) → k ≡ 210 → Ok (Heard k cs) (special_in mode parameter cs)
  unfolding special_in
  special_heard k cs at =
      ok_passed (Heard k cs) (d_in cs) _ λ n e. ok_passed (Heard k cs) (special_of n) _ λ s f.
      ok_guard (Heard k cs) (allowed s mode) _ _ λ _. ok_guard (Heard k cs) (in_reach s parameter) _ _ λ _.
      (at, e ∙ ap passed (sym (ok_at (λ z. code_of z ≡ n) (code_named n) f)))

  data_heard : (k : ℕ) (cs : List ℕ) → is_writable k ≡ true → Ok (Heard k cs) (data_in mode parameter k cs)
  unfolding data_in
  data_heard k cs can =
      if_case (Ok (Heard k cs)) (leb k 200) (λ e. ok_passed (Heard k cs) (line_in cs) _ λ l h. (leb-true k 200 e, h)) λ a.
      if_case (Ok (Heard k cs)) (leb k 206)
      (λ e. ok_passed (Heard k cs) (h_in cs) _ λ x h. ((outputs_from k can a (leb-true k 206 e), leb-true k 206 e), h)) λ b.
      if_case (Ok (Heard k cs)) (eqb k 209) (λ e. ok_passed (Heard k cs) (d_in cs) _ λ v h. (eqb-true k 209 e, h)) λ c.
      special_heard k cs (last_writable k can a b c)

-- ---- the whole command

-- by its characters it is a read of address k, or a write to it of what stands behind the address
abbrev pub Says : Wire → Asked → Type 0
Says w (Read k) = (is_read (sent w) ≡ true) × (address_in w.nextread (sent w) ≡ passed k)
Says w (Write k x) = (is_read (sent w) ≡ false) × (address_in w.nextwrite (sent w) ≡ passed k) × Heard k (rest (sent w)) x

-- and it was not overlong
pub record Spoken (w : Wire) (q : Asked) : Type 0 where
  pub short : w.overlong ≡ false
  pub says : Says w q

not_false : (b : Bool) → not b ≡ true → b ≡ false
not_false true e = sym e
not_false false e = refl

format_short : (overlong : Bool) (cs : List ℕ) → in_format overlong cs ≡ true → overlong ≡ false
format_short overlong cs e =
    let a = both_true (not overlong && eqb (char cs 0) (code "C") && (is_read cs || is_write cs)) (has_address cs) e in
    let b = both_true (not overlong && eqb (char cs 0) (code "C")) (is_read cs || is_write cs) a.0 in
    not_false overlong (both_true (not overlong) (eqb (char cs 0) (code "C")) b.0).0

-- A command that passes the checks asks for what its characters say.
pub command_says : (w : Wire) (mode : Mode) (parameter : ℕ) → Ok (Spoken w) (command w mode parameter)
unfolding command command_in read_command write_command
command_says w mode parameter =
    let P = Spoken w in
    ok_guard P _ _ _ λ _. ok_guard P (in_format w.overlong (sent w)) _ _ λ f.
    if_case (Ok P) (is_read (sent w))
    (λ r. ok_passed P (address_in w.nextread (sent w)) _ λ k e. ok_guard P _ _ _ λ _.
    record { short = format_short w.overlong (sent w) f; says = (r, e) }) λ r.
    ok_passed P (address_in w.nextwrite (sent w)) _ λ k e.
    ok_guard P (is_writable k) _ _ λ can. ok_guard P (is_open mode k) _ _ λ _.
    ok_passed P (data_in mode parameter k (rest (sent w))) _ λ x h.
    record { short = format_short w.overlong (sent w) f; says = (r, e, ok_at (Heard k (rest (sent w))) (data_heard mode parameter k (rest (sent w)) can) h) }
