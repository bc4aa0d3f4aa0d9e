-- Laws of whole commands, which the promises cite instead of the checks' text.
-- Assumes nothing.
use mathlib.Core.Path.{◌≡◌, refl, sym, ap, ◌∙◌}
use Prim.Native.Nat.{ℕ, ◌≤◌, ◌<◌}
use native.Mathlib.Omega.{arith}
use mathlib.Core.Bool.{true, false}
use mathlib.Core.List.{List, [], ◌∷◌, ◌++◌, append-nil}
use lib.Dec.{eqb, leb}
use borrow.Author.Tests.{le-leb, lt-leb, leb-true}
use Rattle.formats.specs.Checks.{passed, ◌>>=◌, ◌>>◌, ◌or_else◌, text, Ok}
use Rattle.formats.specs.Digits.{h, h_in, d, d_in}
use Rattle.formats.proofs.Checks.{if_case, ok_bind, ok_passed, ok_guard}
use Rattle.formats.proofs.Characters.{h_back, d_back}
use Rattle.lines.specs.declared.Line.{Line}
use Rattle.texts.specs.Text.{line_text, line_in, Sent}
use Rattle.lines.specs.Line.{Fits}
use Rattle.texts.proofs.Texts.{accepted_shows, text_accepted}
use Rattle.wire.specs.declared.Wire.{Wire}
use Rattle.special.specs.declared.Mode.{Mode}
use Rattle.special.specs.declared.Mode.TheVariants.{Stop}
use Rattle.wire.specs.declared.Data.{Data}
use Rattle.wire.specs.declared.Data.TheVariants.{WriteLine, WriteOutputs, WriteParameter, WriteSpecial}
use Rattle.wire.specs.declared.Asked.{Asked}
use Rattle.wire.specs.declared.Asked.TheVariants.{Read, Write}
use Rattle.wire.specs.Collecting.{sent}
use Rattle.special.specs.declared.Special.{Special}
use Rattle.special.specs.Special.{code_of, allowed, special_of, in_reach}
use Rattle.special.proofs.Codes.{code_high, code_back}
use Rattle.wire.specs.Command.{is_read, rest, is_writable, is_open, special_in, data_in, read_command, write_command, command_in, command}
use Rattle.wire.specs.Naming.{Names}
use Rattle.wire.specs.Sound.{Permitted, SoundData, Sound}
use Rattle.wire.specs.Invariant.{WireInvariant}
use Rattle.wire.proofs.Ways.{is_given}
use Rattle.wire.proofs.Addresses.{outputs_from, found, address_inside, writable_inside}

-- ---- what a command that passes the checks can ask for

module _ (mode : Mode) (parameter : ℕ) where
  special_sound : (k : ℕ) (cs : List ℕ) → Ok (SoundData mode parameter k) (special_in mode parameter cs)
  unfolding special_in
  special_sound k cs =
      ok_passed (SoundData mode parameter k) (d_in cs) _ λ n _. ok_passed (SoundData mode parameter k) (special_of n) _ λ s _.
      ok_guard (SoundData mode parameter k) (allowed s mode) _ _ λ e.
      ok_guard (SoundData mode parameter k) (in_reach s parameter) _ _ λ f. record { may = e; reaches = f }

  data_sound : (k : ℕ) (cs : List ℕ) → is_writable k ≡ true → Ok (SoundData mode parameter k) (data_in mode parameter k cs)
  unfolding data_in
  data_sound k cs can =
      if_case (Ok (SoundData mode parameter k)) (leb k 200) (λ e. ok_passed (SoundData mode parameter k) (line_in cs) _ λ l _. leb-true k 200 e) λ f.
      if_case (Ok (SoundData mode parameter k)) (leb k 206)
      (λ e. ok_passed (SoundData mode parameter k) (h_in cs) _ λ x _. (outputs_from k can f (leb-true k 206 e), leb-true k 206 e)) λ _.
      if_case (Ok (SoundData mode parameter k)) (eqb k 209) (λ _. ok_passed (SoundData mode parameter k) (d_in cs) _ λ v _. tt) λ _.
      special_sound k cs

  -- Every command that passes the checks is sound.
  pub asked_sound : (w : Wire) → WireInvariant w → Ok (Sound mode parameter) (command w mode parameter)
  unfolding command command_in read_command write_command
  asked_sound w i =
      let P = Sound mode parameter in
      ok_guard P _ _ _ λ _. ok_guard P _ _ _ λ _.
      if_case (Ok P) (is_read (sent w))
      (λ _. ok_bind P (λ k. k ≤ 216) _ _ (address_inside w.nextread (sent w) i.next_read) λ k le. ok_guard P _ _ _ λ _. le) λ _.
      ok_bind P (λ k. k ≤ 216) _ _ (address_inside w.nextwrite (sent w) i.next_write) λ k le.
      ok_guard P (is_writable k) _ _ λ can. ok_guard P (is_open mode k) _ _ λ _.
      ok_bind P (SoundData mode parameter k) (data_in mode parameter k (rest (sent w))) _ (data_sound k (rest (sent w)) can) λ x h. (le, h)

-- ---- commands that name an address in any of the three ways

-- the command asks to write a line to address k, and the line is the one that was sent
pub record WritesLine (k : ℕ) (written : List ℕ) (asked : Asked) : Type 0 where
  pub line : Line
  pub writes : asked ≡ Write k (WriteLine line)
  pub sent_as : Sent written line

module _ (w : Wire) (mode : Mode) (parameter : ℕ) (short : w.overlong ≡ false) (k : ℕ) (a : List ℕ) where
  -- A read asks for the address that it names, in any mode.
  pub read_asked : k ≤ 216 → sent w ≡ text "CR" ++ a → Names w.nextread k a → command w mode parameter ≡ passed (Read k)
  unfolding command command_in read_command text ◌>>=◌ ◌>>◌ ◌or_else◌
  read_asked inside e n =
      let f = found 67 82 w.nextread k inside [] n in
      let e' : sent w ≡ 67 ∷ 82 ∷ (a ++ []) = e ∙ ap (λ r. 67 ∷ 82 ∷ r) (sym (append-nil a)) in
      rw (e', f.three, short, f.long, f.address, f.behind)

  module _ (written : List ℕ) (e : sent w ≡ text "CW" ++ (a ++ written)) (n : Names w.nextwrite k a) where
    -- What is left of the checks of a write to an address that can be written: the mode, and the data.
    pub write_checks : is_writable k ≡ true
        → command w mode parameter ≡ ((is_open mode k or_else 5) >> (data_in mode parameter k written >>= (λ x. passed (Write k x))))
    unfolding command command_in text write_command ◌>>=◌ ◌>>◌ ◌or_else◌
    write_checks can =
        let f = found 67 87 w.nextwrite k (writable_inside k can) written n in
        rw (e, f.three, short, f.long, f.address, can, f.behind)

    -- Where a write to 000-200 is accepted, it writes the line that was sent to the address that it names.
    pub write_asked : k ≤ 200 → Ok (WritesLine k written) (command w mode parameter)
    unfolding data_in
    write_asked inside =
        let line : leb k 200 ≡ true = le-leb k 200 inside in
        rw (write_checks (rw line), line)
        (ok_guard (WritesLine k written) (is_open mode k) _ _ λ _.
        ok_bind (WritesLine k written) (λ x. WritesLine k written (Write k x)) (line_in written >>= (λ l. passed (WriteLine l))) _
        (ok_bind (λ x. WritesLine k written (Write k x)) (Sent written) (line_in written) _ (accepted_shows written) λ l s.
        record { line = l; writes = refl; sent_as = s })
        λ x p. p)

    -- A write to an address that can be written is accepted where check 4 lets it through and its data are in their format.
    pub data_accepted : is_writable k ≡ true → is_open mode k ≡ true → (x : Data) → data_in mode parameter k written ≡ passed x
        → command w mode parameter ≡ passed (Write k x)
    unfolding ◌>>=◌ ◌>>◌ ◌or_else◌
    data_accepted can open' x d = write_checks can ∙ rw (open', d)

-- ---- data in their format

module _ (mode : Mode) (parameter : ℕ) where
  pub line_read_lem : (k : ℕ) (l : Line) → k ≤ 200 → Fits l → data_in mode parameter k (line_text l) ≡ passed (WriteLine l)
  unfolding data_in ◌>>=◌
  line_read_lem k l le fits = rw (le-leb k 200 le, text_accepted l fits)

  pub outputs_read : (k x : ℕ) → 203 ≤ k → k ≤ 206 → x < 256 → data_in mode parameter k (h x) ≡ passed (WriteOutputs x)
  unfolding data_in ◌>>=◌
  outputs_read k x lo hi lt = rw (lt-leb k 200 (omega arith), le-leb k 206 hi, h_back x lt)

  pub parameter_read : (v : ℕ) → v ≤ 255 → data_in mode parameter 209 (d v) ≡ passed (WriteParameter v)
  unfolding data_in ◌>>=◌
  parameter_read v le = rw (d_back v le)

  pub special_read : (s : Special) → Permitted mode parameter s → data_in mode parameter 210 (d (code_of s)) ≡ passed (WriteSpecial s)
  unfolding data_in ◌or_else◌
  special_read s p = let hi = code_high s in is_given mode parameter _ (code_of s) (d_back (code_of s) (omega arith)) s (code_back s) (rw p.may) p.reaches

-- So every line whose values fit is accepted when no program runs: a box that answers E002 to all fails this.
pub write_accepted : (w : Wire) (mode : Mode) (parameter : ℕ) → w.overlong ≡ false → (k : ℕ) (a : List ℕ) (l : Line) → Fits l → mode ≡ Stop → k ≤ 200
    → sent w ≡ text "CW" ++ (a ++ line_text l) → Names w.nextwrite k a → command w mode parameter ≡ passed (Write k (WriteLine l))
write_accepted w mode parameter short k a l f m inside e n =
    data_accepted w mode parameter short k a (line_text l) e n (rw (le-leb k 200 inside)) (rw m) (WriteLine l)
    (line_read_lem mode parameter k l inside f)
