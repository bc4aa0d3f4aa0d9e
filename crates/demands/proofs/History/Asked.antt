-- What the box finds when byte 13 comes, by what the history says: the words in which the laws of commands are said. Each promise says it in words of
-- its own (`Commands.Says`, `Shown.shown_of`).
-- Assumes nothing.
use mathlib.Core.Path.{◌≡◌, refl, sym, ap, ◌∙◌}
use Prim.Native.Nat.{ℕ, ◌≤◌}
use native.Mathlib.Omega.{arith}
use mathlib.Core.Bool.{Bool, true, false, not, true≢false}
use mathlib.Core.List.{List, []}
use lib.ListN.{length, take}
use lib.Dec.{eqb, ltb, leb}
use borrow.Author.Tests.{eqb-false, ne_eqb, leb-true, le-leb}
use Rattle.formats.specs.Checks.{Res, refused, passed, ◌>>=◌, text}
use Rattle.formats.specs.Digits.{error_text}
use Rattle.formats.proofs.Checks.{both_true}
use Rattle.lines.specs.declared.Line.TheVariants.{Bad}
use Rattle.lines.specs.Line.{read_line, bytes_of, is_bad, Fits}
use Rattle.lines.specs.Program.{line_at}
use Rattle.lines.proofs.Lines.{is_bad_lem, fits_good}
use Rattle.variables.specs.declared.Panel.{Panel}
use Rattle.variables.specs.Variables.{line_of, is_bad_at}
use Rattle.special.specs.Special.{mode_of}
use Rattle.wire.specs.declared.Wire.{Wire}
use Rattle.wire.specs.declared.Asked.{Asked}
use Rattle.wire.specs.declared.Asked.TheVariants.{Read, Write}
use Rattle.wire.specs.Collecting.{most_chars}
use Rattle.wire.specs.Command.{command_in}
use Rattle.controller.specs.Deeds.{legible}
use Rattle.controller.proofs.Lines.{single_back}
use Rattle.demands.specs.Capitals.{in_capitals}
use Rattle.demands.specs.Told.{Told}
use Rattle.demands.specs.Shown.{shown_at}
use Rattle.demands.specs.Replies.{ended}

-- what is known of the wire: "a 33rd makes the command overlong", and the last address of each direction
abbrev pub wire_of : Told → Wire
wire_of t = record { chars = []; len = 0; overlong = ltb most_chars (length t.received); nextread = t.next_read; nextwrite = t.next_write }

-- what the characters received ask for, by the seven checks: "At most 32 characters are kept", "a-z count as A-Z"
unfoldable pub checks_of : Told → Res Asked
checks_of t = command_in (in_capitals (take most_chars t.received)) (wire_of t) (mode_of t.run.on t.paused) t.parameter

-- 200, 209, 210, 212 and D7 of 201
abbrev pub panel_of : Told → Panel
panel_of t = record { single = bytes_of t.single; parameter = t.parameter; special = t.special; event = t.event; unread = not (eqb t.event 0) }

-- a Bad line stands at address k
abbrev pub is_bad_then : Told → List ℕ → ℕ → Bool
is_bad_then t program k = is_bad_at (panel_of t) program k

-- what they ask for of a box that is lent this program: 02, item 4, a read of a Bad line is E024, behind the seven checks
abbrev pub command_of : Told → List ℕ → Res Asked
command_of t program = checks_of t >>= legible (is_bad_then t program)

-- "Errors are E and three digits." "An accepted write answers OK."
abbrev pub reply_to : Res Asked → Told → List ℕ → List ℕ
reply_to (refused e) t program = ended (error_text e)
reply_to (passed (Read k)) t program = ended (shown_at t program k)
reply_to (passed (Write k x)) t program = ended (text "OK")

-- ---- a Bad line

module _ (t : Told) (fits : Fits t.single) (program : List ℕ) where
  -- 200 is read as the line that was written there
  single_is : read_line (bytes_of t.single) ≡ t.single
  single_is = single_back t.single fits

  -- a Bad line that can be read is one of the program
  pub bad_in_program : (k : ℕ) → is_bad_then t program k ≡ true → (k ≤ 199) × (line_at program k ≡ Bad)
  unfolding is_bad_at line_of
  bad_in_program k bad = go (eqb k 200) refl (both_true (leb k 200) _ bad)
    where
      go : (b : Bool) → eqb k 200 ≡ b → (leb k 200 ≡ true) × (is_bad (line_of (panel_of t) program k) ≡ true) → (k ≤ 199) × (line_at program k ≡ Bad)
      go true e is = absurd (true≢false (sym is.1 ∙ rw e (ap is_bad single_is ∙ fits_good t.single fits)))
      go false e is =
          let ne : (k ≡ 200 → ⊥) = eqb-false k 200 e in
          let le : k ≤ 200 = leb-true k 200 is.0 in
          (omega arith, is_bad_lem _ (rw e at is.1))

pub bad_at : (t : Told) (program : List ℕ) (k : ℕ) → k ≤ 199 → line_at program k ≡ Bad → is_bad_then t program k ≡ true
unfolding is_bad_at line_of
bad_at t program k le line = let ne : (k ≡ 200 → ⊥) = λ z. omega arith in rw (le-leb k 200 (omega arith), ne_eqb k 200 ne, line)
