-- Laws of the output word that the history says: it is a number of four bytes, and a write to 203-206 alters one byte of it.
-- Assumes nothing.
use mathlib.Core.Path.{◌≡◌, refl, sym, ap, subst, ◌∙◌}
use mathlib.Core.Logic.{◌≢◌}
use Prim.Native.Nat.{ℕ, ◌-◌, ◌/◌, ◌%◌, ◌≤◌, ◌<◌}
use native.Mathlib.Omega.{arith}
use mathlib.Core.Bool.{Bool, true, false, not, ◌&&◌, true≢false}
use mathlib.Core.List.{List}
use mathlib.Core.Option.{Option, none, some}
use lib.Dec.{eqb, leb}
use borrow.Author.Tests.{eq-eqb, ne_eqb, leb-true, leb-false}
use Rattle.std.specs.Prelude.{if◌then◌else◌}
use Rattle.formats.specs.Checks.{Res, refused, passed, all, Ok}
use Rattle.formats.specs.Digits.{digits, number_after, number, h_in}
use Rattle.formats.specs.Bytes.{bytes}
use Rattle.formats.proofs.Checks.{if_case}
use Rattle.formats.proofs.Digits.{is_below}
use Rattle.formats.proofs.Characters.{h_byte}
use Rattle.formats.proofs.Bytes.{number_bytes}
use Rattle.lines.specs.Line.{Fits}
use Rattle.lines.proofs.Lines.{Sets, set_by_lem, Word, fits_word}
use Rattle.lines.proofs.Places.{line_word}
use Rattle.running.specs.declared.Run.{Run}
use Rattle.running.specs.declared.Ran.{Ran}
use Rattle.running.specs.Running.{stopped, rests, start, tick}
use Rattle.running.proofs.Outputs.{start_outputs, tick_outputs}
use Rattle.variables.specs.Variables.{with_output_byte}
use Rattle.variables.proofs.Bits.{bytes_with, word_with}
use Rattle.reader.specs.Possible.{in_one_byte}
use Rattle.reader.proofs.OneByte.{one_byte_lem}
use Rattle.wire.specs.Command.{is_read, address_in, rest}
use Rattle.controller.specs.Controller.{Areas}
use Rattle.controller.specs.Refusals.{Call}
use Rattle.controller.specs.Effects.{is_end, is_tick}
use Rattle.demands.specs.Capitals.{in_capitals}
use Rattle.demands.specs.Seen.{reply, is_error, Note}
use Rattle.demands.specs.Said.{Said, silence, reads, writes_line, writes_outputs, writes_parameter, gives, got, wrote, given, is_outputs}
use Rattle.demands.specs.Told.{Told, said, starts, stops, ran, executed, line_named, with_byte, run_then}
use Rattle.demands.proofs.History.Shown.{with_byte_lem}

-- ---- what is written to 203-206 is a byte

-- the command s writes a byte there, if it writes there
abbrev pub ByteSaid : Said → Type 0
ByteSaid silence = Unit {0}
ByteSaid (reads j) = Unit {0}
ByteSaid (writes_line j l) = Unit {0}
ByteSaid (writes_outputs j x) = x < 256
ByteSaid (writes_parameter v) = Unit {0}
ByteSaid (gives n) = Unit {0}

got_byte : (r : Res ℕ) → Ok (λ v. v < 256) r → got 0 r < 256
got_byte (refused e) h = omega arith
got_byte (passed v) h = h

wrote_byte : (k : ℕ) (cs : List ℕ) → ByteSaid (wrote k cs)
wrote_byte k cs =
    if_case ByteSaid (leb k 200) (λ _. tt) λ _.
    if_case ByteSaid (leb k 206) (λ _. got_byte (h_in cs) (h_byte cs)) λ _.
    if_case ByteSaid (eqb k 209) (λ _. tt) (λ _. tt)

-- The commands that a history says write bytes.
pub said_byte : (t : Told) (n : Note) → ByteSaid (said t n)
unfolding said
said_byte t n =
    let cs = in_capitals t.received in
    if_case ByteSaid (is_end n.call && not (is_error (reply n.seen)))
    (λ _. if_case ByteSaid (is_read cs) (λ _. tt) (λ _. wrote_byte (got 0 (address_in t.next_write cs)) (rest cs)))
    (λ _. tt)

-- ---- a byte of the word altered

-- it is a number of four bytes again
with_word : (j x w : ℕ) → x < 256 → Word (with_byte j x w)
unfolding with_byte
with_word j x w lt =
    let top : (b : Bool) (y : ℕ) → y ≤ 255 → (if b then x else y) ≤ 255 = λ b y le. if_case (λ z. z ≤ 255) b (λ _. omega arith) (λ _. le) in
    omega (
      arith,
      top (eqb j 203) (w / 16777216 % 256) (omega arith),
      top (eqb j 204) (w / 65536 % 256) (omega arith),
      top (eqb j 205) (w / 256 % 256) (omega arith),
      top (eqb j 206) (w % 256) (omega arith),
    )

-- no other address than 203-206 has one
with_none : (j x w : ℕ) → Word w → j ≢ 203 → j ≢ 204 → j ≢ 205 → j ≢ 206 → with_byte j x w ≡ w
unfolding with_byte digits number_after
with_none j x w word a b c d =
    let split : with_byte j x w ≡ number 256 (bytes 4 w) = rw (ne_eqb j 203 a, ne_eqb j 204 b, ne_eqb j 205 c, ne_eqb j 206 d) (omega arith) in
    split ∙ number_bytes 4 w word

with_one : (j x w : ℕ) → Word w → x < 256 → eqb w (with_byte j x w) ≡ false → in_one_byte w (with_byte j x w) ≡ true
with_one j x w word lt ne = go (leb 203 j) refl (leb j 206) refl
  where
    apart : (j ≢ 203) → (j ≢ 204) → (j ≢ 205) → (j ≢ 206) → in_one_byte w (with_byte j x w) ≡ true
    apart a b c d = absurd (true≢false (sym (eq-eqb w (with_byte j x w) (sym (with_none j x w word a b c d))) ∙ ne))

    go : (a : Bool) → leb 203 j ≡ a → (b : Bool) → leb j 206 ≡ b → in_one_byte w (with_byte j x w) ≡ true
    go true a true b =
        let is = with_byte_lem j x w (leb-true 203 j a) (leb-true j 206 b) in
        let with : Word (with_output_byte j x w) = word_with j x w lt in
        subst (λ v. in_one_byte w v ≡ true) is
        (one_byte_lem w (with_output_byte j x w) (j - 203) x (omega arith) (omega arith) (bytes_with j x w lt) (ap (eqb w) is ∙ ne))
    go true a false b = let far = leb-false j 206 b in apart (λ z. omega arith) (λ z. omega arith) (λ z. omega arith) (λ z. omega arith)
    go false a b b' = let near = leb-false 203 j a in apart (λ z. omega arith) (λ z. omega arith) (λ z. omega arith) (λ z. omega arith)

-- ---- the word after one call more: k, which is taken and no power-on, and finishes the command s

module _ (k : Call) (lent : Areas) (t : Told) (word : Word t.run.outputs) where
  abbrev OfRun : Run → Type 0
  OfRun r = Word r.outputs

  module _ (bytes : all (is_below 256) lent.program ≡ true) (single : Fits t.single) where
    ran_word : (s : Said) → OfRun (ran k s lent t).run
    ran_word s = go (starts k s lent t)
      where
        go : (o : Option ℕ)
            → let x : Ran = elim o [
              | some j ↦ start lent.program j t.run.outputs
              | none ↦ if is_tick k && not t.paused then tick lent.program t.run else rests 0 t.run
            ] in OfRun x.run
        go (some j) = start_outputs Word lent.program (line_word lent.program bytes) j t.run.outputs word
        go none =
            if_case (λ (x : Ran). OfRun x.run) (is_tick k && not t.paused)
            (λ _. tick_outputs Word lent.program (line_word lent.program bytes) t.run word) (λ _. word)

    named_word : (s : Said) → Sets Word (line_named k s lent t)
    named_word s =
        if_case (Sets Word) (eqb t.parameter 200) (λ _. fits_word t.single single)
        (λ _. line_word lent.program bytes t.parameter)

    -- a stop leaves it, 006 sets it by a line, and else it is that of r
    by_command : (s : Said) (r : Run) → OfRun r
        → OfRun (if stops k s lent t then stopped t.run else if eqb (given s) 6 then executed k s lent t (line_named k s lent t) else r)
    unfolding stopped
    by_command s r h =
        if_case OfRun (stops k s lent t) (λ _. word) λ _.
        if_case OfRun (eqb (given s) 6) (λ _. set_by_lem Word (line_named k s lent t) t.run.outputs (named_word s) word) (λ _. h)

    -- It is a number of four bytes again.
    pub word_then : (s : Said) → ByteSaid s → OfRun (run_then k s lent t)
    word_then silence b = by_command silence _ (ran_word silence)
    word_then (reads j) b = by_command (reads j) _ (ran_word (reads j))
    word_then (writes_line j l) b = by_command (writes_line j l) _ (ran_word (writes_line j l))
    word_then (writes_outputs j x) b = by_command (writes_outputs j x) _ (with_word j x t.run.outputs b)
    word_then (writes_parameter v) b = by_command (writes_parameter v) _ (ran_word (writes_parameter v))
    word_then (gives n) b = by_command (gives n) _ (ran_word (gives n))

  -- A write to 203-206 alters one byte of it, if it alters it.
  pub one_byte_then : (s : Said) → ByteSaid s → is_outputs s ≡ true → let w = (run_then k s lent t).outputs in
      eqb t.run.outputs w ≡ false → in_one_byte t.run.outputs w ≡ true
  unfolding stopped
  one_byte_then silence b e = absurd (true≢false (sym e))
  one_byte_then (reads j) b e = absurd (true≢false (sym e))
  one_byte_then (writes_line j l) b e = absurd (true≢false (sym e))
  one_byte_then (writes_outputs j x) b e =
      let w = t.run.outputs in
      if_case (λ (r : Run). eqb w r.outputs ≡ false → in_one_byte w r.outputs ≡ true) (stops k (writes_outputs j x) lent t)
      (λ _ ne. absurd (true≢false (sym (eq-eqb w w refl) ∙ ne)))
      (λ _ ne. with_one j x w word b ne)
  one_byte_then (writes_parameter v) b e = absurd (true≢false (sym e))
  one_byte_then (gives n) b e = absurd (true≢false (sym e))
