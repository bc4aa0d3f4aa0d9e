-- Laws of one accepted call: a write stores its line, everything else that does not replace a line leaves it, and a reply is what
-- stands at the start of its area.
-- Assumes nothing.
use mathlib.Core.Path.{◌≡◌, refl, sym, ap, ap₂, ◌∙◌}
use mathlib.Core.Logic.{◌≢◌}
use Prim.Native.Nat.{ℕ, ◌≤◌}
use native.Mathlib.Omega.{arith}
use mathlib.Core.Bool.{Bool, true, false, ◌&&◌, true≢false}
use mathlib.Core.List.{List, [], append-nil}
use lib.ListN.{length, take, drop}
use lib.Seq.{take-append_seam}
use lib.Dec.{eqb, leb}
use borrow.Author.Tests.{eqb-true, eqb-false, eq-eqb, leb-false}
use Rattle.std.specs.Prelude.{if◌then◌else◌}
use Rattle.formats.specs.Checks.{Res, refused, passed, text, Ok}
use Rattle.formats.specs.Digits.{error_text}
use Rattle.formats.proofs.Checks.{if_case}
use Rattle.lines.specs.declared.Line.{Line}
use Rattle.lines.specs.Line.{read_line, bytes_of, Fits}
use Rattle.lines.specs.Program.{line_at}
use Rattle.lines.proofs.Lines.{bytes_back}
use Rattle.lines.proofs.Places.{put_same, put_other}
use Rattle.variables.specs.Variables as Variables
use Rattle.special.specs.declared.Special.{Special}
use Rattle.wire.specs.declared.Data.{Data}
use Rattle.wire.specs.declared.Data.TheVariants.{WriteLine, WriteOutputs, WriteParameter, WriteSpecial}
use Rattle.wire.specs.declared.Asked.{Asked}
use Rattle.wire.specs.declared.Asked.TheVariants.{Read, Write}
use Rattle.wire.specs.Sound.{Sound}
use Rattle.controller.specs.declared.Controller.{Controller}
use Rattle.controller.specs.Controller.{with_single, mode, Areas}
use Rattle.controller.specs.Variables.{line_of, value}
use Rattle.controller.specs.Deeds.{Deed, over, ended, write, wrote_to, writing, empty_collection, asked, answer}
use Rattle.controller.specs.Deeds as Deeds
use Rattle.controller.specs.Refusals.{Call, power_on, byte, tick, press, emptying}
use Rattle.controller.specs.Calls.{does}
use Rattle.controller.specs.Effects.{finished, special_code, writes_line, replaces}
use Rattle.controller.specs.Invariant.{Invariant}
use Rattle.controller.proofs.Refusals.{Checked, program_long}
use Rattle.controller.proofs.Legible.{sound_asked}
use Rattle.controller.proofs.Alterations.{single, program, part_of, by_command, alters, does_alters, answer_alters}

-- ---- what a reply is

-- the bytes written are those that stand at the start of the area
written_at_start : (bytes area : List ℕ) → take (length bytes) (over bytes area) ≡ bytes
written_at_start bytes area = take-append_seam bytes (drop (length bytes) area)

-- the reply to what a finished command asks for
abbrev pub reply_of : Res Asked → Controller → Areas → List ℕ
reply_of (refused e) c a = ended (error_text e)
reply_of (passed (Read k)) c a = ended (value c a.program k)
reply_of (passed (Write k x)) c a = ended (text "OK")

pub answer_written : (r : Res Asked) (c : Controller) (a : Areas) → take (answer r c a).written (answer r c a).areas.out ≡ reply_of r c a
unfolding answer writing
answer_written (refused e) c a = written_at_start _ _
answer_written (passed (Read k)) c a = written_at_start _ _
answer_written (passed (Write k x)) c a = written_at_start _ _

-- ---- a write stores the line

-- the line at address k after what was done
abbrev pub line_in : Deed → ℕ → Line
line_in x k = line_of x.state x.areas.program k

at_200 : (c : Controller) (p : List ℕ) (k : ℕ) → eqb k 200 ≡ true → line_of c p k ≡ read_line c.panel.single
unfolding Variables.line_of
at_200 c p k e = rw e

below_200 : (c : Controller) (p : List ℕ) (k : ℕ) → eqb k 200 ≡ false → line_of c p k ≡ line_at p k
unfolding Variables.line_of
below_200 c p k e = rw e

-- line 200 is kept in the eight bytes of a line
pub single_back : (l : Line) → Fits l → read_line (bytes_of l) ≡ l
single_back l f = ap read_line (sym (append-nil (bytes_of l))) ∙ bytes_back l [] f

-- A line written to an address of 000-200 is found there.
pub write_stores : (l : Line) (k : ℕ) (c : Controller) (a : Areas) → k ≤ 200 → length a.program ≡ 1600 → Fits l
    → line_in (write k (WriteLine l) c a) k ≡ l
unfolding write
write_stores l k c a le len f = go (eqb k 200) refl
  where
    go : (t : Bool) → eqb k 200 ≡ t → line_in (write k (WriteLine l) c a) k ≡ l
    go true e = rw (e, write) (at_200 (with_single (bytes_of l) c) a.program k e ∙ single_back l f)
    go false e =
        let ne : k ≢ 200 = eqb-false k 200 e in
        rw (e, write) (below_200 c _ k e ∙ put_same k l a.program (omega arith) f)

-- the answer to a write leaves what the write leaves
pub answered_line : (j : ℕ) (x : Data) (c : Controller) (a : Areas) (k : ℕ)
    → line_in (answer (passed (Write j x)) c a) k ≡ line_in (write j x (wrote_to j (empty_collection c)) a) k
unfolding answer writing
answered_line j x c a k = refl

-- ---- what leaves the lines as they were

-- what leaves 200 and the program leaves every line
same_line : (c : Controller) (a : Areas) (x : Deed) (k : ℕ) → part_of single x ≡ c.panel.single → part_of program x ≡ a.program
    → line_in x k ≡ line_of c a.program k
unfolding Variables.line_of
same_line c a x k e f = ap₂ (λ b p. if eqb k 200 then read_line b else line_at p k) e f

-- an answer that alters neither
answer_same : (r : Res Asked) (k : ℕ) (c : Controller) (a : Areas) → by_command single r ≡ false → by_command program r ≡ false
    → line_in (answer r c a) k ≡ line_of c a.program k
answer_same r k c a e f = same_line c a (answer r c a) k (answer_alters r c a single e) (answer_alters r c a program f)

-- a call that alters neither
call_same : (n : Call) (k : ℕ) (c : Controller) (a : Areas) → alters single n c a ≡ false → alters program n c a ≡ false
    → line_in (does n c a) k ≡ line_of c a.program k
call_same n k c a e f = same_line c a (does n c a) k (does_alters n c a single e) (does_alters n c a program f)

-- a line written elsewhere
write_elsewhere : (l : Line) (j k : ℕ) (c : Controller) (a : Areas) → j ≤ 200 → length a.program ≡ 1600 → k ≢ j
    → line_in (write j (WriteLine l) c a) k ≡ line_of c a.program k
unfolding write
write_elsewhere l j k c a le len ne = go (eqb j 200) (eqb k 200) refl refl
  where
    go : (t u : Bool) → eqb j 200 ≡ t → eqb k 200 ≡ u → line_in (write j (WriteLine l) c a) k ≡ line_of c a.program k
    go true true e f = absurd (ne (eqb-true k 200 f ∙ sym (eqb-true j 200 e)))
    go true false e f = rw (e, write) (below_200 (with_single (bytes_of l) c) a.program k f ∙ sym (below_200 c a.program k f))
    go false true e f = rw (e, write) (at_200 c _ k f ∙ sym (at_200 c a.program k f))
    go false false e f =
        let nj : j ≢ 200 = eqb-false j 200 e in
        rw (e, write) (below_200 c _ k f ∙ put_other j l a.program (omega arith) k ne ∙ sym (below_200 c a.program k f))

-- what does not replace line k
abbrev Keeps : ℕ → Res Asked → Type 0
Keeps k r = (if writes_line k r then true else (leb k 199 && eqb (special_code r) 7)) ≡ false

-- a load replaces 000-199, and leaves 200
special_keeps : (s : Special) (j k : ℕ) (c : Controller) (a : Areas) → k ≤ 200 → Keeps k (passed (Write j (WriteSpecial s)))
    → line_in (answer (passed (Write j (WriteSpecial s))) c a) k ≡ line_of c a.program k
special_keeps s j k c a le n = go (leb k 199) refl
  where
    go : (t : Bool) → leb k 199 ≡ t → line_in (answer (passed (Write j (WriteSpecial s))) c a) k ≡ line_of c a.program k
    go true e = answer_same (passed (Write j (WriteSpecial s))) k c a refl (rw e at n)
    go false e =
        let is : k ≡ 200 = omega (arith, leb-false k 199 e) in
        let x = answer (passed (Write j (WriteSpecial s))) c a in
        at_200 x.state x.areas.program k (rw is) ∙ ap read_line (answer_alters (passed (Write j (WriteSpecial s))) c a single refl)
        ∙ sym (at_200 c a.program k (rw is))

-- an answer to what does not replace line k leaves it
answer_keeps : (r : Res Asked) (k : ℕ) (c : Controller) (a : Areas) → Ok (Sound (mode c) c.panel.parameter) r → length a.program ≡ 1600 → k ≤ 200
    → Keeps k r → line_in (answer r c a) k ≡ line_of c a.program k
answer_keeps (refused e) k c a i len le n = answer_same (refused e) k c a refl refl
answer_keeps (passed (Read j)) k c a i len le n = answer_same (passed (Read j)) k c a refl refl
answer_keeps (passed (Write j (WriteLine l))) k c a i len le n =
    answered_line j (WriteLine l) c a k
    ∙ write_elsewhere l j k (wrote_to j (empty_collection c)) a i.1 len (λ e. true≢false (rw (eq-eqb k j e) at n))
answer_keeps (passed (Write j (WriteOutputs x))) k c a i len le n = answer_same (passed (Write j (WriteOutputs x))) k c a refl refl
answer_keeps (passed (Write j (WriteParameter v))) k c a i len le n = answer_same (passed (Write j (WriteParameter v))) k c a refl refl
answer_keeps (passed (Write j (WriteSpecial s))) k c a i len le n = special_keeps s j k c a le n

-- so does a byte that ends such a command or none
byte_keeps : (x k : ℕ) (c : Controller) (a : Areas) → Invariant c → length a.program ≡ 1600 → k ≤ 200 → Keeps k (finished (byte x) c a)
    → line_in (Deeds.byte x c a) k ≡ line_of c a.program k
unfolding Deeds.byte finished
byte_keeps x k c a i len le n =
    if_case (λ (y : Deed). line_in y k ≡ line_of c a.program k) (eqb x 13)
    (λ e. answer_keeps (asked c a.program) k c a (sound_asked c a.program i.wire) len le (rw e at n)) (λ _. refl)

-- Every accepted call that does not replace line k leaves it.
pub line_kept : (n : Call) (k : ℕ) (c : Controller) (a : Areas) → Invariant c → Checked n c a → k ≤ 200 → replaces k n c a ≡ false
    → line_in (does n c a) k ≡ line_of c a.program k
unfolding does replaces finished
line_kept power_on k c a i ch le u = absurd (true≢false u)
line_kept (byte x) k c a i ch le u =
    byte_keeps x k c a i (program_long ch.checks.0) le u
line_kept tick k c a i ch le u = call_same tick k c a refl refl
line_kept (press b) k c a i ch le u = call_same (press b) k c a refl refl
line_kept emptying k c a i ch le u = call_same emptying k c a refl refl
