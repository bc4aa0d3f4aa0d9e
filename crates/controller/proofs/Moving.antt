-- Laws of one accepted call: what leaves the run and the program as they were, and what moves the run by the running rules.
-- Assumes nothing.
use mathlib.Core.Path.{◌≡◌, refl, sym, ◌∙◌}
use mathlib.Core.Logic.{◌≢◌}
use Prim.Native.Nat.{ℕ, ◌+◌}
use mathlib.Core.Bool.{true, false, not, ◌&&◌, true≢false}
use mathlib.Core.List.{List}
use mathlib.Core.Option.{none, some}
use lib.Dec.{eqb}
use borrow.Author.Tests.{eq-eqb, ne_eqb}
use Rattle.std.specs.Prelude.{if◌then◌else◌}
use Rattle.formats.specs.Checks.{Res, refused, passed, Ok}
use Rattle.formats.proofs.Checks.{if_case, not_some}
use Rattle.running.specs.declared.Ran.{Ran}
use Rattle.running.specs.Running.{start, tick}
use Rattle.special.specs.declared.Special.{Special}
use Rattle.special.specs.declared.Special.TheVariants.{Stop, Pause, Start, Continue, StartAt, Execute, Load, Save}
use Rattle.wire.specs.declared.Data.{Data}
use Rattle.wire.specs.declared.Data.TheVariants.{WriteLine, WriteOutputs, WriteParameter, WriteSpecial}
use Rattle.wire.specs.declared.Asked.{Asked}
use Rattle.wire.specs.declared.Asked.TheVariants.{Read, Write}
use Rattle.special.specs.Special.{code_of}
use Rattle.special.proofs.Quiet.{runs_mode}
use Rattle.wire.proofs.Quiet.{quiet, command_quiet}
use Rattle.controller.specs.declared.Controller.{Controller}
use Rattle.controller.specs.Controller.{with_special, with_ticks, mode, Areas}
use Rattle.controller.specs.Deeds.{Deed, raise, moved, start_at, special, write, wrote_to, writing, empty_collection, asked, answer, ticked, pressed}
use Rattle.controller.specs.Deeds as Deeds
use Rattle.controller.specs.Refusals.{Call, power_on, byte, tick as tick_call, press, emptying}
use Rattle.controller.specs.Calls.{does}
use Rattle.controller.specs.Effects.{finished, data_code, special_code, start_by, start_line}
use Rattle.controller.proofs.Legible.{asked_ok}
use Rattle.controller.proofs.Alterations.{run, program, by_command, alters, does_alters}

-- ---- what leaves the run and the program as they were

pub record Same (c : Controller) (a : Areas) (x : Deed) : Type 0 where
  pub run : x.state.run ≡ c.run
  pub program : x.areas.program ≡ a.program

-- a call that may alter neither leaves both
pub call_same : (k : Call) (c : Controller) (a : Areas) → alters run k c a ≡ false → alters program k c a ≡ false → Same c a (does k c a)
call_same k c a e f = record { run = does_alters k c a run e; program = does_alters k c a program f }

-- stop apart, a command that may be given while a program runs may alter neither
quiet_leaves : (r : Res Asked) → Ok (λ (q : Asked). quiet q ≡ true) r → special_code r ≢ 1 → (by_command run r ≡ false) × (by_command program r ≡ false)
quiet_leaves (refused e) q ne = (refl, refl)
quiet_leaves (passed (Read k)) q ne = (refl, refl)
quiet_leaves (passed (Write k (WriteLine l))) q ne = absurd (true≢false (sym q))
quiet_leaves (passed (Write k (WriteOutputs x))) q ne = absurd (true≢false (sym q))
quiet_leaves (passed (Write k (WriteParameter v))) q ne = (refl, refl)
quiet_leaves (passed (Write k (WriteSpecial Stop))) q ne = absurd (ne refl)
quiet_leaves (passed (Write k (WriteSpecial Pause))) q ne = (refl, refl)
quiet_leaves (passed (Write k (WriteSpecial Start))) q ne = absurd (true≢false (sym q))
quiet_leaves (passed (Write k (WriteSpecial Continue))) q ne = (refl, refl)
quiet_leaves (passed (Write k (WriteSpecial StartAt))) q ne = absurd (true≢false (sym q))
quiet_leaves (passed (Write k (WriteSpecial Execute))) q ne = absurd (true≢false (sym q))
quiet_leaves (passed (Write k (WriteSpecial Load))) q ne = absurd (true≢false (sym q))
quiet_leaves (passed (Write k (WriteSpecial Save))) q ne = absurd (true≢false (sym q))

-- a byte while a program runs, if it does not end the command stop
pub byte_same : (x : ℕ) (c : Controller) (a : Areas) → c.run.on ≡ true → special_code (finished (byte x) c a) ≢ 1 → Same c a (does (byte x) c a)
unfolding finished
byte_same x c a on ne =
    let quiets = if_case (Ok (λ (q : Asked). quiet q ≡ true)) (eqb x 13)
    (λ _. asked_ok c a.program (λ (q : Asked). quiet q ≡ true)
    (command_quiet (mode c) c.panel.parameter (runs_mode c.run.on c.paused on) c.wire)) (λ _. tt) in
    let e = quiet_leaves (finished (byte x) c a) quiets ne in
    call_same (byte x) c a e.0 e.1

-- ---- what moves the run

-- what was done is what the rules say: run, event, lines; the program stays
pub record MovedAs (r : Ran) (c : Controller) (p : List ℕ) (x : Deed) : Type 0 where
  pub run : x.state.run ≡ r.run
  pub program : x.areas.program ≡ p
  pub event : r.event ≢ 0 → (x.state.panel.event ≡ r.event) × (x.state.panel.unread ≡ true)
  pub silent : r.event ≡ 0 → (x.state.panel.event ≡ c.panel.event) × (x.state.panel.unread ≡ c.panel.unread)
  pub lines : x.lines ≡ r.lines

moved_as : (r : Ran) (c : Controller) (a : Areas) → MovedAs r c a.program (moved r c a)
unfolding moved raise
moved_as r c a =
    record {
      run = if_case (λ (x : Controller). x.run ≡ r.run) (eqb r.event 0) (λ _. refl) (λ _. refl);
      program = refl;
      event = λ ne. rw (ne_eqb r.event 0 ne) (refl, refl);
      silent = λ z. rw (eq-eqb r.event 0 z) (refl, refl);
      lines = refl;
    }

writing_as : {r : Ran} {c : Controller} {p : List ℕ} (bytes : List ℕ) (x : Deed) → MovedAs r c p x → MovedAs r c p (writing bytes x)
unfolding writing
writing_as bytes x h = record { run = h.run; program = h.program; event = h.event; silent = h.silent; lines = h.lines }

start_as : (k j : ℕ) (c : Controller) (a : Areas) → some j ≡ some k → MovedAs (start a.program k c.run.outputs) c a.program (start_at j c a)
unfolding start_at
start_as k j c a e = let same : j ≡ k = cc in rw same (moved_as _ c a)

special_as : (s : Special) (k : ℕ) (c : Controller) (a : Areas) → start_by (code_of s) c.panel.parameter ≡ some k
    → MovedAs (start a.program k c.run.outputs) c a.program (special s c a)
unfolding special
special_as Stop k c a e = absurd (not_some e)
special_as Pause k c a e = absurd (not_some e)
special_as Start k c a e = start_as k 0 c a e
special_as Continue k c a e = absurd (not_some e)
special_as StartAt k c a e = start_as k c.panel.parameter c a e
special_as Execute k c a e = absurd (not_some e)
special_as Load k c a e = absurd (not_some e)
special_as Save k c a e = absurd (not_some e)

write_as : (j : ℕ) (x : Data) (k : ℕ) (c : Controller) (a : Areas) → start_by (data_code x) c.panel.parameter ≡ some k
    → MovedAs (start a.program k c.run.outputs) c a.program (write j x c a)
unfolding write
write_as j (WriteLine l) k c a e = absurd (not_some e)
write_as j (WriteOutputs x) k c a e = absurd (not_some e)
write_as j (WriteParameter v) k c a e = absurd (not_some e)
write_as j (WriteSpecial s) k c a e =
    let h = special_as s k (with_special (code_of s) c) a e in
    record { run = h.run; program = h.program; event = h.event; silent = h.silent; lines = h.lines }

answer_as : (r : Res Asked) (k : ℕ) (c : Controller) (a : Areas) → start_by (special_code r) c.panel.parameter ≡ some k
    → MovedAs (start a.program k c.run.outputs) c a.program (answer r c a)
unfolding answer
answer_as (refused n) k c a e = absurd (not_some e)
answer_as (passed (Read j)) k c a e = absurd (not_some e)
answer_as (passed (Write j x)) k c a e =
    let h = write_as j x k (wrote_to j (empty_collection c)) a e in
    writing_as _ _ (record { run = h.run; program = h.program; event = h.event; silent = h.silent; lines = h.lines })

-- a byte that ends 003 or 005
byte_as : (x k : ℕ) (c : Controller) (a : Areas) → start_by (special_code (finished (byte x) c a)) c.panel.parameter ≡ some k
    → MovedAs (start a.program k c.run.outputs) c a.program (Deeds.byte x c a)
unfolding Deeds.byte finished
byte_as x k c a e =
    if_case (MovedAs (start a.program k c.run.outputs) c a.program) (eqb x 13)
    (λ f. answer_as (asked c a.program) k c a (rw f at e)) (λ f. absurd (not_some (rw f at e)))

-- a press of Start/Stop when stopped
press_as : (n k : ℕ) (c : Controller) (a : Areas) → (if eqb n 1 && not c.run.on then some 0 else none) ≡ some k
    → MovedAs (start a.program k c.run.outputs) c a.program (pressed n c a)
unfolding pressed
press_as n k c a e =
    let P : Deed → Type 0 = MovedAs (start a.program k c.run.outputs) c a.program in
    if_case P (eqb n 1)
    (λ f. if_case P c.run.on (λ g. absurd (not_some (rw (f, g) at e))) (λ g. start_as k 0 c a (rw (f, g) at e)))
    (λ f. absurd (not_some (rw f at e)))

-- An accepted start, by command 003 or 005 or by the button, moves the run as the rules' start does.
pub does_start : (k : Call) (j : ℕ) (c : Controller) (a : Areas) → start_line k c a ≡ some j
    → MovedAs (start a.program j c.run.outputs) c a.program (does k c a)
unfolding does start_line finished
does_start power_on j c a e = absurd (not_some e)
does_start (byte x) j c a e = byte_as x j c a e
does_start tick_call j c a e = absurd (not_some e)
does_start (press n) j c a e = press_as n j c a e
does_start emptying j c a e = absurd (not_some e)

-- A tick that is not taken while paused moves the run as the rules' tick does.
pub tick_as : (c : Controller) (a : Areas) → c.paused ≡ false → MovedAs (tick a.program c.run) c a.program (ticked c a)
unfolding ticked
tick_as c a e =
    if_case (MovedAs (tick a.program c.run) c a.program) c.paused (λ f. absurd (true≢false (sym f ∙ e)))
    (λ _. let h = moved_as (tick a.program c.run) (with_ticks (c.ticks + 1) c) a in
    record { run = h.run; program = h.program; event = h.event; silent = h.silent; lines = h.lines })
