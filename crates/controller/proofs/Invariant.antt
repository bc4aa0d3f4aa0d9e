-- Power-on gives the invariant, refused or not, and every call keeps it.
-- Assumes nothing.
use mathlib.Core.Path.{◌≡◌, refl, sym, ap, ◌∙◌}
use Prim.Native.Nat.{ℕ, ◌+◌, ◌≤◌, ◌<◌}
use native.Mathlib.Omega.{arith}
use mathlib.Core.Bool.{Bool, true, false, true≢false}
use mathlib.Core.List.{List}
use lib.ListN.{length}
use lib.Dec.{eqb}
use borrow.Author.Tests.{leb-true}
use Rattle.formats.specs.Checks.{Res, refused, passed, Ok}
use Rattle.formats.proofs.Checks.{if_case}
use Rattle.lines.specs.Line.{end_mark}
use Rattle.lines.proofs.Lines.{length_bytes}
use Rattle.running.specs.declared.Run.{Run}
use Rattle.running.specs.declared.Ran.{Ran}
use Rattle.running.specs.Running.{with_outputs, stopped, tick}
use Rattle.running.specs.Invariant.{RunInvariant}
use Rattle.running.proofs.Invariant.{stopped_kept, start_kept, tick_kept}
use Rattle.boxlog.specs.Log.{Logged}
use Rattle.boxlog.specs.Invariant.{LogInvariant}
use Rattle.boxlog.proofs.Histories.{emptied_kept, change_kept}
use Rattle.wire.specs.declared.Wire.{Wire}
use Rattle.special.specs.declared.Special.{Special}
use Rattle.special.specs.declared.Special.TheVariants.{Stop, Pause, Start, Continue, StartAt, Execute, Load, Save}
use Rattle.wire.specs.declared.Data.{Data}
use Rattle.wire.specs.declared.Data.TheVariants.{WriteLine, WriteOutputs, WriteParameter, WriteSpecial}
use Rattle.wire.specs.declared.Asked.{Asked}
use Rattle.wire.specs.declared.Asked.TheVariants.{Read, Write}
use Rattle.special.specs.Special.{code_of}
use Rattle.special.proofs.Quiet.{start_stopped, start_at_stopped, pause_runs}
use Rattle.wire.specs.Invariant.{WireInvariant}
use Rattle.wire.proofs.Collecting.{collect_kept, cleared_kept}
use Rattle.wire.specs.Sound.{Permitted, SoundData, Sound}
use Rattle.controller.specs.declared.Controller.{Controller}
use Rattle.controller.specs.Controller.{with_run, with_paused, with_ticks, with_wire, with_special, with_event, mode, Areas, fresh}
use Rattle.controller.specs.Deeds.{Deed, raise, moved, start_at, stop, special, read, write, read_to, wrote_to, writing}
use Rattle.controller.specs.Deeds.{empty_collection, asked, answer, ticked, pressed, empty_log, power_up}
use Rattle.controller.specs.Deeds as Deeds
use Rattle.controller.specs.Refusals.{Call, power_on, byte, tick as tick_call, press, emptying, check}
use Rattle.controller.specs.Calls.{does, starts_from, differs, change_of, logged, settled, call}
use Rattle.controller.specs.Invariant.{Invariant}
use Rattle.controller.proofs.Legible.{sound_asked}

-- the state of what was done keeps it; the log is looked at apart
record Keeps (x : Deed) : Type 0 where
  kept : Invariant x.state

-- ---- parts altered

with_run_lem : (r : Run) (c : Controller) → RunInvariant r → (c.paused ≡ true → r.on ≡ true) → Invariant c → Invariant (with_run r c)
with_run_lem r c h p i = record { run = h; wire = i.wire; log = i.log; paused_runs = p; single = i.single }

with_wire_lem : (w : Wire) (c : Controller) → WireInvariant w → Invariant c → Invariant (with_wire w c)
with_wire_lem w c h i = record { run = i.run; wire = h; log = i.log; paused_runs = i.paused_runs; single = i.single }

with_event_lem : (e : ℕ) (u : Bool) (c : Controller) → Invariant c → Invariant (with_event e u c)
with_event_lem e u c i = record { run = i.run; wire = i.wire; log = i.log; paused_runs = i.paused_runs; single = i.single }

raised : (e : ℕ) (c : Controller) → Invariant c → Invariant (raise e c)
unfolding raise
raised e c i = if_case Invariant (eqb e 0) (λ _. i) (λ _. with_event_lem e true c i)

-- outputs set by hand
with_outputs_lem : (o : ℕ) (c : Controller) → Invariant c → Invariant (with_run (with_outputs o c.run) c)
unfolding stopped
with_outputs_lem o c i =
    let r = i.run in
    with_run_lem _ c (record {
      line_in_program = r.line_in_program;
      for_line = r.for_line;
      count = r.count;
      time = r.time;
      idle = λ e. ap (with_outputs o) (r.idle e);
    }) i.paused_runs i

stopped_invariant : (c : Controller) → Invariant c → Invariant (stop c)
unfolding stop
stopped_invariant c i =
    record {
      run = stopped_kept c.run i.run.line_in_program;
      wire = i.wire;
      log = i.log;
      paused_runs = λ e. absurd (true≢false (sym e));
      single = i.single;
    }

-- ---- start and stop

module _ (c : Controller) (a : Areas) (i : Invariant c) where
  -- a run that is not paused moved on
  moved_keeps : (r : Ran) → RunInvariant r.run → (c.paused ≡ true → r.run.on ≡ true) → Keeps (moved r c a)
  unfolding moved
  moved_keeps r h p = record { kept = raised r.event _ (with_run_lem r.run c h p i) }

  start_keeps : (k : ℕ) → k < 200 → c.run.on ≡ false → Keeps (start_at k c a)
  unfolding start_at
  start_keeps k lt off =
      moved_keeps _ (start_kept a.program k c.run.outputs lt) (λ e. absurd (true≢false (sym (i.paused_runs e) ∙ off)))

-- ---- the special commands

with_paused_lem : (b : Bool) (c : Controller) → (b ≡ true → c.run.on ≡ true) → Invariant c → Invariant (with_paused b c)
with_paused_lem b c p i = record { run = i.run; wire = i.wire; log = i.log; paused_runs = p; single = i.single }

special_keeps : (s : Special) (c : Controller) (a : Areas) → Permitted (mode c) c.panel.parameter s → Invariant c → Keeps (special s c a)
unfolding special
special_keeps Stop c a p i = record { kept = stopped_invariant c i }
special_keeps Pause c a p i = record { kept = with_paused_lem true c (λ _. pause_runs c.run.on c.paused p.may) i }
special_keeps Start c a p i = start_keeps c a i 0 (omega arith) (start_stopped c.run.on c.paused p.may)
special_keeps Continue c a p i = record { kept = with_paused_lem false c (λ e. absurd (true≢false (sym e))) i }
special_keeps StartAt c a p i =
    start_keeps c a i c.panel.parameter (omega (arith, leb-true c.panel.parameter 199 p.reaches))
    (start_at_stopped c.run.on c.paused p.may)
special_keeps Execute c a p i = record { kept = with_outputs_lem _ c i }
special_keeps Load c a p i = record { kept = i }
special_keeps Save c a p i = record { kept = i }

-- ---- a wire byte

read_keeps : (k : ℕ) (c : Controller) → Invariant c → Invariant (read k c)
read_keeps k c i = if_case Invariant (eqb k 212) (λ _. with_event_lem 0 false c i) (λ _. i)

with_special_lem : (n : ℕ) (c : Controller) → Invariant c → Invariant (with_special n c)
with_special_lem n c i = record { run = i.run; wire = i.wire; log = i.log; paused_runs = i.paused_runs; single = i.single }

write_keeps : (k : ℕ) (x : Data) (c : Controller) (a : Areas) → SoundData (mode c) c.panel.parameter k x → Invariant c → Keeps (write k x c a)
unfolding write
write_keeps k (WriteLine l) c a p i =
    if_case Keeps (eqb k 200)
    (λ _. record { kept = record { run = i.run; wire = i.wire; log = i.log; paused_runs = i.paused_runs; single = length_bytes l } })
    (λ _. record { kept = i })
write_keeps k (WriteOutputs x) c a p i = record { kept = with_outputs_lem _ c i }
write_keeps k (WriteParameter v) c a p i =
    record { kept = record { run = i.run; wire = i.wire; log = i.log; paused_runs = i.paused_runs; single = i.single } }
write_keeps k (WriteSpecial s) c a p i =
    special_keeps s (with_special (code_of s) c) a (record { may = p.may; reaches = p.reaches }) (with_special_lem (code_of s) c i)

empty_keeps : (c : Controller) → Invariant c → Invariant (empty_collection c)
empty_keeps c i = with_wire_lem _ c (cleared_kept c.wire i.wire) i

read_to_keeps : (k : ℕ) (c : Controller) → k ≤ 216 → Invariant c → Invariant (read_to k c)
read_to_keeps k c le i =
    with_wire_lem _ c (record { whole = i.wire.whole; fits = i.wire.fits; next_read = omega arith; next_write = i.wire.next_write }) i

wrote_to_keeps : (k : ℕ) (c : Controller) → k ≤ 216 → Invariant c → Invariant (wrote_to k c)
wrote_to_keeps k c le i =
    with_wire_lem _ c (record { whole = i.wire.whole; fits = i.wire.fits; next_read = i.wire.next_read; next_write = omega arith }) i

writing_keeps : (bytes : List ℕ) (x : Deed) → Keeps x → Keeps (writing bytes x)
unfolding writing
writing_keeps bytes x h = record { kept = h.kept }

answer_keeps : (r : Res Asked) (c : Controller) (a : Areas) → Ok (Sound (mode c) c.panel.parameter) r → Invariant c → Keeps (answer r c a)
unfolding answer
answer_keeps (refused e) c a p i = writing_keeps _ _ (record { kept = empty_keeps c i })
answer_keeps (passed (Read k)) c a p i = writing_keeps _ _ (record { kept = read_keeps k _ (read_to_keeps k _ p (empty_keeps c i)) })
answer_keeps (passed (Write k x)) c a p i = writing_keeps _ _ (write_keeps k x _ a p.1 (wrote_to_keeps k _ p.0 (empty_keeps c i)))

byte_keeps : (x : ℕ) (c : Controller) (a : Areas) → Invariant c → Keeps (Deeds.byte x c a)
unfolding Deeds.byte
byte_keeps x c a i =
    if_case Keeps (eqb x 13)
    (λ _. answer_keeps (asked c a.program) c a (sound_asked c a.program i.wire) i)
    (λ _. record { kept = with_wire_lem _ c (collect_kept x c.wire i.wire) i })

-- ---- a tick and a press

with_ticks_lem : (n : ℕ) (c : Controller) → Invariant c → Invariant (with_ticks n c)
with_ticks_lem n c i = record { run = i.run; wire = i.wire; log = i.log; paused_runs = i.paused_runs; single = i.single }

tick_keeps : (c : Controller) (a : Areas) → Invariant c → Keeps (ticked c a)
unfolding ticked
tick_keeps c a i =
    let j = with_ticks_lem (c.ticks + 1) c i in
    if_case Keeps c.paused (λ _. record { kept = j })
    (λ e. moved_keeps (with_ticks (c.ticks + 1) c) a j (tick a.program c.run) (tick_kept a.program c.run i.run)
    (λ f. absurd (true≢false (sym f ∙ e))))

press_keeps : (n : ℕ) (c : Controller) (a : Areas) → Invariant c → Keeps (pressed n c a)
unfolding pressed
press_keeps n c a i =
    if_case Keeps (eqb n 1)
    (λ _. if_case Keeps c.run.on (λ _. record { kept = raised 10 _ (stopped_invariant c i) }) (λ e. start_keeps c a i 0 (omega arith) e))
    (λ _. if_case Keeps c.run.on (λ e. record { kept = with_paused_lem _ c (λ _. e) i }) (λ _. record { kept = i }))

-- ---- the five calls

fresh_stopped : (n : ℕ) → stopped (fresh n).run ≡ (fresh n).run
unfolding stopped fresh
fresh_stopped n = refl

-- the power-on state, whatever the length of its log
pub fresh_invariant : (n : ℕ) → Invariant (fresh n)
unfolding fresh
fresh_invariant n =
    record {
      run = stopped_fresh;
      wire = record { whole = refl; fits = omega arith; next_read = omega arith; next_write = omega arith };
      log = emptied_kept n;
      paused_runs = λ e. absurd (true≢false (sym e));
      single = length_bytes end_mark;
    }
  where
    stopped_fresh : RunInvariant (fresh n).run
    stopped_fresh = rw (fresh_stopped n) at (stopped_kept (fresh n).run (omega arith))

empty_log_keeps : (c : Controller) (a : Areas) → Invariant c → Keeps (empty_log c a)
unfolding empty_log
empty_log_keeps c a i =
    writing_keeps _ _
    (record { kept = record { run = i.run; wire = i.wire; log = emptied_kept c.log.length; paused_runs = i.paused_runs; single = i.single } })

does_keeps : (k : Call) (c : Controller) (a : Areas) → Invariant c → Keeps (does k c a)
unfolding does power_up
does_keeps power_on c a i = record { kept = fresh_invariant (length a.log) }
does_keeps (byte x) c a i = byte_keeps x c a i
does_keeps tick_call c a i = tick_keeps c a i
does_keeps (press n) c a i = press_keeps n c a i
does_keeps emptying c a i = empty_log_keeps c a i

logged_kept : (k : Call) (c : Controller) (a : Areas) (x : Deed) → LogInvariant x.state.log → LogInvariant (logged k c a x).log
unfolding logged
logged_kept k c a x l =
    if_case (λ (g : Logged). LogInvariant g.log) (differs (starts_from k c).run.outputs x.state.run.outputs)
    (λ _. change_kept x.state.log x.areas.log (change_of k c a x.state) l) (λ _. l)

starts_from_invariant : (k : Call) (c : Controller) → Invariant c → Invariant (starts_from k c)
starts_from_invariant power_on c i = fresh_invariant 0
starts_from_invariant (byte x) c i = i
starts_from_invariant tick_call c i = i
starts_from_invariant (press n) c i = i
starts_from_invariant emptying c i = i

settled_invariant : (r : Res (Unit {0})) (k : Call) (c : Controller) (a : Areas) → Invariant c → Invariant (settled r k c a).state
settled_invariant (refused n) k c a i = starts_from_invariant k c i
settled_invariant (passed ok) k c a i =
    let d = (does_keeps k c a i).kept in
    record { run = d.run; wire = d.wire; log = logged_kept k c a (does k c a) d.log; paused_runs = d.paused_runs; single = d.single }

-- Every call, accepted or refused, keeps the invariant.
pub call_invariant : (k : Call) (c : Controller) (a : Areas) → Invariant c → Invariant (call k c a).state
unfolding call
call_invariant k c a i = settled_invariant (check k c a) k c a i
