-- The box and the history agree: part by part, and where one part of both is altered alike.
-- Assumes nothing.
use mathlib.Core.Path.{◌≡◌, refl, sym, ap, subst, ◌∙◌}
use Prim.Native.Nat.{ℕ, ◌≤◌}
use mathlib.Core.Bool.{Bool, true, false, not}
use mathlib.Core.List.{List}
use lib.Dec.{eqb}
use Rattle.std.specs.Prelude.{if◌then◌else◌}
use Rattle.formats.specs.Checks.{Res, refused, passed}
use Rattle.lines.specs.declared.Line.{Line}
use Rattle.boxlog.specs.declared.Log.{Log}
use Rattle.lines.specs.Line.{set_by, read_line, bytes_of, Fits}
use Rattle.lines.specs.Program.{line_at}
use Rattle.running.specs.declared.Run.{Run}
use Rattle.running.specs.declared.Ran.{Ran}
use Rattle.running.specs.Running.{with_outputs}
use Rattle.variables.specs.Variables as Variables
use Rattle.special.specs.declared.Special.{Special}
use Rattle.special.specs.Special.{code_of}
use Rattle.wire.specs.declared.Data.TheVariants.{WriteLine, WriteOutputs, WriteParameter, WriteSpecial}
use Rattle.wire.specs.declared.Asked.{Asked}
use Rattle.wire.specs.declared.Asked.TheVariants.{Read, Write}
use Rattle.controller.specs.declared.Controller.{Controller}
use Rattle.wire.specs.declared.Wire.{Wire}
use Rattle.variables.specs.declared.Panel.{Panel}
use Rattle.controller.specs.Controller.{with_log, Areas, with_run, with_paused, with_ticks, with_wire, with_single, with_parameter, with_special, with_event}
use Rattle.controller.specs.Deeds.{raise, moved, execute}
use Rattle.controller.specs.Refusals.{Call}
use Rattle.controller.specs.Variables.{line_of}
use Rattle.controller.proofs.Lines.{single_back}
use Rattle.demands.specs.Said.{Said, silence, reads, writes_line, writes_outputs, writes_parameter, gives}
use Rattle.demands.specs.Told.{Told, executed, line_named}
use Rattle.demands.proofs.History.Collects.{Collects}

-- the wire, where the addresses that I means, in a read and in a write, and the characters received are these
pub record WireAgrees (i o : ℕ) (cs : List ℕ) (w : Wire) : Type 0 where
  pub next_read : w.nextread ≡ i
  pub next_write : w.nextwrite ≡ o
  pub received : Collects cs w

-- 200, 209, 210 and the event
pub record PanelAgrees (l : Line) (p s e : ℕ) (v : Panel) : Type 0 where
  pub single : v.single ≡ bytes_of l
  pub fits : Fits l
  pub parameter : v.parameter ≡ p
  pub special : v.special ≡ s
  pub event : v.event ≡ e
  pub unread : v.unread ≡ not (eqb e 0)

pub record Agrees (t : Told) (c : Controller) : Type 0 where
  pub ticks : c.ticks ≡ t.ticks
  pub run : c.run ≡ t.run
  pub paused : c.paused ≡ t.paused
  pub wire : WireAgrees t.next_read t.next_write t.received c.wire
  pub panel : PanelAgrees t.single t.parameter t.special t.event c.panel
  pub log_length : c.log.length ≡ t.log_length

-- the box's reading of a finished command and the history's are of one command
pub data Hears : Res Asked → Said → Type 0 where
  an_error : (e : ℕ) → Hears (refused e) silence
  a_read : (k : ℕ) → k ≤ 216 → Hears (passed (Read k)) (reads k)
  a_line : (k : ℕ) (l : Line) → k ≤ 200 → Fits l → Hears (passed (Write k (WriteLine l))) (writes_line k l)
  an_output : (k x : ℕ) → 203 ≤ k → k ≤ 206 → Hears (passed (Write k (WriteOutputs x))) (writes_outputs k x)
  a_parameter : (v : ℕ) → Hears (passed (Write 209 (WriteParameter v))) (writes_parameter v)
  a_special : (s : Special) → Hears (passed (Write 210 (WriteSpecial s))) (gives (code_of s))

pub as_told : {t t' : Told} {c : Controller} → t ≡ t' → Agrees t' c → Agrees t c
as_told {c} e g = subst (λ x. Agrees x c) (sym e) g

-- ---- one part altered, in the history and in the box

-- a history with these parts
abbrev told_all : ℕ → Run → Bool → ℕ → ℕ → List ℕ → Line → ℕ → ℕ → ℕ → ℕ → Told
told_all n r b i o cs l p s e length = record {
  ticks = n;
  run = r;
  paused = b;
  next_read = i;
  next_write = o;
  received = cs;
  single = l;
  parameter = p;
  special = s;
  event = e;
  log_length = length;
}

-- the event, 0 for none
unfoldable pub told_event : ℕ → Told → Told
told_event e t =
    told_all t.ticks t.run t.paused t.next_read t.next_write t.received t.single t.parameter t.special e t.log_length

-- the run moved and the pause set
unfoldable pub told_run : Run → Bool → Told → Told
told_run r b t =
    told_all t.ticks r b t.next_read t.next_write t.received t.single t.parameter t.special t.event t.log_length

-- a command answered
unfoldable pub told_wire : ℕ → ℕ → List ℕ → Told → Told
told_wire i o cs t = told_all t.ticks t.run t.paused i o cs t.single t.parameter t.special t.event t.log_length

-- 200, 209 or 210 written
unfoldable pub told_panel : Line → ℕ → ℕ → Told → Told
told_panel l p s t = told_all t.ticks t.run t.paused t.next_read t.next_write t.received l p s t.event t.log_length

-- the run moved by the running rules
abbrev pub told_moved : Ran → Told → Told
told_moved r t = told_event (if eqb r.event 0 then t.event else r.event) (told_run r.run t.paused t)

unfoldable pub told_ticks : ℕ → Told → Told
told_ticks n t =
    told_all n t.run t.paused t.next_read t.next_write t.received t.single t.parameter t.special t.event t.log_length

module _ (t : Told) (c : Controller) (g : Agrees t c) where
  pub event_agrees : (e : ℕ) (b : Bool) → b ≡ not (eqb e 0) → Agrees (told_event e t) (with_event e b c)
  unfolding told_event
  event_agrees e b f =
      let v = g.panel in
      record {
        ticks = g.ticks;
        run = g.run;
        paused = g.paused;
        wire = g.wire;
        panel = record { single = v.single; fits = v.fits; parameter = v.parameter; special = v.special; event = refl; unread = f };
        log_length = g.log_length;
      }

  pub raise_agrees : (e : ℕ) → Agrees (told_event (if eqb e 0 then t.event else e) t) (raise e c)
  unfolding told_event raise
  raise_agrees e = go (eqb e 0) refl
    where
      go : (b : Bool) → eqb e 0 ≡ b → Agrees (told_event (if eqb e 0 then t.event else e) t) (raise e c)
      go true z = rw (z, raise) g
      go false z = rw (z, raise) (event_agrees e true (rw z))

  pub run_agrees : (r r' : Run) (p p' : Bool) → r ≡ r' → p ≡ p' → Agrees (told_run r' p' t) (with_paused p (with_run r c))
  unfolding told_run
  run_agrees r r' p p' e f =
      record { ticks = g.ticks; run = e; paused = f; wire = g.wire; panel = g.panel; log_length = g.log_length }

  pub wire_agrees : (w : Wire) (i o : ℕ) (cs : List ℕ) → w.nextread ≡ i → w.nextwrite ≡ o → Collects cs w → Agrees (told_wire i o cs t) (with_wire w c)
  unfolding told_wire
  wire_agrees w i o cs e f h =
      record {
        ticks = g.ticks;
        run = g.run;
        paused = g.paused;
        wire = record { next_read = e; next_write = f; received = h };
        panel = g.panel;
        log_length = g.log_length;
      }

  pub panel_agrees : (bs : List ℕ) (l : Line) (v v' s s' : ℕ) → bs ≡ bytes_of l → Fits l → v ≡ v' → s ≡ s'
      → Agrees (told_panel l v' s' t) (with_single bs (with_parameter v (with_special s c)))
  unfolding told_panel
  panel_agrees bs l v v' s s' e f h i =
      record {
        ticks = g.ticks;
        run = g.run;
        paused = g.paused;
        wire = g.wire;
        panel = record { single = e; fits = f; parameter = h; special = i; event = g.panel.event; unread = g.panel.unread };
        log_length = g.log_length;
      }

  pub ticks_agrees : (n n' : ℕ) → n ≡ n' → Agrees (told_ticks n' t) (with_ticks n c)
  unfolding told_ticks
  ticks_agrees n n' e =
      record { ticks = e; run = g.run; paused = g.paused; wire = g.wire; panel = g.panel; log_length = g.log_length }

  -- the log, which the history says otherwise (`demands/Changes`), but for its length
  pub log_agrees : (l : Log) → l.length ≡ c.log.length → Agrees t (with_log l c)
  log_agrees l e =
      record { ticks = g.ticks; run = g.run; paused = g.paused; wire = g.wire; panel = g.panel; log_length = e ∙ g.log_length }

module _ (t : Told) (c : Controller) (g : Agrees t c) where
  -- a start, or a tick that is not taken while paused
  pub moved_agrees : (r r' : Ran) (a : Areas) → r ≡ r'
      → Agrees (told_moved r' t) (moved r c a).state
  unfolding moved told_run
  moved_agrees r r' a e =
      rw e (raise_agrees (told_run r'.run t.paused t) (with_run r'.run c) (run_agrees t c g r'.run r'.run _ _ refl g.paused) r'.event)

  -- a line executed
  pub execute_agrees : (l l' : Line) (k : Call) (s : Said) (a : Areas) → l ≡ l' → Agrees (told_run (executed k s a t l') t.paused t) (execute l c)
  unfolding told_run
  execute_agrees l l' k s a e = rw e (run_agrees t c g _ _ _ _ (ap (λ (r : Run). with_outputs (set_by l' r.outputs) r) g.run) g.paused)

  -- the line that the parameter names
  pub named_line : (k : Call) (s : Said) (a : Areas) → line_of c a.program c.panel.parameter ≡ line_named k s a t
  unfolding Variables.line_of
  named_line k s a =
      rw g.panel.parameter
      (ap (λ l. if eqb t.parameter 200 then l else line_at a.program t.parameter)
      (ap read_line g.panel.single ∙ single_back t.single g.panel.fits))
