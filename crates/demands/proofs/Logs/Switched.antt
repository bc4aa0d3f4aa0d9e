-- What a caller who hands on can have the box do, in which no program runs: store an end mark, set the parameter, and set the outputs in three ways.
-- Assumes nothing.
use mathlib.Core.Path.{◌≡◌, refl, ap, ap₂, subst, ◌∙◌}
use Prim.Native.Nat.{ℕ, ◌^◌, ◌≤◌, ◌<◌}
use native.Mathlib.Omega.{arith}
use mathlib.Core.Bool.{true, false}
use mathlib.Core.List.{List, ◌++◌, append-nil}
use lib.ListN.{length, length-append}
use borrow.Author.Tests.{eq-eqb, ne_eqb, le-leb, lt-leb}
use Rattle.formats.specs.Checks.{passed, all, text}
use Rattle.formats.specs.Digits.{shown, h as in_hex, d}
use Rattle.formats.proofs.Checks.{all_append}
use Rattle.formats.proofs.Characters.{length_shown}
use Rattle.formats.proofs.Places.{length_placed}
use Rattle.lines.specs.declared.Line.{Line}
use Rattle.lines.specs.declared.Line.TheVariants.{State}
use Rattle.lines.specs.Line.{bytes_of}
use Rattle.lines.specs.Program.{line_at, put_line}
use Rattle.lines.proofs.Lines.{length_bytes, line_bytes}
use Rattle.lines.proofs.Places.{put_same}
use Rattle.texts.specs.Text.{line_text}
use Rattle.running.specs.declared.Run.{Run}
use Rattle.running.specs.declared.Ran.{Ran}
use Rattle.running.specs.Running.{start, run_due, stopped, begun, with_outputs, most}
use Rattle.running.proofs.Steps.{end_mark}
use Rattle.variables.specs.Variables as Variables
use Rattle.variables.specs.Variables.{with_output_byte}
use Rattle.boxlog.specs.declared.Change.{Change}
use Rattle.special.specs.declared.Mode as M
use Rattle.special.specs.declared.Special.TheVariants.{StartAt, Execute}
use Rattle.special.specs.Special.{forbidden}
use Rattle.wire.specs.declared.Data.{Data}
use Rattle.wire.specs.declared.Data.TheVariants.{WriteLine, WriteOutputs, WriteParameter, WriteSpecial}
use Rattle.wire.specs.declared.Asked.TheVariants.{Write}
use Rattle.wire.proofs.Commands.{line_read_lem, outputs_read, parameter_read, special_read}
use Rattle.formats.specs.Bytes.{are_bytes}
use Rattle.controller.specs.declared.Controller.{Controller}
use Rattle.controller.specs.Controller.{Areas, with_log, with_program, with_run, with_special}
use Rattle.controller.specs.Deeds.{Deed, nothing_run, write, special, start_at, moved}
use Rattle.controller.specs.Refusals.{Call}
use Rattle.controller.specs.Calls.{cause}
use Rattle.controller.proofs.Alterations.{raise_is}
use Rattle.controller.proofs.Wires.{Empty}
use Rattle.demands.specs.Histories.{Held}
use Rattle.demands.specs.Sent.{lent_by}
use Rattle.demands.proofs.History.OfBytes.{placed_bytes}
use Rattle.demands.proofs.History.Changing.{changing}
use Rattle.demands.proofs.Logs.Sending.{Leads, leads_append, Fit}
use Rattle.demands.proofs.Logs.Typed.{is_plain, shown_plain, writing_to, doing, Wrote, sent_write}

-- The box stands ready: no program runs, nothing is collected, and these are the outputs and the ticks taken; its log area has n bytes.
pub record Ready (n w t : ℕ) (h : Held) : Type 0 where
  pub fit : Fit n h
  pub off : h.state.run.on ≡ false
  pub outputs : h.state.run.outputs ≡ w
  pub ticks : h.state.ticks ≡ t
  pub empty : Empty h.state.wire

-- From h, where the changes cs are told, calls lead to a box that stands ready; the changes ds are then told.
pub record Reaches (n : ℕ) (cs : List Change) (h : Held) (ds : List Change) (w t : ℕ) : Type 0 where
  pub calls : List Call
  pub held : Held
  pub leads : Leads cs h calls ds held
  pub ready : Ready n w t held

-- calls after calls
pub reaches_then : {n w t v s : ℕ} {cs ds es : List Change} {h : Held} (r : Reaches n cs h ds w t) → Reaches n ds r.held es v s → Reaches n cs h es v s
reaches_then r q = record { calls = r.calls ++ q.calls; held = q.held; leads = leads_append r.leads q.leads; ready = q.ready }

-- a change from a word to itself is none
no_change : (cs : List Change) (w by at : ℕ) → cs ++ changing w w by at ≡ cs
no_change cs w by at = rw (eq-eqb w w refl) (append-nil cs)

-- A write after which no program runs: the outputs and the cause of the change are those of the state y that it leaves.
module _ {n w t v b : ℕ} {cs : List Change} {h : Held} (r : Ready n w t h) {k : ℕ} {x : Data} (q : Wrote n cs h k x) (y : Controller)
    (does : (doing h q.wire k x).state ≡ y) (off : y.run.on ≡ false) (word : y.run.outputs ≡ v) (ticks : y.ticks ≡ h.state.ticks)
    (by : cause (passed (Write k x)) y.run.line ≡ b) where
  -- the box stands ready again
  wrote_ready : Ready n v t q.held
  wrote_ready =
      let is : q.held.state ≡ with_log q.held.state.log y = q.is ∙ ap (with_log q.held.state.log) does in
      record {
        fit = q.fit;
        off = ap (λ (c : Controller). c.run.on) is ∙ off;
        outputs = ap (λ (c : Controller). c.run.outputs) is ∙ word;
        ticks = ap (λ (c : Controller). c.ticks) is ∙ ticks ∙ r.ticks;
        empty = q.empty;
      }

  -- the change told is from the word before to that after
  wrote_leads : Leads cs h q.calls (cs ++ changing w v b t) q.held
  wrote_leads =
      subst (λ ds. Leads cs h q.calls (cs ++ ds) q.held)
      (ap (λ (c : Controller). changing h.state.run.outputs c.run.outputs (cause (passed (Write k x)) c.run.line) c.ticks) does
      ∙ ap₂ (λ o u. changing o u (cause (passed (Write k x)) y.run.line) y.ticks) r.outputs word ∙ ap₂ (changing w v) by (ticks ∙ r.ticks))
      q.leads

  wrote_reaches : Reaches n cs h (cs ++ changing w v b t) v t
  wrote_reaches = record { calls = q.calls; held = q.held; leads = wrote_leads; ready = wrote_ready }

  -- where the word stays, no change is told
  leads_quietly : w ≡ v → Leads cs h q.calls cs q.held
  leads_quietly same = subst (λ ds. Leads cs h q.calls ds q.held) (ap (λ o. cs ++ changing o v b t) same ∙ no_change cs v b t) wrote_leads

-- ---- the five writes

module _ {n w t : ℕ} {h : Held} (r : Ready n w t h) (cs : List Change) where
  -- an end mark stored in the program
  module _ (k v : ℕ) (inside : k < 200) (fits : v < 256 ^ 4) where
    -- the line on the wire
    mark_plain : all is_plain (line_text (State v 0)) ≡ true
    unfolding line_text text
    mark_plain =
        all_append is_plain (shown 16 8 v) (shown 10 4 0) (shown_plain 16 8 v (omega arith) (omega arith)) (shown_plain 10 4 0 (omega arith) (omega arith))

    mark_short : length (line_text (State v 0)) ≤ 27
    unfolding line_text text
    mark_short = simp (length-append, length_shown) (omega arith)

    -- the program area afterwards
    stored_long : length (put_line k (State v 0) h.program) ≡ 1600
    stored_long = length_placed 8 k (bytes_of (State v 0)) h.program (length_bytes (State v 0)) (omega (arith, r.fit.program)) ∙ r.fit.program

    stored_bytes : are_bytes (put_line k (State v 0) h.program) ≡ true
    stored_bytes = placed_bytes 8 k (bytes_of (State v 0)) h.program (line_bytes (State v 0) (record { range = omega arith })) r.fit.program_bytes

    -- it is sent
    stored : Wrote n cs h k (WriteLine (State v 0))
    unfolding write
    stored =
        sent_write r.fit r.off r.empty k (rw (le-leb k 200 (omega arith))) (line_text (State v 0)) mark_plain mark_short
        (WriteLine (State v 0)) (line_read_lem M.TheVariants.Stop h.state.panel.parameter k (State v 0) (omega arith) (fits, omega arith)) cs
        (rw (ne_eqb k 200 (λ e. omega arith)) stored_long) (rw (ne_eqb k 200 (λ e. omega arith)) stored_bytes)

  -- the parameter set
  named : (v : ℕ) → v ≤ 255 → Wrote n cs h 209 (WriteParameter v)
  unfolding write
  named v le =
      sent_write r.fit r.off r.empty 209 refl (d v) (shown_plain 10 3 v (omega arith) (omega arith))
      (rw (length_shown 10 3 v) (omega arith)) (WriteParameter v) (parameter_read M.TheVariants.Stop h.state.panel.parameter v le) cs
      r.fit.program r.fit.program_bytes

  -- eight outputs set
  switched : (k x : ℕ) → 203 ≤ k → k ≤ 206 → x < 256 → Wrote n cs h k (WriteOutputs x)
  unfolding write
  switched k x lo hi lt =
      sent_write r.fit r.off r.empty k
      (rw (lt-leb k 200 (omega arith), le-leb 203 k lo, le-leb k 206 hi)) (in_hex x) (shown_plain 16 2 x (omega arith) (omega arith))
      (rw (length_shown 16 2 x) (omega arith)) (WriteOutputs x) (outputs_read M.TheVariants.Stop h.state.panel.parameter k x lo hi lt)
      cs r.fit.program r.fit.program_bytes

  -- 005 and 006
  started : h.state.panel.parameter ≤ 199 → Wrote n cs h 210 (WriteSpecial StartAt)
  unfolding write special start_at moved forbidden
  started le =
      sent_write r.fit r.off r.empty 210 refl (d 5) (shown_plain 10 3 5 (omega arith) (omega arith))
      (rw (length_shown 10 3 5) (omega arith)) (WriteSpecial StartAt)
      (special_read M.TheVariants.Stop h.state.panel.parameter StartAt (record { may = refl; reaches = le-leb h.state.panel.parameter 199 le }))
      cs r.fit.program r.fit.program_bytes

  executed : h.state.panel.parameter ≤ 200 → Wrote n cs h 210 (WriteSpecial Execute)
  unfolding write special forbidden
  executed le =
      sent_write r.fit r.off r.empty 210 refl (d 6) (shown_plain 10 3 6 (omega arith) (omega arith))
      (rw (length_shown 10 3 6) (omega arith)) (WriteSpecial Execute)
      (special_read M.TheVariants.Stop h.state.panel.parameter Execute (record { may = refl; reaches = le-leb h.state.panel.parameter 200 le }))
      cs r.fit.program r.fit.program_bytes

-- ---- the outputs set by a program's end mark, by 006, and by a write to 203-206

-- a program that comes to an end mark sets its outputs and stops there
ends_there : (p : List ℕ) (r : Run) (v : ℕ) → line_at p r.line ≡ State v 0 → (left n : ℕ) → (run_due p left n r).run ≡ stopped (with_outputs v r)
ends_there p r v line left n = ap (λ (x : Ran). x.run) (end_mark p r v line left n)

-- so does 005 where the parameter names one, and 006, which leaves the rest of the run
module _ (c : Controller) (a : Areas) (v : ℕ) (line : line_at a.program c.panel.parameter ≡ State v 0) where
  start_done : (special StartAt c a).state.run ≡ stopped (with_outputs v (begun c.panel.parameter c.run.outputs))
  unfolding special start_at moved start
  start_done = rw raise_is (ends_there a.program (begun c.panel.parameter c.run.outputs) v line most 0)

  start_ticks : (special StartAt c a).state.ticks ≡ c.ticks
  unfolding special start_at moved
  start_ticks = rw raise_is

  execute_done : c.panel.parameter < 200 → (special Execute c a).state ≡ with_run (with_outputs v c.run) c
  unfolding special Variables.line_of
  execute_done lt = rw (ne_eqb c.panel.parameter 200 (λ e. omega arith), line)

-- a line written below 200 alters the program alone
line_done : (k : ℕ) (l : Line) (c : Controller) (a : Areas) → k < 200 → write k (WriteLine l) c a ≡ nothing_run c (with_program (put_line k l a.program) a)
unfolding write
line_done k l c a lt = rw (ne_eqb k 200 (λ e. omega arith))

-- An end mark is stored at line k, and the parameter names it.
record Marked (n w t k v : ℕ) (cs : List Change) (h : Held) : Type 0 where
  calls : List Call
  held : Held
  leads : Leads cs h calls cs held
  ready : Ready n w t held
  line : line_at held.program k ≡ State v 0
  parameter : held.state.panel.parameter ≡ k

module _ {n w t : ℕ} {h : Held} (r : Ready n w t h) (cs : List Change) (k v : ℕ) (inside : k < 200) (fits : v < 256 ^ 4) where
  -- first the end mark is sent
  first : Wrote n cs h k (WriteLine (State v 0))
  first = stored r cs k v inside fits

  first_done : doing h first.wire k (WriteLine (State v 0))
      ≡ nothing_run (writing_to h first.wire k) (with_program (put_line k (State v 0) h.program) (lent_by h))
  first_done = line_done k (State v 0) _ _ inside

  first_ready : Ready n w t first.held
  first_ready = wrote_ready r first _ (ap (λ (x : Deed). x.state) first_done) r.off r.outputs refl refl

  first_leads : Leads cs h first.calls cs first.held
  first_leads = leads_quietly r first _ (ap (λ (x : Deed). x.state) first_done) r.off r.outputs refl refl refl

  first_line : line_at first.held.program k ≡ State v 0
  first_line =
      ap (λ p. line_at p k) (first.program ∙ ap (λ (x : Deed). x.areas.program) first_done)
      ∙ put_same k (State v 0) h.program (omega (arith, r.fit.program)) (fits, omega arith)

  -- then the parameter
  second : Wrote n cs first.held 209 (WriteParameter k)
  second = named first_ready cs k (omega arith)

  second_ready : Ready n w t second.held
  unfolding write
  second_ready = wrote_ready first_ready second _ refl first_ready.off first_ready.outputs refl refl

  second_leads : Leads cs first.held second.calls cs second.held
  unfolding write
  second_leads = leads_quietly first_ready second _ refl first_ready.off first_ready.outputs refl refl refl

  -- so the line is marked
  marked : Marked n w t k v cs h
  unfolding write
  marked =
      record {
        calls = first.calls ++ second.calls;
        held = second.held;
        leads = leads_append first_leads second_leads;
        ready = second_ready;
        line = ap (λ p. line_at p k) second.program ∙ first_line;
        parameter = ap (λ (c : Controller). c.panel.parameter) second.is;
      }

  abbrev third : Held
  third = marked.held

  -- the line that the parameter then names
  third_line : line_at third.program third.state.panel.parameter ≡ State v 0
  third_line = ap (line_at third.program) marked.parameter ∙ marked.line

  -- 005 there: the cause is the line
  last_start : Wrote n cs third 210 (WriteSpecial StartAt)
  last_start = started marked.ready cs (omega (arith, marked.parameter))

  pub by_line_lem : Reaches n cs h (cs ++ changing w v k t) v t
  unfolding write stopped
  by_line_lem =
      let c = with_special 5 (writing_to third last_start.wire 210) in
      let run = start_done c (lent_by third) v third_line in
      let r = wrote_reaches marked.ready last_start _ refl (ap (λ (x : Run). x.on) run) (ap (λ (x : Run). x.outputs) run)
      (start_ticks c (lent_by third) v third_line) (ap (λ (x : Run). x.line) run ∙ marked.parameter) in
      record { calls = marked.calls ++ r.calls; held = r.held; leads = leads_append marked.leads r.leads; ready = r.ready }

  -- 006 there: the cause is 254
  last_execution : Wrote n cs third 210 (WriteSpecial Execute)
  last_execution = executed marked.ready cs (omega (arith, marked.parameter))

  pub by_execution : Reaches n cs h (cs ++ changing w v 254 t) v t
  unfolding write
  by_execution =
      let c = with_special 6 (writing_to third last_execution.wire 210) in
      let r = wrote_reaches marked.ready last_execution (with_run (with_outputs v third.state.run) c)
      (execute_done c (lent_by third) v third_line (omega (arith, marked.parameter))) marked.ready.off refl refl refl in
      record { calls = marked.calls ++ r.calls; held = r.held; leads = leads_append marked.leads r.leads; ready = r.ready }

-- a write to 203-206: the cause is 255
pub by_write : {n w t : ℕ} {h : Held} → Ready n w t h → (cs : List Change) (k x : ℕ) → 203 ≤ k → k ≤ 206 → x < 256
    → let v = with_output_byte k x w in Reaches n cs h (cs ++ changing w v 255 t) v t
unfolding write
by_write {h} r cs k x lo hi lt =
    wrote_reaches r (switched r cs k x lo hi lt) _ refl r.off (ap (with_output_byte k x) r.outputs) refl refl
