-- A start or a tick runs at most 400 For and Next lines, it raises an event exactly if it ends the program, and 011 and 014 say at what line.
-- Assumes nothing.
use Prim.Native.Nat.{ℕ, zero, suc, ◌+◌, ◌≤◌}
use native.Mathlib.Omega.{arith}
use native.Mathlib.Nat.{le_trans}
use mathlib.Core.Path.{◌≡◌, refl, sym, subst, ◌∙◌}
use mathlib.Core.Logic.{◌≢◌}
use mathlib.Core.Bool.{true, false, not, true≢false}
use mathlib.Core.List.{List}
use Rattle.formats.proofs.Checks.{if_case}
use Rattle.lines.specs.declared.Line.{Line}
use Rattle.lines.specs.declared.Line.TheVariants.{State, For, Next, Bad}
use Rattle.lines.specs.Program.{line_at}
use Rattle.running.specs.declared.Run.{Run}
use Rattle.running.specs.declared.How.{How}
use Rattle.running.specs.declared.How.TheVariants.{Holds, Ends, GoesOn}
use Rattle.running.specs.declared.Step.{Step}
use Rattle.running.specs.declared.Ran.{Ran}
use Rattle.running.specs.Running.{all_free, stopped, holds, ends, onward, run_line, is_for_or_next}
use Rattle.running.specs.Running.{counted, stops, rests, is_held, follow, step, run_due, most, start, tick}
use Rattle.running.specs.Ended.{Ended}
use Rattle.running.proofs.Causes.{Way, is_held as held, has_ended as ended, goes_on as goes, step_way, other_end, line_says}
use Rattle.running.proofs.Ways.{onward_ways, state_ways, for_ways, next_ways, bad_way}

-- ---- at most 400 lines

follow_lines : (b : ℕ) (h : How) (n : ℕ) (r : Run) (go : Run → Ran) → n ≤ b → ((s : Run) → (go s).lines ≤ b) → (follow h n r go).lines ≤ b
follow_lines b Holds n r go le k = le
follow_lines b (Ends e) n r go le k = le
follow_lines b GoesOn n r go le k = k r

counted_one : (l : Line) → counted l ≤ 1
counted_one (State o t) = omega arith
counted_one (For c n) = omega arith
counted_one (Next c) = omega arith
counted_one Bad = omega arith

due_lines : (p : List ℕ) (left n : ℕ) (r : Run) → (run_due p left n r).lines ≤ n + left
unfolding run_due
due_lines p zero n r =
    if_case (λ (x : Ran). x.lines ≤ n + 0) (is_for_or_next (line_at p r.line)) (λ _. omega arith)
    (λ _. follow_lines (n + 0) (step p r).how n (step p r).run _ (omega arith) (λ s. omega arith))
due_lines p (suc left) n r =
    let one : counted (line_at p r.line) ≤ 1 = counted_one (line_at p r.line) in
    follow_lines (n + suc left) (step p r).how _ (step p r).run _ (omega arith) (λ s. le_trans (due_lines p left _ s) (omega arith))

pub start_lines : (p : List ℕ) (k o : ℕ) → (start p k o).lines ≤ 400
unfolding start
start_lines p k o = omega (arith, due_lines p most 0 (record { on = true; line = k; outputs = o; wait = 0; counters = all_free }))

pub tick_lines : (p : List ℕ) (r : Run) → (tick p r).lines ≤ 400
unfolding tick
tick_lines p r =
    if_case (λ (x : Ran). x.lines ≤ 400) (not r.on) (λ _. omega arith) λ _.
    if_case (λ (x : Ran). x.lines ≤ 400) (is_held r) (λ _. omega arith) λ _.
    follow_lines 400 (onward r).how 0 (onward r).run _ (omega arith) (λ s. omega (arith, due_lines p most 0 s))

-- ---- an event exactly at the end

-- it goes on with no event, or it has ended with one
pub data Told (x : Ran) : Type 0 where
  goes_on : x.run.on ≡ true → x.event ≡ 0 → Told x
  has_ended : x.run.on ≡ false → x.event ≢ 0 → Told x

-- a line leaves the program running, and ends it only with an event
record Tells (s : Step) : Type 0 where
  running : s.run.on ≡ true
  event : (e : ℕ) → s.how ≡ Ends e → e ≢ 0

ends_tell : (e : ℕ) (r : Run) → r.on ≡ true → e ≢ 0 → Tells (ends e r)
ends_tell e r on ne = record { running = on; event = λ f h z. ne (same h ∙ z) }
  where
    same : {f : ℕ} → Ends e ≡ Ends f → e ≡ f
    same h = cc

not_ends : {h : How} {e : ℕ} → h ≡ Ends e → h ≡ Holds → ⊥
not_ends p q = let z : ◌≡◌ {A = ℕ} 0 1 = cc in omega arith

not_ends' : {h : How} {e : ℕ} → h ≡ Ends e → h ≡ GoesOn → ⊥
not_ends' p q = let z : ◌≡◌ {A = ℕ} 0 1 = cc in omega arith

holds_tell : (r : Run) → r.on ≡ true → Tells (holds r)
holds_tell r on = record { running = on; event = λ e h z. not_ends h refl }

goes_tell : (s : Step) → s.run.on ≡ true → s.how ≡ GoesOn → Tells s
goes_tell s on g = record { running = on; event = λ e h z. not_ends' h g }

onward_tell : (r : Run) → r.on ≡ true → Tells (onward r)
onward_tell r on = onward_ways Tells r (λ _. goes_tell _ on refl) (λ _. ends_tell 9 r on (omega arith))

line_tell : (p : List ℕ) (l : Line) (r : Run) → r.on ≡ true → Tells (run_line p l r)
line_tell p (State o t) r on = state_ways Tells p r o t (λ _. holds_tell _ on) (λ _. ends_tell 11 _ on (omega arith))
line_tell p (For c n) r on =
    for_ways Tells p r c n
    (λ _. ends_tell 6 r on (omega arith))
    (λ _ _. ends_tell 7 r on (omega arith))
    (λ _ _ _. onward_tell _ on)
    (λ _ _ _. onward_tell _ on)
line_tell p (Next c) r on = next_ways Tells p r c (λ _. ends_tell 8 r on (omega arith)) (λ _. goes_tell _ on refl) (λ _. onward_tell _ on)
line_tell p Bad r on = bad_way Tells p r (ends_tell 14 r on (omega arith))

step_tell : (p : List ℕ) (r : Run) → r.on ≡ true → Tells (step p r)
unfolding step
step_tell p r on = line_tell p (line_at p r.line) r on

-- a line that ends nothing leaves the program running
pub step_runs : (p : List ℕ) (r : Run) → r.on ≡ true → (step p r).run.on ≡ true
step_runs p r on = (step_tell p r on).running

stops_told : (e n : ℕ) (r : Run) → e ≢ 0 → Told (stops e n r)
unfolding stopped
stops_told e n r ne = has_ended refl ne

follow_told : (h : How) (n : ℕ) (r : Run) (go : Run → Ran) → r.on ≡ true → ((e : ℕ) → h ≡ Ends e → e ≢ 0)
    → ((s : Run) → s.on ≡ true → Told (go s)) → Told (follow h n r go)
follow_told Holds n r go on ev k = goes_on on refl
follow_told (Ends e) n r go on ev k = stops_told e n r (ev e refl)
follow_told GoesOn n r go on ev k = k r on

due_told : (p : List ℕ) (left n : ℕ) (r : Run) → r.on ≡ true → Told (run_due p left n r)
unfolding run_due
due_told p zero n r on =
    let t = step_tell p r on in
    if_case Told (is_for_or_next (line_at p r.line)) (λ _. stops_told 13 n r (omega arith))
    (λ _. follow_told (step p r).how n (step p r).run _ t.running t.event (λ s k. goes_on k refl))
due_told p (suc left) n r on =
    let t = step_tell p r on in
    follow_told (step p r).how _ (step p r).run _ t.running t.event (λ s k. due_told p left _ s k)

-- A start that does not end in its own call raises no event; one that ends raises one.
pub start_told : (p : List ℕ) (k o : ℕ) → Told (start p k o)
unfolding start
start_told p k o = due_told p most 0 _ refl

-- The same of a tick of a running program.
pub tick_told : (p : List ℕ) (r : Run) → r.on ≡ true → Told (tick p r)
unfolding tick
tick_told p r on =
    if_case Told (not r.on) (λ e. absurd (true≢false (sym (rw on at e)))) λ _.
    if_case Told (is_held r) (λ _. goes_on on refl) λ _.
    let t = onward_tell r on in
    follow_told (onward r).how 0 (onward r).run _ t.running t.event (λ s k. due_told p most 0 s k)

-- ---- what an end says of the line at which it came

-- of one line: if it ends the program, so it ended
abbrev EndsSo : List ℕ → Step → Type 0
EndsSo p s = (e : ℕ) → s.how ≡ Ends e → Ended p e s.run

ends_so : (p : List ℕ) (e : ℕ) (r : Run) → Ended p e r → EndsSo p (ends e r)
ends_so p e r h f is = let same : e ≡ f = cc in rw same at h

way_ends : (p : List ℕ) (r : Run) (s : Step) → Way p r s → EndsSo p s
way_ends p r s (held _ _ is) = subst (EndsSo p) (sym is) (λ e h. absurd (not_ends h refl))
way_ends p r s (ended e u why is) = subst (EndsSo p) (sym is) (ends_so p e u (line_says p r why))
way_ends p r s (goes loop how) = λ e h. absurd (not_ends' h how)

step_ends : (p : List ℕ) (r : Run) → EndsSo p (step p r)
step_ends p r = way_ends p r (step p r) (step_way p r)

onward_ends : (p : List ℕ) (r : Run) → EndsSo p (onward r)
onward_ends p r =
    onward_ways (EndsSo p) r (λ _ e is. absurd (not_ends' is refl)) (λ _. ends_so p 9 r (other_end p r r (omega arith) (λ z. omega arith) (λ z. omega arith)))

-- a call
abbrev pub EndsAsItSays : List ℕ → Ran → Type 0
EndsAsItSays p x = Ended p x.event x.run

no_end : (p : List ℕ) (n : ℕ) (r : Run) → EndsAsItSays p (rests n r)
no_end p n r = record { known = omega arith; well = λ z. absurd (omega arith); badly = λ z. absurd (omega arith) }

stopped_ends : (p : List ℕ) (e n : ℕ) (r : Run) → Ended p e r → EndsAsItSays p (stops e n r)
unfolding stopped
stopped_ends p e n r h = record { known = h.known; well = h.well; badly = h.badly }

follow_ends : (p : List ℕ) (h : How) (n : ℕ) (r : Run) (go : Run → Ran) → ((e : ℕ) → h ≡ Ends e → Ended p e r) → ((s : Run) → EndsAsItSays p (go s))
    → EndsAsItSays p (follow h n r go)
follow_ends p Holds n r go ends k = no_end p n r
follow_ends p (Ends e) n r go ends k = stopped_ends p e n r (ends e refl)
follow_ends p GoesOn n r go ends k = k r

due_ends_so : (p : List ℕ) (left n : ℕ) (r : Run) → EndsAsItSays p (run_due p left n r)
unfolding run_due
due_ends_so p zero n r =
    if_case (EndsAsItSays p) (is_for_or_next (line_at p r.line))
    (λ _. stopped_ends p 13 n r (other_end p r r (omega arith) (λ z. omega arith) (λ z. omega arith)))
    (λ _. follow_ends p (step p r).how n (step p r).run _ (step_ends p r) (λ s. no_end p n s))
due_ends_so p (suc left) n r = follow_ends p (step p r).how _ (step p r).run _ (step_ends p r) (λ s. due_ends_so p left _ s)

-- A start and a tick that end with 011 end at an end mark, and with 014 at a Bad line.
pub start_ends : (p : List ℕ) (k o : ℕ) → EndsAsItSays p (start p k o)
unfolding start
start_ends p k o = due_ends_so p most 0 _

pub tick_ends_so : (p : List ℕ) (r : Run) → EndsAsItSays p (tick p r)
unfolding tick
tick_ends_so p r =
    if_case (EndsAsItSays p) (not r.on) (λ _. no_end p 0 r) λ _.
    if_case (EndsAsItSays p) (is_held r) (λ _. no_end p 0 _) λ _.
    follow_ends p (onward r).how 0 (onward r).run _ (onward_ends p r) (λ s. due_ends_so p most 0 s)
