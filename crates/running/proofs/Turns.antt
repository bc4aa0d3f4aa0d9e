-- The lines of one call, line by line.
-- Assumes nothing.
use Prim.Native.Nat.{ℕ, zero, suc, ◌+◌, ◌-◌, ◌≤◌, ◌<◌}
use native.Mathlib.Omega.{arith}
use mathlib.Core.Path.{◌≡◌, refl, sym, ap, subst, ◌∙◌}
use mathlib.Core.Bool.{Bool, true, false, true≢false}
use mathlib.Core.List.{List, []}
use lib.ListN.{set}
use lib.Seq.{set-get_or}
use Rattle.lines.specs.declared.Line.{Line}
use Rattle.lines.specs.declared.Line.TheVariants.{State, For, Next, Bad}
use Rattle.std.specs.Prelude.{Some}
use Rattle.std.proofs.lemmas.Option.{none-some}
use Rattle.std.specs.Option.{is_some, unwrap_or}
use Rattle.lines.specs.Line.{OneToFour, counter_of, counter_in}
use Rattle.lines.specs.Program.{line_at}
use Rattle.lines.proofs.Lines.{Ranged}
use Rattle.lines.proofs.Places.{line_ranged}
use Rattle.running.specs.declared.Counter.{Counter}
use Rattle.running.specs.declared.Run.{Run}
use Rattle.running.specs.declared.How.{How}
use Rattle.running.specs.declared.How.TheVariants.{Holds, Ends, GoesOn}
use Rattle.running.specs.declared.Step.{Step}
use Rattle.running.specs.declared.Turn.{Turn}
use Rattle.running.specs.Running.{free, counter, ends, onward, tick, run_line, is_for_or_next, stops, rests, follow, step, run_due}
use Rattle.running.specs.Turn.{turned, Leads}
use Rattle.running.specs.Moments.{last_due}
use Rattle.running.specs.Due.{freed}
use Rattle.running.proofs.Ways.{onward_ways, state_ways, for_ways, next_ways}
use Rattle.running.proofs.Invariant.{Going, onward_going, step_going}
use Rattle.running.proofs.Waiting.{due_at}
use Rattle.running.proofs.LastDue as LastDue
use Rattle.running.proofs.Freeing.{freed_ends, some_event, busy_stays}
use Rattle.running.proofs.Steps.{bad_line, loop_counts, loop_over}

-- ---- the counters that lines name

-- a line that names a counter is counted, and no other
pub is_counted : (l : Line) → is_some (counter_in l) ≡ true → is_for_or_next l ≡ true
is_counted (State o t) e = e
is_counted (For c n) e = refl
is_counted (Next c) e = refl
is_counted Bad e = e

pub not_counted : (l : Line) → is_some (counter_in l) ≡ false → is_for_or_next l ≡ false
not_counted (State o t) e = refl
not_counted (For c n) e = e
not_counted (Next c) e = e
not_counted Bad e = refl

-- it names this one
pub named : (l : Line) {c : ℕ} → counter_in l ≡ Some c → c ≡ counter_of l
named (State o t) e = absurd (none-some _ e)
named (For d n) {c} e = sym (ap (λ x. unwrap_or x c) e)
named (Next d) {c} e = sym (ap (λ x. unwrap_or x c) e)
named Bad e = absurd (none-some _ e)

-- one of the four, if it stands in a program
pub named_few : (p : List ℕ) (k : ℕ) {l : Line} {c : ℕ} → l ≡ line_at p k → counter_in l ≡ Some c → OneToFour c
named_few p k {l} due is = few l (rw due (line_ranged p k)) is
  where
    few : (m : Line) {d : ℕ} → Ranged m → counter_in m ≡ Some d → OneToFour d
    few (State o t) q e = absurd (none-some _ e)
    few (For c n) q e = subst OneToFour (sym (named (For c n) e)) q.range.0
    few (Next c) q e = subst OneToFour (sym (named (Next c) e)) q.range
    few Bad q e = absurd (none-some _ e)

-- ---- one line of a call

-- a counter set to what it holds
pub unchanged : (c : ℕ) (r : Run) {held : Counter} → counter r c ≡ held → set r.counters (c - 1) held ≡ r.counters
unchanged c r is = rw (sym is, set-get_or r.counters (c - 1) free)

-- a turn that ends the program where it is, and leaves its counter
pub stays : (c : ℕ) (r : Run) {k e : ℕ} {held : Counter} → r.line ≡ k → counter r c ≡ held
    → turned c (record { held = held; line = k; how = Ends e }) r ≡ ends e r
stays c r at is = rw (sym at, unchanged c r is)

-- a counted line that is no For is a Next, which goes by its counter alone
pub other_next : (p : List ℕ) (l : Line) {k : ℕ} {held : Counter} {t : Turn} → is_for_or_next l ≡ true → ((c n : ℕ) → l ≡ For c n → ⊥)
    → ((c : ℕ) → Leads [] (Next c) k held t) → Leads p l k held t
unfolding run_line
other_next p (State o t) counts other leads = absurd (true≢false (sym counts))
other_next p (For c n) counts other leads = absurd (other c n refl)
other_next p (Next c) counts other leads = leads c
other_next p Bad counts other leads = absurd (true≢false (sym counts))

-- a For or a Next is never held
abbrev is_holds : How → Bool
is_holds Holds = true
is_holds (Ends e) = false
is_holds GoesOn = false

-- it does not end the program
abbrev pub NoEnd : How → Type 0
NoEnd h = (e : ℕ) → h ≡ Ends e → ⊥

abbrev NotHeld : Step → Type 0
NotHeld s = is_holds s.how ≡ false

onward_never : (r : Run) → NotHeld (onward r)
onward_never r = onward_ways NotHeld r (λ _. refl) (λ _. refl)

never_holds : (p : List ℕ) (l : Line) (r : Run) → is_for_or_next l ≡ true → NotHeld (run_line p l r)
never_holds p (State o t) r counts = absurd (true≢false (sym counts))
never_holds p (For c n) r counts = for_ways NotHeld p r c n (λ _. refl) (λ _ _. refl) (λ _ _ _. onward_never _) (λ _ _ _. onward_never _)
never_holds p (Next c) r counts = next_ways NotHeld p r c (λ _. refl) (λ _. refl) (λ _. onward_never _)
never_holds p Bad r counts = absurd (true≢false (sym counts))

-- so it goes on where it does not end
going_on : (h : How) → is_holds h ≡ false → NoEnd h → h ≡ GoesOn
going_on Holds never ends = absurd (true≢false never)
going_on (Ends e) never ends = absurd (ends e refl)
going_on GoesOn never ends = refl

-- Line l, which names counter c, is due after n counted ones, and leads to the turn t.
module _ (p : List ℕ) (r : Run) (n : ℕ) (l : Line) (c : ℕ) (t : Turn)
    (lt : n < 400) (due : l ≡ line_at p r.line) (names : counter_in l ≡ Some c) (leads : Leads p l r.line (counter r c) t) where
  counts : is_for_or_next l ≡ true
  counts = is_counted l (ap is_some names)

  is : turned c t r ≡ run_line p l r
  is = let e = named l names in ap (λ d. turned d t r) e ∙ leads r refl (ap (counter r) (sym e))

  is_step : turned c t r ≡ step p r
  unfolding step
  is_step = is ∙ ap (λ m. run_line p m r) due

  turn : run_due p (400 - n) n r ≡ follow t.how (n + 1) (turned c t r).run (λ x. run_due p (400 - (n + 1)) (n + 1) x)
  turn =
      let e : 400 - n ≡ suc (400 - (n + 1)) = omega arith in
      rw e (loop_counts p r (ap is_for_or_next (sym due) ∙ counts) (400 - (n + 1)) n
      ∙ ap (λ (s : Step). follow s.how (n + 1) s.run (λ x. run_due p (400 - (n + 1)) (n + 1) x)) (sym is_step))

  -- it ends the program, and counts,
  pub due_ends : {e : ℕ} → t.how ≡ Ends e → stops e (n + 1) (turned c t r).run ≡ run_due p (400 - n) n r
  due_ends w = sym (turn ∙ simp w)

  -- or what is left to run after it is what was left before it,
  pub due_goes_on : NoEnd t.how
      → run_due p (400 - n) n r ≡ run_due p (400 - (n + 1)) (n + 1) (turned c t r).run
  due_goes_on g =
      turn ∙ simp (going_on t.how (ap (λ (s : Step). is_holds s.how) is ∙ never_holds p l r counts) g)

  how_is : {h : How} → t.how ≡ h → (step p r).how ≡ h
  how_is w = ap (λ (s : Step). s.how) (sym is_step) ∙ w

  -- what it leaves before the loops are freed, where it ends the program
  pub due_left : {e : ℕ} → t.how ≡ Ends e → freed (record { run = (turned c t r).run; event = e; lines = n + 1 }) ≡ run_due p (400 - n) n r
  due_left w = freed_ends _ (some_event p r (how_is w)) ∙ due_ends w

  -- with 006 that is the last moment of the call;
  pub last_busy : {e : ℕ} → t.how ≡ Ends e → e ≡ 6 → (turned c t r).run ≡ last_due p (400 - n) r
  last_busy w six =
      ap (λ (s : Step). s.run) is_step ∙ busy_stays p r (how_is w) six ∙ sym (LastDue.last_ends p (400 - n) r (how_is w))

  -- where it goes on, that is what it is from the next line on,
  pub last_further : NoEnd t.how → last_due p (400 - n) r ≡ last_due p (400 - (n + 1)) (turned c t r).run
  last_further g =
      let e : 400 - n ≡ suc (400 - (n + 1)) = omega arith in
      let how = going_on t.how (ap (λ (s : Step). is_holds s.how) is ∙ never_holds p l r counts) g in
      ap (λ i. last_due p i r) e ∙ LastDue.last_goes p (400 - (n + 1)) r (how_is how)
      ∙ ap (λ (s : Step). last_due p (400 - (n + 1)) s.run) (sym is_step)

  -- and the run goes on
  pub due_going : Going r → Going (turned c t r).run
  due_going g = rw (sym is_step) at (step_going p r g).going

-- ---- the last line of a call

module _ (p : List ℕ) (r : Run) (n : ℕ) where
  last_left : (l : Line) → line_at p r.line ≡ l → is_for_or_next l ≡ false → (left : ℕ) → run_due p 0 n r ≡ run_due p (suc left) n r
  unfolding run_due step
  last_left (State o t) due plain left =
      let none : n + 0 ≡ n = omega arith in
      rw (due, none)
      (state_ways (λ (s : Step). follow s.how n s.run (λ x. rests n x) ≡ follow s.how n s.run (λ x. run_due p left n x)) p r o t
      (λ _. refl) (λ _. refl))
  last_left (For c m) due plain left = absurd (true≢false plain)
  last_left (Next c) due plain left = absurd (true≢false plain)
  last_left Bad due plain left = bad_line p r due 0 n ∙ sym (bad_line p r due (suc left) n)

  -- at a line that is not counted a call ends: how many more may be run does not matter
  pub none_left : {l : Line} → l ≡ line_at p r.line → is_some (counter_in l) ≡ false → (left : ℕ) → run_due p 0 n r ≡ run_due p left n r
  none_left due none zero = refl
  none_left {l} due none (suc left) = last_left l (sym due) (not_counted l none) left

-- when 400 were run none is left
pub all_counted : (p : List ℕ) (r : Run) (n : ℕ) → 400 ≤ n → run_due p 0 n r ≡ run_due p (400 - n) n r
all_counted p r n le = let z : 400 - n ≡ 0 = omega arith in rw z

-- a line that is neither Bad nor State is counted
-- a line that is neither a State nor Bad
other_counted : (l : Line) → ((o t : ℕ) → l ≡ State o t → ⊥) → (l ≡ Bad → ⊥) → is_for_or_next l ≡ true
other_counted (State o t) state bad = absurd (state o t refl)
other_counted (For c m) state bad = refl
other_counted (Next c) state bad = refl
other_counted Bad state bad = absurd (bad refl)

-- the line that is due when no more may be counted
module _ (p : List ℕ) (r : Run) (n : ℕ) (l : Line) (due : l ≡ line_at p r.line) where
  pub last_bad : l ≡ Bad → stops 14 n r ≡ run_due p 0 n r
  last_bad is = sym (bad_line p r (sym due ∙ is) 0 n)

  pub last_stops : ((o t : ℕ) → l ≡ State o t → ⊥) → (l ≡ Bad → ⊥) → stops 13 n r ≡ run_due p 0 n r
  last_stops state bad = sym (loop_over p r (ap is_for_or_next (sym due) ∙ other_counted l state bad) n)

  module _ {o t : ℕ} (state : l ≡ State o t) (s : Step) (is : s ≡ run_line [] (State o t) r) where
    last : run_due p 0 n r ≡ follow s.how n s.run (λ x. rests n x)
    unfolding run_due step run_line
    last = let e = sym due ∙ state in rw (e, is)

    pub last_ends : {e : ℕ} → s.how ≡ Ends e → stops e n s.run ≡ run_due p 0 n r
    last_ends w = sym (last ∙ simp w)

    pub last_rests : NoEnd s.how → rests n s.run ≡ run_due p 0 n r
    last_rests none = sym (last ∙ rest s.how none)
      where
        rest : (h : How) → NoEnd h → follow h n s.run (λ x. rests n x) ≡ rests n s.run
        rest Holds none = refl
        rest (Ends e) none = absurd (none e refl)
        rest GoesOn none = refl

-- ---- a tick on which the line falls due

module _ (p : List ℕ) (r : Run) (s : Step) (on : r.on ≡ true) (le : r.wait ≤ 1) (is : s ≡ onward r) where
  tick_goes : tick p r ≡ follow s.how 0 s.run (λ x. run_due p 400 0 x)
  tick_goes = due_at p r on le ∙ rw is

  pub tick_ends : {e : ℕ} → s.how ≡ Ends e → stops e 0 s.run ≡ tick p r
  tick_ends w = sym (tick_goes ∙ simp w)

  pub tick_runs : NoEnd s.how → run_due p 400 0 s.run ≡ tick p r
  tick_runs none = let w = going_on s.how (rw is (onward_never r)) none in sym (tick_goes ∙ simp w)

  pub tick_going : Going r → Going s.run
  tick_going g = rw is (onward_going r g).going
