-- Where a program comes to, tick by tick: while it runs it holds a State line of one of its moments, and it ends for a cause.
-- Assumes nothing.
use Prim.Native.Nat.{ℕ, zero, suc, ◌+◌, ◌-◌, ◌≤◌, ◌<◌}
use native.Mathlib.Omega.{arith}
use mathlib.Core.Path.{◌≡◌, refl, sym, ap, subst, ◌∙◌}
use mathlib.Core.Bool.{Bool, true, false, true≢false}
use mathlib.Core.List.{List, ◌∷◌, ◌++◌}
use lib.Dec.{ltb}
use borrow.Author.Tests.{ltb-true, ltb-false}
use Rattle.formats.proofs.Checks.{if_case}
use Rattle.lines.specs.declared.Line.TheVariants.{State}
use Rattle.lines.specs.Program.{line_at}
use Rattle.running.specs.declared.Run.{Run}
use Rattle.running.specs.declared.Ran.{Ran}
use Rattle.running.specs.Running.{begun, with_outputs, waiting, stopped, onward, is_for_or_next, stops, rests, follow, step, run_due, most, start, tick}
use Rattle.running.specs.Ticking.{after, EndsAfter}
use Rattle.running.specs.Gone.{behind, goes, waits, Gone, begins, further}
use Rattle.running.specs.Moments.{Moment, AnyMoment, Within, here, on, Cause, by_line, over, Stops, Holding, StopsAfter, past199, behind_it}
use Rattle.running.proofs.Waiting.{tick_before, tick_off, due_at}
use Rattle.running.proofs.Invariant.{Going, step_going}
use Rattle.running.proofs.Causes.{Way, is_held, has_ended, goes_on, step_way}
use Rattle.running.proofs.Ending.{step_runs}
use Rattle.running.proofs.Reaching.{after_one_more}
use Rattle.running.proofs.Gone.{first_moment, gone_within}

-- ---- one call

-- what the call in which r falls due did: the State line of s is held, or the program ended at s
data Came (p : List ℕ) (r : Run) (x : Ran) : Type 0 where
  held : {o t i : ℕ} (s : Run) (n : ℕ) → Within p r i s → i ≤ 400 → line_at p s.line ≡ State o t → 0 < t
      → x ≡ rests n (waiting t (with_outputs o s)) → Came p r x
  ended : {i : ℕ} (s u : Run) (e n : ℕ) → Within p r i s → i ≤ 400 → Cause p s i e u → x ≡ stops e n u → Came p r x

module _ (p : List ℕ) (b : Run) where
  -- the line that is due at r, after n lines of its call; behind it comes what `go` makes of the next
  follows : {i : ℕ} (r : Run) (n : ℕ) (go : Run → Ran) → i ≤ 400 → (is_for_or_next (line_at p r.line) ≡ true → i < 400) → Within p b i r → Way p r (step p r)
      → (is_for_or_next (line_at p r.line) ≡ true → (s : Run) → Within p b (suc i) s → Came p b (go s))
      → Came p b (follow (step p r).how n (step p r).run go)
  follows r n go le few w (is_held state above is) k = rw is (held r n w le state above refl)
  follows r n go le few w (has_ended e u why is) k = rw is (ended r u e n w le (by_line why is few) refl)
  follows r n go le few w (goes_on loop how) k = rw how (k loop (step p r).run (on w how refl))

  due_came : (left i n : ℕ) (r : Run) → i + left ≡ 400 → Within p b i r → Came p b (run_due p left n r)
  unfolding run_due
  due_came zero i n r sum w =
      if_case (Came p b) (is_for_or_next (line_at p r.line)) (λ loop. ended r r 13 n w (omega arith) (over refl (omega arith) loop refl) refl)
      (λ plain. follows r n _ (omega arith) (λ loop. absurd (true≢false (sym loop ∙ plain))) w (step_way p r) (λ loop. absurd (true≢false (sym loop ∙ plain))))
  due_came (suc left) i n r sum w = follows r _ _ (omega arith) (λ _. omega arith) w (step_way p r) (λ _ s way. due_came left (suc i) _ s (omega arith) way)

-- ---- between calls

-- the program has ended, or it holds a State line of one of its moments
pub data Standing (p : List ℕ) (b v : Run) : Type 0 where
  is_off : v.on ≡ false → Standing p b v
  is_holding : Holding p b v → Standing p b v

pub holding_on : {p : List ℕ} {b v : Run} → v.on ≡ true → Standing p b v → Holding p b v
holding_on runs (is_off off) = absurd (true≢false (sym runs ∙ off))
holding_on runs (is_holding h) = h

-- ---- every call

-- A line fell due at one of the moments of the run, and its call did x; or x is a tick in which none did.
pub data CallOf (p : List ℕ) (b : Run) (x : Ran) : Type 0 where
  fell_due : (r : Run) → Moment p b r → x ≡ run_due p most 0 r → CallOf p b x
  rested : (u : Run) → x ≡ rests 0 u → CallOf p b x
  went_past : (u : Run) → x ≡ stops 9 0 u → CallOf p b x

-- what x did, and what it left
pub record Called (p : List ℕ) (b : Run) (x : Ran) : Type 0 where
  pub call : CallOf p b x
  pub stands : Standing p b x.run

-- ---- moments

-- what falls due in the same call is a moment too
within_moment : (p : List ℕ) (b r s : Run) {n : ℕ} → n ≤ 400 → Moment p b r → Within p r n s → AnyMoment p b s
within_moment p b r s {n} le m w = let on = gone_within p b r s m.gone le m.way w in record { lines = n; gone = on.since ++ m.gone; way = on.way }

-- the invariant holds at every moment
gone_going : (p : List ℕ) (b s : Run) {n : ℕ} {gone : List ℕ} → Going b → Gone p b n gone s → Going s
gone_going p b s g (begins is) = rw (sym is) g
gone_going p b s g (further {r = r} w (goes _ _ how is)) = rw (sym is) (step_going p r (gone_going p b r g w)).going
gone_going p b s g (further {r = r} w (waits _ state above lt is)) =
    let h = gone_going p b r g w in
    rw (sym is) (record { on = h.on; in_program = omega arith; for_line = h.for_line; count = h.count; time = omega arith })

pub moment_going : (p : List ℕ) (b s : Run) → Going b → AnyMoment p b s → Going s
moment_going p b s g m = gone_going p b s g m.way

-- at every moment the program runs
gone_on : (p : List ℕ) (b s : Run) {n : ℕ} {gone : List ℕ} → b.on ≡ true → Gone p b n gone s → s.on ≡ true
gone_on p b s starts (begins is) = rw (sym is) starts
gone_on p b s starts (further {r = r} w (goes _ _ how is)) = rw (sym is) (step_runs p r (gone_on p b r starts w))
gone_on p b s starts (further {r = r} w (waits _ state above lt is)) = rw (sym is) (gone_on p b r starts w)

moment_on : (p : List ℕ) (b s : Run) → b.on ≡ true → AnyMoment p b s → s.on ≡ true
moment_on p b s starts m = gone_on p b s starts m.way

module _ (p : List ℕ) (b : Run) (starts : b.on ≡ true) where
  -- what a call at a moment leaves
  came_stands : (r : Run) (x : Ran) → Moment p b r → Came p r x → Standing p b x.run
  unfolding stopped
  came_stands r x m (held s n w le state above is) =
      is_holding (record {
        at = s;
        moment = within_moment p b r s le m w;
        outputs = _;
        time = _;
        line = state;
        wait = _;
        above = above;
        most = omega arith;
        is = ap (λ (y : Ran). y.run) is;
      })
  came_stands r x m (ended s u e n w le why is) = is_off (ap (λ (y : Ran). y.run.on) is)

  -- and for what cause one ends the program
  came_stops : (r : Run) (x : Ran) → Moment p b r → x.run.on ≡ false → Came p r x → Stops p r x.event x.run
  came_stops r x m off (held s n w le state above is) =
      absurd (true≢false (sym (moment_on p b s starts (within_moment p b r s le m w)) ∙ ap (λ (y : Ran). y.run.on) (sym is) ∙ off))
  came_stops r x m off (ended {i = i} s u e n w le why is) =
      record {
        last = s;
        lines = i;
        few = le;
        within = w;
        left = u;
        cause = subst (λ f. Cause p s i f u) (ap (λ (y : Ran). y.event) (sym is)) why;
        freed = ap (λ (y : Ran). y.run) is;
      }

  -- ---- a tick

  -- of a run that holds the State line of a moment: it is held on, or the line after it falls due, or there is none
  data Ticked (v : Run) (h : Holding p b v) : Type 0 where
    held_on : tick p v ≡ rests 0 (waiting (h.wait - 1) v) → 1 < h.wait → Ticked v h
    due : tick p v ≡ run_due p most 0 (behind h.outputs h.at) → h.at.line < 199 → h.wait ≡ 1 → Ticked v h
    gone_past : tick p v ≡ stops 9 0 v → 199 ≤ h.at.line → Ticked v h

  ticked : (v : Run) (h : Holding p b v) → Ticked v h
  unfolding onward
  ticked v h = go (ltb 1 h.wait) refl (ltb h.at.line 199) refl
    where
      runs : v.on ≡ true
      runs = ap (λ (y : Run). y.on) h.is ∙ moment_on p b h.at starts h.moment

      wait_is : v.wait ≡ h.wait
      wait_is = ap (λ (y : Run). y.wait) h.is

      line_is : v.line ≡ h.at.line
      line_is = ap (λ (y : Run). y.line) h.is

      go : (u : Bool) → ltb 1 h.wait ≡ u → (l : Bool) → ltb h.at.line 199 ≡ l → Ticked v h
      go true u l e = let lt = ltb-true 1 h.wait u in held_on (tick_before p v runs (omega (arith, wait_is)) ∙ rw wait_is) lt
      go false u true e =
          let one : h.wait ≡ 1 = omega (arith, ltb-false 1 h.wait u, h.above) in
          due (due_at p v runs (omega (arith, wait_is)) ∙ rw (line_is, e, h.is, one)) (ltb-true h.at.line 199 e) one
      go false u false e =
          gone_past (due_at p v runs (omega (arith, wait_is, ltb-false 1 h.wait u)) ∙ rw (line_is, e)) (ltb-false h.at.line 199 e)

  -- the line behind a held one is a moment too
  behind_moment : (v : Run) (h : Holding p b v) → h.at.line < 199 → Moment p b (behind h.outputs h.at)
  behind_moment v h lt =
      record {
        gone = h.at.line ∷ h.moment.gone;
        way = further h.moment.way (waits refl h.line (omega (arith, h.above, h.most)) lt refl);
      }

  -- a call in which r falls due
  due_comes : (r : Run) (x : Ran) → x ≡ run_due p most 0 r → Came p r x
  due_comes r x is = subst (Came p r) (sym is) (due_came p r most 0 0 r (omega arith) (here refl))

  tick_stops : (v : Run) (h : Holding p b v) → v.on ≡ true → (tick p v).run.on ≡ false → StopsAfter p b v h (tick p v).event (tick p v).run
  tick_stops v h runs off = go (ticked v h)
    where
      go : Ticked v h → StopsAfter p b v h (tick p v).event (tick p v).run
      go (held_on is more) = absurd (true≢false (sym runs ∙ ap (λ (y : Ran). y.run.on) (sym is) ∙ off))
      go (due is lt one) = behind_it lt one (came_stops _ (tick p v) (behind_moment v h lt) off (due_comes _ (tick p v) is))
      go (gone_past is le) = past199 (ap (λ (y : Ran). y.event) is) le (ap (λ (y : Ran). y.run) is)

  -- ---- every call

  due_called : (r : Run) (x : Ran) → Moment p b r → x ≡ run_due p most 0 r → Called p b x
  due_called r x m is = record { call = fell_due r m is; stands = came_stands r x m (due_comes r x is) }

  tick_called : (v : Run) → Standing p b v → Called p b (tick p v)
  unfolding stopped
  tick_called v (is_off off) = record { call = rested v (tick_off p v off); stands = is_off (ap (λ (y : Ran). y.run.on) (tick_off p v off) ∙ off) }
  tick_called v (is_holding h) = go (ticked v h)
    where
      go : Ticked v h → Called p b (tick p v)
      go (held_on is more) =
          record {
            call = rested _ is;
            stands =
                is_holding (record {
                  at = h.at;
                  moment = h.moment;
                  outputs = h.outputs;
                  time = h.time;
                  line = h.line;
                  wait = h.wait - 1;
                  above = omega arith;
                  most = omega (arith, h.most);
                  is = ap (λ (y : Ran). y.run) is ∙ ap (waiting (h.wait - 1)) h.is;
                });
          }
      go (due is lt _) = due_called _ (tick p v) (behind_moment v h lt) is
      go (gone_past is le) = record { call = went_past v is; stands = is_off (ap (λ (y : Ran). y.run.on) is) }

-- ---- from a start on

module _ (p : List ℕ) (k o : ℕ) where
  abbrev x : Ran
  x = start p k o

  -- What the start and every tick after it is, whether the program runs by then or not.
  pub every_call : (n : ℕ) → Called p (begun k o) (after p n x)
  unfolding after start
  every_call zero = due_called p (begun k o) refl (begun k o) x first_moment refl
  every_call (suc n) =
      let up : n + 1 ≡ suc n = omega arith in
      let is : tick p (after p n x).run ≡ after p (suc n) x = sym (after_one_more p n x) ∙ ap (λ i. after p i x) up in
      subst (Called p (begun k o)) is (tick_called p (begun k o) refl (after p n x).run (every_call n).stands)

  -- What holds of the call of every moment, of a tick in which no line falls due, and of one that goes on past line 199, holds of every call.
  pub every_so : (P : Ran → Type 0)
      → ((r : Run) → Moment p (begun k o) r → P (run_due p most 0 r))
      → ((u : Run) → P (rests 0 u))
      → ((u : Run) → P (stops 9 0 u))
      → (n : ℕ) → P (after p n x)
  every_so P lines rest past n = go (every_call n).call
    where
      go : CallOf p (begun k o) (after p n x) → P (after p n x)
      go (fell_due r m is) = subst P (sym is) (lines r m)
      go (rested u is) = subst P (sym is) (rest u)
      go (went_past u is) = subst P (sym is) (past u)

  -- While a program runs, it holds a State line of one of its moments.
  pub runs_holding : (n : ℕ) → (after p n x).run.on ≡ true → Holding p (begun k o) (after p n x).run
  runs_holding n runs = holding_on runs (every_call n).stands

  -- One that ends in the start itself ends for the cause of its event, and no State line was held.
  pub stops_at_once : (e : ℕ) → EndsAfter p 0 e x → Stops p (begun k o) e x.run
  unfolding after start
  stops_at_once e ends =
      subst (λ f. Stops p (begun k o) f x.run) ends.event (came_stops p (begun k o) refl (begun k o) x first_moment ends.off
      (due_comes p (begun k o) refl (begun k o) x refl))

  -- One that ends at a later tick ends for the cause of its event, behind the State line that was held before that tick.
  pub stops_later : (n e : ℕ) → EndsAfter p (suc n) e x
      → (h : Holding p (begun k o) (after p n x).run) × StopsAfter p (begun k o) (after p n x).run h e (after p (suc n) x).run
  stops_later n e ends =
      let up : n + 1 ≡ suc n = omega arith in
      let is : tick p (after p n x).run ≡ after p (suc n) x = sym (after_one_more p n x) ∙ ap (λ i. after p i x) up in
      let h = runs_holding n (ends.before n (omega arith)).on in
      let off : (tick p (after p n x).run).run.on ≡ false = ap (λ (y : Ran). y.run.on) is ∙ ends.off in
      let stop = tick_stops p (begun k o) refl (after p n x).run h (ends.before n (omega arith)).on off in
      let at_end : StopsAfter p (begun k o) (after p n x).run h (after p (suc n) x).event (after p (suc n) x).run =
      subst (λ (y : Ran). StopsAfter p (begun k o) (after p n x).run h y.event y.run) is stop in
      (h, subst (λ f. StopsAfter p (begun k o) (after p n x).run h f (after p (suc n) x).run) ends.event at_end)
