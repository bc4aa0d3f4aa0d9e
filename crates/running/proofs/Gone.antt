-- Laws of the lines that a run goes through: the For that holds a busy counter, and the lines of one call.
-- Assumes nothing.
use Prim.Native.Nat.{ℕ, suc, ◌+◌, ◌-◌, ◌≤◌, ◌<◌}
use native.Mathlib.Omega.{arith}
use mathlib.Core.Path.{◌≡◌, refl, sym, ap, ◌∙◌}
use mathlib.Core.Logic.{◌≢◌}
use mathlib.Core.Bool.{Bool, true, false}
use mathlib.Core.List.{List, [], ◌∷◌, ◌++◌}
use lib.ListN.{length, get_or, set, length-set}
use lib.Seq.{get_or-set_same, get_or-set_other}
use lib.Dec.{eqb}
use borrow.Author.Tests.{eqb-true, eqb-false, ne_eqb, eq-eqb}
use Rattle.std.specs.Prelude.{if◌then◌else◌}
use Rattle.formats.proofs.Parts.{replicated}
use Rattle.lines.specs.declared.Line.{Line}
use Rattle.lines.specs.declared.Line.TheVariants.{State, For, Next, Bad}
use Rattle.lines.specs.Line.{OneToFour}
use Rattle.lines.specs.Program.{line_at, is_next_of}
use Rattle.lines.proofs.Pairs.{counter_ranged, next_ranged}
use Rattle.running.specs.declared.Counter.{Counter}
use Rattle.running.specs.declared.Run.{Run}
use Rattle.running.specs.declared.How.TheVariants.{Holds, Ends, GoesOn}
use Rattle.running.specs.declared.Step.{Step}
use Rattle.running.specs.Running.{free, counter, begun, run_line, is_for_or_next, step}
use Rattle.running.specs.Gone.{FollowedBy, goes, waits, Gone, begins, further, nexts_of, HeldBy, LoopLines}
use Rattle.running.specs.Moments.{Moment, AnyMoment, Within, here, on}
use Rattle.running.proofs.Ways.{onward_ways, state_ways, for_ways, next_ways, bad_way}
use Rattle.running.proofs.Causes.{Way, is_held, has_ended, goes_on, step_way}

-- ---- what a line that goes on does with the counters

pub ends_not : {e : ℕ} {A : Type 0} → Ends e ≡ GoesOn → A
ends_not q = let z : ◌≡◌ {A = ℕ} 0 1 = cc in absurd (omega arith)

pub holds_not : {A : Type 0} → Holds ≡ GoesOn → A
holds_not q = let z : ◌≡◌ {A = ℕ} 0 1 = cc in absurd (omega arith)

module _ (p : List ℕ) (r : Run) where
  abbrev own : Line
  own = line_at p r.line

  -- counter d at r, and at s behind its line: it stays, and the line is neither a Next of it nor a For that takes it; or a For takes it; or a Next takes one
  -- off
  data Handles (d : ℕ) (s : Run) : Type 0 where
    keeps : counter s d ≡ counter r d → is_next_of d own ≡ false → ((x : ℕ) → own ≡ For d x → x ≡ 0) → Handles d s
    takes : {x : ℕ} → own ≡ For d x → 0 < x → (counter r d).count ≡ 0 → counter s d ≡ record { count = x; line = r.line } → Handles d s
    lessens : own ≡ Next d → (counter s d).count + 1 ≡ (counter r d).count → (0 < (counter s d).count → (counter s d).line ≡ (counter r d).line) → Handles d s

  record Handled (s : Run) : Type 0 where
    four : length s.counters ≡ 4
    each : (d : ℕ) → OneToFour d → Handles d s

  -- a line that names no counter, or a For with count 0000: all counters stay
  stays : (l : Line) → own ≡ l → ((d : ℕ) → is_next_of d l ≡ false) → ((d x : ℕ) → l ≡ For d x → x ≡ 0) → length r.counters ≡ 4
      → (s : Run) → s.counters ≡ r.counters → Handled s
  stays l is no_next no_for four s same =
      record {
        four = ap length same ∙ four;
        each = λ d _. keeps (ap (λ cs. get_or cs (d - 1) free) same) (ap (is_next_of d) is ∙ no_next d) (λ x e. no_for d x (sym is ∙ e));
      }

  -- a line that sets counter c, and no other
  module _ (four : length r.counters ≡ 4) (s : Run) (c : ℕ) (v : Counter) (is : s.counters ≡ set r.counters (c - 1) v) (ranged : OneToFour c) where
    set_to : counter s c ≡ v
    set_to = ap (λ l. get_or l (c - 1) free) is ∙ get_or-set_same r.counters (c - 1) v free (omega (arith, ranged.0, ranged.1, four))

    sets : ((d : ℕ) → d ≢ c → is_next_of d own ≡ false) → ((d x : ℕ) → d ≢ c → own ≡ For d x → x ≡ 0) → Handles c s → Handled s
    sets no_next no_for mine = record { four = ap length is ∙ length-set r.counters (c - 1) v ∙ four; each = λ d q. go d q (eqb d c) refl }
      where
        go : (d : ℕ) → OneToFour d → (t : Bool) → eqb d c ≡ t → Handles d s
        go d q true t = let same : d ≡ c = eqb-true d c t in rw same mine
        go d q false t =
            let ne : d ≢ c = eqb-false d c t in
            let other : d - 1 ≢ c - 1 = λ z. ne (omega (arith, z, q.0, ranged.0)) in
            keeps (ap (λ l. get_or l (d - 1) free) is ∙ get_or-set_other r.counters (c - 1) (d - 1) v free other) (no_next d ne) (λ x. no_for d x ne)

    -- a For of c takes it
    for_sets : {x : ℕ} → own ≡ For c x → 0 < x → (counter r c).count ≡ 0 → v ≡ record { count = x; line = r.line } → Handled s
    for_sets line above idle holds =
        sets (λ d ne. ap (is_next_of d) line) (λ d y ne e. absurd (ne (names (sym line ∙ e)))) (takes line above idle (set_to ∙ holds))
      where
        names : {d x y : ℕ} → For c x ≡ For d y → d ≡ c
        names q = cc

    -- a Next of c takes one off it
    next_sets : own ≡ Next c → v.count + 1 ≡ (counter r c).count → (0 < v.count → v.line ≡ (counter r c).line) → Handled s
    next_sets line less from =
        let n = ap (λ (w : Counter). w.count) set_to in
        sets (λ d ne. ap (is_next_of d) line ∙ ne_eqb d c ne) (λ d y ne e. no_for (sym line ∙ e))
        (lessens line (omega arith) (λ busy. ap (λ (w : Counter). w.line) set_to ∙ from (omega arith)))
      where
        no_for : {d y : ℕ} {A : Type 0} → Next c ≡ For d y → A
        no_for q = let z : ◌≡◌ {A = ℕ} 0 1 = cc in absurd (omega arith)

  -- what holds of a step that goes on
  abbrev IfOn : Step → Type 0
  IfOn s = s.how ≡ GoesOn → Handled s.run

  module _ (four : length r.counters ≡ 4) where
    line_handled : (l : Line) → own ≡ l → IfOn (run_line p l r)
    line_handled (State o t) is = state_ways IfOn p r o t (λ _ how. holds_not how) (λ _ how. ends_not how)
    line_handled (For c x) is =
        let q = counter_ranged p r.line c x is in
        for_ways IfOn p r c x
        (λ _ how. ends_not how)
        (λ _ _ how. ends_not how)
        (λ _ _ none. onward_ways IfOn _ (λ _ _. stays (For c x) is (λ d. refl) (λ d y e. same_count e ∙ none) four _ refl) (λ _ how. ends_not how))
        (λ idle _ above. onward_ways IfOn _ (λ _ _. for_sets four _ c _ refl q is above idle refl) (λ _ how. ends_not how))
      where
        same_count : {d y : ℕ} → For c x ≡ For d y → y ≡ x
        same_count e = cc
    line_handled (Next c) is =
        let q = next_ranged p r.line c is in
        next_ways IfOn p r c
        (λ _ how. ends_not how)
        (λ busy _. next_sets four _ c _ refl q is (omega arith) (λ _. refl))
        (λ one. onward_ways IfOn _ (λ _ _. next_sets four _ c free refl q is (omega arith) (λ above. absurd (omega arith))) (λ _ how. ends_not how))
    line_handled Bad is = bad_way IfOn p r (λ how. ends_not how)

    step_handled : (step p r).how ≡ GoesOn → Handled (step p r).run
    unfolding step
    step_handled = line_handled own refl

  -- and a State that is held for its time
  state_handled : {o t : ℕ} → own ≡ State o t → length r.counters ≡ 4 → (s : Run) → s.counters ≡ r.counters → Handled s
  state_handled {o} {t} is = stays (State o t) is (λ d. refl) (λ d x e. no_for e)
    where
      no_for : {d x : ℕ} {A : Type 0} → State o t ≡ For d x → A
      no_for q = let z : ◌≡◌ {A = ℕ} 0 1 = cc in absurd (omega arith)

-- ---- the For that holds a counter

module _ (p : List ℕ) (c : ℕ) where
  abbrev one : ℕ → ℕ
  one l = if is_next_of c (line_at p l) then 1 else 0

  nexts_more : (l : ℕ) (ls : List ℕ) → nexts_of p c (l ∷ ls) ≡ one l + nexts_of p c ls
  unfolding nexts_of
  nexts_more l ls = refl

  nexts_none : nexts_of p c [] ≡ 0
  unfolding nexts_of
  nexts_none = refl

  -- a For holds the counter behind line l: it stands on line l itself, or it held it before, with as many Nexts fewer as line l is
  data Back (l : ℕ) (gone : List ℕ) (k : ℕ) (h : HeldBy p c k (l ∷ gone)) : Type 0 where
    itself : l ≡ k → nexts_of p c h.since ≡ 0 → Back l gone k h
    earlier : (e : HeldBy p c k gone) → e.count ≡ h.count → nexts_of p c h.since ≡ one l + nexts_of p c e.since → Back l gone k h

  back : (l : ℕ) (gone : List ℕ) (k : ℕ) (h : HeldBy p c k (l ∷ gone)) → Back l gone k h
  back l gone k h = go h.since refl
    where
      go : (since : List ℕ) → h.since ≡ since → Back l gone k h
      go [] is =
          let all : l ∷ gone ≡ k ∷ h.before = h.ran ∙ ap (λ ls. ls ++ (k ∷ h.before)) is in
          itself (cc) (ap (nexts_of p c) is ∙ nexts_none)
      go (m ∷ ms) is =
          let all : l ∷ gone ≡ m ∷ (ms ++ (k ∷ h.before)) = h.ran ∙ ap (λ ls. ls ++ (k ∷ h.before)) is in
          let first : m ≡ l = cc in
          let rest : gone ≡ ms ++ (k ∷ h.before) = cc in
          let more : nexts_of p c h.since ≡ one l + nexts_of p c ms =
          ap (nexts_of p c) is ∙ nexts_more m ms ∙ ap (λ j. one j + nexts_of p c ms) first in
          earlier (record { since = ms; before = h.before; ran = rest; count = h.count; line = h.line; few = omega (arith, h.few) }) refl more

  -- it goes on holding it behind line l, where fewer Nexts than its count were run still
  hold_on : (l : ℕ) (gone : List ℕ) (k : ℕ) (h : HeldBy p c k gone) → one l + nexts_of p c h.since < h.count → HeldBy p c k (l ∷ gone)
  hold_on l gone k h lt =
      record {
        since = l ∷ h.since;
        before = h.before;
        ran = ap (λ ls. l ∷ ls) h.ran;
        count = h.count;
        line = h.line;
        few = omega (arith, lt, nexts_more l h.since);
      }

  -- The counter is as the lines gone through say: each For that holds it has its line in it and its rounds left; and if it is busy, one holds it.
  record Knows (gone : List ℕ) (s : Run) : Type 0 where
    only : (k : ℕ) (h : HeldBy p c k gone) → ((counter s c).count + nexts_of p c h.since ≡ h.count) × ((counter s c).line ≡ k)
    so : 0 < (counter s c).count → HeldBy p c (counter s c).line gone

  -- it is so behind one line more
  knows_on : (gone : List ℕ) (r s : Run) → Knows gone r → Handles p r c s → Knows (r.line ∷ gone) s
  knows_on gone r s known (keeps same no_next no_for) = record { only = λ k h. go k h (back r.line gone k h); so = λ busy. held busy }
    where
      n : (counter s c).count ≡ (counter r c).count
      n = ap (λ (v : Counter). v.count) same

      at_line_lem : (counter s c).line ≡ (counter r c).line
      at_line_lem = ap (λ (v : Counter). v.line) same

      none : one r.line ≡ 0
      none = rw no_next

      go : (k : ℕ) (h : HeldBy p c k (r.line ∷ gone)) → Back r.line gone k h
          → ((counter s c).count + nexts_of p c h.since ≡ h.count) × ((counter s c).line ≡ k)
      go k h (itself is nothing) =
          let no_count = no_for h.count (ap (line_at p) is ∙ h.line) in absurd (omega (arith, h.few))
      go k h (earlier e same_count more) = let was = known.only k e in (omega (arith, was.0, n, none), at_line_lem ∙ was.1)

      held : 0 < (counter s c).count → HeldBy p c (counter s c).line (r.line ∷ gone)
      held busy = let h = known.so (omega (arith, n)) in rw at_line_lem (hold_on r.line gone _ h (omega (arith, h.few, none)))
  knows_on gone r s known (takes {x = x} line above idle is) = record { only = λ k h. go k h (back r.line gone k h); so = λ _. held }
    where
      n : (counter s c).count ≡ x
      n = ap (λ (v : Counter). v.count) is

      at_line_lem : (counter s c).line ≡ r.line
      at_line_lem = ap (λ (v : Counter). v.line) is

      go : (k : ℕ) (h : HeldBy p c k (r.line ∷ gone)) → Back r.line gone k h
          → ((counter s c).count + nexts_of p c h.since ≡ h.count) × ((counter s c).line ≡ k)
      go k h (itself there nothing) =
          let two : For c x ≡ For c h.count = sym line ∙ ap (line_at p) there ∙ h.line in
          let same_count : x ≡ h.count = cc in
          (omega (arith, n), at_line_lem ∙ there)
      go k h (earlier e same_count more) = let was = (known.only k e).0 in absurd (omega (arith, e.few))

      held : HeldBy p c (counter s c).line (r.line ∷ gone)
      held =
          rw at_line_lem (record { since = []; before = gone; ran = refl; count = x; line = line; few = omega (arith, nexts_none) })
  knows_on gone r s known (lessens line less from) = record { only = λ k h. go k h (back r.line gone k h); so = λ busy. held busy }
    where
      a_next : one r.line ≡ 1
      a_next = rw (line, eq-eqb c c refl)

      go : (k : ℕ) (h : HeldBy p c k (r.line ∷ gone)) → Back r.line gone k h
          → ((counter s c).count + nexts_of p c h.since ≡ h.count) × ((counter s c).line ≡ k)
      go k h (itself is nothing) =
          let two : Next c ≡ For c h.count = sym line ∙ ap (line_at p) is ∙ h.line in
          let z : ◌≡◌ {A = ℕ} 0 1 = cc in
          absurd (omega arith)
      go k h (earlier e same_count more) =
          let was = known.only k e in
          (omega (arith, was.0, a_next), from (omega (arith, was.0, h.few, a_next)) ∙ was.1)

      held : 0 < (counter s c).count → HeldBy p c (counter s c).line (r.line ∷ gone)
      held busy =
          let h = known.so (omega arith) in
          let was = (known.only _ h).0 in
          let same = from busy in
          rw same (hold_on r.line gone _ h (omega (arith, a_next)))

module _ (p : List ℕ) (b : Run) where
  record Known (gone : List ℕ) (s : Run) : Type 0 where
    four : length s.counters ≡ 4
    each : (c : ℕ) → OneToFour c → Knows p c gone s

  on_handled : (gone : List ℕ) (r s : Run) → Known gone r → Handled p r s → Known (r.line ∷ gone) s
  on_handled gone r s k h = record { four = h.four; each = λ c q. knows_on p c gone r s (k.each c q) (h.each c q) }

  followed_known : (gone : List ℕ) {n m : ℕ} (r s : Run) → Known gone r → FollowedBy p n r m s → Known (r.line ∷ gone) s
  followed_known gone r s k (goes _ _ how is) = rw (sym is) (on_handled gone r _ k (step_handled p r k.four how))
  followed_known gone r s k (waits _ state above lt is) = rw (sym is) (on_handled gone r _ k (state_handled p r state k.four _ refl))

  known : {n : ℕ} {gone : List ℕ} (s : Run) → Known [] b → Gone p b n gone s → Known gone s
  known s k (begins is) = rw (sym is) k
  known s k (further {gone = gone} {r = r} w step) = followed_known gone r s (known r k w) step

module _ (p : List ℕ) (k o : ℕ) where
  nothing_yet : Known p (begun k o) [] (begun k o)
  nothing_yet =
      record {
        four = refl;
        each = λ c q.
            record {
              only = λ j h. absurd (no_line j h.before h.since h.ran);
              so = λ busy. let n = ap (λ (v : Counter). v.count) (replicated 4 free (c - 1)) in absurd (omega arith);
            };
      }
    where
      no_line : (j : ℕ) (before since : List ℕ) → [] ≡ since ++ (j ∷ before) → ⊥
      no_line j before [] e = let z : ◌≡◌ {A = ℕ} 0 1 = cc in omega arith
      no_line j before (m ∷ ms) e = let z : ◌≡◌ {A = ℕ} 0 1 = cc in omega arith

  module _ {n : ℕ} (gone : List ℕ) (s : Run) (w : Gone p (begun k o) n gone s) (c : ℕ) (q : OneToFour c) where
    it : Knows p c gone s
    it = (known p (begun k o) s nothing_yet w).each c q

    -- From a start on: where a counter is busy, the For whose line stands in it holds it,
    pub busy_held : 0 < (counter s c).count → HeldBy p c (counter s c).line gone
    busy_held = it.so

    -- and no other does; a For holds only a busy one.
    pub held_line : (j : ℕ) → HeldBy p c j gone → (j ≡ (counter s c).line) × (0 < (counter s c).count)
    held_line j h = let is = it.only j h in (sym is.1, omega (arith, is.0, h.few))

-- So the line that stands in a busy counter is a For of that counter.
pub busy_line : (p : List ℕ) (k o : ℕ) (s : Run) → AnyMoment p (begun k o) s → (c : ℕ) → OneToFour c → 0 < (counter s c).count
    → (x : ℕ) × (line_at p (counter s c).line ≡ For c x)
busy_line p k o s m c q busy = let h = busy_held p k o m.gone s m.way c q busy in (h.count, h.line)

-- ---- moments

pub first_moment : {p : List ℕ} {b : Run} → Moment p b b
first_moment = record { gone = []; way = begins refl }

pub any_moment : {p : List ℕ} {b s : Run} → Moment p b s → AnyMoment p b s
any_moment m = record { lines = 0; gone = m.gone; way = m.way }

-- ---- the lines of one call

module _ (p : List ℕ) where
  -- only a For or a Next goes on at once
  goes_loop : (r : Run) → (step p r).how ≡ GoesOn → is_for_or_next (line_at p r.line) ≡ true
  goes_loop r how = go (step_way p r)
    where
      go : Way p r (step p r) → is_for_or_next (line_at p r.line) ≡ true
      go (is_held _ _ is) = holds_not (sym (ap (λ (s : Step). s.how) is) ∙ how)
      go (has_ended e u _ is) = ends_not (sym (ap (λ (s : Step). s.how) is) ∙ how)
      go (goes_on loop _) = loop

  -- what falls due n lines later in a call: the run has gone through n For and Next lines more
  pub record GoneOn (b : Run) (n : ℕ) (gone : List ℕ) (s : Run) : Type 0 where
    pub since : List ℕ
    pub way : Gone p b n (since ++ gone) s
    pub many : length since ≡ n
    pub loops : LoopLines p since

  pub gone_within : (b r s : Run) (gone : List ℕ) {n : ℕ} → n ≤ 400 → Gone p b 0 gone r → Within p r n s → GoneOn b n gone s
  gone_within b r s gone le g (here is) = record { since = []; way = rw (sym is) g; many = refl; loops = refl }
  gone_within b r s gone le g (on {r = t} w how is) =
      let before = gone_within b r t gone (omega arith) g w in
      let loop = goes_loop t how in
      record {
        since = t.line ∷ before.since;
        way = further before.way (goes (omega arith) refl how is);
        many = ap suc before.many;
        loops = rw loop before.loops;
      }
