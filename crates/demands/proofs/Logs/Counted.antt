-- Laws of calls that begin no list of changes: what they switch is what the changes say that they tell, call by call.
-- Assumes nothing.
use mathlib.Core.Path.{◌≡◌, refl, sym, ap, ap₂, subst, ◌∙◌}
use Prim.Native.Nat.{ℕ, suc, ◌+◌, ◌≤◌, min, max}
use native.Mathlib.Nat.{zero-add, add_assoc}
use native.Mathlib.Omega.{arith}
use mathlib.Core.Bool.{Bool, true, false, not, ◌&&◌, true≢false}
use mathlib.Core.List.{List, [], ◌∷◌, ◌++◌, map, append-nil, append_assoc}
use lib.ListN.{length}
use lib.Dec.{eqb, leb, ltb}
use borrow.Author.Tests.{eqb-true, not-true}
use Rattle.std.specs.Prelude.{if◌then◌else◌}
use Rattle.formats.proofs.Checks.{both_true, neither}
use Rattle.running.specs.declared.Run.{Run}
use Rattle.boxlog.specs.declared.Change.{Change}
use Rattle.reader.specs.declared.Layout.TheVariants.{Sixteen}
use Rattle.reader.specs.Produced.{kept}
use Rattle.channels.specs.Totals.{is_closed, one_if, word_from, closes, opens, count_of}
use Rattle.controller.specs.Controller.{Areas}
use Rattle.controller.specs.Refusals.{Call, power_on, byte, tick, press, emptying}
use Rattle.controller.specs.Effects.{is_power_on, is_tick}
use Rattle.controller.specs.Invariant.{Invariant}
use Rattle.demands.specs.Histories.{Made, Held, is_accepted, next}
use Rattle.demands.specs.Seen.{Note, note, notes}
use Rattle.demands.specs.Told.{Told, said, tell, tell_all, afterwards}
use Rattle.demands.specs.Changes.{cause_of, change, since_call, begins, none_begins, since}
use Rattle.demands.specs.Switchings.{is_tick_taken, ticks_after, is_closing, is_opening, closings, openings, ticks_by, ticks, last_switched}
use Rattle.demands.specs.SwitchingGaps.{with_gap, last_tick_of}
use Rattle.demands.proofs.Calls.Answered.{next_invariant}
use Rattle.demands.proofs.History.Agrees.{Agrees}
use Rattle.demands.proofs.History.Changing.{changing, no_change}
use Rattle.demands.proofs.History.Telling.{agrees_next, tell_taken, tell_refused}
use Rattle.demands.proofs.History.Steps.{Step, passes, fails, stepped, refused_held}
use Rattle.demands.proofs.Logs.Spans.{span, span_same, span_tick, gap_tick, spans}

-- ---- the change from one word to another, if they differ

module _ (w v by at : ℕ) (more : List Change) where
  abbrev new : Change
  new = record { cause = by; tick = at; word = v; before = w }

  closings_one : (i : ℕ)
      → count_of (closes i) (map (kept Sixteen) (changing w v by at ++ more)) ≡ one_if (is_closing i w v) + count_of (closes i) (map (kept Sixteen) more)
  unfolding closes is_closing
  closings_one i = go (eqb w v) refl
    where
      none : (x : Bool) → (not x && x) ≡ false
      none true = refl
      none false = refl

      go : (x : Bool) → eqb w v ≡ x
          → count_of (closes i) (map (kept Sixteen) ((if x then [] else new ∷ []) ++ more))
          ≡ one_if (is_closing i w v) + count_of (closes i) (map (kept Sixteen) more)
      go true e =
          sym (ap (λ b. one_if b + count_of (closes i) (map (kept Sixteen) more))
          (ap (λ u. not (is_closed i u) && is_closed i v) (eqb-true w v e) ∙ none (is_closed i v))
          ∙ zero-add (count_of (closes i) (map (kept Sixteen) more)))
      go false e = refl

  openings_one : (i : ℕ)
      → count_of (opens i) (map (kept Sixteen) (changing w v by at ++ more)) ≡ one_if (is_opening i w v) + count_of (opens i) (map (kept Sixteen) more)
  unfolding opens is_opening
  openings_one i = go (eqb w v) refl
    where
      none : (x : Bool) → (x && not x) ≡ false
      none true = refl
      none false = refl

      go : (x : Bool) → eqb w v ≡ x
          → count_of (opens i) (map (kept Sixteen) ((if x then [] else new ∷ []) ++ more))
          ≡ one_if (is_opening i w v) + count_of (opens i) (map (kept Sixteen) more)
      go true e =
          sym (ap (λ b. one_if b + count_of (opens i) (map (kept Sixteen) more))
          (ap (λ u. is_closed i u && not (is_closed i v)) (eqb-true w v e) ∙ none (is_closed i v))
          ∙ zero-add (count_of (opens i) (map (kept Sixteen) more)))
      go false e = refl

  -- the ticks up to it, and those behind it, k by all accounts
  spans_one : (i last s e k : ℕ) → s ≤ at → ((r : ℕ) → r ≤ at → spans i last r v (map (kept Sixteen) more) e ≡ span i last v r at + k)
      → spans i last s w (map (kept Sixteen) (changing w v by at ++ more)) e ≡ span i last w s at + k
  unfolding spans word_from
  spans_one i last s e k le rest = go (eqb w v) refl
    where
      go : (x : Bool) → eqb w v ≡ x → spans i last s w (map (kept Sixteen) ((if x then [] else new ∷ []) ++ more)) e ≡ span i last w s at + k
      go true same = subst (λ u. spans i last s u (map (kept Sixteen) more) e ≡ span i last u s at + k) (sym (eqb-true w v same)) (rest s le)
      go false other =
          ap (λ n. span i last w s at + n) (rest at (omega arith) ∙ ap (λ n. n + k) (span_same (is_closed i v) last at) ∙ zero-add k)

  last_one : (l : ℕ) → last_tick_of l (changing w v by at ++ more) [] ≡ last_tick_of (if eqb w v then l else at) more []
  last_one l = go (eqb w v)
    where
      go : (x : Bool) → last_tick_of l ((if x then [] else new ∷ []) ++ more) [] ≡ last_tick_of (if x then l else at) more []
      go true = refl
      go false = refl

  few_one : (n : ℕ) → length more ≤ n → length (changing w v by at ++ more) ≤ suc n
  few_one n le = go (eqb w v)
    where
      go : (x : Bool) → length ((if x then [] else new ∷ []) ++ more) ≤ suc n
      go true = omega arith
      go false = omega arith

-- ---- one call

module _ (t : Told) (h : Held) (m : Made) where
  -- a tick that is taken adds one to the count, and no other call does
  ticks_then : is_power_on m.call ≡ false → (tell t (note h m)).ticks ≡ ticks_after t.ticks (note h m)
  unfolding note afterwards
  ticks_then other = go (is_accepted h m) refl (is_tick m.call) refl
    where
      go : (a : Bool) → is_accepted h m ≡ a → (b : Bool) → is_tick m.call ≡ b
          → (tell t (note h m)).ticks ≡ (if is_tick m.call && is_accepted h m then t.ticks + 1 else t.ticks)
      go true ok true is = ap (λ (x : Told). x.ticks) (tell_taken t h m other ok) ∙ rw (ok, is)
      go true ok false is = ap (λ (x : Told). x.ticks) (tell_taken t h m other ok) ∙ rw is
      go false bad true is = ap (λ (x : Told). x.ticks) (tell_refused t h m other bad) ∙ rw (bad, is)
      go false bad false is = ap (λ (x : Told). x.ticks) (tell_refused t h m other bad) ∙ rw is

  module _ (g : Agrees t h.state) (i : Invariant h.state) where
    -- the outputs seen are those of the history
    outputs_then : (note h m).seen.outputs ≡ (tell t (note h m)).run.outputs
    unfolding note next
    outputs_then = ap (λ (r : Run). r.outputs) (agrees_next t h m i g).run

-- the list grows by its change
since_one : (ds : List Change) (t : Told) (h : Held) (k : Call) (a : Areas) → let m : Made = record { call = k; areas = a } in
    Agrees t h.state → Invariant h.state → begins (note h m) ≡ false → since_call ds t (note h m) k ≡ ds ++ change t (note h m)
unfolding note
since_one ds t h power_on a g i e = absurd (true≢false e)
since_one ds t h (byte x) a g i e = refl
since_one ds t h tick a g i e = refl
since_one ds t h (press n) a g i e = refl
since_one ds t h emptying a g i e = go (stepped h m)
  where
    m : Made
    m = record { call = emptying; areas = a }

    go : Step h m → (if is_accepted h m then [] else ds) ≡ ds ++ change t (note h m)
    go (passes ok ch q f) = absurd (true≢false (sym ok ∙ e))
    go (fails bad n q f) = rw (bad, no_change t h m g i refl (refused_held h m refl f)) (sym (append-nil ds))

-- ---- calls

-- the tick count after them
unfoldable pub ticks_over : ℕ → List Note → ℕ
ticks_over t [] = t
ticks_over t (n ∷ ns) = ticks_over (ticks_after t n) ns

-- The changes that they tell say how often each channel closes and opens, and for how many ticks it is closed.
pub record Counts (ds : List Change) (t : Told) (ns : List Note) : Type 0 where
  pub more : List Change
  pub is : since ds t ns ≡ ds ++ more
  pub closed : (i : ℕ) → count_of (closes i) (map (kept Sixteen) more) ≡ closings i t.run.outputs ns
  pub opened : (i : ℕ) → count_of (opens i) (map (kept Sixteen) more) ≡ openings i t.run.outputs ns
  pub ticked : (i last s : ℕ) → s ≤ t.ticks
      → spans i last s t.run.outputs (map (kept Sixteen) more) (tell_all t ns).ticks
      ≡ span i last t.run.outputs s t.ticks + ticks i last t.ticks t.run.outputs ns
  pub switched : (l : ℕ) → last_tick_of l more [] ≡ last_switched l t.ticks t.run.outputs ns
  pub count : (tell_all t ns).ticks ≡ ticks_over t.ticks ns
  pub few : length more ≤ length ns

-- the ticks up to one call more
tick_one : (i last s t w : ℕ) (n : Note) → s ≤ t
    → span i last w s (ticks_after t n) ≡ span i last w s t + one_if (is_tick_taken n && (ltb t last && is_closed i w))
tick_one i last s t w n le = go (is_tick_taken n)
  where
    go : (a : Bool) → span i last w s (if a then t + 1 else t) ≡ span i last w s t + one_if (a && (ltb t last && is_closed i w))
    go true = span_tick (is_closed i w) last s t le
    go false = omega arith

after_le : (t : ℕ) (n : Note) → t ≤ ticks_after t n
after_le t n = go (is_tick_taken n)
  where
    go : (a : Bool) → t ≤ (if a then t + 1 else t)
    go true = omega arith
    go false = omega arith

counts_more : (ds : List Change) (t : Told) (h : Held) (m : Made) (ns : List Note) → Agrees t h.state → Invariant h.state → begins (note h m) ≡ false
    → Counts (since_call ds t (note h m) m.call) (tell t (note h m)) ns → Counts ds t (note h m ∷ ns)
unfolding since tell_all closings openings ticks_by last_switched change ticks_over note
counts_more ds t h m ns g i e r = record {
  more = change t n ++ r.more;
  is = r.is ∙ ap (λ l. l ++ r.more) (since_one ds t h m.call m.areas g i e) ∙ append_assoc ds (change t n) r.more;
  closed = λ j. closings_one w v by u.ticks r.more j ∙ ap (λ x. one_if (is_closing j w v) + x) (r.closed j ∙ ap (λ x. closings j x ns) (sym outs));
  opened = λ j. openings_one w v by u.ticks r.more j ∙ ap (λ x. one_if (is_opening j w v) + x) (r.opened j ∙ ap (λ x. openings j x ns) (sym outs));
  ticked = λ j last s le. gone j last s le;
  switched = λ l.
      last_one w v by u.ticks r.more l ∙ r.switched (if eqb w v then l else u.ticks)
      ∙ ap₂ (λ a b. last_switched (if eqb w v then l else a) a b ns) count (sym outs);
  count = r.count ∙ ap (λ a. ticks_over a ns) count;
  few = few_one w v by u.ticks r.more (length ns) r.few;
}
  where
    n : Note
    n = note h m

    u : Told
    u = tell t n

    w : ℕ
    w = t.run.outputs

    v : ℕ
    v = n.seen.outputs

    by : ℕ
    by = cause_of (said t n) u.run.line

    outs : v ≡ u.run.outputs
    outs = outputs_then t h m g i

    count : u.ticks ≡ ticks_after t.ticks n
    count = ticks_then t h m (neither (is_power_on m.call) _ e).0

    gone : (j last s : ℕ) → s ≤ t.ticks
        → spans j last s w (map (kept Sixteen) (changing w v by u.ticks ++ r.more)) (tell_all u ns).ticks
        ≡ span j last w s t.ticks
        + (one_if (is_tick_taken n && (ltb t.ticks last && is_closed j w)) + ticks j last (ticks_after t.ticks n) v ns)
    gone j last s le =
        let k = ticks j last (ticks_after t.ticks n) v ns in
        let later : t.ticks ≤ u.ticks = subst (λ a. t.ticks ≤ a) (sym count) (after_le t.ticks n) in
        spans_one w v by u.ticks r.more j last s (tell_all u ns).ticks k (omega arith)
        (λ q le'. ap (λ x. spans j last q x (map (kept Sixteen) r.more) (tell_all u ns).ticks) outs ∙ r.ticked j last q le'
        ∙ ap₂ (λ x y. span j last x q u.ticks + ticks j last y x ns) (sym outs) count)
        ∙ ap (λ a. span j last w s a + k) count ∙ ap (λ x. x + k) (tick_one j last s t.ticks w n le)
        ∙ add_assoc (span j last w s t.ticks) (one_if (is_tick_taken n && (ltb t.ticks last && is_closed j w))) k

pub counts_all : (ds : List Change) (t : Told) (h : Held) (ms : List Made) → Agrees t h.state → Invariant h.state → none_begins (notes h ms) ≡ true
    → Counts ds t (notes h ms)
unfolding since notes tell_all closings openings ticks_by last_switched spans ticks_over
counts_all ds t h [] g i e = record {
  more = [];
  is = sym (append-nil ds);
  closed = λ j. refl;
  opened = λ j. refl;
  ticked = λ j last s le. omega arith;
  switched = λ l. refl;
  count = refl;
  few = omega arith;
}
counts_all ds t h (m ∷ ms) g i e =
    let calm = both_true (not (begins (note h m))) (none_begins (notes (next h m) ms)) e in
    counts_more ds t h m (notes (next h m) ms) g i (not-true (begins (note h m)) calm.0)
    (counts_all (since_call ds t (note h m) m.call) (tell t (note h m)) (next h m) ms (agrees_next t h m i g) (next_invariant h m i) calm.1)

-- ---- with a gap

pub ticks_rise : (t : ℕ) (ns : List Note) → t ≤ ticks_over t ns
unfolding ticks_over
ticks_rise t [] = omega arith
ticks_rise t (n ∷ ns) = omega (arith, after_le t n, ticks_rise (ticks_after t n) ns)

-- before the gap's tick by the outputs, and from there on by the gap's word
pub ticks_gap : (i last : ℕ) (c : Change) (lost : List Change) (g t w : ℕ) (ns : List Note)
    → ticks_by (with_gap (c ∷ lost) g) i last t w ns
    ≡ ticks i (min last c.tick) t w ns + span i last g (max t c.tick) (max (ticks_over t ns) c.tick)
unfolding ticks_by ticks_over
ticks_gap i last c lost g t w [] = sym (ap (λ n. 0 + n) (span_same (is_closed i g) last (max t c.tick)))
ticks_gap i last c lost g t w (n ∷ ns) =
    go (is_tick_taken n) (ticks_rise (ticks_after t n) ns) (ticks_gap i last c lost g (ticks_after t n) n.seen.outputs ns)
  where
    G : ℕ
    G = c.tick

    choice : (x : Bool) → is_closed i (if x then g else w) ≡ (if x then is_closed i g else is_closed i w)
    choice true = refl
    choice false = refl

    word : ℕ → ℕ → ℕ
    word = with_gap (c ∷ lost) g

    go : (a : Bool) → (if a then t + 1 else t) ≤ ticks_over (if a then t + 1 else t) ns
        → ticks_by word i last (if a then t + 1 else t) n.seen.outputs ns
        ≡ ticks i (min last G) (if a then t + 1 else t) n.seen.outputs ns
        + span i last g (max (if a then t + 1 else t) G) (max (ticks_over (if a then t + 1 else t) ns) G)
        → one_if (a && (ltb t last && is_closed i (if leb G t then g else w))) + ticks_by word i last (if a then t + 1 else t) n.seen.outputs ns
        ≡ (one_if (a && (ltb t (min last G) && is_closed i w)) + ticks i (min last G) (if a then t + 1 else t) n.seen.outputs ns)
        + span i last g (max t G) (max (ticks_over (if a then t + 1 else t) ns) G)
    go true le rest =
        let e = ticks_over (t + 1) ns in
        let one = gap_tick (is_closed i g) (is_closed i w) last G t e le in
        rw (choice (leb G t), rest)
        (sums (one_if (ltb t last && (if leb G t then is_closed i g else is_closed i w))) (ticks i (min last G) (t + 1) n.seen.outputs ns)
        (span i last g (max (t + 1) G) (max e G)) (one_if (ltb t (min last G) && is_closed i w)) (span i last g (max t G) (max e G)) one)
      where
        sums : (a b c d f : ℕ) → a + c ≡ d + f → a + (b + c) ≡ (d + b) + f
        sums a b c d f e = omega arith
    go false le rest =
        ap (λ x. 0 + x) rest
        ∙ sym (add_assoc 0 (ticks i (min last G) t n.seen.outputs ns) (span i last g (max t G) (max (ticks_over t ns) G)))
