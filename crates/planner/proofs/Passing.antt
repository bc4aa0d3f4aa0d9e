-- The running rules go through the lines of a plan as the plan says: word by word, tick by tick.
-- Assumes nothing.
use Prim.Native.Nat.{ℕ, ◌+◌, ◌*◌, ◌/◌, ◌%◌, ◌≤◌, ◌<◌}
use native.Mathlib.Omega.{arith}
use native.Mathlib.Nat.{zero-add}
use mathlib.Core.Path.{◌≡◌, refl, sym, ap, subst, ◌∙◌}
use mathlib.Core.Bool.{Bool, true, false}
use mathlib.Core.List.{List, [], ◌∷◌, ◌++◌, append_assoc}
use lib.ListN.{length, length-append}
use lib.Dec.{ltb, eqb}
use borrow.Author.Tests.{ltb-true, ltb-false, eqb-true, eqb-false}
use Rattle.lines.specs.declared.Line.{Line}
use Rattle.lines.specs.declared.Line.TheVariants.{State, For, Next}
use Rattle.lines.specs.Program.{line_at, FirstFrom}
use Rattle.running.specs.declared.Counter.{Counter}
use Rattle.running.specs.declared.Run.{Run}
use Rattle.running.specs.declared.Ran.{Ran}
use Rattle.running.specs.Running.{all_free, with_outputs, stopped, start}
use Rattle.running.specs.Ticking.{Runs}
use Rattle.running.proofs.Reaching.{WhileHeld}
use Rattle.running.proofs.Arriving.{Arrives, arrives_end, arrives_ends}
use Rattle.running.proofs.Looping.{turning}
use Rattle.running.proofs.Stretches.{Stretch, no_stretch, state_stretch, then_stretch, stretch_as, stretch_is, loop_stretch, start_stretch}
use Rattle.planner.specs.declared.Move.{Move}
use Rattle.planner.specs.Plan.{InRange, Proper, AllProper, none, more, move_ticks, total, word_at}
use Rattle.planner.specs.Lines.{lines_for, loop_lines, remainder, move_lines, plan_lines, program_of}
use Rattle.planner.specs.ByTheRule.{CarriesOut}
use Rattle.planner.proofs.Laying.{short_lines, long_lines, no_remainder, some_remainder}
use Rattle.planner.proofs.Words.{word_settles, word_reads, word_later}
use Rattle.planner.proofs.Shape.{program_around}
use Rattle.planner.proofs.Calm.{few_due}
use Rattle.planner.proofs.Found.{two_on, Stand, stand_first, stand_rest, stands_here, stands_behind, stand_plan, stand_ends, plan_few}

-- The program runs on, and the outputs are the word.
pub record Has (w : ℕ) (x : Ran) : Type 0 where
  pub runs : Runs x
  pub word : x.run.outputs ≡ w

module _ (p : List ℕ) where
  -- ---- a word for some ticks

  held_so : (w t : ℕ) (r : Run) → r.on ≡ true → WhileHeld (λ m. Has w) t (with_outputs w r)
  held_so w t r on m left n is above = record { runs = record { on = on; event = refl }; word = refl }

  state_passes : (i w t : ℕ) (cs : List Counter) → line_at p i ≡ State w t → 0 < t → i < 199 → Stretch p (λ m. Has w) i t (i + 1) cs 0
  state_passes i w t cs is above lt = state_stretch p (λ m. Has w) i w t cs is above lt (held_so w t)

  -- the loop of a long time
  module _ (i w turns : ℕ) (some : 0 < turns) (lt : i + 2 < 199) (s : Stand p i (loop_lines w turns)) where
    for_line : line_at p i ≡ For 1 turns
    unfolding loop_lines
    for_line = stands_here s

    state_line : line_at p (i + 1) ≡ State w 9999
    unfolding loop_lines
    state_line = stands_here (stands_behind s)

    next_line_lem : line_at p (i + 2) ≡ Next 1
    unfolding loop_lines
    next_line_lem = let e : i + 1 + 1 ≡ i + 2 = omega arith in ap (line_at p) (sym e) ∙ stands_here (stands_behind (stands_behind s))

    pairing : FirstFrom p 1 (i + 1) (i + 2)
    pairing = two_on p i 1 state_line next_line_lem (omega arith)

    loop_passes : Stretch p (λ m. Has w) i (turns * 9999) (i + 3) all_free 3
    loop_passes =
        stretch_is p refl (omega arith) (omega arith)
        (loop_stretch p (Has w) i 1 turns (i + 2) for_line pairing lt all_free refl refl 9999 some (omega arith)
        (λ m. stretch_is p refl (omega arith) (omega arith) (state_passes (i + 1) w 9999 (turning i 1 all_free m) state_line (omega arith) (omega arith))))

  -- what remains of it
  rest_passes : (i w r : ℕ) → i + length (remainder w r) < 200 → Stand p i (remainder w r)
      → Stretch p (λ m. Has w) i r (i + length (remainder w r)) all_free 0
  rest_passes i w r lt s = go (eqb r 0) refl
    where
      go : (b : Bool) → eqb r 0 ≡ b → Stretch p (λ m. Has w) i r (i + length (remainder w r)) all_free 0
      go true e =
          let z = eqb-true r 0 e in
          let l = ap length (no_remainder w r z) in
          stretch_is p (sym z) (omega arith) (omega arith) (no_stretch p (λ m. Has w) i all_free)
      go false e =
          let nz = eqb-false r 0 e in
          let is = some_remainder w r nz in
          let l = ap length is in
          stretch_is p refl (omega arith) (omega arith)
          (state_passes i w r all_free (stands_here (subst (Stand p i) is s)) (omega arith) (omega arith))

  -- "long times become a For, State, Next and a remainder"
  module _ (i w t : ℕ) (range : InRange t) (lt : i + length (lines_for w t) < 200) (s : Stand p i (lines_for w t)) where
    Passes : Type 0
    Passes = Stretch p (λ m. Has w) i t (i + length (lines_for w t)) all_free 4

    short_passes : t ≤ 9999 → Passes
    unfolding Passes
    short_passes le =
        let is = short_lines w t le in
        let l = ap length is in
        stretch_is p refl (omega arith) (omega arith)
        (state_passes i w t all_free (stands_here (subst (Stand p i) is s)) range.0 (omega arith))

    long_passes : 9999 < t → Passes
    unfolding Passes loop_lines
    long_passes gt =
        let is = long_lines w t gt in
        let both = subst (Stand p i) is s in
        let l = ap length is ∙ length-append (loop_lines w (t / 9999)) (remainder w (t % 9999)) in
        let one = loop_passes i w (t / 9999) (omega arith) (omega arith) (stand_first (loop_lines w (t / 9999)) (remainder w (t % 9999)) both) in
        let two = rest_passes (i + 3) w (t % 9999) (omega arith) (stand_rest (loop_lines w (t / 9999)) (remainder w (t % 9999)) both refl) in
        stretch_is p (omega arith) (omega arith) (omega arith) (then_stretch p (λ m. Has w) one two)

    time_passes : Stretch p (λ m. Has w) i t (i + length (lines_for w t)) all_free 4
    unfolding Passes
    time_passes = go (ltb 9999 t) refl
      where
        go : (b : Bool) → ltb 9999 t ≡ b → Stretch p (λ m. Has w) i t (i + length (lines_for w t)) all_free 4
        go true e = long_passes (ltb-true 9999 t e)
        go false e = short_passes (ltb-false 9999 t e)

  -- ---- all moves, one behind the other

  -- what the plan asks of a tick
  abbrev PlanHas : List Move → ℕ → Ran → Type 0
  PlanHas ms n x = Has (word_at ms n) x

  as_word : {v w : ℕ} {x : Ran} → v ≡ w → Has v x → Has w x
  as_word e h = rw (← e) h

  module _ (i : ℕ) (m : Move) (ms : List Move) (so : Proper m) where
    abbrev settled : List Line
    settled = lines_for m.moveword m.settling

    abbrev read : List Line
    read = lines_for m.readingword m.reading

    abbrev rest : List Line
    rest = plan_lines ms

    -- its lines, those of the settling first
    all_are : plan_lines (m ∷ ms) ≡ settled ++ (read ++ rest)
    unfolding plan_lines move_lines
    all_are = append_assoc settled read rest

    all_long : length (plan_lines (m ∷ ms)) ≡ length settled + (length read + length rest)
    all_long = ap length all_are ∙ length-append settled (read ++ rest) ∙ ap (λ n. length settled + n) (length-append read rest)

    module _ (lt : i + length (plan_lines (m ∷ ms)) < 200) (s : Stand p i (plan_lines (m ∷ ms)))
        (on : Stand p (i + length settled + length read) rest
        → Stretch p (PlanHas ms) (i + length settled + length read) (total ms) (i + length settled + length read + length rest) all_free (8 * length ms)) where
      stands : Stand p i (settled ++ (read ++ rest))
      stands = subst (Stand p i) all_are s

      stands_read : Stand p (i + length settled) (read ++ rest)
      stands_read = stand_rest settled (read ++ rest) stands refl

      settling_passes : Stretch p (PlanHas (m ∷ ms)) i m.settling (i + length settled) all_free 4
      settling_passes =
          let l = all_long in
          stretch_as p (λ n z up h. as_word (sym (word_settles m ms n up)) h)
          (time_passes i m.moveword m.settling so.settling (omega arith) (stand_first settled (read ++ rest) stands))

      reading_passes : Stretch p (λ n. PlanHas (m ∷ ms) (m.settling + n)) (i + length settled) m.reading (i + length settled + length read) all_free 4
      reading_passes =
          let l = all_long in
          stretch_as p (λ n z up h. as_word (sym (word_reads m ms n up)) h)
          (time_passes (i + length settled) m.readingword m.reading so.reading (omega arith) (stand_first read rest stands_read))

      rest_follows : Stretch p (λ n. PlanHas (m ∷ ms) (move_ticks m + n)) (i + length settled + length read) (total ms)
          (i + length settled + length read + length rest) all_free (8 * length ms)
      rest_follows =
          stretch_as p (λ n z up h. as_word (sym (word_later m ms n)) h) (on (stand_rest read rest stands_read refl))

      move_passes : Stretch p (PlanHas (m ∷ ms)) i (total (m ∷ ms)) (i + length (plan_lines (m ∷ ms))) all_free (8 * length (m ∷ ms))
      unfolding total
      move_passes =
          let l = all_long in
          stretch_is p refl (omega arith) (omega arith)
          (then_stretch p (PlanHas (m ∷ ms)) (then_stretch p (PlanHas (m ∷ ms)) settling_passes reading_passes) rest_follows)

  plan_passes : (ms : List Move) (i : ℕ) → AllProper ms → i + length (plan_lines ms) < 200 → Stand p i (plan_lines ms)
      → Stretch p (PlanHas ms) i (total ms) (i + length (plan_lines ms)) all_free (8 * length ms)
  unfolding total plan_lines
  plan_passes [] i none lt s = stretch_is p refl (omega arith) (omega arith) (no_stretch p (PlanHas []) i all_free)
  plan_passes (m ∷ ms) i (more so all) lt s =
      let l = all_long i m ms so in
      move_passes i m ms so lt s (λ on. plan_passes ms (i + length (lines_for m.moveword m.settling) + length (lines_for m.readingword m.reading)) all
      (omega arith) on)

-- ---- the theorem

-- By the running rules the program of a plan carries it out: the outputs at every tick are the plan's, and event 011 comes at the sum of the times.
module _ (ms : List Move) (few : length ms ≤ 16) (all : AllProper ms) (outputs : ℕ) where
  abbrev p : List ℕ
  p = program_of ms

  arrives : Arrives p (λ n. Has (word_at ms n)) (start p 0 outputs) (total ms) (0 + length (plan_lines ms)) all_free 0 (8 * length ms)
  arrives =
      let l = plan_few ms in
      start_stretch p (omega arith) (plan_passes p ms 0 all (omega arith) (stand_plan ms few all)) outputs

  at_end : line_at p (0 + length (plan_lines ms)) ≡ State 0 0
  at_end = let l = plan_few ms in stand_ends ms few all (0 + length (plan_lines ms)) (omega arith) (omega arith)

  pub carries_out : CarriesOut ms p outputs
  unfolding stopped
  carries_out =
      record {
        words = λ n lt. (arrives.reaches.before n lt).word;
        ends = arrives_ends at_end (λ n z h. h.runs) arrives;
        there = ap (λ (x : Ran). x.run.line) (arrives_end at_end arrives) ∙ arrives.at.line ∙ zero-add (length (plan_lines ms));
        off = ap (λ (x : Ran). x.run.outputs) (arrives_end at_end arrives);
        few = few_due p (program_around ms few all) outputs;
      }
