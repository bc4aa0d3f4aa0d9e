-- Laws of the changes that a history tells: each leads from the word that stood to the next, whatever calls are made, if what is lent is bytes.
-- Assumes nothing.
use mathlib.Core.Path.{◌≡◌, refl, sym, ap, subst, ◌∙◌}
use mathlib.Core.Logic.{◌≢◌}
use Prim.Native.Nat.{ℕ, ◌≤◌, ◌<◌}
use native.Mathlib.Omega.{arith}
use mathlib.Core.Bool.{Bool, true, false, not, ◌&&◌, ◌||◌, true≢false}
use mathlib.Core.List.{List, [], ◌∷◌, ◌++◌, append-nil, append_assoc}
use lib.Dec.{eqb}
use borrow.Author.Tests.{eqb-true, eqb-false, eq-eqb, ne_eqb, lt-ltb, not-true}
use Rattle.formats.proofs.Checks.{if_case, both_true, neither}
use Rattle.lines.proofs.Lines.{Word}
use Rattle.running.specs.declared.Run.{Run}
use Rattle.boxlog.specs.declared.Change.{Change}
use Rattle.boxlog.specs.Record.{is_cause}
use Rattle.reader.specs.Possible.{last_of, in_one_byte, most_number, are_next}
use Rattle.formats.specs.Bytes.{are_bytes}
use Rattle.reader.proofs.Possible.{last_snoc, says_next, next_append}
use Rattle.reader.proofs.Words.{From, from_sooner, from_append}
use Rattle.controller.specs.declared.Controller.{Controller}
use Rattle.controller.specs.Controller.{Areas}
use Rattle.controller.specs.Refusals.{Call, power_on, byte, tick, press, emptying, may_tick}
use Rattle.controller.specs.Effects.{is_power_on, is_tick}
use Rattle.controller.specs.Invariant.{Invariant}
use Rattle.controller.proofs.Invariant.{fresh_invariant}
use Rattle.controller.proofs.Refusals.{Checked, accepted_call}
use Rattle.demands.specs.Histories.{Made, Held, unpowered, outcome, is_accepted, next}
use Rattle.demands.specs.Seen.{note, notes}
use Rattle.demands.specs.Said.{Said, given, is_outputs}
use Rattle.demands.specs.Told.{Told, powered, said, tell, tell_all, told, afterwards, ticks_then}
use Rattle.demands.specs.Changes.{cause_of, change, since_call, begins, none_begins, since, changes}
use Rattle.demands.specs.LentBytes.{are_of_bytes, lend_bytes}
use Rattle.demands.proofs.Calls.Answered.{next_invariant}
use Rattle.demands.proofs.History.Agrees.{Agrees}
use Rattle.demands.proofs.History.Telling.{fresh_agrees, agrees_next, tell_refused}
use Rattle.demands.proofs.History.Changing.{changing}
use Rattle.demands.proofs.History.Words.{said_byte, word_then, one_byte_then}

-- ---- tick count and output word are numbers of four bytes

pub record InRange (t : Told) : Type 0 where
  pub ticks : t.ticks ≤ most_number
  pub word : Word t.run.outputs

program_bytes : (a : Areas) → are_of_bytes a ≡ true → are_bytes a.program ≡ true
program_bytes a e =
    let first : Bool = are_bytes a.program && are_bytes a.saved in
    (both_true (are_bytes a.program) (are_bytes a.saved)
    (both_true first (are_bytes a.log) (both_true (first && are_bytes a.log) (are_bytes a.out) e).0).0).0

-- a tick that is taken passed 033
tick_may : (k : Call) (c : Controller) (a : Areas) → is_tick k ≡ true → Checked k c a → may_tick c ≡ true
tick_may power_on c a e ch = absurd (true≢false (sym e))
tick_may (byte x) c a e ch = absurd (true≢false (sym e))
tick_may tick c a e ch = ch.checks.1
tick_may (press n) c a e ch = absurd (true≢false (sym e))
tick_may emptying c a e ch = absurd (true≢false (sym e))

module _ (t : Told) (h : Held) (m : Made) (g : Agrees t h.state) (bytes : are_of_bytes m.areas ≡ true) (f : InRange t) where
  ticks_range : is_accepted h m ≡ true → ticks_then m.call (said t (note h m)) m.areas t ≤ most_number
  unfolding outcome
  ticks_range ok =
      if_case (λ n. n ≤ most_number) (is_tick m.call)
      (λ is.
      let ch = (accepted_call m.call h.state m.areas (eqb-true _ _ ok)).0 in
      let before : h.state.ticks ≢ 4294967295 = eqb-false _ _ (not-true _ (tick_may m.call h.state m.areas is ch)) in
      omega (arith, f.ticks, g.ticks)) (λ _. f.ticks)

  pub range_next : InRange (tell t (note h m))
  unfolding tell note afterwards
  range_next =
      if_case InRange (is_power_on m.call) (λ _. record { ticks = omega arith; word = omega arith }) λ _.
      if_case InRange (is_accepted h m)
      (λ ok. record {
        ticks = ticks_range ok;
        word = word_then m.call m.areas t f.word (program_bytes m.areas bytes) g.panel.fits (said t (note h m)) (said_byte t (note h m));
      }) (λ _. f)

  -- the tick count does not fall, but for a power-on
  later : is_power_on m.call ≡ false → t.ticks ≤ (tell t (note h m)).ticks
  unfolding tell note afterwards
  later other =
      if_case (λ (x : Told). t.ticks ≤ x.ticks) (is_power_on m.call) (λ is. absurd (true≢false (sym is ∙ other))) λ _.
      if_case (λ (x : Told). t.ticks ≤ x.ticks) (is_accepted h m)
      (λ _. if_case (λ n. t.ticks ≤ n) (is_tick m.call) (λ _. omega arith) (λ _. omega arith)) (λ _. omega arith)

  -- a write to 203-206 alters one byte of the word, if it alters it
  in_one_byte_lem : is_power_on m.call ≡ false → is_outputs (said t (note h m)) ≡ true → let w = (tell t (note h m)).run.outputs in
      eqb t.run.outputs w ≡ false → in_one_byte t.run.outputs w ≡ true
  unfolding tell note afterwards
  in_one_byte_lem other is =
      if_case Altered (is_power_on m.call) (λ is. absurd (true≢false (sym is ∙ other))) λ _.
      if_case Altered (is_accepted h m)
      (λ _. one_byte_then m.call m.areas t f.word (said t (note h m)) (said_byte t (note h m)) is)
      (λ _ ne. absurd (true≢false (sym (eq-eqb t.run.outputs t.run.outputs refl) ∙ ne)))
    where
      Altered : Told → Type 0
      Altered x = eqb t.run.outputs x.run.outputs ≡ false → in_one_byte t.run.outputs x.run.outputs ≡ true

-- ---- the cause of a change

module _ (s : Said) (line : ℕ) (lt : line < 200) where
  cause_is : is_cause (cause_of s line) ≡ true
  cause_is =
      if_case (λ n. is_cause n ≡ true) (is_outputs s) (λ _. refl) λ _.
      if_case (λ n. is_cause n ≡ true) (eqb (given s) 6) (λ _. refl) (λ _. rw (lt-ltb line 200 lt))

  -- it is 255 for a write to 203-206 only
  cause_written : (b : Bool) → (is_outputs s ≡ true → b ≡ true) → (not (eqb (cause_of s line) 255) || b) ≡ true
  cause_written b h =
      if_case (λ n. (not (eqb n 255) || b) ≡ true) (is_outputs s) h λ _.
      if_case (λ n. (not (eqb n 255) || b) ≡ true) (eqb (given s) 6) (λ _. refl) (λ _. rw (ne_eqb line 255 (λ z. omega arith)))

-- ---- the changes so far

-- what stands now, as a change that left it
abbrev pub standing : Told → Change
standing t = record { cause = 0; tick = t.ticks; word = t.run.outputs; before = 0 }

-- The changes cs lead from one change to what stands: each comes next after the one before it, the last of them is not later than now, and left the word
-- of now.
pub record Reached (from : Change) (cs : List Change) (t : Told) : Type 0 where
  pub next : are_next from cs ≡ true
  pub tick : (last_of from cs).tick ≤ t.ticks
  pub word : (last_of from cs).word ≡ t.run.outputs

pub none_reached : (t : Told) → Reached (standing t) [] t
unfolding are_next
none_reached t = record { next = refl; tick = omega arith; word = refl }

-- one call more, with the change from one word to the other, if they differ
more_reached : (from : Change) (cs : List Change) (t u : Told) (by : ℕ) → Reached from cs t → t.ticks ≤ u.ticks → InRange t → InRange u → is_cause by ≡ true
    → (eqb t.run.outputs u.run.outputs ≡ false → (not (eqb by 255) || in_one_byte t.run.outputs u.run.outputs) ≡ true)
    → Reached from (cs ++ changing t.run.outputs u.run.outputs by u.ticks) u
unfolding are_next
more_reached from cs t u by l le g f is written =
    if_case (λ ds. Reached from (cs ++ ds) u) (eqb t.run.outputs u.run.outputs)
    (λ e. rw append-nil (record { next = l.next; tick = omega (arith, l.tick); word = l.word ∙ eqb-true _ _ e }))
    (λ ne.
    let p = last_of from cs in
    let c : Change = record { cause = by; tick = u.ticks; word = u.run.outputs; before = t.run.outputs } in
    let last : last_of from (cs ++ (c ∷ [])) ≡ c = last_snoc from cs c in
    record {
      next = next_append from cs (c ∷ []) l.next (says_next p c [] (record {
        fitting = record {
          cause = is;
          tick = f.ticks;
          word = omega (arith, f.word);
          before = omega (arith, g.word);
          leads = record { other = ne; written = written ne };
        };
        after = record { later = omega (arith, l.tick); joined = l.word };
        more = refl;
      }));
      tick = rw last (omega arith);
      word = rw last;
    })

module _ (from : Change) (cs : List Change) (t : Told) (h : Held) (m : Made) (g : Agrees t h.state) (i : Invariant h.state)
    (bytes : are_of_bytes m.areas ≡ true) (f : InRange t) (l : Reached from cs t) (other : is_power_on m.call ≡ false) where
  abbrev u : Told
  u = tell t (note h m)

  -- a call other than power-on
  change_reached : Reached from (cs ++ change t (note h m)) u
  unfolding change note next
  change_reached =
      let s = said t (note h m) in
      let gone : Agrees u (next h m).state = agrees_next t h m i g in
      let word : (outcome h m).state.run.outputs ≡ u.run.outputs = ap (λ (r : Run). r.outputs) gone.run in
      let line : u.run.line < 200 = rw gone.run at (next_invariant h m i).run.line_in_program in
      let reached = more_reached from cs t u (cause_of s u.run.line) l (later t h m g bytes f other) f (range_next t h m g bytes f)
      (cause_is s u.run.line line) (λ ne. cause_written s u.run.line line _ (λ is. in_one_byte_lem t h m g bytes f other is ne)) in
      subst (λ w. Reached from (cs ++ changing t.run.outputs w (cause_of s u.run.line) u.ticks) u) (sym word) reached

  -- its change, if it makes one, has the tick count after it
  change_from : From u.ticks (change t (note h m))
  unfolding change
  change_from = if_case (From u.ticks) (eqb t.run.outputs (note h m).seen.outputs) (λ _. tt) (λ _. omega arith)

-- ---- calls that begin no list of changes

-- the changes ds came to the cs, the first of them not before tick t
pub record Grown (from : Change) (cs : List Change) (t : ℕ) (all : List Change) (u : Told) : Type 0 where
  pub more : List Change
  pub is : all ≡ cs ++ more
  pub late : From t more
  pub reached : Reached from all u

module _ (from : Change) (cs : List Change) (t : Told) (h : Held) (g : Agrees t h.state) (i : Invariant h.state) (f : InRange t)
    (l : Reached from cs t) where
  abbrev GrownBy : Made → Call → Type 0
  GrownBy m k = Grown from cs (tell t (note h m)).ticks (since_call cs t (note h m) k) (tell t (note h m))

  by_change : (m : Made) → are_of_bytes m.areas ≡ true → is_power_on m.call ≡ false
      → Grown from cs (tell t (note h m)).ticks (cs ++ change t (note h m)) (tell t (note h m))
  by_change m b other =
      record {
        more = change t (note h m);
        is = refl;
        late = change_from from cs t h m g i b f l other;
        reached = change_reached from cs t h m g i b f l other;
      }

  pub grown_one : (k : Call) (a : Areas) → let m : Made = record { call = k; areas = a } in
      are_of_bytes a ≡ true → begins (note h m) ≡ false → GrownBy m k
  unfolding note
  grown_one power_on a b e = absurd (true≢false e)
  grown_one (byte x) a b e = by_change _ b refl
  grown_one tick a b e = by_change _ b refl
  grown_one (press n) a b e = by_change _ b refl
  grown_one emptying a b e =
      let m : Made = record { call = emptying; areas = a } in
      let stays : tell t (note h m) ≡ t = tell_refused t h m refl e in
      rw (e, stays) (record { more = []; is = sym (append-nil cs); late = tt; reached = l })

pub grown_all : (from : Change) (cs : List Change) (t : Told) (h : Held) (ms : List Made) → Agrees t h.state → Invariant h.state
    → lend_bytes ms ≡ true → InRange t
    → Reached from cs t → none_begins (notes h ms) ≡ true → Grown from cs t.ticks (since cs t (notes h ms)) (tell_all t (notes h ms))
unfolding since notes note tell_all
grown_all from cs t h [] g i b f l e = record { more = []; is = sym (append-nil cs); late = tt; reached = l }
grown_all from cs t h (m ∷ ms) g i b f l e =
    let two = both_true (are_of_bytes m.areas) (lend_bytes ms) b in
    let calm = both_true (not (begins (note h m))) (none_begins (notes (next h m) ms)) e in
    let quiet = not-true (begins (note h m)) calm.0 in
    let one = grown_one from cs t h g i f l m.call m.areas two.0 quiet in
    let le = later t h m g two.0 f (neither (is_power_on m.call) _ quiet).0 in
    let u = tell t (note h m) in
    let rest = grown_all from (since_call cs t (note h m) m.call) u (next h m) ms (agrees_next t h m i g) (next_invariant h m i) two.1 (range_next t h m g two.0 f)
    one.reached calm.1 in
    record {
      more = one.more ++ rest.more;
      is = rest.is ∙ ap (λ l. l ++ rest.more) one.is ∙ append_assoc cs one.more rest.more;
      late = from_append t.ticks one.more rest.more (from_sooner t.ticks u.ticks one.more le one.late)
          (from_sooner t.ticks u.ticks rest.more le rest.late);
      reached = rest.reached;
    }

-- ---- any calls

pub record SomeReached (cs : List Change) (t : Told) : Type 0 where
  pub from : Change
  pub reached : Reached from cs t

reached_next : (cs : List Change) (t : Told) (h : Held) (k : Call) (a : Areas)
    → let m : Made = record { call = k; areas = a } in
    Agrees t h.state → Invariant h.state → are_of_bytes a ≡ true → InRange t → SomeReached cs t
    → SomeReached (since_call cs t (note h m) k) (tell t (note h m))
unfolding note
reached_next cs t h power_on a g i b f l = record { from = _; reached = none_reached _ }
reached_next cs t h (byte x) a g i b f l = record { from = l.from; reached = change_reached l.from cs t h _ g i b f l.reached refl }
reached_next cs t h tick a g i b f l = record { from = l.from; reached = change_reached l.from cs t h _ g i b f l.reached refl }
reached_next cs t h (press n) a g i b f l = record { from = l.from; reached = change_reached l.from cs t h _ g i b f l.reached refl }
reached_next cs t h emptying a g i b f l =
    let m : Made = record { call = emptying; areas = a } in
    if_case (λ ds. SomeReached ds (tell t (note h m))) (is_accepted h m) (λ _. record { from = _; reached = none_reached _ })
    (λ bad. subst (λ x. SomeReached cs x) (sym (tell_refused t h m refl bad)) l)

reached_after : (cs : List Change) (t : Told) (h : Held) (ms : List Made) → Agrees t h.state → Invariant h.state → lend_bytes ms ≡ true → InRange t
    → SomeReached cs t → SomeReached (since cs t (notes h ms)) (tell_all t (notes h ms)) × InRange (tell_all t (notes h ms))
unfolding since notes note tell_all
reached_after cs t h [] g i b f l = (l, f)
reached_after cs t h (m ∷ ms) g i b f l =
    let two = both_true (are_of_bytes m.areas) (lend_bytes ms) b in
    reached_after (since_call cs t (note h m) m.call) (tell t (note h m)) (next h m) ms (agrees_next t h m i g) (next_invariant h m i) two.1 (range_next t h m g two.0 f)
    (reached_next cs t h m.call m.areas g i two.0 f l)

-- The changes lead to what the history says, after any calls whose lent areas hold bytes.
pub changes_lead : (ms : List Made) → lend_bytes ms ≡ true → SomeReached (changes ms) (told ms) × InRange (told ms)
unfolding changes told
changes_lead ms bytes =
    reached_after [] (powered 0) unpowered ms (fresh_agrees 0) (fresh_invariant 0) bytes (record { ticks = omega arith; word = omega arith })
    (record { from = _; reached = none_reached _ })
