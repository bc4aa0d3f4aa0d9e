-- Every list of changes that is possible is made by a box: calls are found, from power-on on, after which the history tells these changes.
-- Assumes nothing.
use mathlib.Core.Path.{◌≡◌, refl, sym, ap, ap₂, subst, ◌∙◌}
use Prim.Native.Nat.{ℕ, zero, suc, ◌+◌, ◌*◌, ◌-◌, ◌^◌, ◌≤◌, ◌<◌}
use native.Mathlib.Omega.{arith}
use mathlib.Core.Bool.{true, false, ◌||◌, true≢false}
use mathlib.Core.List.{List, [], ◌∷◌, ◌++◌, append-nil, append_assoc}
use lib.ListN.{length, take}
use lib.Seq.{take-append_seam}
use lib.Dec.{eqb, leb, ltb}
use borrow.Author.Tests.{eq-eqb, le-leb, leb-true, eqb-true, ltb-true}
use Rattle.formats.specs.Checks.{◌>>◌, ◌or_else◌}
use Rattle.formats.proofs.Checks.{if_case, both_true, either_true, all_append}
use Rattle.running.specs.declared.Run.{Run}
use Rattle.running.specs.Running as Running
use Rattle.boxlog.specs.declared.Change.{Change}
use Rattle.boxlog.specs.Record.{record_size, least_area, most_area, is_area}
use Rattle.boxlog.specs.Log.{places, emptied, history}
use Rattle.reader.specs.declared.Layout.TheVariants.{Sixteen}
use Rattle.reader.specs.Possible.{last_of, in_one_byte, are_next, are_possible}
use Rattle.reader.specs.Layout.{most_records}
use Rattle.reader.specs.Produced.{Produced}
use Rattle.formats.specs.Bytes.{are_bytes}
use Rattle.reader.proofs.Possible.{Follows, Fitting, next_says, says_next, possible_says}
use Rattle.controller.specs.declared.Controller.{Controller}
use Rattle.controller.specs.Controller.{Areas, with_ticks, with_log, fresh}
use Rattle.controller.specs.Deeds.{Deed, nothing_run, raise, moved, ticked, empty_log, writing, power_up, load}
use Rattle.controller.specs.Refusals.{tick, emptying, lent, check}
use Rattle.controller.specs.Calls.{does, logged, call}
use Rattle.controller.proofs.Invariant.{fresh_invariant}
use Rattle.controller.proofs.Logging.{a_tick}
use Rattle.controller.proofs.Wires.{Empty}
use Rattle.demands.specs.Histories.{Made, powering, emptying_to, Held, unpowered, outcome, is_accepted, next, after, HandsOn}
use Rattle.demands.specs.Seen.{seen, note, notes}
use Rattle.demands.specs.Told.{powered, tell, told}
use Rattle.demands.specs.Changes.{since, changes}
use Rattle.demands.specs.LentBytes.{lends_bytes, lend_bytes}
use Rattle.demands.specs.Sent.{lent_by, making, making_all, first_lent, from_power_on, MadeBy, Emptied}
use Rattle.demands.proofs.History.OfBytes.{zeros_bytes}
use Rattle.demands.proofs.Calls.Answered.{next_invariant}
use Rattle.demands.proofs.History.Changing.{changing}
use Rattle.demands.proofs.History.Telling.{fresh_agrees, agrees_next, held_as_told}
use Rattle.demands.proofs.Logs.LogTells.{emptying_tells}
use Rattle.demands.proofs.History.Steps.{held_then, Step, passes, fails, stepped}
use Rattle.demands.proofs.Logs.Sending.{length_zeros, Leads, none, more, leads_append, leads_told, leads_taken}
use Rattle.demands.proofs.Logs.Sending.{leads_bytes, makes_hands, Fit, Taken, tick_taken, emptying_taken, fit_next, call_changes}
use Rattle.demands.proofs.Logs.Switched.{Ready, Reaches, reaches_then, by_line_lem, by_execution, by_write}
use Rattle.demands.proofs.Logs.OneByte.{byte_write}

-- ---- ticks, while no program runs

-- a tick then only counts
tick_counts : (c : Controller) (a : Areas) → c.run.on ≡ false → ticked c a ≡ nothing_run (with_ticks (c.ticks + 1) c) a
unfolding ticked moved raise Running.tick
tick_counts c a off =
    if_case (λ x. x ≡ nothing_run (with_ticks (c.ticks + 1) c) a) c.paused (λ _. refl) (λ _. rw off)

module _ {n w t : ℕ} {h : Held} (r : Ready n w t h) (lt : t < 4294967295) where
  -- it is taken
  tick_is : Taken h tick
  tick_is = tick_taken r.fit (omega (arith, r.ticks))

  abbrev ticked_held : Held
  ticked_held = next h (making h tick)

  tick_done : does tick h.state (lent_by h) ≡ nothing_run (with_ticks (h.state.ticks + 1) h.state) (lent_by h)
  unfolding does
  tick_done = tick_counts h.state (lent_by h) r.off

  -- the box stands ready, one tick later
  tick_ready : Ready n w (t + 1) ticked_held
  tick_ready =
      let gone : (held_then h (making h tick)).state.run ≡ h.state.run = ap (λ (x : Deed). x.state.run) tick_done in
      record {
        fit = fit_next r.fit tick a_tick tick_is (ap (λ (x : Deed). length x.areas.program) tick_done ∙ r.fit.program)
            (ap (λ (x : Deed). are_bytes x.areas.program) tick_done ∙ r.fit.program_bytes);
        off = rw tick_is.gone (ap (λ (x : Run). x.on) gone ∙ r.off);
        outputs = rw tick_is.gone (ap (λ (x : Run). x.outputs) gone ∙ r.outputs);
        ticks = rw tick_is.gone (ap (λ (x : Deed). x.state.ticks) tick_done ∙ ap (λ m. m + 1) r.ticks);
        empty = rw tick_is.gone (subst (λ (x : Deed). Empty x.state.wire) (sym tick_done) r.empty);
      }

  -- it makes no change
  tick_leads : (cs : List Change) → Leads cs h (tick ∷ []) cs ticked_held
  tick_leads cs =
      more {ds = cs} tick [] tick_is
      (λ s a. call_changes r.fit tick a_tick tick_is cs s a
      ∙ rw (tick_done, eq-eqb h.state.run.outputs h.state.run.outputs refl) (append-nil cs))
      (none cs ticked_held)

-- d ticks
waits : (n w d : ℕ) {t : ℕ} {h : Held} → Ready n w t h → t + d ≤ 4294967295 → (cs : List Change) → Reaches n cs h cs w (t + d)
waits n w zero {t} {h} r le cs =
    let e : t ≡ t + 0 = omega arith in
    record { calls = []; held = h; leads = none cs h; ready = subst (λ s. Ready n w s h) e r }
waits n w (suc d) {t} {h} r le cs =
    let lt : t < 4294967295 = omega arith in
    let e : t + 1 + d ≡ t + suc d = omega arith in
    let q = waits n w d (tick_ready r lt) (omega arith) cs in
    record {
      calls = tick ∷ q.calls;
      held = q.held;
      leads = leads_append (tick_leads r lt cs) q.leads;
      ready = subst (λ s. Ready n w s q.held) e q.ready;
    }

-- ---- an emptying

module _ {n w t : ℕ} {h : Held} (r : Ready n w t h) where
  -- what is held after it
  abbrev emptied_held : Held
  emptied_held = next h (making h emptying)

  -- it is taken
  empties : Taken h emptying
  empties = emptying_taken r.fit

  -- it alters the log's counts alone
  emptied_is : emptied_held ≡ record { state = with_log (emptied h.state.log.length) h.state; program = h.program; log = h.log }
  unfolding does logged empty_log writing
  emptied_is = empties.gone ∙ rw (eq-eqb h.state.run.outputs h.state.run.outputs refl)

  -- the box stands ready as before
  emptied_ready : Ready n w t emptied_held
  unfolding emptied
  emptied_ready =
      let f = r.fit in
      record {
        fit = record {
          size = f.size;
          invariant = next_invariant h (making h emptying) f.invariant;
          program = rw emptied_is f.program;
          log = rw emptied_is f.log;
          program_bytes = rw emptied_is f.program_bytes;
          log_bytes = rw emptied_is f.log_bytes;
          same = rw emptied_is f.same;
        };
        off = rw emptied_is r.off;
        outputs = rw emptied_is r.outputs;
        ticks = rw emptied_is r.ticks;
        empty = rw emptied_is r.empty;
      }

  -- the changes told begin anew
  emptied_leads : (cs : List Change) → Leads cs h (emptying ∷ []) [] emptied_held
  unfolding note
  emptied_leads cs = more {cs = cs} {ds = []} emptying [] empties (λ s a. rw empties.ok) (none [] emptied_held)

-- ---- power-on

module _ (n : ℕ) (size : is_area n ≡ true) where
  -- what is held after it
  abbrev powered_held : Held
  powered_held = next unpowered (powering (first_lent n))

  -- it is taken
  powers : is_accepted unpowered (powering (first_lent n)) ≡ true
  unfolding outcome call check lent ◌>>◌ ◌or_else◌
  powers = rw (length_zeros 1600, length_zeros n, size)

  powered_is : next unpowered (powering (first_lent n)) ≡ held_then unpowered (powering (first_lent n))
  powered_is = go (stepped unpowered (powering (first_lent n)))
    where
      go : Step unpowered (powering (first_lent n)) → next unpowered (powering (first_lent n)) ≡ held_then unpowered (powering (first_lent n))
      go (passes ok ch e f) = f
      go (fails bad m e f) = absurd (true≢false (sym powers ∙ bad))

  -- the box stands ready, with outputs 0 at tick 0
  powered_ready : Ready n 0 0 powered_held
  unfolding does logged power_up load fresh emptied
  powered_ready =
      record {
        fit = record {
          size = size;
          invariant = next_invariant unpowered (powering (first_lent n)) (fresh_invariant 0);
          program = rw powered_is (length_zeros 1600);
          log = rw powered_is (length_zeros n);
          program_bytes = rw powered_is (zeros_bytes 1600);
          log_bytes = rw powered_is (zeros_bytes n);
          same = rw powered_is (length_zeros n);
        };
        off = rw powered_is;
        outputs = rw powered_is;
        ticks = rw powered_is;
        empty = rw powered_is (record { none = refl; short = refl });
      }

-- ---- one change, and a list of them

-- the change to another word
changes_to : (c : Change) (w by : ℕ) → w ≡ c.before → Fitting c → c.cause ≡ by → changing w c.word by c.tick ≡ c ∷ []
changes_to c w by from f e = ap (λ v. changing v c.word by c.tick) from ∙ rw (f.leads.other, ← e)

-- a change that can come next is made
makes_one : (n : ℕ) {h : Held} (p c : Change) → Ready n p.word p.tick h → Fitting c → Follows p c → (cs : List Change)
    → Reaches n cs h (cs ++ (c ∷ [])) c.word c.tick
makes_one n {h} p c r fits f cs = reaches_then waited (go waited.ready)
  where
    later : p.tick + (c.tick - p.tick) ≡ c.tick
    later = omega (arith, f.later)

    waited : Reaches n cs h cs p.word c.tick
    waited = subst (λ t. Reaches n cs h cs p.word t) later (waits n p.word (c.tick - p.tick) r (omega (arith, later, fits.tick)) cs)

    word : c.word < 256 ^ 4
    word = omega (arith, fits.word)

    go : {g : Held} → Ready n p.word c.tick g → Reaches n cs g (cs ++ (c ∷ [])) c.word c.tick
    go {g} q =
        let Goal : List Change → Type 0 = λ ds. Reaches n cs g (cs ++ ds) c.word c.tick in
        either_true (ltb c.cause 200 || eqb c.cause 254) (eqb c.cause 255) fits.cause
        (λ e. either_true (ltb c.cause 200) (eqb c.cause 254) e
        (λ l. subst Goal (changes_to c p.word c.cause f.joined fits refl) (by_line_lem q cs c.cause c.word (ltb-true c.cause 200 l) word))
        (λ x. subst Goal (changes_to c p.word 254 f.joined fits (eqb-true c.cause 254 x)) (by_execution q cs 0 c.word (omega arith) word)))
        (λ o.
        let one : in_one_byte c.before c.word ≡ true = rw o at fits.leads.written in
        let b = byte_write p.word c.word fits.word (ap (λ v. in_one_byte v c.word) f.joined ∙ one) in
        subst Goal (changes_to c p.word 255 f.joined fits (eqb-true c.cause 255 o))
        (subst (λ v. Reaches n cs g (cs ++ changing p.word v 255 c.tick) v c.tick) b.is (by_write q cs b.k b.x b.low b.high b.fits)))

-- so are all that can come next after p
makes_all : (n : ℕ) {h : Held} (p : Change) (ds : List Change) → Ready n p.word p.tick h → are_next p ds ≡ true → (cs : List Change)
    → Reaches n cs h (cs ++ ds) (last_of p ds).word (last_of p ds).tick
makes_all n {h} p [] r e cs = record { calls = []; held = h; leads = subst (λ ds. Leads cs h [] ds h) (sym (append-nil cs)) (none cs h); ready = r }
makes_all n {h} p (c ∷ ds) r e cs =
    let x = next_says p c ds e in
    let one = makes_one n p c r x.fitting x.after cs in
    let rest = makes_all n {h = one.held} c ds one.ready x.more (cs ++ (c ∷ [])) in
    reaches_then one
    (subst (λ es. Reaches n (cs ++ (c ∷ [])) one.held es (last_of c ds).word (last_of c ds).tick) (append_assoc cs (c ∷ []) ds) rest)

-- ---- the theorem

-- a change that the first one can follow
abbrev earlier : Change → Change
earlier c = record { cause = 0; tick = 0; word = c.before; before = 0 }

-- the first change follows it
first_follows : (c : Change) → Follows (earlier c) c
first_follows c = record { later = omega arith; joined = refl }

-- after power-on, with a log area of n bytes, calls lead to where the changes cs are told
record Found (n : ℕ) (size : is_area n ≡ true) (cs : List Change) : Type 0 where
  word : ℕ
  tick : ℕ
  reaches : Reaches n [] (powered_held n size) cs word tick

module _ (n : ℕ) (size : is_area n ≡ true) where
  -- every list of changes that is possible is told after some calls
  found : (cs : List Change) → are_possible cs ≡ true → Found n size cs
  found [] e =
      record { word = 0; tick = 0; reaches = record { calls = []; held = powered_held n size; leads = none [] _; ready = powered_ready n size } }
  found (c ∷ cs) e =
      let x = possible_says c cs e in
      let set = by_execution (powered_ready n size) [] 0 c.before (omega arith) (omega (arith, x.0.before)) in
      let made = makes_all n (earlier c) (c ∷ cs) (emptied_ready set.ready)
      (says_next (earlier c) c cs (record { fitting = x.0; after = first_follows c; more = x.1 })) [] in
      record {
        word = _;
        tick = _;
        reaches = record {
          calls = set.calls ++ (emptying ∷ made.calls);
          held = made.held;
          leads = leads_append set.leads (leads_append (emptied_leads set.ready _) made.leads);
          ready = made.ready;
        };
      }

  module _ (cs : List Change) (possible : are_possible cs ≡ true) where
    -- the calls that were found
    abbrev way : Reaches n [] (powered_held n size) cs (found cs possible).word (found cs possible).tick
    way = (found cs possible).reaches

    abbrev ms : List Made
    ms = making_all (powered_held n size) way.calls

    -- power-on and the calls after it
    abbrev now : List Made
    now = powering (first_lent n) ∷ ms

    -- they tell the changes
    way_told : (changes now ≡ cs) × (after unpowered now ≡ way.held)
    unfolding changes since notes note after
    way_told =
        let m = powering (first_lent n) in
        leads_told way.leads (tell (powered 0) (note unpowered m)) (agrees_next (powered 0) unpowered m (fresh_invariant 0) (fresh_agrees 0))
        (powered_ready n size).fit.invariant

    -- they are lent areas of bytes
    way_bytes : lend_bytes now ≡ true
    way_bytes = rw (zeros_bytes 1600, zeros_bytes n, zeros_bytes most_area) (leads_bytes way.leads)

    -- the log area has n bytes
    way_length : (told now).log_length ≡ n
    way_length = sym (held_as_told now).log_length ∙ ap (λ (x : Held). x.state.log.length) way_told.1 ∙ way.ready.fit.same

    -- Every list of changes that is possible is made by a box.
    pub possible_made : MadeBy n cs
    unfolding from_power_on
    possible_made =
        record {
          calls = way.calls;
          bytes = way_bytes;
          taken = (powers n size, leads_taken way.leads);
          hands = (record { program = λ e. absurd (true≢false e); log = λ e. absurd (true≢false e) }, makes_hands (powered_held n size) way.calls);
          changes = way_told.0;
          log_length = way_length;
        }

    -- And an emptying then gives what the log rule makes of it.
    pub possible_emptied : Emptied (history (places n) cs)
    unfolding after seen
    possible_emptied =
        let h = after unpowered now in
        let hand : HandsOn h (emptying_to (lent_by h)) = record { program = λ _ _ _. refl; log = λ _ _. refl } in
        let takes = emptying_taken (subst (Fit n) (sym way_told.1) way.ready.fit) in
        let hands = makes_hands (powered_held n size) way.calls in
        let both = emptying_tells [] (first_lent n) ms hands (lent_by h) hand takes.ok in
        record {
          first = first_lent n;
          later = ms;
          last = lent_by h;
          bytes = all_append lends_bytes now (emptying_to (lent_by h) ∷ []) way_bytes (rw takes.bytes refl);
          hands = hands;
          handed = hand;
          taken = takes.ok;
          gives = ap₂ take both.1 both.0 ∙ take-append_seam _ _ ∙ ap₂ (λ l ds. history (places l) ds) way_length way_told.0;
        }

-- Every byte string that the log rule can produce is given by an emptying of some box.
pub produced_emptied : (bs : List ℕ) → Produced Sixteen bs → Emptied bs
produced_emptied bs p =
    let R = p.R in
    let s = both_true (leb 2 R) (leb R (most_records Sixteen)) p.size in
    let lo : 2 ≤ R = leb-true 2 R s.0 in
    let hi : R ≤ 4096 = leb-true R (most_records Sixteen) s.1 in
    let size : is_area (record_size * R) ≡ true = rw (le-leb least_area (record_size * R) (omega arith), le-leb (record_size * R) most_area (omega arith)) in
    let same : places (record_size * R) ≡ R = omega arith in
    subst Emptied (ap (λ m. history m p.changes) same ∙ sym p.log) (possible_emptied (record_size * R) size p.changes p.possible)
