-- Demand 2, the log: what each call leaves of the log area, and what emptying copies, whatever the caller did to the area.
-- 01, 'The log': "A log that the caller altered is not repaired: each call still writes exactly the record that is due, and emptying copies
-- what stands there."
-- Assumes nothing.
use mathlib.Core.Path.{◌≡◌, refl, sym, ap, ap₂, ◌∙◌}
use Prim.Native.Nat.{ℕ, ◌*◌, ◌≤◌, min}
use native.Mathlib.Omega.{arith}
use mathlib.Core.Bool.{Bool, true, false, not, true≢false}
use mathlib.Core.List.{List, [], ◌∷◌, ◌++◌, append-nil}
use lib.ListN.{length, take, drop}
use lib.Dec.{eqb}
use borrow.Author.Tests.{eq-eqb}
use Rattle.std.specs.Prelude.{if◌then◌else◌}
use Rattle.boxlog.specs.declared.Change.{Change}
use Rattle.boxlog.specs.declared.Log.{Log}
use Rattle.boxlog.specs.Record.{record_size, least_area}
use Rattle.boxlog.specs.Log.{places, R, Logged, add_change, held_bytes, records, emptied}
use Rattle.boxlog.proofs.Held.{held_fits, length_records}
use Rattle.boxlog.proofs.Counting.{Counts, counts_nothing, counts_more, record_due_lem, held_counts}
use Rattle.controller.specs.declared.Controller.{Controller}
use Rattle.controller.specs.Controller.{Areas, fresh}
use Rattle.controller.specs.Deeds.{writing, load, empty_log, power_up}
use Rattle.controller.specs.Refusals.{Call, power_on, byte, tick, press, emptying}
use Rattle.controller.specs.Effects.{is_power_on}
use Rattle.controller.specs.Calls.{After, does, logged}
use Rattle.controller.specs.Invariant.{Invariant}
use Rattle.controller.proofs.Invariant.{fresh_invariant}
use Rattle.controller.proofs.Refusals.{checked_log, area_long, log_long}
use Rattle.controller.proofs.Logging.{Ordinary, a_byte, a_tick, a_press, ordinary_change, does_log, logged_is, logged_length}
use Rattle.demands.specs.Histories.{Made, emptying_to, Held, unpowered, outcome, is_accepted, next, after}
use Rattle.demands.specs.Seen.{is_taken, seen, note, notes}
use Rattle.demands.specs.Told.{Told, powered, tell, told}
use Rattle.demands.specs.Changes.{change, since_call, since, changes, held_after, log_by, log_then}
use Rattle.demands.proofs.History.Steps.{deed, Step, passes, fails, stepped, refused_held}
use Rattle.demands.proofs.Calls.Answered.{next_invariant, invariant_always}
use Rattle.demands.proofs.History.Agrees.{Agrees}
use Rattle.demands.proofs.History.Telling.{fresh_agrees, agrees_next, held_as_told}
use Rattle.demands.proofs.History.Changing.{change_as_told, no_change}

-- ---- what is counted after each call

-- the log of an accepted power-on has counted the changes cs; after a refused one there is no log and no change
data Counted (cs : List Change) (c : Controller) : Type 0 where
  unlogged : c.log.length ≡ 0 → cs ≡ [] → c.log.kept ≡ 0 → c.log.lost ≡ 0 → Counted cs c
  counted : least_area ≤ c.log.length → Counts cs c.log → Counted cs c

counts_of : (cs : List Change) (c : Controller) → Counted cs c → least_area ≤ c.log.length → Counts cs c.log
counts_of cs c (counted enough g) le = g
counts_of cs c (unlogged z n k l) le = absurd (omega arith)

-- the list, the log and its area grow by the same test
module _ (cs : List Change) (l : Log) (area : List ℕ) (new : Change) (enough : least_area ≤ l.length) (h : Counts cs l) where
  by_test : (b : Bool) (g : Logged) → g ≡ (if not b then add_change l area new else record { log = l; area = area })
      → Counts (cs ++ (if b then [] else new ∷ [])) g.log × (g.area ≡ log_by (R l) cs (if b then [] else new ∷ []) area)
  by_test true g e = (rw (append-nil, e) h, ap (λ (x : Logged). x.area) e)
  by_test false g e = (rw e (counts_more cs l area new enough h), ap (λ (x : Logged). x.area) e ∙ record_due_lem cs l area new enough h)

-- a byte, a tick or a press that is taken
module _ (t : Told) (h : Held) (m : Made) (g : Agrees t h.state) (i : Invariant h.state) (other : is_power_on m.call ≡ false)
    (cs : List Change) (o : Ordinary m.call) (n : Counted cs h.state) where
  logs : is_accepted h m ≡ true → Step h m → let x = logged m.call h.state m.areas (deed h m) in
      Counts (cs ++ change t (note h m)) x.log × (x.area ≡ log_by (R h.state.log) cs (change t (note h m)) m.areas.log)
      × (least_area ≤ x.log.length)
  logs ok (fails bad _ e f) = absurd (true≢false (sym ok ∙ bad))
  logs ok (passes _ ch e f) =
      let enough = (log_long h.state m.areas.log (checked_log m.call h.state m.areas other ch)).0 in
      let x = (deed h m).state in
      let two = by_test cs h.state.log m.areas.log (ordinary_change m.call h.state m.areas x) enough (counts_of cs h.state n enough)
      (eqb h.state.run.outputs x.run.outputs) (logged m.call h.state m.areas (deed h m)) (logged_is m.call h.state m.areas o) in
      let same = change_as_told t h m g i other ok ch e in (
        rw same two.0,
        two.1 ∙ ap (λ new. log_by (R h.state.log) cs new m.areas.log) (sym same),
        omega (arith, logged_length m.call h.state m.areas (deed h m), ap (λ (y : Log). y.length) (does_log m.call h.state m.areas o)),
      )

  ordinary_next : Step h m → Counted (cs ++ change t (note h m)) (next h m).state
  ordinary_next (fails bad _ e f) =
      let stays = refused_held h m other f in
      rw (stays, no_change t h m g i other stays, append-nil) n
  ordinary_next (passes ok ch e f) =
      let two = logs ok (passes ok ch e f) in
      rw f (counted two.2 two.0)

  ordinary_area : is_accepted h m ≡ true → Step h m → (outcome h m).areas.log ≡ log_by (R h.state.log) cs (change t (note h m)) m.areas.log
  ordinary_area ok (fails bad _ e f) = absurd (true≢false (sym ok ∙ bad))
  ordinary_area ok (passes _ ch e f) = ap (λ (x : After). x.areas.log) e ∙ (logs ok (passes ok ch e f)).1

-- power-on begins a count, or leaves none; it changes no byte of the log
module _ (h : Held) (a : Areas) where
  at_power_on : Step h (record { call = power_on; areas = a }) → Counted [] (next h (record { call = power_on; areas = a })).state
  unfolding does logged power_up load fresh emptied
  at_power_on (fails ok _ e f) = rw f (unlogged refl refl refl refl)
  at_power_on (passes ok ch e f) = rw f (counted (area_long a.log ch.checks.log) (counts_nothing (length a.log)))

  power_on_area : is_accepted h (record { call = power_on; areas = a }) ≡ true → Step h (record { call = power_on; areas = a })
      → (outcome h (record { call = power_on; areas = a })).areas.log ≡ a.log
  unfolding does logged power_up load fresh
  power_on_area ok (fails bad _ e f) = absurd (true≢false (sym ok ∙ bad))
  power_on_area ok (passes _ ch e f) = ap (λ (x : After). x.areas.log) e

  -- so does emptying
  at_emptying : (cs : List Change) → Counted cs h.state → Step h (record { call = emptying; areas = a })
      → Counted (if is_accepted h (record { call = emptying; areas = a }) then [] else cs) (next h (record { call = emptying; areas = a })).state
  unfolding does logged empty_log writing emptied
  at_emptying cs n (fails ok _ e f) = rw (ok, f) n
  at_emptying cs n (passes ok ch e f) =
      rw (ok, f, eq-eqb h.state.run.outputs h.state.run.outputs refl)
      (counted (log_long h.state a.log ch.checks.0.log).0 (counts_nothing h.state.log.length))

  emptying_area : is_accepted h (record { call = emptying; areas = a }) ≡ true → Step h (record { call = emptying; areas = a })
      → (outcome h (record { call = emptying; areas = a })).areas.log ≡ a.log
  unfolding does logged empty_log writing
  emptying_area ok (fails bad _ e f) = absurd (true≢false (sym ok ∙ bad))
  emptying_area ok (passes _ ch e f) =
      ap (λ (x : After). x.areas.log) e ∙ rw (eq-eqb h.state.run.outputs h.state.run.outputs refl)

counted_next : (cs : List Change) (t : Told) (h : Held) (k : Call) (a : Areas) → let m : Made = record { call = k; areas = a } in
    Agrees t h.state → Invariant h.state → Counted cs h.state → Counted (since_call cs t (note h m) k) (next h m).state
unfolding note
counted_next cs t h power_on a g i n = at_power_on h a (stepped h _)
counted_next cs t h (byte x) a g i n = ordinary_next t h _ g i refl cs (a_byte x) n (stepped h _)
counted_next cs t h tick a g i n = ordinary_next t h _ g i refl cs a_tick n (stepped h _)
counted_next cs t h (press b) a g i n = ordinary_next t h _ g i refl cs (a_press b) n (stepped h _)
counted_next cs t h emptying a g i n = at_emptying h a cs n (stepped h _)

counted_after : (cs : List Change) (t : Told) (h : Held) (ms : List Made) → Agrees t h.state → Invariant h.state → Counted cs h.state
    → Counted (since cs t (notes h ms)) (after h ms).state
unfolding since after notes note
counted_after cs t h [] g i n = n
counted_after cs t h (m ∷ ms) g i n =
    counted_after (since_call cs t (note h m) m.call) (tell t (note h m)) (next h m) ms (agrees_next t h m i g) (next_invariant h m i) (counted_next cs t h m.call m.areas g i n)

counted_always : (ms : List Made) → Counted (changes ms) (after unpowered ms).state
unfolding changes fresh emptied
counted_always ms = counted_after [] (powered 0) unpowered ms (fresh_agrees 0) (fresh_invariant 0) (unlogged refl refl refl refl)

-- ---- the demand

no_bytes : (n : ℕ) → record_size * 0 ≡ record_size * min 0 n
no_bytes n = omega arith

-- the bytes that the box holds of its log are as many as the history says
pub held_as_counted : (ms : List Made) → held_bytes (after unpowered ms).state.log ≡ held_after (places (told ms).log_length) (changes ms)
held_as_counted ms = go (counted_always ms)
  where
    c : Controller
    c = (after unpowered ms).state

    go : Counted (changes ms) c → held_bytes c.log ≡ held_after (places (told ms).log_length) (changes ms)
    go (unlogged z none k l) = rw (l, k, none) (no_bytes (places (told ms).log_length))
    go (counted enough g) =
        ap (λ n. record_size * n) (held_counts (changes ms) c.log enough g)
        ∙ ap (λ n. held_after (places n) (changes ms)) (held_as_told ms).log_length

-- Each call that is taken leaves the log area as it was, but for the one record that is due where the outputs changed.
pub log_left : (ms : List Made) (m : Made) → is_taken (seen ms m) ≡ true
    → (seen ms m).areas.log ≡ log_then m.call (places (told ms).log_length) (changes ms) (change (told ms) (note (after unpowered ms) m)) m.areas.log
unfolding seen
log_left ms m ok = go m.call m.areas ok
  where
    h : Held
    h = after unpowered ms

    g : Agrees (told ms) h.state
    g = held_as_told ms

    Left : Call → Areas → Type 0
    Left k a = let n : Made = record { call = k; areas = a } in
        is_accepted h n ≡ true → (outcome h n).areas.log ≡ log_then k (places (told ms).log_length) (changes ms) (change (told ms) (note h n)) a.log

    by_change : (k : Call) (a : Areas) → is_power_on k ≡ false → Ordinary k → let n : Made = record { call = k; areas = a } in
        is_accepted h n ≡ true → (outcome h n).areas.log ≡ log_by (places (told ms).log_length) (changes ms) (change (told ms) (note h n)) a.log
    by_change k a other o taken =
        let n : Made = record { call = k; areas = a } in
        ordinary_area (told ms) h n g (invariant_always ms) other (changes ms) o (counted_always ms) taken (stepped h n)
        ∙ ap (λ x. log_by (places x) (changes ms) (change (told ms) (note h n)) a.log) g.log_length

    go : (k : Call) (a : Areas) → Left k a
    go power_on a taken = power_on_area h a taken (stepped h _)
    go (byte x) a taken = by_change (byte x) a refl (a_byte x) taken
    go tick a taken = by_change tick a refl a_tick taken
    go (press b) a taken = by_change (press b) a refl (a_press b) taken
    go emptying a taken = emptying_area h a taken (stepped h _)

-- Emptying copies what stands in as many places as the history says are held, to the start of its destination, leaves the rest, and
-- returns their byte count.
pub emptying_copies : (ms : List Made) (a : Areas) → let m = emptying_to a in is_taken (seen ms m) ≡ true
    → let n = held_after (places (told ms).log_length) (changes ms) in
    ((seen ms m).areas.out ≡ take n a.log ++ drop n a.out) × ((seen ms m).written ≡ n)
unfolding seen does empty_log writing records
emptying_copies ms a ok = go (stepped h m)
  where
    h : Held
    h = after unpowered ms

    m : Made
    m = emptying_to a

    n : ℕ
    n = held_after (places (told ms).log_length) (changes ms)

    go : Step h m → ((outcome h m).areas.out ≡ take n a.log ++ drop n a.out) × ((outcome h m).written ≡ n)
    go (fails bad _ e f) = absurd (true≢false (sym ok ∙ bad))
    go (passes _ ch e f) =
        let s = log_long h.state a.log ch.checks.0.log in
        let fits = held_fits h.state.log s.0 (invariant_always ms).log in
        let long : length (records h.state.log a.log) ≡ held_bytes h.state.log = length_records h.state.log a.log (omega (arith, s.1)) in
        let all = held_as_counted ms in (
          ap (λ (x : After). x.areas.out) e ∙ ap₂ (λ i j. take i a.log ++ drop j a.out) all (long ∙ all),
          ap (λ (x : After). x.written) e ∙ long ∙ all,
        )
