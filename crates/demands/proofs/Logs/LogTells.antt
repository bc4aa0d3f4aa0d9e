-- Demand 2, the log: "The log holds each output change since power-on or the last emptying, in order, or the first of them and
-- the exact number lost, up to document 01's cap."
-- Assumes nothing.
use mathlib.Core.Path.{◌≡◌, refl, ap, ◌∙◌}
use Prim.Native.Nat.{ℕ, ◌≤◌}
use native.Mathlib.Omega.{arith}
use mathlib.Core.Bool.{Bool, true, false, not}
use mathlib.Core.List.{List, [], ◌∷◌, ◌++◌, append-nil}
use lib.ListN.{length}
use lib.Dec.{eqb}
use borrow.Author.Tests.{eqb-true, eq-eqb}
use Rattle.std.specs.Prelude.{if◌then◌else◌}
use Rattle.boxlog.specs.declared.Change.{Change}
use Rattle.boxlog.specs.declared.Log.{Log}
use Rattle.boxlog.specs.Record.{least_area}
use Rattle.boxlog.specs.Log.{places, R, Logged, add_change, records, emptied, history}
use Rattle.boxlog.proofs.Histories.{Holds, holds_nothing, holds_more, records_tell}
use Rattle.controller.specs.Controller.{Areas, fresh}
use Rattle.controller.specs.Deeds.{over, writing, load, empty_log, power_up}
use Rattle.controller.specs.Refusals.{Call, power_on, byte, tick, press, emptying, is_same_log}
use Rattle.controller.specs.Effects.{is_power_on}
use Rattle.controller.specs.Invariant.{Invariant}
use Rattle.controller.specs.Calls.{After, does, logged}
use Rattle.controller.proofs.Refusals.{checked_log, area_long, log_long, accepted_call}
use Rattle.controller.proofs.Logging.{Ordinary, a_byte, a_tick, a_press, ordinary_change, logged_is}
use Rattle.demands.specs.Histories.{Made, powering, emptying_to, Held, unpowered, outcome, is_accepted, next}
use Rattle.demands.specs.Histories.{after, HandsOn, AllHandOn, powered_on, since_power_on}
use Rattle.demands.specs.Seen.{is_taken, seen, note, notes}
use Rattle.demands.specs.Told.{Told, tell, told}
use Rattle.demands.specs.Changes.{change, since_call, since, changes}
use Rattle.demands.proofs.Calls.Answered.{next_invariant, invariant_always}
use Rattle.demands.proofs.History.Agrees.{Agrees}
use Rattle.demands.proofs.History.Changing.{change_as_told, no_change}
use Rattle.demands.proofs.History.Telling.{agrees_next, after_more, changes_more, held_as_told}
use Rattle.demands.proofs.History.Steps.{deed, Step, passes, fails, stepped, refused_held}

-- ---- what holds after each call

-- the log of an accepted power-on holds the changes cs; after a refused one there is no log
data Tells (cs : List Change) (h : Held) : Type 0 where
  unlogged : h.state.log.length ≡ 0 → Tells cs h
  tells : Holds cs h.state.log h.log → Tells cs h

held_by : (cs : List Change) (h : Held) (area : List ℕ) → Tells cs h → is_same_log h.state area ≡ true → area ≡ h.log → Holds cs h.state.log area
held_by cs h area (tells g) e same = rw same g
held_by cs h area (unlogged z) e same = absurd (omega (arith, (log_long h.state area e).0))

-- the list and the log grow by the same test
by_test : (cs : List Change) (b : Bool) (l : Log) (area : List ℕ) (new : Change) (g : Logged) → Holds cs l area
    → g ≡ (if not b then add_change l area new else record { log = l; area = area }) → Holds (cs ++ (if b then [] else new ∷ [])) g.log g.area
by_test cs true l area new g h e = rw (append-nil, e) h
by_test cs false l area new g h e = rw e (holds_more cs l area new h)

module _ (t : Told) (h : Held) (m : Made) (g : Agrees t h.state) (i : Invariant h.state) (other : is_power_on m.call ≡ false) where
  -- a byte, a tick or a press
  ordinary : (cs : List Change) → Ordinary m.call → HandsOn h m → Tells cs h → Tells (cs ++ change t (note h m)) (next h m)
  ordinary cs o hands tl = go (stepped h m)
    where
      go : Step h m → Tells (cs ++ change t (note h m)) (next h m)
      go (fails bad n e f) =
          let stays = refused_held h m other f in
          rw (stays, no_change t h m g i other stays, append-nil) tl
      go (passes ok ch e f) =
          let x = deed h m in
          let held = held_by cs h m.areas.log tl (checked_log m.call h.state m.areas other ch) (hands.log other ok) in
          rw (f, change_as_told t h m g i other ok ch e)
          (tells (by_test cs (eqb h.state.run.outputs x.state.run.outputs) h.state.log m.areas.log
          (ordinary_change m.call h.state m.areas x.state)
          (logged m.call h.state m.areas x) held (logged_is m.call h.state m.areas o)))

-- power-on begins a log, or leaves none
at_power_on : (h : Held) (a : Areas) → Tells [] (next h (record { call = power_on; areas = a }))
unfolding does logged power_up load fresh emptied
at_power_on h a = go (stepped h (record { call = power_on; areas = a }))
  where
    go : Step h (record { call = power_on; areas = a }) → Tells [] (next h (record { call = power_on; areas = a }))
    go (fails ok n e f) = rw f (unlogged refl)
    go (passes ok ch e f) =
        rw f (tells (holds_nothing (length a.log) a.log (area_long a.log ch.checks.log) refl))

-- emptying begins it anew, or is refused
at_emptying : (cs : List Change) (h : Held) (a : Areas) → let m : Made = record { call = emptying; areas = a } in
    HandsOn h m → Tells cs h → Tells (if is_accepted h m then [] else cs) (next h m)
unfolding does logged empty_log writing
at_emptying cs h a hands t = go (stepped h (record { call = emptying; areas = a }))
  where
    go : Step h (record { call = emptying; areas = a })
        → Tells (if is_accepted h (record { call = emptying; areas = a }) then [] else cs) (next h (record { call = emptying; areas = a }))
    go (fails ok n e f) = rw (ok, f) t
    go (passes ok ch e f) =
        let s = log_long h.state a.log ch.checks.0.log in
        rw (ok, f, eq-eqb h.state.run.outputs h.state.run.outputs refl)
        (tells (holds_nothing h.state.log.length a.log s.0 s.1))

tells_next : (cs : List Change) (t : Told) (h : Held) (k : Call) (a : Areas) → let m : Made = record { call = k; areas = a } in
    Agrees t h.state → Invariant h.state → HandsOn h m → Tells cs h → Tells (since_call cs t (note h m) k) (next h m)
unfolding note
tells_next cs t h power_on a g i hands tl = at_power_on h a
tells_next cs t h (byte x) a g i hands tl = ordinary t h (record { call = byte x; areas = a }) g i refl cs (a_byte x) hands tl
tells_next cs t h tick a g i hands tl = ordinary t h (record { call = tick; areas = a }) g i refl cs a_tick hands tl
tells_next cs t h (press n) a g i hands tl = ordinary t h (record { call = press n; areas = a }) g i refl cs (a_press n) hands tl
tells_next cs t h emptying a g i hands tl = at_emptying cs h a hands tl

tells_after : (cs : List Change) (t : Told) (h : Held) (ms : List Made) → Agrees t h.state → Invariant h.state → AllHandOn h ms → Tells cs h
    → Tells (since cs t (notes h ms)) (after h ms)
unfolding since after notes note
tells_after cs t h [] g i hands tl = tl
tells_after cs t h (m ∷ ms) g i hands tl =
    tells_after (since_call cs t (note h m) m.call) (tell t (note h m)) (next h m) ms (agrees_next t h m i g) (next_invariant h m i) hands.1
    (tells_next cs t h m.call m.areas g i hands.0 tl)

-- what an accepted emptying leaves in its destination, and the count that it returns
copied : (h : Held) (a : Areas) → is_accepted h (emptying_to a) ≡ true
    → ((outcome h (emptying_to a)).areas.out ≡ over (records h.state.log a.log) a.out)
    × ((outcome h (emptying_to a)).written ≡ length (records h.state.log a.log))
unfolding outcome does empty_log writing
copied h a ok =
    let e = (accepted_call emptying h.state a (eqb-true _ _ ok)).1 in
    (ap (λ (r : After). r.areas.out) e, ap (λ (r : After). r.written) e)

-- ---- the demand

-- A power-on after any calls, and any calls after it; from it on the caller hands on both areas.
module _ (before : List Made) (lent : Areas) (ms : List Made) (hands : AllHandOn (after unpowered (powered_on before lent)) ms) where
  none_yet : changes (powered_on before lent) ≡ []
  unfolding since notes note
  none_yet = changes_more before (powering lent ∷ [])

  tells_on : Tells [] (after unpowered (powered_on before lent))
  unfolding after
  tells_on = rw (after_more before (powering lent ∷ [])) (at_power_on (after unpowered before) lent)

  tells_now : Tells (changes (since_power_on before lent ms)) (after unpowered (since_power_on before lent ms))
  tells_now =
      rw (after_more (powered_on before lent) ms, changes_more (powered_on before lent) ms, none_yet)
      (tells_after [] (told (powered_on before lent)) (after unpowered (powered_on before lent)) ms (held_as_told (powered_on before lent))
      (invariant_always (powered_on before lent)) hands tells_on)

  -- the records held are the history of the changes since power-on or the last emptying
  log_tells : least_area ≤ (after unpowered (since_power_on before lent ms)).state.log.length
      → let h = after unpowered (since_power_on before lent ms) in records h.state.log h.log
      ≡ history (R h.state.log) (changes (since_power_on before lent ms))
  log_tells enough = go tells_now
    where
      go : Tells (changes (since_power_on before lent ms)) (after unpowered (since_power_on before lent ms))
          → records (after unpowered (since_power_on before lent ms)).state.log (after unpowered (since_power_on before lent ms)).log
          ≡ history (R (after unpowered (since_power_on before lent ms)).state.log) (changes (since_power_on before lent ms))
      go (tells g) = records_tell _ _ _ g
      go (unlogged z) = absurd (omega arith)

  -- An emptying that is taken copies to the start of its destination each change since power-on or the last emptying, in order, or the
  -- first of them and the number lost; it leaves the rest, and returns the length.
  pub emptying_tells : (a : Areas) → HandsOn (after unpowered (since_power_on before lent ms)) (emptying_to a)
      → is_taken (seen (since_power_on before lent ms) (emptying_to a)) ≡ true
      → let log = history (places (told (since_power_on before lent ms)).log_length) (changes (since_power_on before lent ms)) in
      ((seen (since_power_on before lent ms) (emptying_to a)).areas.out ≡ over log a.out)
      × ((seen (since_power_on before lent ms) (emptying_to a)).written ≡ length log)
  unfolding seen outcome
  emptying_tells a hand ok =
      let h = after unpowered (since_power_on before lent ms) in
      let ch = (accepted_call emptying h.state a (eqb-true _ _ ok)).0 in
      let s = log_long h.state a.log ch.checks.0.log in
      let log : records h.state.log a.log
      ≡ history (places (told (since_power_on before lent ms)).log_length) (changes (since_power_on before lent ms)) =
      ap (records h.state.log) (hand.log refl ok) ∙ log_tells s.0
      ∙ ap (λ n. history (places n) (changes (since_power_on before lent ms))) (held_as_told (since_power_on before lent ms)).log_length in
      let both = copied h a ok in
      (both.0 ∙ ap (λ rs. over rs a.out) log, both.1 ∙ ap (λ (rs : List ℕ). length rs) log)
