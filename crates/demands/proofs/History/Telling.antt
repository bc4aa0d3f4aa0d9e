-- Laws of the history: one call more, and it agrees with the box again; calls after calls.
-- Assumes nothing.
use mathlib.Core.Path.{◌≡◌, refl, sym, ap, subst}
use Prim.Native.Nat.{ℕ}
use native.Mathlib.Omega.{arith}
use mathlib.Core.Bool.{Bool, true, false, true≢false}
use mathlib.Core.List.{List, [], ◌∷◌, ◌++◌}
use lib.ListN.{length}
use Rattle.std.specs.Prelude.{if◌then◌else◌}
use Rattle.boxlog.specs.Log.{emptied}
use Rattle.controller.specs.declared.Controller.{Controller}
use Rattle.controller.specs.Controller.{Areas, fresh}
use Rattle.controller.specs.Deeds.{power_up}
use Rattle.controller.specs.Refusals.{Call, power_on, byte, tick, press, emptying}
use Rattle.controller.specs.Effects.{is_power_on}
use Rattle.controller.specs.Calls.{does}
use Rattle.controller.specs.Invariant.{Invariant}
use Rattle.controller.proofs.Invariant.{fresh_invariant}
use Rattle.controller.proofs.Logging.{logged_length}
use Rattle.demands.specs.Histories.{Made, Held, unpowered, is_accepted, next, after}
use Rattle.demands.specs.Seen.{note, notes}
use Rattle.boxlog.specs.declared.Change.{Change}
use Rattle.demands.specs.Changes.{since, changes}
use Rattle.demands.specs.Told.{Told, powered, afterwards, said, tell, tell_all, told}
use Rattle.demands.proofs.Calls.Answered.{next_invariant}
use Rattle.demands.proofs.History.Steps.{deed, held_then, Step, passes, fails, stepped, refused_held}
use Rattle.demands.proofs.History.Collects.{nothing_collected}
use Rattle.demands.proofs.History.Agrees.{Agrees, log_agrees}
use Rattle.demands.proofs.History.Agreement.{does_agrees}
use Rattle.demands.proofs.History.Heard.{hears}

-- ---- one call

-- power-on
pub fresh_agrees : (n : ℕ) → Agrees (powered n) (fresh n)
unfolding fresh emptied
fresh_agrees n = record {
  ticks = refl;
  run = refl;
  paused = refl;
  wire = record { next_read = refl; next_write = refl; received = nothing_collected _ (record { none = refl; short = refl }) };
  panel = record { single = refl; fits = (omega arith, omega arith); parameter = refl; special = refl; event = refl; unread = refl };
  log_length = refl;
}

-- what is held after an accepted call, for the history
passed_agrees : (t : Told) (h : Held) (m : Made) → Agrees t (deed h m).state → next h m ≡ held_then h m → Agrees t (next h m).state
passed_agrees t h m g f =
    subst (λ (c : Controller). Agrees t c) (sym (ap (λ (x : Held). x.state) f))
    (log_agrees t (deed h m).state g _ (logged_length m.call h.state m.areas (deed h m)))

-- ---- what the history says of it

module _ (t : Told) (h : Held) (m : Made) where
  pub tell_taken : is_power_on m.call ≡ false → is_accepted h m ≡ true → tell t (note h m) ≡ afterwards m.call (said t (note h m)) m.areas t
  unfolding tell note
  tell_taken other ok = rw (other, ok)

  pub tell_refused : is_power_on m.call ≡ false → is_accepted h m ≡ false → tell t (note h m) ≡ t
  unfolding tell note
  tell_refused other bad = rw (other, bad)

  pub tell_power_on : is_power_on m.call ≡ true → tell t (note h m) ≡ powered (if is_accepted h m then length m.areas.log else 0)
  unfolding tell note
  tell_power_on is = rw is

-- ---- both

power_on_agrees : (t : Told) (h : Held) (a : Areas) → let m : Made = record { call = power_on; areas = a } in Agrees (tell t (note h m)) (next h m).state
unfolding does power_up
power_on_agrees t h a = subst (λ x. Agrees x (next h m).state) (sym (tell_power_on t h m refl)) (go (stepped h m))
  where
    m : Made
    m = record { call = power_on; areas = a }

    go : Step h m → Agrees (powered (if is_accepted h m then length a.log else 0)) (next h m).state
    go (fails ok n e f) = rw (ok, f) (fresh_agrees 0)
    go (passes ok ch e f) = rw ok (passed_agrees _ h m (fresh_agrees (length a.log)) f)

-- One call more, and they agree again.
pub agrees_next : (t : Told) (h : Held) (m : Made) → Invariant h.state → Agrees t h.state → Agrees (tell t (note h m)) (next h m).state
agrees_next t h m i g = go m.call m.areas (is_power_on m.call) refl
  where
    Next : Made → Type 0
    Next n = Agrees (tell t (note h n)) (next h n).state

    taken : (k : Call) (a : Areas) → is_power_on k ≡ false → Step h (record { call = k; areas = a }) → Next (record { call = k; areas = a })
    taken k a other (fails bad n e f) =
        let n : Made = record { call = k; areas = a } in
        subst (λ x. Agrees x (next h n).state) (sym (tell_refused t h n other bad)) (rw (refused_held h n other f) g)
    taken k a other (passes ok ch e f) =
        let n : Made = record { call = k; areas = a } in
        subst (λ x. Agrees x (next h n).state) (sym (tell_taken t h n other ok))
        (passed_agrees _ h n (does_agrees t h.state a g i (said t (note h n)) k ch other (hears h n t g i ok)) f)

    go : (k : Call) (a : Areas) (b : Bool) → is_power_on k ≡ b → Next (record { call = k; areas = a })
    go k a false other = taken k a other (stepped h (record { call = k; areas = a }))
    go power_on a true is = power_on_agrees t h a
    go (byte x) a true is = absurd (true≢false (sym is))
    go tick a true is = absurd (true≢false (sym is))
    go (press n) a true is = absurd (true≢false (sym is))
    go emptying a true is = absurd (true≢false (sym is))

-- ---- calls after calls

after_append : (xs ys : List Made) (h : Held) → after h (xs ++ ys) ≡ after (after h xs) ys
unfolding after
after_append [] ys h = refl
after_append (m ∷ xs) ys h = after_append xs ys (next h m)

notes_append : (xs ys : List Made) (h : Held) (t : Told) → tell_all t (notes h (xs ++ ys)) ≡ tell_all (tell_all t (notes h xs)) (notes (after h xs) ys)
unfolding after notes tell_all
notes_append [] ys h t = refl
notes_append (m ∷ xs) ys h t = notes_append xs ys (next h m) (tell t (note h m))

pub after_more : (xs ys : List Made) → after unpowered (xs ++ ys) ≡ after (after unpowered xs) ys
after_more xs ys = after_append xs ys unpowered

pub told_more : (xs ys : List Made) → told (xs ++ ys) ≡ tell_all (told xs) (notes (after unpowered xs) ys)
unfolding told
told_more xs ys = notes_append xs ys unpowered (powered 0)

-- the changes that they tell
since_append : (xs ys : List Made) (cs : List Change) (t : Told) (h : Held)
    → since cs t (notes h (xs ++ ys)) ≡ since (since cs t (notes h xs)) (tell_all t (notes h xs)) (notes (after h xs) ys)
unfolding since notes tell_all after
since_append [] ys cs t h = refl
since_append (m ∷ xs) ys cs t h = since_append xs ys _ (tell t (note h m)) (next h m)

pub changes_more : (xs ys : List Made) → changes (xs ++ ys) ≡ since (changes xs) (told xs) (notes (after unpowered xs) ys)
unfolding changes told
changes_more xs ys = since_append xs ys [] (powered 0) unpowered

-- ---- after any calls

agrees_after : (ms : List Made) (t : Told) (h : Held) → Invariant h.state → Agrees t h.state → Agrees (tell_all t (notes h ms)) (after h ms).state
unfolding tell_all notes after
agrees_after [] t h i g = g
agrees_after (m ∷ ms) t h i g = agrees_after ms (tell t (note h m)) (next h m) (next_invariant h m i) (agrees_next t h m i g)

-- After any calls, whatever was lent to them, every part that the box holds, but for the counts of its log (`held_as_counted`), is what the
-- history of the calls says by itself.
pub held_as_told : (ms : List Made) → Agrees (told ms) (after unpowered ms).state
unfolding told
held_as_told ms = agrees_after ms (powered 0) unpowered (fresh_invariant 0) (fresh_agrees 0)
