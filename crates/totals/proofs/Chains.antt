-- Laws of logs one after the other.
-- Assumes nothing.
use Prim.Native.Nat.{ℕ, ◌+◌, ◌-◌}
use native.Mathlib.Omega.{arith}
use mathlib.Core.Path.{◌≡◌, refl, sym, ap, subst, ◌∙◌}
use mathlib.Core.Bool.{true}
use mathlib.Core.List.{List, [], ◌∷◌, ◌++◌}
use lib.ListN.{length, length-append, take}
use Rattle.std.specs.Prelude.{Some, None, Ok, Err}
use Rattle.formats.specs.Checks.{Res, refused, passed, ◌>>=◌}
use Rattle.formats.proofs.Checks.{not_passed, passed_same}
use Rattle.channels.specs.declared.Channel.{Channel}
use Rattle.channels.specs.declared.Beside.{Beside}
use Rattle.channels.specs.Bringing.{bringing}
use Rattle.channels.specs.Numbers.{number_of}
use Rattle.channels.proofs.Refusing.{joined_long}
use Rattle.streams.specs.Gathering.{Waiting}
use Rattle.streams.specs.declared.input.Failed.{Failed}
use Rattle.totals.specs.declared.Totals.{Totals}
use Rattle.totals.specs.declared.Refused.{Refused}
use Rattle.channels.specs.Bringing.{bring_all, totals_of}
use Rattle.totals.specs.Telling.{HasFirst, refusal_line, table_of, told_of, log_in, begun, Refuses, Turns, Ends, Tells}

-- ---- one log more

abbrev Brought : Type 0
Brought = List Channel × Beside

-- nothing comes behind a log
bind_over : (m : Res Brought) → (m >>= λ a. passed (a.0, a.1)) ≡ m
unfolding ◌>>=◌
bind_over (refused e) = refl
bind_over (passed a) = refl

-- what comes behind a log that is not refused
bind_on : (m : Res Brought) {t : Brought} {r : Res Brought} (f g : Brought → Res Brought) → (m >>= f) ≡ passed t
    → ((a : Brought) → f a ≡ passed t → g a ≡ r) → (m >>= g) ≡ r
unfolding ◌>>=◌
bind_on (refused e) f g p k = absurd (not_passed p)
bind_on (passed a) f g p k = k a p

pub brought_more : (cs : List Channel) (b : Beside) (logs : List (List ℕ)) (log : List ℕ) {ds : List Channel} {d : Beside}
    → bring_all cs b logs ≡ passed (ds, d) → bring_all cs b (logs ++ (log ∷ [])) ≡ bringing ds log d
unfolding bring_all
brought_more cs b [] log is = bind_over (bringing cs log b) ∙ ap (λ a. bringing a.0 log a.1) (passed_same is)
brought_more cs b (l ∷ logs) log {ds} {d} is =
    bind_on (bringing cs l b) {t = (ds, d)} {r = bringing ds log d} (λ a. bring_all a.0 a.1 logs)
    (λ a. bring_all a.0 a.1 (logs ++ (log ∷ []))) is (λ a p. brought_more a.0 a.1 logs log p)

-- ---- the turns

-- Turns were made for the arguments below number i, and each log was brought forward.
pub record Going (i : ℕ) (t : Totals) : Type 0 where
  pub logs : List (List ℕ)
  pub brought : totals_of logs ≡ passed (t.channels, t.beside)
  pub many : length logs + 1 ≡ i

-- before the first log
pub going_none : Going 1 begun
unfolding bring_all
going_none = record { logs = []; brought = refl; many = refl }

module _ {i : ℕ} {t : Totals} (g : Going i t) where
  -- one log more
  pub going_on : {t' : Totals} (area : List ℕ) → Turns i t (Ok None) t' area → Going (i + 1) t'
  going_on area (n, inside, is) =
      let log = take n area in
      record {
        logs = g.logs ++ (log ∷ []);
        brought = brought_more _ _ g.logs log g.brought ∙ is;
        many = omega (arith, length-append g.logs (log ∷ []), g.many);
      }

  -- after the last one
  pub going_over : {count : ℕ} {area : List ℕ} → i - 1 ≡ count - 1 → Ends count (Ok None) t area
  going_over last = record { logs = g.logs; brought = g.brought; after = omega (arith, g.many, last) }

  -- the log is refused
  pub going_refused : {count : ℕ} {f : Refused} {t' : Totals} {area : List ℕ} → Turns i t (Ok (Some f)) t' area → Ends count (Ok (Some f)) t' area
  going_refused {f = f} {area = area} (same, refuses) =
      rw same (record { logs = g.logs; brought = g.brought; after = subst (λ k. Refuses k t f area) (sym g.many) refuses })

  -- the file could not be read
  pub going_fails : {count : ℕ} {e : Failed} {t' : Totals} {area : List ℕ} → Turns i t (Err e) t' area → Ends count (Err e) t' area
  going_fails same = rw same (record { logs = g.logs; brought = g.brought; after = tt })

-- ---- what is told

module _ {count : ℕ} {t : Totals} {area : List ℕ} where
  pub tells_taken : {o : Waiting} → Ends count (Ok None) t area → o.open ≡ true → o.waits ≡ table_of t.channels t.beside → Tells None t area o
  tells_taken ended unfailed whole =
      record { count = count; ended = ended; unfailed = unfailed; whole = whole ∙ sym (ap told_of ended.brought) }

  module _ {f : Refused} (ended : Ends count (Ok (Some f)) t area) where
    pub tells_refused : {o : Waiting} → o.open ≡ true → o.waits ≡ refusal_line (number_of f.why) → Tells (Some f) t area o
    tells_refused unfailed whole =
        let all = brought_more _ _ ended.logs (log_in f area) ended.brought ∙ ended.after.refuses in
        record { count = count; ended = ended; unfailed = unfailed; whole = whole ∙ sym (ap told_of all) }

    -- the record that the message of 072 and 073 tells of is there
    pub ends_first : HasFirst (number_of f.why) (log_in f area)
    ends_first low high = joined_long t.channels (log_in f area) t.beside (number_of f.why) ended.after.refuses low high
