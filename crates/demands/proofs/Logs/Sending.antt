-- Calls of a caller who hands on, one after the other: that they are taken, what they leave, and the changes that they make.
-- Assumes nothing.
use mathlib.Core.Path.{◌≡◌, refl, sym, ap, ◌∙◌}
use Prim.Native.Nat.{ℕ, ◌+◌, ◌*◌, ◌≤◌, ◌<◌}
use native.Mathlib.Omega.{arith}
use mathlib.Core.Bool.{true, false, not, ◌&&◌, true≢false}
use mathlib.Core.List.{List, [], ◌∷◌, ◌++◌}
use lib.ListN.{length, length-replicate}
use lib.Dec.{eqb, leb, ltb}
use borrow.Author.Tests.{eq-eqb, ne_eqb, le-leb, leb-true}
use Rattle.formats.specs.Checks.{passed, ◌>>◌, ◌or_else◌}
use Rattle.formats.proofs.Checks.{if_case, both_true}
use Rattle.formats.proofs.Places.{length_placed}
use Rattle.boxlog.specs.declared.Change.{Change}
use Rattle.boxlog.specs.declared.Log.{Log}
use Rattle.boxlog.specs.Record.{record_size, least_area, most_area, is_area, change_record}
use Rattle.boxlog.specs.Log.{R, Logged, add_change, held_bytes}
use Rattle.boxlog.proofs.Records.{length_change, length_gap}
use Rattle.boxlog.proofs.Held.{area_least, held_fits}
use Rattle.formats.specs.Bytes.{are_bytes}
use Rattle.controller.specs.Refusals.{Call, byte, tick, emptying, lent, check}
use Rattle.controller.specs.Effects.{is_power_on, finished, writes_outputs, special_code}
use Rattle.controller.specs.Invariant.{Invariant}
use Rattle.controller.specs.Calls.{does, cause, logged, settled, call}
use Rattle.controller.proofs.Refusals.{Checked}
use Rattle.controller.proofs.Logging.{Ordinary, a_byte, a_tick, a_press, does_log, logged_is, logged_length}
use Rattle.demands.specs.Histories.{Held, outcome, is_accepted, is_lent_program, next, after, AllHandOn}
use Rattle.demands.specs.Seen.{note, notes}
use Rattle.demands.specs.Told.{Told, tell}
use Rattle.demands.specs.Changes.{change, since_call, since}
use Rattle.demands.specs.LentBytes.{lends_bytes, lend_bytes}
use Rattle.demands.specs.Sent.{zeros, lent_by, making, making_all, AllTaken}
use Rattle.demands.proofs.History.OfBytes.{zeros_bytes, added_bytes}
use Rattle.demands.proofs.Calls.Answered.{next_invariant}
use Rattle.demands.proofs.History.Agrees.{Agrees}
use Rattle.demands.proofs.History.Changing.{changing, change_as_told}
use Rattle.demands.proofs.History.Telling.{agrees_next}
use Rattle.demands.proofs.History.Steps.{left, held_then, Step, passes, fails, stepped}

-- an area of zeros has its length
pub length_zeros : (n : ℕ) → length (zeros n) ≡ n
unfolding zeros
length_zeros n = length-replicate n 0

-- ---- calls one after the other

-- the call k is lent areas of bytes, and is taken
pub record Taken (h : Held) (k : Call) : Type 0 where
  pub bytes : lends_bytes (making h k) ≡ true
  pub ok : is_accepted h (making h k) ≡ true
  pub checks : Checked k h.state (lent_by h)
  pub is : outcome h (making h k) ≡ left h (making h k)
  pub gone : next h (making h k) ≡ held_then h (making h k)

-- From h, the changes cs being told, the calls ks lead to g, and the changes ds are then told.
pub data Leads : List Change → Held → List Call → List Change → Held → Type 0 where
  none : (cs : List Change) (h : Held) → Leads cs h [] cs h
  more : {cs ds es : List Change} {h g : Held} (k : Call) (ks : List Call) → Taken h k
      → ((t : Told) → Agrees t h.state → since_call cs t (note h (making h k)) k ≡ ds)
      → Leads ds (next h (making h k)) ks es g → Leads cs h (k ∷ ks) es g

-- calls after calls
pub leads_append : {cs ds es : List Change} {h g f : Held} {ks ls : List Call} → Leads cs h ks ds g → Leads ds g ls es f → Leads cs h (ks ++ ls) es f
leads_append (none cs h) m = m
leads_append (more k ks ok e l) m = more k _ ok e (leads_append l m)

-- what they tell, and where they lead
pub leads_told : {cs ds : List Change} {h g : Held} {ks : List Call} → Leads cs h ks ds g → (t : Told) → Agrees t h.state → Invariant h.state
    → (since cs t (notes h (making_all h ks)) ≡ ds) × (after h (making_all h ks) ≡ g)
unfolding since notes note after making_all
leads_told (none cs h) t a i = (refl, refl)
leads_told {h} (more k ks ok e l) t a i =
    let m = making h k in
    let ih = leads_told l (tell t (note h m)) (agrees_next t h m i a) (next_invariant h m i) in
    (ap (λ cs. since cs (tell t (note h m)) (notes (next h m) (making_all (next h m) ks))) (e t a) ∙ ih.0, ih.1)

-- each of them is taken
pub leads_taken : {cs ds : List Change} {h g : Held} {ks : List Call} → Leads cs h ks ds g → AllTaken h (making_all h ks)
unfolding making_all
leads_taken (none cs h) = tt
leads_taken (more k ks ok e l) = (ok.ok, leads_taken l)

-- and lent areas of bytes
pub leads_bytes : {cs ds : List Change} {h g : Held} {ks : List Call} → Leads cs h ks ds g → lend_bytes (making_all h ks) ≡ true
unfolding making_all
leads_bytes (none cs h) = refl
leads_bytes (more k ks ok e l) = rw ok.bytes (leads_bytes l)

-- the caller hands on
pub makes_hands : (h : Held) (ks : List Call) → AllHandOn h (making_all h ks)
unfolding making_all
makes_hands h [] = tt
makes_hands h (k ∷ ks) = (record { program = λ _ _ _. refl; log = λ _ _. refl }, makes_hands (next h (making h k)) ks)

-- ---- one call

-- what is held fits: every call on it is taken
pub record Fit (n : ℕ) (h : Held) : Type 0 where
  pub size : is_area n ≡ true
  pub invariant : Invariant h.state
  pub program : length h.program ≡ 1600
  pub log : length h.log ≡ n
  pub program_bytes : are_bytes h.program ≡ true
  pub log_bytes : are_bytes h.log ≡ true
  pub same : h.state.log.length ≡ n

taken_where : {n : ℕ} {h : Held} → Fit n h → (k : Call) → check k h.state (lent_by h) ≡ passed tt → Taken h k
unfolding outcome call
taken_where {h} f k e = go (stepped h (making h k))
  where
    go : Step h (making h k) → Taken h k
    go (passes a b c d) =
        record { bytes = rw (f.program_bytes, f.log_bytes, zeros_bytes 1600, zeros_bytes most_area); ok = a; checks = b; is = c; gone = d }
    go (fails bad m _ _) =
        let z : is_accepted h (making h k) ≡ true = ap (λ r. eqb (settled r k h.state (lent_by h)).refusal 0) e in
        absurd (true≢false (sym z ∙ bad))

module _ {n : ℕ} {h : Held} (f : Fit n h) where
  -- the log is that of power-on
  own_log : (is_area (length h.log) && eqb (length h.log) h.state.log.length) ≡ true
  own_log = rw (f.log, f.same, f.size) (eq-eqb n n refl)

  -- a byte is taken
  pub byte_taken : (x : ℕ) → Taken h (byte x)
  unfolding check lent ◌>>◌ ◌or_else◌
  byte_taken x =
      taken_where f (byte x)
      (rw (f.program, length_zeros 1600, own_log, le-leb 16 (length (zeros most_area)) (rw (length_zeros most_area) (omega arith))))

  -- a tick is taken before the end of the count
  pub tick_taken : h.state.ticks < 4294967295 → Taken h tick
  unfolding check lent ◌>>◌ ◌or_else◌
  tick_taken lt = taken_where f tick (rw (f.program, own_log, ne_eqb h.state.ticks 4294967295 (λ e. omega arith)))

  -- an emptying is taken: the destination has room for the largest log
  pub emptying_taken : Taken h emptying
  unfolding check lent ◌>>◌ ◌or_else◌
  emptying_taken =
      let le : n ≤ most_area = leb-true n most_area (both_true (leb least_area n) (leb n most_area) f.size).1 in
      let fits = held_fits h.state.log (omega (arith, area_least n f.size, f.same)) f.invariant.log in
      taken_where f emptying (rw (own_log, le-leb (held_bytes h.state.log) (length (zeros most_area)) (omega (arith, f.same, length_zeros most_area))))

-- the log area keeps its length
added_area : (l : Log) (area : List ℕ) (c : Change) → record_size * l.kept + record_size ≤ length area → length (add_change l area c).area ≡ length area
unfolding add_change
added_area l area c fits =
    if_case (λ (x : Logged). length x.area ≡ length area) (ltb (l.kept + 1) (R l))
    (λ _. length_placed record_size l.kept (change_record c) area (length_change c) fits)
    (λ _. length_placed record_size l.kept _ area (length_gap _ _ _) fits)

module _ {n : ℕ} {h : Held} (f : Fit n h) (k : Call) (o : Ordinary k) where
  -- the log area has its length after the call
  logged_area : length (logged k h.state (lent_by h) (does k h.state (lent_by h))).area ≡ n
  logged_area =
      let c = h.state in
      let room = f.invariant.log.room (omega (arith, area_least n f.size, f.same)) in
      rw (logged_is k c (lent_by h) o)
      (if_case (λ (x : Logged). length x.area ≡ n) (not (eqb c.run.outputs (does k c (lent_by h)).state.run.outputs))
      (λ _. added_area c.log h.log _ (omega (arith, f.log, f.same)) ∙ f.log) (λ _. f.log))

  -- a byte, a tick or a press is lent the program area
  lends_program : is_lent_program k ≡ true
  lends_program = go o
    where
      go : {j : Call} → Ordinary j → is_lent_program j ≡ true
      go (a_byte x) = refl
      go a_tick = refl
      go (a_press b) = refl

  -- the cause of a change is a byte
  cause_byte : Taken h k → cause (finished k h.state (lent_by h)) (does k h.state (lent_by h)).state.run.line < 256
  cause_byte t =
      let i : (next h (making h k)).state.run.line < 200 = (next_invariant h (making h k) f.invariant).run.line_in_program in
      let lt : (does k h.state (lent_by h)).state.run.line < 200 = rw t.gone at i in
      let r = finished k h.state (lent_by h) in
      if_case (λ c. c < 256) (writes_outputs r) (λ _. omega arith) λ _. if_case (λ c. c < 256) (eqb (special_code r) 6) (λ _. omega arith) (λ _. omega arith)

  -- the log area stays one of bytes
  logged_bytes : Taken h k → are_bytes (logged k h.state (lent_by h) (does k h.state (lent_by h))).area ≡ true
  logged_bytes t =
      let c = h.state in
      rw (logged_is k c (lent_by h) o)
      (if_case (λ (x : Logged). are_bytes x.area ≡ true) (not (eqb c.run.outputs (does k c (lent_by h)).state.run.outputs))
      (λ _. added_bytes c.log h.log _ (cause_byte t) f.log_bytes) (λ _. f.log_bytes))

  -- what is held after it fits again
  pub fit_next : Taken h k → let p = (does k h.state (lent_by h)).areas.program in length p ≡ 1600 → are_bytes p ≡ true → Fit n (next h (making h k))
  fit_next t len are =
      let g = held_then h (making h k) in
      let long : g.program ≡ (does k h.state (lent_by h)).areas.program = rw lends_program in
      record {
        size = f.size;
        invariant = next_invariant h (making h k) f.invariant;
        program = rw (t.gone, long) len;
        log = rw t.gone logged_area;
        program_bytes = rw (t.gone, long) are;
        log_bytes = rw t.gone (logged_bytes t);
        same = rw t.gone (logged_length k h.state (lent_by h) _ ∙ ap (λ (l : Log). l.length) (does_log k h.state (lent_by h) o) ∙ f.same);
      }

  -- the change that it makes
  pub call_changes : Taken h k → (cs : List Change) → let x = (does k h.state (lent_by h)).state in
      (t : Told) → Agrees t h.state → since_call cs t (note h (making h k)) k
      ≡ cs ++ changing h.state.run.outputs x.run.outputs (cause (finished k h.state (lent_by h)) x.run.line) x.ticks
  call_changes tk cs t a = go o ∙ ap (λ ds. cs ++ ds) (change_as_told t h (making h k) a f.invariant (other o) tk.ok tk.checks tk.is)
    where
      go : {j : Call} → Ordinary j → since_call cs t (note h (making h k)) j ≡ cs ++ change t (note h (making h k))
      go (a_byte x) = refl
      go a_tick = refl
      go (a_press b) = refl

      other : {j : Call} → Ordinary j → is_power_on j ≡ false
      other (a_byte x) = refl
      other a_tick = refl
      other (a_press b) = refl
