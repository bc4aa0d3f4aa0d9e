-- Calls one after the other: what they leave, and what waits of their replies.
-- Assumes nothing.
use mathlib.Core.Bool.{Bool, true, false, true≢false}
use mathlib.Core.List.{List, [], ◌∷◌, ◌++◌, append-nil, map-append, flatten}
use mathlib.Core.Path.{◌≡◌, refl, sym, ap, ◌∙◌, subst}
use Prim.Native.Nat.{ℕ, zero, suc, ◌+◌, ◌≤◌, ◌<◌}
use native.Mathlib.Omega.{arith}
use lib.ListN.{length, get_or, take, drop, take-append-drop, length-append}
use lib.Seq.{length-take-le, take-nil, take-suc}
use borrow.Author.Tests.{ne_eqb, le-leb}
use Rattle.controller.specs.Controller.{areas}
use Rattle.controller.specs.Refusals.{Call, power_on, byte, tick, press}
use Rattle.calls.specs.declared.SwitchBox.{SwitchBox}
use Rattle.calls.specs.declared.Returned.{Returned}
use Rattle.calls.specs.Returns.{written_in, after}
use Rattle.streams.specs.Gathering.{Waiting, nothing_gathered, waits_after, Puts}
use Rattle.streams.proofs.Gathering.{nothing_waits}
use Rattle.console.specs.Inputs.{Held, holding, made, held_by, reply_of, held_after, replies, waits_after_all}
use Rattle.console.specs.Inputs.{Does, Takes, call_of, calls_of, Feeds, Hears, Turns, unpowered, begins, Ran, begun, turned, Ends}

-- ---- lists of calls

-- what is held after some and then more
held_then : (ks ls : List Call) (h : Held) → held_after (ks ++ ls) h ≡ held_after ls (held_after ks h)
unfolding held_after
held_then [] ls h = refl
held_then (k ∷ ks) ls h = held_then ks ls (held_by k h (made k h))

-- the replies to some and then to more
replies_then : (ks ls : List Call) (h : Held) → replies (ks ++ ls) h ≡ replies ks h ++ replies ls (held_after ks h)
unfolding held_after replies
replies_then [] ls h = refl
replies_then (k ∷ ks) ls h = ap (λ (rs : List (List ℕ)). reply_of (made k h) ∷ rs) (replies_then ks ls (held_by k h (made k h)))

-- what waits after some and then after more
waits_then : (size : ℕ) (waited : List ℕ) (ps qs : List (List ℕ))
    → waits_after_all size waited (ps ++ qs) ≡ waits_after_all size (waits_after_all size waited ps) qs
unfolding waits_after_all
waits_then size waited [] qs = refl
waits_then size waited (p ∷ ps) qs = waits_then size (waits_after size waited p) ps qs

-- ---- how much waits

-- how many bytes some replies and then more have
length_then : (ps qs : List (List ℕ)) → length (flatten (ps ++ qs)) ≡ length (flatten ps) + length (flatten qs)
unfolding flatten
length_then [] qs = omega arith
length_then (p ∷ ps) qs =
    omega (arith, length_then ps qs, length-append p (flatten (ps ++ qs)), length-append p (flatten ps))

follows : (size : ℕ) (waited reply : List ℕ) → length waited + length reply ≤ size → waits_after size waited reply ≡ waited ++ reply
unfolding waits_after
follows size waited reply fits = rw (le-leb (length waited + length reply) size fits)

-- replies that all fit all wait
all_wait : (size : ℕ) (waited : List ℕ) (rs : List (List ℕ)) → length waited + length (flatten rs) ≤ size
    → length (waits_after_all size waited rs) ≡ length waited + length (flatten rs)
unfolding waits_after_all flatten
all_wait size waited [] fits = omega arith
all_wait size waited (r ∷ rs) fits =
    let both = length-append r (flatten rs) in
    let with = length-append waited r in
    let more = all_wait size (waited ++ r) rs (omega (arith, both, with, fits)) in
    rw (follows size waited r (omega (arith, both, fits))) (omega (arith, more, both, with))

-- ---- what they do

module _ {size : ℕ} where
  -- where there is no call, nothing is done
  pub does_nothing : (h : Held) (o : Waiting) → Does size [] h o h o
  unfolding held_after replies waits_after_all
  does_nothing h o = record { held = refl; waits = refl; failed = λ f. f; stays = λ _. refl }

  -- some calls and then more
  does_then : (ks ls : List Call) {h h₁ h₂ : Held} {o o₁ o₂ : Waiting} → Does size ks h o h₁ o₁ → Does size ls h₁ o₁ h₂ o₂ → Does size (ks ++ ls) h o h₂ o₂
  does_then ks ls {h} {h₁} {o = o} {o₁} d e = record {
    held = e.held ∙ ap (held_after ls) d.held ∙ sym (held_then ks ls h);
    waits = rw (replies_then ks ls h, waits_then) (rw (d.waits, d.held) at e.waits);
    failed = λ f. d.failed (e.failed f);
    stays = λ fits.
        let both = ap (λ rs. length (flatten rs)) (replies_then ks ls h) ∙ length_then (replies ks h) (replies ls (held_after ks h)) in
        let first : length o.waits + length (flatten (replies ks h)) ≤ size = omega (arith, both, fits) in
        let waiting = ap length d.waits ∙ all_wait size o.waits (replies ks h) first in
        let same = ap (λ x. length (flatten (replies ls x))) d.held in
        let second : length o₁.waits + length (flatten (replies ls h₁)) ≤ size = omega (arith, both, fits, waiting, same) in
        e.stays second ∙ d.stays first;
  }

  -- one call, from what it left and what waits of its reply
  does_one : (k : Call) {h h' : Held} {o o' : Waiting} → h' ≡ held_by k h (made k h) → Puts size o (reply_of (made k h)) o' → Does size (k ∷ []) h o h' o'
  unfolding held_after replies waits_after_all flatten
  does_one k {h} held puts = record {
    held = held;
    waits = puts.waits;
    failed = puts.failed;
    stays = λ fits. puts.stays (omega (arith, fits, length-append (reply_of (made k h)) []));
  }

  -- one with no reply, after which the output is as it was
  pub silent_does : (k : Call) {h h' : Held} {o : Waiting} → length o.waits ≤ size → h' ≡ held_by k h (made k h) → reply_of (made k h) ≡ []
      → Does size (k ∷ []) h o h' o
  silent_does k {o = o} inside held none =
      does_one k held record { waits = rw none (sym (nothing_waits size o.waits inside)); failed = λ f. f; stays = λ _. refl }

-- ---- the calls of bench, by their contracts

-- a byte to the wire, whose reply is put
pub byte_does : {size : ℕ} {b : SwitchBox} {p s l p' s' l' y' : List ℕ} (r : Returned) {o o' : Waiting} (x : ℕ)
    → after r (areas p' s' l' y') ≡ made (byte x) (holding b p s l) → Puts size o (take (written_in r.done) y') o'
    → Does size (byte x ∷ []) (holding b p s l) o (holding r.next p' s' l') o'
byte_does {b = b} {p} {s} {l} r x e puts =
    let h : Held = holding b p s l in
    does_one (byte x) (ap (held_by (byte x) h) e) (rw (ap reply_of e) at puts)

-- what is held after a tick or a press, which have no reply
pub record Silently (k : Call) (h h' : Held) : Type 0 where
  pub held : h' ≡ held_by k h (made k h)
  pub silent : reply_of (made k h) ≡ []

pub tick_silently : {b : SwitchBox} {p s l l' : List ℕ} (r : Returned) → after r (areas p [] l' []) ≡ made tick (holding b p s l)
    → Silently tick (holding b p s l) (holding r.next p s l')
tick_silently {b} {p} {s} {l} r e =
    record { held = ap (held_by tick (holding b p s l)) e; silent = sym (ap reply_of e) ∙ take-nil (written_in r.done) }

pub press_silently : (n : ℕ) {b : SwitchBox} {p s l l' : List ℕ} (r : Returned) → after r (areas p [] l' []) ≡ made (press n) (holding b p s l)
    → Silently (press n) (holding b p s l) (holding r.next p s l')
press_silently n {b} {p} {s} {l} r e =
    record { held = ap (held_by (press n) (holding b p s l)) e; silent = sym (ap reply_of e) ∙ take-nil (written_in r.done) }

-- ---- which call a byte of input is

-- "the rest goes to the wire"
pub rest_goes : (x : ℕ) → (x ≡ 1 → ⊥) → (x ≡ 2 → ⊥) → (x ≡ 3 → ⊥) → call_of x ≡ byte x
rest_goes x a b c = simp (ne_eqb x 1 a, ne_eqb x 2 b, ne_eqb x 3 c)

-- ---- what more bytes do, in a loop over the input; of `input` the first i have done what they do

module _ {size : ℕ} (input : List ℕ) (i : ℕ) {h h₁ : Held} {o o₁ : Waiting} (d : Does size (calls_of (take i input)) h o h₁ o₁) where
  -- one byte more
  pub one_more : i < length input → {h₂ : Held} {o₂ : Waiting} → Does size (call_of (get_or input i 0) ∷ []) h₁ o₁ h₂ o₂
      → Does size (calls_of (take (i + 1) input)) h o h₂ o₂
  one_more lt e =
      let x : ℕ = get_or input i 0 in
      let next : i + 1 ≡ suc i = omega arith in
      let more : calls_of (take (i + 1) input) ≡ calls_of (take i input) ++ (call_of x ∷ []) =
      rw next (ap calls_of (take-suc input i 0 lt) ∙ map-append call_of (take i input) (x ∷ [])) in
      rw more (does_then (calls_of (take i input)) (call_of x ∷ []) d e)

  -- one byte more, whose reply the output failed with
  pub ends_there : i < length input → {on : Bool} {h₂ : Held} {o₂ : Waiting} → Takes size (call_of (get_or input i 0)) h₁ o₁ on h₂ o₂ → on ≡ false
      → Feeds size input h o false h₂ o₂
  ends_there lt t off = record {
    fed = take (i + 1) input;
    left = drop (i + 1) input;
    whole = take-append-drop (i + 1) input;
    does = one_more lt t.does;
    ends = λ _. t.ends off;
    all = λ on. absurd (true≢false (sym on));
  }

-- ---- turns

-- the first bytes of some are some
some_there : (n : ℕ) (l : List ℕ) → n ≤ length l → (n ≡ 0 → ⊥) → 0 < length (take n l)
some_there n l le ne = rw (length-take-le n l le) (above_zero n ne)
  where
    above_zero : (k : ℕ) → (k ≡ 0 → ⊥) → 0 < k
    above_zero zero none = absurd (none refl)
    above_zero (suc k) none = omega arith

module _ {size : ℕ} where
  -- a read that gave no byte
  pub nothing_heard : {n : ℕ} {input : List ℕ} {h : Held} {o : Waiting} → n ≡ 0 → Hears size n input h o false h o
  nothing_heard {n} {input} {h} {o} none = record {
    fed = [];
    left = take n input;
    whole = refl;
    does = does_nothing h o;
    more = λ on. absurd (true≢false (sym on));
    ends = λ _ _. none;
  }

  -- and one that gave some
  pub some_heard : {n : ℕ} {input : List ℕ} {h h' : Held} {o o' : Waiting} {on : Bool} → n ≤ length input → (n ≡ 0 → ⊥)
      → Feeds size (take n input) h o on h' o' → Hears size n input h o on h' o'
  some_heard {n} {input} le some f = record {
    fed = f.fed;
    left = f.left;
    whole = f.whole;
    does = f.does;
    more = λ on.
        let all : f.fed ≡ take n input = sym (append-nil f.fed) ∙ ap (λ l. f.fed ++ l) (sym (f.all on)) ∙ f.whole in
        (f.all on, rw all (some_there n input le some));
    ends = λ off opens. absurd (true≢false (sym opens ∙ f.ends off));
  }

  -- what was gathered has gone out
  module _ {h : Held} {o e : Waiting} (empty : (e.waits ≡ []) × (e.open ≡ true → o.open ≡ true)) where
    -- and the output failed, or the input
    pub nothing_came : Turns size h o false h e
    nothing_came = record {
      empty = e;
      gone = empty.0;
      failed = empty.1;
      fed = [];
      does = does_nothing h e;
      more = λ on. absurd (true≢false (sym on));
      ends = λ _ _. refl;
    }

-- ---- turns one after the other

-- after some, of which each had a byte: n at least
pub record Turned (size n : ℕ) (h : Held) (o : Waiting) : Type 0 where
  pub fed : List ℕ
  pub ran : Ran size fed h o true
  pub held : h ≡ held_after (calls_of fed) begins
  pub many : n ≤ length fed

module _ {size : ℕ} where
  -- a turn leaves what its bytes leave
  turn_held : (fed : List ℕ) {h h' : Held} {o o' : Waiting} {on : Bool} → h ≡ held_after (calls_of fed) begins
      → (t : Turns size h o on h' o') → h' ≡ held_after (calls_of (fed ++ t.fed)) begins
  turn_held fed held t =
      t.does.held ∙ ap (held_after (calls_of t.fed)) held ∙ sym (held_then (calls_of fed) (calls_of t.fed) begins)
      ∙ ap (λ ks. held_after ks begins) (sym (map-append call_of fed t.fed))

  -- after none
  pub none_turned : {h : Held} {o : Waiting} → h ≡ begins → o ≡ nothing_gathered → Turned size 0 h o
  unfolding held_after
  none_turned e new =
      record { fed = []; ran = rw (e, new) begun; held = e; many = omega arith }

  module _ {n : ℕ} {h h' : Held} {o o' : Waiting} {on : Bool} (x : Turned size n h o) (t : Turns size h o on h' o') where
    -- one more, after which there may be more
    pub turn_more : on ≡ true → Turned size (n + 1) h' o'
    turn_more still = record {
      fed = x.fed ++ t.fed;
      ran = subst (λ y. Ran size (x.fed ++ t.fed) h' o' y) still (turned x.ran t);
      held = turn_held x.fed x.held t;
      many = omega (arith, x.many, t.more still, length-append x.fed t.fed);
    }

    -- and after which there is no more
    pub turn_ends : on ≡ false → Ends size false h' o'
    turn_ends off = record {
      fed = x.fed ++ t.fed;
      ran = subst (λ y. Ran size (x.fed ++ t.fed) h' o' y) off (turned x.ran t);
      held = turn_held x.fed x.held t;
      last = λ still. absurd (true≢false (sym still));
    }

-- ---- the beginning

-- the box of a power-on with zeros
pub power_on_begins : {p s l : List ℕ} (r : Returned) → after r (areas p s l []) ≡ made power_on unpowered → holding r.next p s l ≡ begins
unfolding begins
power_on_begins r e = ap (held_by power_on unpowered) e
