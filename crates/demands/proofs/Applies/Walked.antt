-- A history that is gone through once is the history of its calls, and what is tested on the way is what the theorems ask of them.
-- Assumes nothing.
use mathlib.Core.Path.{◌≡◌, refl, sym, ap, ap₂, subst, ◌∙◌}
use Prim.Native.Nat.{ℕ, zero, suc, ◌+◌, ◌*◌}
use native.Mathlib.Omega.{arith}
use mathlib.Core.Bool.{Bool, true, false, not, ◌&&◌, ◌||◌, true≢false}
use mathlib.Core.List.{List, [], ◌∷◌, ◌++◌}
use mathlib.Core.Option.{Option, none, some}
use lib.Dec.{eqb}
use borrow.Author.Tests.{eqb-true, not-true}
use Rattle.formats.specs.Checks.{Res, refused, passed, text, same, all}
use Rattle.explanation.specs.declared.Stop.{Stop}
use Rattle.std.specs.Prelude.{Option as Outcome, None, Some}
use Rattle.formats.specs.Digits.{shown}
use Rattle.formats.proofs.Checks.{both_true, either_true, same_equal}
use Rattle.wire.specs.Naming.{Names, by_digits, by_i, by_d}
use Rattle.controller.specs.Refusals.{Call}
use Rattle.controller.specs.Effects.{is_power_on}
use Rattle.demands.specs.Histories.{Made, Held, unpowered, is_accepted, is_lent_program, outcome, next, after, HandsOn, AllHandOn}
use Rattle.demands.specs.Seen.{is_taken, reply, seen, seen_of, Note, note, notes}
use Rattle.demands.specs.Told.{Told, tell, tell_all, told, Never}
use Rattle.demands.specs.ReadBack.{Arrives}
use Rattle.demands.specs.Undisturbed.{counts, unpaused}
use Rattle.demands.specs.Changes.{begins, none_begins}
use Rattle.demands.specs.LentBytes.{lend_bytes}
use Rattle.demands.specs.Walks.{Lending, own, sized, anew, Ask, Walk, set_out, made_of, next_by, note_by, Moment, went_on, moment, trail, made_in}
use Rattle.demands.specs.Premises.{never, hands_lent, hands_on, counted, arrives, names, is_given, is_stop}
use Rattle.demands.specs.Premises.{is_still, is_program_of, is_some, notes_in, lends_moment}
use Rattle.demands.specs.Applying.{failing_of, failing, Script, tests_of}
use Rattle.demands.proofs.History.Telling.{after_more, told_more}

-- ---- one call after the other

-- the calls of a trail
abbrev pub calls : Walk → List Ask → List Made
calls w qs = made_in (trail w qs).moments

after_trail : (qs : List Ask) (w : Walk) → after w.held (calls w qs) ≡ (trail w qs).last.held
unfolding after next trail went_on moment next_by
after_trail [] w = refl
after_trail (q ∷ qs) w = after_trail qs (went_on w q (outcome w.held (made_of q w)))

told_trail : (qs : List Ask) (w : Walk) → tell_all w.told (notes w.held (calls w qs)) ≡ (trail w qs).last.told
unfolding tell_all notes note next trail went_on moment next_by note_by
told_trail [] w = refl
told_trail (q ∷ qs) w = told_trail qs (went_on w q (outcome w.held (made_of q w)))

notes_trail : (qs : List Ask) (w : Walk) → notes w.held (calls w qs) ≡ notes_in (trail w qs).moments
unfolding notes note next trail went_on moment next_by note_by
notes_trail [] w = refl
notes_trail (q ∷ qs) w = ap (λ ns. note_by (made_of q w) (outcome w.held (made_of q w)) ∷ ns) (notes_trail qs (went_on w q (outcome w.held (made_of q w))))

-- ---- the premises

module _ (is : Told → Note → Bool) where
  never_trail : (qs : List Ask) (w : Walk) → never is (trail w qs).moments ≡ true → Never is w.told (notes w.held (calls w qs))
  unfolding tell notes note next trail went_on moment next_by note_by
  never_trail [] w e = tt
  never_trail (q ∷ qs) w e =
      let r = outcome w.held (made_of q w) in
      let two = both_true (not (is w.told (note_by (made_of q w) r))) (never is (trail (went_on w q r) qs).moments) e in
      (not-true _ two.0, never_trail qs (went_on w q r) two.1)

-- what the caller holds is handed on
hands_one : (k : Call) (l : Lending) (w : Walk) → let q : Ask = record { call = k; lent = l } in
    hands_lent l (moment w q (outcome w.held (made_of q w))) ≡ true → HandsOn w.held (made_of q w)
unfolding moment note_by
hands_one k (own n) w e = record { program = λ _ _ _. refl; log = λ _ _. refl }
hands_one k (anew n) w e =
    record { program = λ other _ _. absurd (true≢false (sym e ∙ other)); log = λ other _. absurd (true≢false (sym e ∙ other)) }
hands_one k (sized l) w e = record {
  program = λ other lent ok.
      let h : (not (is_lent_program k) || same m.areas.program w.held.program) ≡ true = (tested other ok).0 in
      same_equal m.areas.program w.held.program (rw lent at h);
  log = λ other ok. same_equal m.areas.log w.held.log (tested other ok).1;
}
  where
    m : Made
    m = made_of (record { call = k; lent = sized l }) w

    tested : is_power_on k ≡ false → is_accepted w.held m ≡ true
        → ((not (is_lent_program k) || same m.areas.program w.held.program) ≡ true) × (same m.areas.log w.held.log ≡ true)
    tested other ok =
        both_true (not (is_lent_program k) || same m.areas.program w.held.program) (same m.areas.log w.held.log) (rw (ok, other) at e)

hands_trail : (qs : List Ask) (w : Walk) → all hands_on (trail w qs).moments ≡ true → AllHandOn w.held (calls w qs)
unfolding next trail went_on moment next_by note_by
hands_trail [] w e = tt
hands_trail (q ∷ qs) w e =
    let r = outcome w.held (made_of q w) in
    let two = both_true (hands_on (moment w q r)) (all hands_on (trail (went_on w q r) qs).moments) e in
    (hands_one q.call q.lent w two.0, hands_trail qs (went_on w q r) two.1)

count_trail : (qs : List Ask) (w : Walk) → unpaused w.told (notes w.held (calls w qs)) ≡ counted (trail w qs).moments
unfolding unpaused counted notes note next trail went_on moment next_by note_by
count_trail [] w = refl
count_trail (q ∷ qs) w =
    let r = outcome w.held (made_of q w) in
    ap (λ n. counts w.told (note_by (made_of q w) r) + n) (count_trail qs (went_on w q r))

pub bytes_trail : (xs : List Moment) → all lends_moment xs ≡ true → lend_bytes (made_in xs) ≡ true
bytes_trail [] e = refl
bytes_trail (x ∷ xs) e = let two = both_true (lends_moment x) (all lends_moment xs) e in rw (two.0, bytes_trail xs two.1)

-- calls after calls
never_both : (is : Told → Note → Bool) (xs ys : List Made) (h : Held) (t : Told) → Never is t (notes h xs)
    → Never is (tell_all t (notes h xs)) (notes (after h xs) ys) → Never is t (notes h (xs ++ ys))
unfolding notes after tell_all
never_both is [] ys h t e f = f
never_both is (m ∷ xs) ys h t e f = (e.0, never_both is xs ys (next h m) (tell t (note h m)) e.1 f)

pub never_append : (is : Told → Note → Bool) (cs xs ys : List Made) → Never is (told cs) (notes (after unpowered cs) xs)
    → Never is (told (cs ++ xs)) (notes (after unpowered (cs ++ xs)) ys) → Never is (told cs) (notes (after unpowered cs) (xs ++ ys))
never_append is cs xs ys e f =
    never_both is xs ys (after unpowered cs) (told cs) e
    (subst (λ t. Never is t (notes (after (after unpowered cs) xs) ys)) (told_more cs xs)
    (subst (λ h. Never is (told (cs ++ xs)) (notes h ys)) (after_more cs xs) f))

hands_both : (xs ys : List Made) (h : Held) → AllHandOn h xs → AllHandOn (after h xs) ys → AllHandOn h (xs ++ ys)
unfolding after
hands_both [] ys h e f = f
hands_both (m ∷ xs) ys h e f = (e.0, hands_both xs ys (next h m) e.1 f)

pub hands_append : (cs xs ys : List Made) → AllHandOn (after unpowered cs) xs → AllHandOn (after unpowered (cs ++ xs)) ys
    → AllHandOn (after unpowered cs) (xs ++ ys)
hands_append cs xs ys e f = hands_both xs ys (after unpowered cs) e (subst (λ h. AllHandOn h ys) (after_more cs xs) f)

begins_both : (xs ys : List Made) (h : Held) → none_begins (notes h xs) ≡ true → none_begins (notes (after h xs) ys) ≡ true
    → none_begins (notes h (xs ++ ys)) ≡ true
unfolding notes after
begins_both [] ys h e f = f
begins_both (m ∷ xs) ys h e f =
    let two = both_true (not (begins (note h m))) (none_begins (notes (next h m) xs)) e in
    rw (two.0, begins_both xs ys (next h m) two.1 f)

pub begins_append : (cs xs ys : List Made) → none_begins (notes (after unpowered cs) xs) ≡ true → none_begins (notes (after unpowered (cs ++ xs)) ys) ≡ true
    → none_begins (notes (after unpowered cs) (xs ++ ys)) ≡ true
begins_append cs xs ys e f =
    begins_both xs ys (after unpowered cs) e (ap (λ h. none_begins (notes h ys)) (sym (after_more cs xs)) ∙ f)

-- ---- a history after other calls

-- the calls cs lead to w: this is what the caller holds then, and what the history says
pub record Reached (cs : List Made) (w : Walk) : Type 0 where
  pub held : after unpowered cs ≡ w.held
  pub told : told cs ≡ w.told

pub reached_none : (copy : List ℕ) → Reached [] (set_out copy)
unfolding after told tell_all notes
reached_none copy = record { held = refl; told = refl }

module _ {cs : List Made} {w : Walk} (r : Reached cs w) (qs : List Ask) where
  pub reached_more : Reached (cs ++ calls w qs) (trail w qs).last
  reached_more = record {
    held = after_more cs (calls w qs) ∙ ap (λ h. after h (calls w qs)) r.held ∙ after_trail qs w;
    told = told_more cs (calls w qs) ∙ ap₂ (λ t h. tell_all t (notes h (calls w qs))) r.told r.held ∙ told_trail qs w;
  }

  pub never_reached : (is : Told → Note → Bool) → never is (trail w qs).moments ≡ true → Never is (told cs) (notes (after unpowered cs) (calls w qs))
  never_reached is e =
      subst (λ t. Never is t (notes (after unpowered cs) (calls w qs))) (sym r.told)
      (subst (λ h. Never is w.told (notes h (calls w qs))) (sym r.held) (never_trail is qs w e))

  pub hands_reached : all hands_on (trail w qs).moments ≡ true → AllHandOn (after unpowered cs) (calls w qs)
  hands_reached e = subst (λ h. AllHandOn h (calls w qs)) (sym r.held) (hands_trail qs w e)

  pub count_reached : unpaused (told cs) (notes (after unpowered cs) (calls w qs)) ≡ counted (trail w qs).moments
  count_reached = ap₂ (λ t h. unpaused t (notes h (calls w qs))) r.told r.held ∙ count_trail qs w

  pub begins_reached : none_begins (notes_in (trail w qs).moments) ≡ true → none_begins (notes (after unpowered cs) (calls w qs)) ≡ true
  begins_reached e = ap none_begins (ap (λ h. notes h (calls w qs)) r.held ∙ notes_trail qs w) ∙ e

  -- one call more
  module _ (q : Ask) where
    pub seen_reached : seen cs (made_of q w) ≡ seen_of (outcome w.held (made_of q w))
    unfolding seen
    seen_reached = ap (λ h. seen_of (outcome h (made_of q w))) r.held

-- a call that is lent what the caller holds
pub hand_reached : {cs : List Made} {w : Walk} → Reached cs w → (k : Call) (n : ℕ) → HandsOn (after unpowered cs) (made_of (record { call = k; lent = own n }) w)
unfolding moment
hand_reached {cs} {w} r k n = subst (λ h. HandsOn h (made_of (record { call = k; lent = own n }) w)) (sym r.held) (hands_one k (own n) w refl)

-- a command has arrived, and names an address
pub arrives_reached : {cs : List Made} {w : Walk} → Reached cs w → (command : List ℕ) → arrives w.told command ≡ true → Arrives (told cs) command
arrives_reached {cs} {w} r command e = subst (λ t. Arrives t command) (sym r.told) (same_equal _ command e)

pub names_so : (next k : ℕ) (a : List ℕ) → names next k a ≡ true → Names next k a
names_so next k a e =
    either_true (same a (shown 10 3 k)) ((same a (text "I") && eqb k next) || (same a (text "D") && eqb (k + 2) next)) e
    (λ d. by_digits (same_equal a (shown 10 3 k) d)) λ f.
    either_true (same a (text "I") && eqb k next) (same a (text "D") && eqb (k + 2) next) f
    (λ g. let two = both_true (same a (text "I")) (eqb k next) g in by_i (same_equal a (text "I") two.0) (eqb-true k next two.1)) λ g.
    let two = both_true (same a (text "D")) (eqb (k + 2) next) g in by_d (same_equal a (text "D") two.0) (eqb-true (k + 2) next two.1)

-- ---- what is seen of one call more

module _ {cs : List Made} {w : Walk} (r : Reached cs w) (q : Ask) where
  pub taken_so : is_taken (seen_of (outcome w.held (made_of q w))) ≡ true → is_taken (seen cs (made_of q w)) ≡ true
  taken_so e = ap is_taken (seen_reached r [] q) ∙ e

  pub reply_so : (bs : List ℕ) → same (reply (seen_of (outcome w.held (made_of q w)))) bs ≡ true → reply (seen cs (made_of q w)) ≡ bs
  reply_so bs e = ap reply (seen_reached r [] q) ∙ same_equal (reply (seen_of (outcome w.held (made_of q w)))) bs e

  pub one_reached : Reached (cs ++ (made_of q w ∷ [])) (trail w (q ∷ [])).last
  unfolding trail moment
  one_reached = reached_more r (q ∷ [])

pub read_named : {cs : List Made} {w : Walk} → Reached cs w → (k : ℕ) (a : List ℕ) → names w.told.next_read k a ≡ true → Names (told cs).next_read k a
read_named r k a e = subst (λ (t : Told). Names t.next_read k a) (sym r.told) (names_so _ k a e)

pub write_named : {cs : List Made} {w : Walk} → Reached cs w → (k : ℕ) (a : List ℕ) → names w.told.next_write k a ≡ true → Names (told cs).next_write k a
write_named r k a e = subst (λ (t : Told). Names t.next_write k a) (sym r.told) (names_so _ k a e)

-- what a stop that is told has for its parts
pub stop_so : {X : Type 0} (r : Res (Outcome Stop)) (e n k : ℕ) → is_stop r e n k ≡ true
    → ((s : Stop) → r ≡ passed (Some s) → s.event ≡ e → s.tick ≡ n → s.line ≡ k → X) → X
stop_so (refused x) e n k p so = absurd (true≢false (sym p))
stop_so (passed None) e n k p so = absurd (true≢false (sym p))
stop_so (passed (Some s)) e n k p so =
    let a = both_true _ _ p in
    let b = both_true _ _ a.0 in
    so s refl (eqb-true _ _ b.0) (eqb-true _ _ b.1) (eqb-true _ _ a.1)

pub program_so : (r : Res (List ℕ)) (p : List ℕ) → is_program_of r p ≡ true → r ≡ passed p
program_so (refused x) p e = absurd (true≢false (sym e))
program_so (passed q) p e = ap passed (same_equal q p e)

pub still_so : (r : Res (Outcome Stop)) → is_still r ≡ true → r ≡ passed None
still_so (refused x) p = absurd (true≢false (sym p))
still_so (passed None) p = refl
still_so (passed (Some s)) p = absurd (true≢false (sym p))

pub given_so : (r : Res ℕ) (n : ℕ) → is_given r n ≡ true → r ≡ passed n
given_so (refused e) n p = absurd (true≢false (sym p))
given_so (passed m) n p = ap passed (eqb-true m n p)

pub some_so : (r : Option ℕ) (n : ℕ) → is_some r n ≡ true → r ≡ some n
some_so none n p = absurd (true≢false (sym p))
some_so (some m) n p = ap some (eqb-true m n p)

-- ---- tests that pass

cons_not_nil : {A : Type 0} {x : A} {xs : List A} → ◌≡◌ {A = List A} (x ∷ xs) [] → ⊥
cons_not_nil e = let z : ◌≡◌ {A = ℕ} 0 1 = cc in omega arith

both_nil : (xs ys : List ℕ) → xs ++ ys ≡ [] → (xs ≡ []) × (ys ≡ [])
both_nil [] ys e = (refl, e)
both_nil (x ∷ xs) ys e = absurd (cons_not_nil e)

abbrev pub AllTrue : List Bool → Type 0
AllTrue [] = Unit {0}
AllTrue (b ∷ bs) = (b ≡ true) × AllTrue bs

pub true_front : (xs ys : List Bool) → AllTrue (xs ++ ys) → AllTrue xs × AllTrue ys
true_front [] ys e = (tt, e)
true_front (x ∷ xs) ys e = let r = true_front xs ys e.1 in ((e.0, r.0), r.1)

-- the test number i, from 0
abbrev pub nth : ℕ → List Bool → Bool
nth i [] = true
nth zero (b ∷ bs) = b
nth (suc i) (b ∷ bs) = nth i bs

pub holds_at : (bs : List Bool) → AllTrue bs → (i : ℕ) → nth i bs ≡ true
holds_at [] e i = refl
holds_at (b ∷ bs) e zero = e.0
holds_at (b ∷ bs) e (suc i) = holds_at bs e.1 i

abbrev pub EachPasses : List Script → Type 0
EachPasses [] = Unit {0}
EachPasses (s ∷ ss) = AllTrue (tests_of s) × EachPasses ss

none_failing : (n : ℕ) (bs : List Bool) → failing_of n bs ≡ [] → AllTrue bs
unfolding failing_of
none_failing n [] e = tt
none_failing n (true ∷ bs) e = (refl, none_failing (n + 1) bs e)
none_failing n (false ∷ bs) e = absurd (cons_not_nil e)

-- where no test fails, every script passes
pub each_passes : (n : ℕ) (ss : List Script) → failing n ss ≡ [] → EachPasses ss
unfolding failing
each_passes n [] e = tt
each_passes n (s ∷ ss) e =
    let two = both_nil (failing_of (100 * n + 1) (tests_of s)) (failing (n + 1) ss) e in
    (none_failing (100 * n + 1) (tests_of s) two.0, each_passes (n + 1) ss two.1)
