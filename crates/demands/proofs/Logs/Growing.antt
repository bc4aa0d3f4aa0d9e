-- Laws of the changes that come after some calls, up to an emptying, and of a caller who hands on up to it.
-- Assumes nothing.
use mathlib.Core.Path.{◌≡◌, refl, sym, ap, subst, ◌∙◌}
use Prim.Native.Nat.{suc}
use native.Mathlib.Numerals.{add-one}
use mathlib.Core.Bool.{true}
use mathlib.Core.List.{List, [], ◌∷◌, ◌++◌, append_assoc}
use Rattle.formats.proofs.Checks.{both_true, all_behind}
use Rattle.boxlog.specs.declared.Change.{Change}
use Rattle.reader.proofs.Words.{From, from_append}
use Rattle.controller.specs.Controller.{Areas}
use Rattle.controller.specs.Refusals.{tick}
use Rattle.demands.specs.Histories.{Made, ticking, Held, unpowered, next, after, HandsOn, AllHandOn}
use Rattle.demands.specs.Seen.{is_taken, seen, note, notes}
use Rattle.demands.specs.Told.{Told, tell, tell_all, told, afterwards}
use Rattle.demands.specs.Changes.{none_begins, since, changes}
use Rattle.demands.specs.LentBytes.{lends_bytes, lend_bytes}
use Rattle.demands.proofs.Calls.Answered.{next_invariant, invariant_always}
use Rattle.demands.proofs.History.Telling.{agrees_next, tell_taken, told_more, changes_more, held_as_told}
use Rattle.demands.proofs.Logs.Leading.{InRange, range_next, standing, Reached, none_reached, Grown, grown_one, grown_all}

-- ---- the changes that come after some calls

-- where none is told yet, the outputs stand from which the next leads
pub begun_at : (zs : List Made) → changes zs ≡ [] → Reached (standing (told zs)) (changes zs) (told zs)
begun_at zs fresh = subst (λ ds. Reached (standing (told zs)) ds (told zs)) (sym fresh) (none_reached (told zs))

module _ (xs : List Made) where
  abbrev h : Held
  h = after unpowered xs

  abbrev t : Told
  t = told xs

  module _ (from : Change) (f : InRange t) (l : Reached from (changes xs) t) where
    -- to what stands now, by calls that begin no list
    pub grown_since : (ys : List Made) → lend_bytes (xs ++ ys) ≡ true → none_begins (notes h ys) ≡ true
        → Grown from (changes xs) t.ticks (changes (xs ++ ys)) (told (xs ++ ys))
    grown_since ys b none =
        subst (λ ds. Grown from (changes xs) t.ticks ds (told (xs ++ ys))) (sym (changes_more xs ys))
        (subst (λ u. Grown from (changes xs) t.ticks (since (changes xs) t (notes h ys)) u) (sym (told_more xs ys))
        (grown_all from (changes xs) t h ys (held_as_told xs) (invariant_always xs) (all_behind lends_bytes xs ys b) f l none))

    -- by a tick that is taken, and calls after it: the first of them is a tick later
    module _ (b : Areas) (ys : List Made) (ok : is_taken (seen xs (ticking b)) ≡ true) (bytes : lend_bytes (xs ++ (ticking b ∷ ys)) ≡ true)
        (none : none_begins (notes h (ticking b ∷ ys)) ≡ true) where
      abbrev u : Told
      u = tell t (note h (ticking b))

      ticked : u.ticks ≡ suc t.ticks
      unfolding seen afterwards
      ticked = ap (λ (x : Told). x.ticks) (tell_taken t h (ticking b) refl ok) ∙ add-one t.ticks

      pub grown_ticked : Grown from (changes xs) (suc t.ticks) (changes (xs ++ (ticking b ∷ ys))) (told (xs ++ (ticking b ∷ ys)))
      unfolding since notes note tell_all
      grown_ticked =
          let g = held_as_told xs in
          let i = invariant_always xs in
          let two = both_true (lends_bytes (ticking b)) (lend_bytes ys) (all_behind lends_bytes xs (ticking b ∷ ys) bytes) in
          let calm = both_true true (none_begins (notes (next h (ticking b)) ys)) none in
          let one = grown_one from (changes xs) t h g i f l tick b two.0 refl in
          let rest = grown_all from _ u (next h (ticking b)) ys (agrees_next t h (ticking b) i g) (next_invariant h (ticking b) i) two.1
          (range_next t h (ticking b) g two.0 f) one.reached calm.1 in
          record {
            more = one.more ++ rest.more;
            is = changes_more xs (ticking b ∷ ys) ∙ rest.is ∙ ap (λ ds. ds ++ rest.more) one.is ∙ append_assoc (changes xs) one.more rest.more;
            late = subst (λ n. From n (one.more ++ rest.more)) ticked (from_append u.ticks one.more rest.more one.late rest.late);
            reached = subst (λ ds. Reached from ds (told (xs ++ (ticking b ∷ ys)))) (sym (changes_more xs (ticking b ∷ ys)))
                (subst (λ v. Reached from (since (changes xs) t (notes h (ticking b ∷ ys))) v) (sym (told_more xs (ticking b ∷ ys))) rest.reached);
          }

-- the caller hands on from power-on to the second emptying
pub hands_split : (h : Held) (xs : List Made) (m : Made) (ys : List Made) → AllHandOn h (xs ++ (m ∷ ys)) → AllHandOn h xs × HandsOn (after h xs) m
unfolding after
hands_split h [] m ys hs = (tt, hs.0)
hands_split h (x ∷ xs) m ys hs = let r = hands_split (next h x) xs m ys hs.1 in ((hs.0, r.0), r.1)
