-- The loop of the walk: up to line i every For is met, and no tangle.
-- Assumes nothing.
use Prim.Native.Nat.{ℕ, suc, ◌+◌, ◌≤◌, ◌<◌}
use native.Mathlib.Omega.{arith}
use mathlib.Core.Path.{◌≡◌, refl, sym, ap, ◌∙◌}
use mathlib.Core.Bool.{Bool, true, false, ◌||◌}
use mathlib.Core.List.{List}
use lib.ListN.{replicate}
use Rattle.std.specs.Prelude.{Option, None, Some}
use Rattle.std.specs.Prelude.{if◌then◌else◌}
use Rattle.std.proofs.lemmas.Option.{none-some, same_Some}
use Rattle.formats.proofs.Checks.{if_true, if_false}
use Rattle.lines.specs.Program.{line_at}
use Rattle.lines.specs.Searches.{some_before}
use Rattle.lines.specs.Loops.{next_of}
use Rattle.duration.specs.Loops.{is_tangled}
use Rattle.duration.specs.Walk.{open_at, opened, is_fault, walked_line, walked}
use Rattle.lines.proofs.Searches.{line_some}
use Rattle.duration.proofs.Faults.{tangled_is}

pub record Walking (p : List ℕ) (i : ℕ) (os : List (Option ℕ)) : Type 0 where
  pub nexts : os ≡ open_at p i
  pub none : some_before (λ j. is_fault (line_at p j) j (next_of p j) (open_at p j)) i ≡ false

pub walk_begins : (p : List ℕ) → Walking p 0 (replicate 4 None)
unfolding open_at some_before
walk_begins p = record { nexts = refl; none = refl }

module _ (p : List ℕ) (e i : ℕ) (os : List (Option ℕ)) (q : Walking p i os) (le : e ≤ 200) where
  pub walk_done : i ≡ e → Some os ≡ walked p e
  unfolding walked
  walk_done is =
      let none : is_tangled p e ≡ false = tangled_is p e le ∙ ap (some_before (λ j. is_fault (line_at p j) j (next_of p j) (open_at p j))) (sym is) ∙ q.none in
      ap Some (q.nexts ∙ ap (open_at p) is) ∙ if_false (is_tangled p e) None (Some (open_at p e)) none

  module _ (r : Option (List (Option ℕ))) (lt : i < e) (is : r ≡ walked_line (line_at p i) i (next_of p i) os) where
    abbrev here : Bool
    here = is_fault (line_at p i) i (next_of p i) (open_at p i)

    at_line_lem : r ≡ (if here then None else Some (opened (line_at p i) (next_of p i) (open_at p i)))
    at_line_lem = is ∙ ap (walked_line (line_at p i) i (next_of p i)) q.nexts

    pub walk_found : r ≡ None → None ≡ walked p e
    unfolding walked
    walk_found none = go here refl
      where
        go : (t : Bool) → here ≡ t → None ≡ walked p e
        go true found = if_true (is_tangled p e) None (Some (open_at p e)) (tangled_is p e le ∙ line_some _ e i lt found)
        go false fine = absurd (none-some _ (sym none ∙ at_line_lem ∙ sym (if_false here None (Some (opened (line_at p i) (next_of p i) (open_at p i))) fine)))

    pub walk_on : (vs : List (Option ℕ)) → r ≡ Some vs → Walking p (i + 1) vs
    unfolding open_at some_before
    walk_on vs some = go here refl
      where
        one : suc i ≡ i + 1
        one = omega arith

        go : (t : Bool) → here ≡ t → Walking p (i + 1) vs
        go true found = absurd (none-some vs (if_true here None (Some (opened (line_at p i) (next_of p i) (open_at p i))) found ∙ sym at_line_lem ∙ some))
        go false fine =
            record {
              nexts = same_Some _ _ (sym some ∙ at_line_lem ∙ sym (if_false here None (Some (opened (line_at p i) (next_of p i) (open_at p i))) fine))
                  ∙ ap (open_at p) one;
              none = ap (some_before (λ j. is_fault (line_at p j) j (next_of p j) (open_at p j))) (sym one)
                  ∙ ap (λ t. t || is_fault (line_at p i) i (next_of p i) (open_at p i)) q.none ∙ fine;
            }

-- ---- what the walk says

walk_none : (t : Bool) (os : List (Option ℕ)) → (if t then None else Some os) ≡ None → t ≡ true
walk_none true os e = refl
walk_none false os e = absurd (none-some os (sym e))

walk_some : (t : Bool) (os vs : List (Option ℕ)) → (if t then None else Some os) ≡ Some vs → (t ≡ false) × (vs ≡ os)
walk_some true os vs e = absurd (none-some vs e)
walk_some false os vs e = (refl, same_Some vs os (sym e))

module _ (p : List ℕ) (e : ℕ) where
  pub walk_tangled : walked p e ≡ None → is_tangled p e ≡ true
  unfolding walked
  walk_tangled none = walk_none (is_tangled p e) (open_at p e) none

  pub walk_plain : (os : List (Option ℕ)) → walked p e ≡ Some os → (is_tangled p e ≡ false) × (os ≡ open_at p e)
  unfolding walked
  walk_plain os some = walk_some (is_tangled p e) (open_at p e) os some
