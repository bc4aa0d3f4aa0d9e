-- What is kept of a plan says the same as the whole: a plan with a time that is larger than a number of four bytes, or with more than 17 moves, is
-- refused either way, with the same number, and a plan that is taken is kept as it is.
-- Assumes nothing.
use Prim.Native.Nat.{ℕ, ◌*◌, ◌/◌, ◌≤◌, ◌<◌}
use native.Mathlib.Omega.{arith}
use mathlib.Core.Path.{◌≡◌, refl, sym, ap, ◌∙◌}
use mathlib.Core.Bool.{Bool, true, false, true≢false, ◌&&◌}
use mathlib.Core.List.{List, map}
use lib.ListN.{length, take, length-map}
use lib.Seq.{length-take-le, take_all}
use lib.Dec.{leb, eqb}
use borrow.Author.Tests.{leb-true, leb-false}
use Rattle.formats.specs.Checks.{Res, refused, passed, all, ◌>>◌, ◌or_else◌}
use Rattle.formats.proofs.Checks.{both_true, by_both, not_so}
use Rattle.planner.specs.declared.Move.{Move}
use Rattle.planner.specs.Plan.{moves_of, is_time, is_timed}
use Rattle.planner.specs.Planned.{is_counted, planned}
use Rattle.planner.proofs.Moves.{time_is, time_so, counted_is}
use Rattle.plantext.specs.Kept.{room, capped, kept}
use Rattle.plantext.proofs.Keeping.{capped_same}
use Rattle.plan.specs.Telling.{told_of, told, zeros}
use Rattle.plan.specs.Reading.{Worded, none, more}
use Rattle.plan.proofs.Answers.{passed_is}

-- ---- a number

-- none that is larger is a time
time_kept : (t : ℕ) → is_time (capped t) ≡ is_time t
time_kept t =
    by_both (is_time (capped t)) (is_time t)
    (λ so. let r = time_is (capped t) so in time_so t (omega (arith, r.0), omega (arith, r.1)))
    (λ so. let r = time_is t so in time_so (capped t) (omega (arith, r.0, r.1), omega (arith, r.0, r.1)))

-- ---- the moves

timed_kept : {ns : List ℕ} → Worded ns → all is_timed (moves_of (map capped ns)) ≡ all is_timed (moves_of ns)
unfolding moves_of
timed_kept none = refl
timed_kept (more w s v r ns _ _ rest) = rw (time_kept s, time_kept r, timed_kept rest)

-- those of a plan whose times are in their range are kept as they are
moves_kept : {ns : List ℕ} → Worded ns → all is_timed (moves_of ns) ≡ true → moves_of (map capped ns) ≡ moves_of ns
unfolding moves_of
moves_kept none so = refl
moves_kept (more w s v r ns fits fits' rest) so =
    let here = both_true (is_time s && is_time r) (all is_timed (moves_of ns)) so in
    let times = both_true (is_time s) (is_time r) here.0 in
    let settling = time_is s times.0 in
    let reading = time_is r times.1 in
    rw (
      capped_same w (omega (arith, fits)),
      capped_same s (omega (arith, settling.1)),
      capped_same v (omega (arith, fits')),
      capped_same r (omega (arith, reading.1)),
      moves_kept rest here.1,
    )

-- ---- how many

counted_as : (xs ys : List ℕ) → length xs ≡ length ys → is_counted xs ≡ is_counted ys
counted_as xs ys same = ap (λ n. eqb (4 * (n / 4)) n && (leb 1 (n / 4) && leb (n / 4) 16)) same

too_many : (ns : List ℕ) → 64 < length ns → is_counted ns ≡ false
too_many ns long = not_so (is_counted ns) λ so. let c = counted_is ns so in omega (arith, c.0, c.2)

-- ---- the plan

-- both are refused for the number of moves; or both for a time; or their moves are the same
data Same (ns : List ℕ) : Type 0 where
  counts : is_counted (kept ns) ≡ false → is_counted ns ≡ false → Same ns
  times : is_counted (kept ns) ≡ is_counted ns → all is_timed (moves_of (kept ns)) ≡ false → all is_timed (moves_of ns) ≡ false → Same ns
  moves : is_counted (kept ns) ≡ is_counted ns → moves_of (kept ns) ≡ moves_of ns → Same ns

-- no number is left out
all_kept : (ns : List ℕ) → length ns ≤ room → kept ns ≡ map capped ns
unfolding kept
all_kept ns few = take_all room (map capped ns) (omega (arith, length-map ns capped))

short : {ns : List ℕ} → Worded ns → length ns ≤ room → Same ns
short {ns} w few = go (all is_timed (moves_of ns)) refl
  where
    is : kept ns ≡ map capped ns
    is = all_kept ns few

    count : is_counted (kept ns) ≡ is_counted ns
    count = counted_as (kept ns) ns (ap length is ∙ length-map ns capped)

    go : (b : Bool) → all is_timed (moves_of ns) ≡ b → Same ns
    go true so = moves count (ap moves_of is ∙ moves_kept w so)
    go false so = times count (ap (λ xs. all is_timed (moves_of xs)) is ∙ timed_kept w ∙ so) so

long : (ns : List ℕ) → room < length ns → Same ns
unfolding kept
long ns many =
    let same : length (take room (map capped ns)) ≡ room = length-take-le room (map capped ns) (omega (arith, length-map ns capped)) in
    counts (too_many (kept ns) (omega (arith, same))) (too_many ns (omega arith))

either : {ns : List ℕ} → Worded ns → Same ns
either {ns} w = go (leb (length ns) room) refl
  where
    go : (b : Bool) → leb (length ns) room ≡ b → Same ns
    go true so = short w (leb-true (length ns) room so)
    go false so = long ns (leb-false (length ns) room so)

planned_same : (area : List ℕ) {ns : List ℕ} → Same ns → planned (kept ns) area ≡ planned ns area
unfolding planned ◌>>◌ ◌or_else◌
planned_same area (counts of-kept of-all) = rw (of-kept, of-all)
planned_same area (times count of-kept of-all) = rw (count, of-kept, of-all)
planned_same area (moves count same) = rw (count, same)

-- What comes of a plan comes of what is kept of it.
pub planned_kept : (area : List ℕ) {ns : List ℕ} → Worded ns → planned (kept ns) area ≡ planned ns area
planned_kept area w = planned_same area (either w)

-- ---- what is told

-- a plan that is refused is told without its moves
refused_told : (check : Bool) (xs ys : List Move) (r : Res (List ℕ)) → ((p : List ℕ) → r ≡ passed p → ⊥) → told_of check xs r ≡ told_of check ys r
refused_told check xs ys (refused e) not = refl
refused_told check xs ys (passed p) not = absurd (not p refl)

told_same : (check : Bool) {ns : List ℕ} → Same ns → told_of check (moves_of (kept ns)) (planned ns zeros) ≡ told_of check (moves_of ns) (planned ns zeros)
told_same check {ns} (counts of-kept of-all) =
    refused_told check (moves_of (kept ns)) (moves_of ns) (planned ns zeros) λ p so. true≢false (sym (passed_is ns zeros p so).counted ∙ of-all)
told_same check {ns} (times count of-kept of-all) =
    refused_told check (moves_of (kept ns)) (moves_of ns) (planned ns zeros) λ p so. true≢false (sym (passed_is ns zeros p so).timed ∙ of-all)
told_same check {ns} (moves count same) = ap (λ ms. told_of check ms (planned ns zeros)) same

-- What is told of a plan is told of what is kept of it.
pub told_kept : (check : Bool) {ns : List ℕ} → Worded ns → told check (kept ns) ≡ told check ns
unfolding told
told_kept check {ns} w = ap (told_of check (moves_of (kept ns))) (planned_kept zeros w) ∙ told_same check (either w)
