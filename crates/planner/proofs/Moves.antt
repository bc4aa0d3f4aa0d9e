-- Laws of a plan that is lent as numbers: its moves, one by one.
-- Assumes nothing.
use Prim.Native.Nat.{ℕ, suc, ◌+◌, ◌*◌, ◌/◌, ◌≤◌}
use native.Mathlib.Omega.{arith}
use mathlib.Core.Path.{◌≡◌, refl, sym, ap, ◌∙◌}
use mathlib.Core.Bool.{true, false}
use mathlib.Core.List.{List, [], ◌∷◌, ◌++◌, append_assoc, append-nil}
use lib.ListN.{length, drop, get_or, drop_of_length-le}
use lib.Seq.{drop-cons}
use borrow.Author.Tests.{leb-true, le-leb, eqb-true}
use Rattle.formats.specs.Checks.{all}
use Rattle.formats.proofs.Checks.{both_true}
use Rattle.lines.specs.declared.Line.{Line}
use Rattle.planner.specs.declared.Move.{Move}
use Rattle.planner.specs.Plan.{move_at, moves_of, is_time, is_timed, InRange, Timed, most_time}
use Rattle.planner.specs.Lines.{move_lines, plan_lines, Lays}
use Rattle.planner.specs.Planned.{is_counted}
use Rattle.planner.proofs.Laying.{lays_none, lays_more, lays_as}

-- ---- move by move

-- four numbers more
four_more : (ns : List ℕ) (i : ℕ) → i + 4 ≤ length ns
    → drop i ns ≡ get_or ns i 0 ∷ get_or ns (i + 1) 0 ∷ get_or ns (i + 2) 0 ∷ get_or ns (i + 3) 0 ∷ drop (i + 4) ns
four_more ns i room =
    let one : suc i ≡ i + 1 = omega arith in
    let two : suc (i + 1) ≡ i + 2 = omega arith in
    let three : suc (i + 2) ≡ i + 3 = omega arith in
    let four : suc (i + 3) ≡ i + 4 = omega arith in
    drop-cons ns i 0 (omega arith)
    ∙ ap (λ l. get_or ns i 0 ∷ l)
    (ap (λ j. drop j ns) one ∙ drop-cons ns (i + 1) 0 (omega arith)
    ∙ ap (λ l. get_or ns (i + 1) 0 ∷ l)
    (ap (λ j. drop j ns) two ∙ drop-cons ns (i + 2) 0 (omega arith)
    ∙ ap (λ l. get_or ns (i + 2) 0 ∷ l)
    (ap (λ j. drop j ns) three ∙ drop-cons ns (i + 3) 0 (omega arith)
    ∙ ap (λ l. get_or ns (i + 3) 0 ∷ l) (ap (λ j. drop j ns) four))))

-- the moves from number k on: that one, and those behind it
pub moves_on : (ns : List ℕ) (k : ℕ) → 4 * k + 4 ≤ length ns → moves_of (drop (4 * k) ns) ≡ move_at ns k ∷ moves_of (drop (4 * (k + 1)) ns)
unfolding moves_of
moves_on ns k room =
    let next : 4 * k + 4 ≡ 4 * (k + 1) = omega arith in
    ap moves_of (four_more ns (4 * k) room) ∙ ap (λ j. move_at ns k ∷ moves_of (drop j ns)) next

-- none behind the last
pub moves_over : (ns : List ℕ) (k : ℕ) → length ns ≤ 4 * k → moves_of (drop (4 * k) ns) ≡ []
unfolding moves_of
moves_over ns k over = ap moves_of (drop_of_length-le ns over)

-- ---- how many

-- whole moves, 1 to 16 of them
pub counted_is : (ns : List ℕ) → is_counted ns ≡ true → (4 * (length ns / 4) ≡ length ns) × (1 ≤ length ns / 4) × (length ns / 4 ≤ 16)
counted_is ns so =
    let a = both_true _ _ so in
    let b = both_true _ _ a.1 in
    (eqb-true (4 * (length ns / 4)) (length ns) a.0, leb-true 1 (length ns / 4) b.0, leb-true (length ns / 4) 16 b.1)

-- ---- times

pub time_is : (t : ℕ) → is_time t ≡ true → InRange t
time_is t so = let a = both_true _ _ so in (leb-true 1 t a.0, leb-true t most_time a.1)

pub time_so : (t : ℕ) → InRange t → is_time t ≡ true
time_so t so = rw (le-leb 1 t so.0, le-leb t most_time so.1)

pub timed_is : (m : Move) → is_timed m ≡ true → Timed m
timed_is m so = let a = both_true _ _ so in record { settling = time_is m.settling a.0; reading = time_is m.reading a.1 }

pub first_timed : {m : Move} {ms all_of : List Move} → all is_timed all_of ≡ true → all_of ≡ m ∷ ms → (is_timed m ≡ true) × (all is_timed ms ≡ true)
first_timed {m} {ms} so is = both_true (is_timed m) (all is_timed ms) (sym (ap (all is_timed) is) ∙ so)

-- ---- the loop over moves

-- what is asked of all moves is what is asked of those from number k on
pub record TimedFrom (ns : List ℕ) (k : ℕ) : Type 0 where
  pub same : all is_timed (moves_of ns) ≡ all is_timed (moves_of (drop (4 * k) ns))

module _ {ns : List ℕ} {k : ℕ} (f : TimedFrom ns k) where
  pub timed_on : 4 * k + 4 ≤ length ns → is_timed (move_at ns k) ≡ true → TimedFrom ns (k + 1)
  timed_on room so = record { same = f.same ∙ ap (all is_timed) (moves_on ns k room) ∙ rw so }

  pub timed_not : 4 * k + 4 ≤ length ns → is_timed (move_at ns k) ≡ false → false ≡ all is_timed (moves_of ns)
  timed_not room fails = sym (f.same ∙ ap (all is_timed) (moves_on ns k room) ∙ rw fails)

  pub timed_over : length ns ≤ 4 * k → true ≡ all is_timed (moves_of ns)
  timed_over over = sym (f.same ∙ ap (all is_timed) (moves_over ns k over))

-- the lines of the moves before number k are laid, from line 000 to before line `at`, and the times of all others are in their range
pub record Planned (ns : List ℕ) (k : ℕ) (before : List ℕ) (at : ℕ) (after : List ℕ) : Type 0 where
  pub done : List Line
  pub lays : Lays 0 done before at after
  pub rest : plan_lines (moves_of ns) ≡ done ++ plan_lines (moves_of (drop (4 * k) ns))
  pub timed : all is_timed (moves_of (drop (4 * k) ns)) ≡ true

pub plan_begins : (ns p : List ℕ) → all is_timed (moves_of ns) ≡ true → Planned ns 0 p 0 p
plan_begins ns p so = record { done = []; lays = lays_none 0 p; rest = refl; timed = so }

module _ {ns : List ℕ} {k : ℕ} {before : List ℕ} {at : ℕ} {after : List ℕ} (f : Planned ns k before at after) where
  pub move_timed : 4 * k + 4 ≤ length ns → Timed (move_at ns k)
  move_timed room = timed_is (move_at ns k) (first_timed f.timed (moves_on ns k room)).0

  pub plan_on : {next : ℕ} {whole : List ℕ} {m : Move} → 4 * k + 4 ≤ length ns → 8 * at ≤ length before → m ≡ move_at ns k
      → Lays at (move_lines m) after next whole → Planned ns (k + 1) before next whole
  unfolding plan_lines
  plan_on room near is m =
      record {
        done = f.done ++ move_lines (move_at ns k);
        lays = lays_more f.lays near (lays_as m (ap move_lines is));
        rest =
            f.rest ∙ ap (λ ms. f.done ++ plan_lines ms) (moves_on ns k room)
            ∙ sym (append_assoc f.done (move_lines (move_at ns k)) (plan_lines (moves_of (drop (4 * (k + 1)) ns))));
        timed = (first_timed f.timed (moves_on ns k room)).1;
      }

  pub plan_over : length ns ≤ 4 * k → Lays 0 (plan_lines (moves_of ns)) before at after
  unfolding plan_lines
  plan_over over =
      lays_as f.lays (sym (f.rest ∙ ap (λ ms. f.done ++ plan_lines ms) (moves_over ns k over) ∙ append-nil f.done))
