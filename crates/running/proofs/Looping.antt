-- A loop, turn by turn: its count times what the lines inside it take, whatever holds meanwhile.
-- Assumes nothing.
use Prim.Native.Nat.{ℕ, zero, suc, ◌+◌, ◌*◌, ◌-◌, ◌≤◌, ◌<◌}
use native.Mathlib.Omega.{arith}
use native.Mathlib.Nat.{suc-mul, zero-mul, zero-add}
use mathlib.Core.Path.{◌≡◌, refl, sym, ap, ap₂, ◌∙◌}
use mathlib.Core.Bool.{true}
use mathlib.Core.List.{List}
use lib.ListN.{length, get_or, set}
use lib.Seq.{get_or-set_same, set-set, set-get_or}
use Rattle.lines.specs.declared.Line.TheVariants.{For, Next}
use Rattle.lines.specs.Program.{line_at, FirstFrom}
use Rattle.lines.proofs.Pairs.{counter_ranged}
use Rattle.running.specs.declared.Counter.{Counter}
use Rattle.running.specs.declared.Run.{Run}
use Rattle.running.specs.declared.Ran.{Ran}
use Rattle.running.specs.Running.{free, counter, at_line, with_counter, goes_to, is_for_or_next, run_due}
use Rattle.running.proofs.Steps.{for_takes, none_passes, next_back, next_last}
use Rattle.running.proofs.Reaching.{at_once, and_then}
use Rattle.running.proofs.Arriving.{At, few_sum, few_fresh, fresh, same, Arrives, led, goes_to_lem}

-- so many times
once : (b : ℕ) → suc 0 * b ≡ b + 0
once b = omega arith

again : (m b : ℕ) → suc (suc m) * b ≡ b + 0 + suc m * b
again m b = simp suc-mul (omega arith)

-- the counters while the loop of counter c, whose For is on line k, has m turns left
abbrev pub turning : ℕ → ℕ → List Counter → ℕ → List Counter
turning k c cs m = set cs (c - 1) (record { count = m; line = k })

-- The loop of counter c from the For on line k to its Next on line nx, neither of them the last line. Where it begins the counters are cs, and its own
-- is free. Q holds of every tick.
module _ (p : List ℕ) (Q : Ran → Type 0) (k c x nx : ℕ) (is : line_at p k ≡ For c x) (pairing : FirstFrom p c (k + 1) nx) (near : nx < 199)
    (cs : List Counter) (four : length cs ≡ 4) (own : get_or cs (c - 1) free ≡ free) (ticks : ℕ) where
  -- the lines inside it
  abbrev len : ℕ
  len = nx - (k + 1)

  abbrev P : ℕ → Ran → Type 0
  P m = Q

  abbrev held : ℕ → Counter
  held m = record { count = m; line = k }

  -- the counters while m turns are left
  abbrev with : ℕ → List Counter
  with m = turning k c cs m

  in_list : c - 1 < length cs
  in_list = let a = counter_ranged p k c x is in omega (arith, a.0, a.1, four)

  -- the counter at the Next
  at_next : (m : ℕ) (r : Run) → At nx (with m) r → counter r c ≡ held m
  at_next m r a = ap (λ l. get_or l (c - 1) free) a.counters ∙ get_or-set_same cs (c - 1) (held m) free in_list

  line_next : (m : ℕ) (r : Run) → At nx (with m) r → line_at p r.line ≡ Next c
  line_next m r a = ap (line_at p) a.line ∙ pairing.next

  counts : (m : ℕ) (r : Run) → At nx (with m) r → is_for_or_next (line_at p r.line) ≡ true
  counts m r a = ap is_for_or_next (line_next m r a)

  -- the body was run, and one turn is left: the loop ends
  leaves : (r : Run) (n left : ℕ) → At nx (with 1) r → run_due p (suc left) n r ≡ run_due p left (n + 1) (at_line (nx + 1) (with_counter c free r))
  leaves r n left a =
      let one : (counter r c).count ≡ 1 = ap (λ (v : Counter). v.count) (at_next 1 r a) in
      goes_to_lem p left n r (nx + 1) (with_counter c free r) (counts 1 r a)
      (next_last p r c (line_next 1 r a) one (omega (arith, a.line)) ∙ ap (λ i. goes_to (i + 1) (with_counter c free r)) a.line)

  left_at : (r : Run) → At nx (with 1) r → At (nx + 1) cs (at_line (nx + 1) (with_counter c free r))
  left_at r a =
      record {
        on = a.on;
        line = refl;
        counters = ap (λ l. set l (c - 1) free) a.counters ∙ set-set cs (c - 1) (held 1) free ∙ ap (set cs (c - 1)) (sym own) ∙ set-get_or cs (c - 1) free;
      }

  -- or more are left: back to the line after the For
  backed : ℕ → Run → Run
  backed m r = at_line (k + 1) (with_counter c (held (suc m)) r)

  goes_back : (m : ℕ) (r : Run) (n left : ℕ) → At nx (with (suc (suc m))) r → run_due p (suc left) n r ≡ run_due p left (n + 1) (backed m r)
  unfolding backed
  goes_back m r n left a =
      let is_held_lem = at_next (suc (suc m)) r a in
      let more : 1 < (counter r c).count = let z = ap (λ (v : Counter). v.count) is_held_lem in omega arith in
      let less : suc (suc m) - 1 ≡ suc m = omega arith in
      goes_to_lem p left n r (k + 1) (with_counter c (held (suc m)) r) (counts (suc (suc m)) r a)
      (next_back p r c (line_next (suc (suc m)) r a) more
      ∙ ap (λ (v : Counter). goes_to (v.line + 1) (with_counter c (record { count = v.count - 1; line = v.line }) r)) is_held_lem
      ∙ ap (λ z. goes_to (k + 1) (with_counter c (held z) r)) less)

  backed_at : (m : ℕ) (r : Run) → At nx (with (suc (suc m))) r → At (k + 1) (with (suc m)) (backed m r)
  unfolding backed
  backed_at m r a =
      record {
        on = a.on;
        line = refl;
        counters = ap (λ l. set l (c - 1) (held (suc m))) a.counters ∙ set-set cs (c - 1) (held (suc (suc m))) (held (suc m));
      }

  -- m turns and one more take m times and once what the body takes
  abbrev Turned : ℕ → Ran → Type 0
  Turned m y = Arrives p P y (suc m * ticks) (nx + 1) cs 0 (len + 1)

  -- the lines inside it, with m turns left, are run in as many ticks, and in a call that runs few of them
  abbrev pub Body : Type 0
  Body = (m : ℕ) (r : Run) → At (k + 1) (with m) r → (n left : ℕ) → n + left ≡ 400 → len ≤ left → Arrives p P (run_due p left n r) ticks nx (with m) n len

  module _ (takes : 0 < ticks) (body : Body) where
    module _ {y : Ran} {n : ℕ} where
      some_left : {ls : List Counter} (b : Arrives p P y ticks nx ls n len) → b.left ≡ suc (b.left - 1)
      some_left b = omega (arith, b.budget, few_fresh takes b.few, near)

      -- after the body, when one turn was left
      last_turn : Arrives p P y ticks nx (with 1) n len → Turned 0 y
      last_turn b =
          let few = few_fresh takes b.few in
          let on = ap (λ l. run_due p l b.lines b.run) (some_left b) ∙ leaves b.run b.lines (b.left - 1) b.at in
          record {
            run = at_line (nx + 1) (with_counter c free b.run);
            lines = b.lines + 1;
            left = b.left - 1;
            budget = omega (arith, b.budget, some_left b);
            few = fresh (omega arith);
            reaches = rw (once ticks) (and_then p P b.reaches (at_once p P on));
            at = left_at b.run b.at;
          }

      -- when more were
      more_turns : (m : ℕ) (b : Arrives p P y ticks nx (with (suc (suc m))) n len)
          → Turned m (run_due p (b.left - 1) (b.lines + 1) (backed m b.run)) → Turned (suc m) y
      more_turns m b q =
          let on = ap (λ l. run_due p l b.lines b.run) (some_left b) ∙ goes_back m b.run b.lines (b.left - 1) b.at in
          led P (and_then p P b.reaches (at_once p P on)) q (again m ticks) (fresh (omega (arith, few_sum q.few)))

    -- the next turn has room for its lines
    room : {y : Ran} {n : ℕ} {ls : List Counter} (b : Arrives p P y ticks nx ls n len) → (b.lines + 1 + (b.left - 1) ≡ 400) × (len ≤ b.left - 1)
    room b = (omega (arith, b.budget, some_left b), omega (arith, b.budget, some_left b, few_fresh takes b.few, near))

    -- all turns
    turns : (m : ℕ) (r : Run) → At (k + 1) (with (suc m)) r → (n left : ℕ) → n + left ≡ 400 → len ≤ left → Turned m (run_due p left n r)
    turns zero r a n left sum enough = last_turn (body 1 r a n left sum enough)
    turns (suc m) r a n left sum enough =
        let b = body (suc (suc m)) r a n left sum enough in
        more_turns m b (turns m (backed m b.run) (backed_at m b.run b.at) (b.lines + 1) (b.left - 1) (room b).0 (room b).1)

  -- ---- the whole loop, from the For on

  -- it is left, in its count times the ticks of its body
  abbrev pub Left : (n left : ℕ) → Run → Type 0
  Left n left r = Arrives p P (run_due p left n r) (x * ticks) (nx + 1) cs n (nx + 1 - k)

  module _ (r : Run) (a : At k cs r) (n left : ℕ) (sum : n + left ≡ 400) (enough : nx + 1 - k ≤ left) where
    here : line_at p r.line ≡ For c x
    here = ap (line_at p) a.line ∙ is

    first_next_lem : FirstFrom p c (r.line + 1) nx
    first_next_lem = rw a.line pairing

    idle : (counter r c).count ≡ 0
    idle = ap (λ (v : Counter). v.count) (ap (λ l. get_or l (c - 1) free) a.counters ∙ own)

    some : left ≡ suc (left - 1)
    some = omega (arith, pairing.not_before)

    -- a loop of none
    pub none_loop : x ≡ 0 → Left n left r
    none_loop none =
        let z : x * ticks ≡ 0 = ap (λ y. y * ticks) none ∙ zero-mul ticks in
        let go : run_due p left n r ≡ run_due p (left - 1) (n + 1) (at_line (nx + 1) r) =
        ap (λ l. run_due p l n r) some
        ∙ goes_to_lem p (left - 1) n r (nx + 1) r (ap is_for_or_next here)
        (none_passes p r c x here idle (omega (arith, a.line, pairing.not_before)) nx first_next_lem none near) in
        record {
          run = at_line (nx + 1) r;
          lines = n + 1;
          left = left - 1;
          budget = omega (arith, some);
          few = same z (omega (arith, pairing.not_before));
          reaches = rw z (at_once p P go);
          at = record { on = a.on; line = refl; counters = a.counters };
        }

    -- a loop of some
    counted_turns : {y : Ran} (m : ℕ) → x ≡ suc m → run_due p left n r ≡ y → Turned m y → Left n left r
    counted_turns m is_some go q =
        led P (at_once p P go) q (ap (λ y. y * ticks) is_some ∙ sym (zero-add _)) (fresh (omega (arith, few_sum q.few, pairing.not_before)))

    pub some_loop : (m : ℕ) → x ≡ suc m → 0 < ticks → Body → Left n left r
    some_loop m is_some takes body =
        let begun : Run = with_counter c (record { count = x; line = r.line }) r in
        let go : run_due p left n r
        ≡ run_due p (left - 1) (n + 1) (at_line (r.line + 1) begun) =
        ap (λ l. run_due p l n r) some
        ∙ goes_to_lem p (left - 1) n r (r.line + 1) begun (ap is_for_or_next here)
        (for_takes p r c x here idle (omega (arith, a.line, pairing.not_before)) nx first_next_lem (omega arith)) in
        let at : At (k + 1) (with (suc m)) (at_line (r.line + 1) begun) =
        record {
          on = a.on;
          line = ap (λ l. l + 1) a.line;
          counters = ap₂ (λ l (v : Counter). set l (c - 1) v) a.counters (ap₂ (λ y l. record { count = y; line = l }) is_some a.line);
        } in
        counted_turns m is_some go
        (turns takes body m (at_line (r.line + 1) begun) at (n + 1) (left - 1) (omega (arith, some))
        (omega (arith, some, pairing.not_before)))
