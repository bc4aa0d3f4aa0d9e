-- Laws of a chain whose logs have no gap: what its stretches say is what all its calls say, from the first to the last.
-- Assumes nothing.
use mathlib.Core.Path.{◌≡◌, refl, sym, ap, ap₂, ◌∙◌}
use Prim.Native.Nat.{ℕ, ◌+◌}
use native.Mathlib.Nat.{zero-add, add_assoc}
use native.Mathlib.Omega.{arith}
use mathlib.Core.Bool.{Bool, true, false, not, ◌&&◌}
use mathlib.Core.List.{List, [], ◌∷◌, ◌++◌, map, append-nil}
use lib.Dec.{ltb}
use borrow.Author.Tests.{eq-eqb}
use Rattle.std.specs.Prelude.{if◌then◌else◌}
use Rattle.boxlog.specs.declared.Change.{Change}
use Rattle.boxlog.specs.Log.{lost_number}
use Rattle.reader.specs.declared.Layout.TheVariants.{Sixteen}
use Rattle.reader.specs.Produced.{kept}
use Rattle.channels.specs.Totals.{is_closed, closes, opens, one_if, count_of}
use Rattle.controller.specs.Controller.{Areas}
use Rattle.demands.specs.Histories.{Made, emptying_to, Held, unpowered, next, after}
use Rattle.demands.specs.Seen.{outputs, note, notes}
use Rattle.demands.specs.Told.{told}
use Rattle.demands.specs.Switchings.{is_tick_taken, ticks_after, is_closing, is_opening, closings, openings, ticks_by, ticks, last_switched}
use Rattle.demands.specs.Switchings.{Stretch, up_to, through, calls_of}
use Rattle.demands.specs.SwitchingGaps.{capped_of, kept_of, lost_of, closings_in, openings_in, with_gap, last_tick_of}
use Rattle.demands.specs.SwitchingGaps.{kept_closings, kept_openings, gapped_ticks, last_read}
use Rattle.demands.proofs.History.AsTold.{outputs_as_told}
use Rattle.demands.proofs.History.Telling.{after_more}
use Rattle.demands.proofs.Logs.Counted.{ticks_over}
use Rattle.demands.proofs.Logs.Kept.{closings_kept, openings_kept}
use Rattle.demands.proofs.Logs.Stretches.{OfStretch, AllOf}
use Rattle.demands.proofs.Logs.Chains.{kept_and_lost, ended}

-- ---- calls after calls

abbrev outs : Held → ℕ
outs h = h.state.run.outputs

record Splits (h : Held) (xs ys : List Made) : Type 0 where
  closed : (i : ℕ) → closings i (outs h) (notes h (xs ++ ys)) ≡ closings i (outs h) (notes h xs) + closings i (outs (after h xs)) (notes (after h xs) ys)
  opened : (i : ℕ) → openings i (outs h) (notes h (xs ++ ys)) ≡ openings i (outs h) (notes h xs) + openings i (outs (after h xs)) (notes (after h xs) ys)
  ticked : (i last t : ℕ)
      → ticks i last t (outs h) (notes h (xs ++ ys))
      ≡ ticks i last t (outs h) (notes h xs) + ticks i last (ticks_over t (notes h xs)) (outs (after h xs)) (notes (after h xs) ys)
  switched : (l t : ℕ)
      → last_switched l t (outs h) (notes h (xs ++ ys))
      ≡ last_switched (last_switched l t (outs h) (notes h xs)) (ticks_over t (notes h xs)) (outs (after h xs)) (notes (after h xs) ys)

splits : (h : Held) (xs ys : List Made) → Splits h xs ys
unfolding notes note next after closings openings ticks_by last_switched ticks_over
splits h [] ys = record {
  closed = λ i. sym (zero-add (closings i (outs h) (notes h ys)));
  opened = λ i. sym (zero-add (openings i (outs h) (notes h ys)));
  ticked = λ i last t. sym (zero-add (ticks i last t (outs h) (notes h ys)));
  switched = λ l t. refl;
}
splits h (x ∷ xs) ys =
    let r = splits (next h x) xs ys in
    let u = next h x in
    record {
      closed = λ i. ap (λ n. one_if (is_closing i (outs h) (outs u)) + n) (r.closed i)
          ∙ sym (add_assoc (one_if (is_closing i (outs h) (outs u))) (closings i (outs u) (notes u xs)) (closings i (outs (after u xs)) (notes (after u xs) ys)));
      opened = λ i. ap (λ n. one_if (is_opening i (outs h) (outs u)) + n) (r.opened i)
          ∙ sym (add_assoc (one_if (is_opening i (outs h) (outs u))) (openings i (outs u) (notes u xs)) (openings i (outs (after u xs)) (notes (after u xs) ys)));
      ticked = λ i last t.
          let q = one_if (is_tick_taken (note h x) && (ltb t last && is_closed i (outs h))) in
          let now = ticks_after t (note h x) in
          ap (λ n. q + n) (r.ticked i last now)
          ∙ sym (add_assoc q (ticks i last now (outs u) (notes u xs)) (ticks i last (ticks_over now (notes u xs)) (outs (after u xs)) (notes (after u xs) ys)));
      switched = λ l t. r.switched _ _;
    }

-- an emptying that leaves the outputs
record Emptying (h : Held) (a : Areas) (ys : List Made) : Type 0 where
  closed : (i : ℕ) → closings i (outs h) (notes h (emptying_to a ∷ ys)) ≡ closings i (outs (next h (emptying_to a))) (notes (next h (emptying_to a)) ys)
  opened : (i : ℕ) → openings i (outs h) (notes h (emptying_to a ∷ ys)) ≡ openings i (outs (next h (emptying_to a))) (notes (next h (emptying_to a)) ys)
  ticked : (i last t : ℕ)
      → ticks i last t (outs h) (notes h (emptying_to a ∷ ys)) ≡ ticks i last t (outs (next h (emptying_to a))) (notes (next h (emptying_to a)) ys)
  switched : (l t : ℕ)
      → last_switched l t (outs h) (notes h (emptying_to a ∷ ys)) ≡ last_switched l t (outs (next h (emptying_to a))) (notes (next h (emptying_to a)) ys)

same_closing : (i v w : ℕ) → v ≡ w → is_closing i v w ≡ false
unfolding is_closing
same_closing i v w e = ap (λ u. not (is_closed i u) && is_closed i w) e ∙ go (is_closed i w)
  where
    go : (x : Bool) → (not x && x) ≡ false
    go true = refl
    go false = refl

same_opening : (i v w : ℕ) → v ≡ w → is_opening i v w ≡ false
unfolding is_opening
same_opening i v w e = ap (λ u. is_closed i u && not (is_closed i w)) e ∙ go (is_closed i w)
  where
    go : (x : Bool) → (x && not x) ≡ false
    go true = refl
    go false = refl

emptying_switches_none : (h : Held) (a : Areas) (ys : List Made) → outs (next h (emptying_to a)) ≡ outs h → Emptying h a ys
unfolding notes note next closings openings ticks_by last_switched
emptying_switches_none h a ys same =
    let u = next h (emptying_to a) in
    record {
      closed = λ i. ap (λ x. one_if x + closings i (outs u) (notes u ys)) (same_closing i (outs h) (outs u) (sym same))
          ∙ zero-add (closings i (outs u) (notes u ys));
      opened = λ i. ap (λ x. one_if x + openings i (outs u) (notes u ys)) (same_opening i (outs h) (outs u) (sym same))
          ∙ zero-add (openings i (outs u) (notes u ys));
      ticked = λ i last t. zero-add (ticks i last t (outs u) (notes u ys));
      switched = λ l t. ap (λ x. last_switched (if x then l else t) t (outs u) (notes u ys)) (eq-eqb (outs h) (outs u) (sym same));
    }

-- ---- a stretch without a gap

module _ (zs : List Made) (s : Stretch) (o : OfStretch zs s) (none : lost_of zs s ≡ []) where
  all_kept : kept_of zs s ≡ o.counts.more
  all_kept = sym (append-nil (kept_of zs s)) ∙ ap (λ l. kept_of zs s ++ l) (sym none) ∙ kept_and_lost zs s o ∙ o.counted

  stretch_closings : (i : ℕ) → closings_in i (kept_of zs s) ≡ closings i (outputs zs) (notes (after unpowered zs) s.calls)
  stretch_closings i =
      sym (closings_kept i (kept_of zs s) [])
      ∙ ap (count_of (closes i)) (append-nil (map (kept Sixteen) (kept_of zs s)) ∙ ap (map (kept Sixteen)) all_kept)
      ∙ o.counts.closed i ∙ ap (λ w. closings i w (notes (after unpowered zs) s.calls)) (sym (outputs_as_told zs))

  stretch_openings : (i : ℕ) → openings_in i (kept_of zs s) ≡ openings i (outputs zs) (notes (after unpowered zs) s.calls)
  stretch_openings i =
      sym (openings_kept i (kept_of zs s) [])
      ∙ ap (count_of (opens i)) (append-nil (map (kept Sixteen) (kept_of zs s)) ∙ ap (map (kept Sixteen)) all_kept)
      ∙ o.counts.opened i ∙ ap (λ w. openings i w (notes (after unpowered zs) s.calls)) (sym (outputs_as_told zs))

  stretch_last : (l : ℕ) → last_tick_of l (kept_of zs s) (lost_of zs s) ≡ last_switched l (told zs).ticks (outputs zs) (notes (after unpowered zs) s.calls)
  stretch_last l =
      ap₂ (last_tick_of l) all_kept none ∙ o.counts.switched l
      ∙ ap (λ w. last_switched l (told zs).ticks w (notes (after unpowered zs) s.calls)) (sym (outputs_as_told zs))

-- ---- the chain

abbrev pub NoneLost : List Made → List Stretch → Type 0
NoneLost zs [] = Unit {0}
NoneLost zs (s ∷ ss) = (lost_of zs s ≡ []) × NoneLost (through zs s) ss

-- no gap tells of any
pub none_lost : (zs : List Made) (ss : List Stretch) → capped_of zs ss ≡ 0 → NoneLost zs ss
unfolding capped_of
none_lost zs [] e = tt
none_lost zs (s ∷ ss) e = (none (lost_of zs s) (omega arith), none_lost (through zs s) ss (omega arith))
  where
    none : (l : List Change) → lost_number l ≡ 0 → l ≡ []
    none [] e = refl
    none (c ∷ cs) e = absurd (omega arith)

pub record AsSeen (zs : List Made) (ss : List Stretch) : Type 0 where
  pub closed : (i : ℕ) → kept_closings i zs ss ≡ closings i (outputs zs) (notes (after unpowered zs) (calls_of ss))
  pub opened : (i : ℕ) → kept_openings i zs ss ≡ openings i (outputs zs) (notes (after unpowered zs) (calls_of ss))
  pub ticked : (i last : ℕ) → gapped_ticks i last zs ss ≡ ticks i last (told zs).ticks (outputs zs) (notes (after unpowered zs) (calls_of ss))
  pub switched : (l : ℕ) → last_read l zs ss ≡ last_switched l (told zs).ticks (outputs zs) (notes (after unpowered zs) (calls_of ss))

module _ (zs : List Made) (s : Stretch) (ss : List Stretch) (o : OfStretch zs s) (none : lost_of zs s ≡ []) (r : AsSeen (through zs s) ss) where
  abbrev h : Held
  h = after unpowered zs

  abbrev h₁ : Held
  h₁ = after (after unpowered zs) s.calls

  abbrev h₂ : Held
  h₂ = next (after (after unpowered zs) s.calls) (emptying_to s.lent)

  at_last : after unpowered (through zs s) ≡ h₂
  unfolding after
  at_last = after_more (up_to zs s) (emptying_to s.lent ∷ []) ∙ ap (λ x. next x (emptying_to s.lent)) (after_more zs s.calls)

  same : outs h₂ ≡ outs h₁
  unfolding outputs
  same = sym (ap outs at_last) ∙ o.stood ∙ ap outs (after_more zs s.calls)

  count : ticks_over (told zs).ticks (notes h s.calls) ≡ (told (through zs s)).ticks
  count = sym o.counts.count ∙ ended zs s o

  as_seen_one : AsSeen zs (s ∷ ss)
  unfolding outputs calls_of kept_closings kept_openings gapped_ticks last_read
  as_seen_one =
      let x = splits h s.calls (emptying_to s.lent ∷ calls_of ss) in
      let y = emptying_switches_none h₁ s.lent (calls_of ss) same in
      record {
        closed = λ i. ap₂ (λ m n. m + n) (stretch_closings zs s o none i)
            (r.closed i ∙ ap (λ g. closings i (outs g) (notes g (calls_of ss))) at_last ∙ sym (y.closed i)) ∙ sym (x.closed i);
        opened = λ i. ap₂ (λ m n. m + n) (stretch_openings zs s o none i)
            (r.opened i ∙ ap (λ g. openings i (outs g) (notes g (calls_of ss))) at_last ∙ sym (y.opened i)) ∙ sym (x.opened i);
        ticked = λ i last. ap₂ (λ m n. m + n)
            (ap (λ l. ticks_by (with_gap l (outputs (up_to zs s))) i last (told zs).ticks (outputs zs) (notes h s.calls)) none)
            (r.ticked i last ∙ ap₂ (λ g t. ticks i last t (outs g) (notes g (calls_of ss))) at_last (sym count) ∙ sym (y.ticked i last _))
            ∙ sym (x.ticked i last (told zs).ticks);
        switched = λ l.
            ap (λ k. last_read k (through zs s) ss) (stretch_last zs s o none l) ∙ r.switched _
            ∙ ap₂ (λ g t. last_switched (last_switched l (told zs).ticks (outputs zs) (notes h s.calls)) t (outs g) (notes g (calls_of ss)))
            at_last (sym count)
            ∙ sym (y.switched _ _) ∙ sym (x.switched l (told zs).ticks);
      }

pub as_seen : (ss : List Stretch) (zs : List Made) → AllOf zs ss → NoneLost zs ss → AsSeen zs ss
unfolding calls_of kept_closings kept_openings gapped_ticks last_read notes closings openings ticks_by last_switched
as_seen [] zs of none = record { closed = λ i. refl; opened = λ i. refl; ticked = λ i last. refl; switched = λ l. refl }
as_seen (s ∷ ss) zs of none = as_seen_one zs s ss of.0 none.0 (as_seen ss (through zs s) of.1 none.1)
