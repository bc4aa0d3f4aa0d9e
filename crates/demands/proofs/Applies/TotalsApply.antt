-- Promises that apply, the switching totals: a script that passes its tests meets the premises of `Totalled`.
-- Assumes nothing.
use mathlib.Core.Path.{◌≡◌, refl, sym, ap, ap₂, ◌∙◌}
use Prim.Native.Nat.{ℕ}
use mathlib.Core.Bool.{true, true≢false}
use mathlib.Core.List.{List, [], ◌∷◌, ◌++◌}
use lib.ListN.{length, get_or}
use Rattle.formats.specs.Checks.{Res, refused, passed}
use Rattle.formats.proofs.Checks.{all_append, same_equal}
use Rattle.channels.specs.declared.Channel.{Channel}
use Rattle.channels.specs.declared.Beside.{Beside}
use Rattle.controller.specs.Controller.{Areas}
use Rattle.controller.specs.Refusals.{emptying}
use Rattle.demands.specs.Histories.{Made, powering, emptying_to, unpowered, after, AllHandOn}
use Rattle.demands.specs.LentBytes.{lends_bytes, lend_bytes}
use Rattle.channels.specs.Bringing.{totals_of}
use Rattle.demands.specs.Switchings.{Stretch, calls_of, Chain, logs_of, TotalsSeen}
use Rattle.demands.specs.SwitchingGaps.{TotalsKept}
use Rattle.demands.specs.Walks.{asks_of, set_out, made_of, Trail, trail, moment}
use Rattle.demands.specs.Premises.{copy, goes, ◌behind◌, one_more, powers_at, empties_to}
use Rattle.demands.specs.TotalScripts.{Part, Totals, numbers_of, is_told, logs_in, partly, totals}
use Rattle.demands.proofs.Applies.Walked.{
  calls,
  Reached,
  reached_none,
  reached_more,
  hands_reached,
  hands_append,
  begins_reached,
  bytes_trail,
  hand_reached,
  taken_so,
  reply_so,
  one_reached,
  AllTrue,
}
use Rattle.demands.proofs.Logs.Totalled.{totals_with_gaps, totals_as_seen}

-- the stretches of the parts behind a trail
unfoldable pub stretches : Trail → List Part → List Stretch
stretches t [] = []
stretches t (p ∷ ps) =
    let n = t behind p.acts in
    record { calls = calls t.last (asks_of p.acts); lent = (made_of (empties_to p.log) n.last).areas } ∷ stretches (one_more n (empties_to p.log)) ps

-- what `Totalled` asks of them, the calls zs leading to the trail
record Met (zs : List Made) (ss : List Stretch) (ls : List (List ℕ)) : Type 0 where
  chain : Chain zs ss
  hands : AllHandOn (after unpowered zs) (calls_of ss)
  bytes : lend_bytes (calls_of ss) ≡ true
  logs : logs_of zs ss ≡ ls

met : (ps : List Part) (t : Trail) (zs : List Made) → Reached zs t.last → AllTrue (partly t ps) → Met zs (stretches t ps) (logs_in ps)
unfolding stretches partly calls_of logs_of trail moment after
met [] t zs at ok = record { chain = tt; hands = tt; bytes = refl; logs = refl }
met (p ∷ ps) t zs at ok =
    let n = t behind p.acts in
    let q = empties_to p.log in
    let f = one_more n q in
    let xs = calls t.last (asks_of p.acts) in
    let a : Areas = (made_of q n.last).areas in
    let here : Reached (zs ++ xs) n.last = reached_more at (asks_of p.acts) in
    let there : Reached ((zs ++ xs) ++ (emptying_to a ∷ [])) f.last = one_reached here q in
    let r = met ps f ((zs ++ xs) ++ (emptying_to a ∷ [])) there ok.1.1.1.1.1.1.1 in
    record {
      chain = (record { none = begins_reached at (asks_of p.acts) ok.1.0; taken = taken_so here q ok.1.1.0 }, r.chain);
      hands = hands_append zs xs (emptying_to a ∷ calls_of (stretches f ps)) (hands_reached at (asks_of p.acts) ok.0)
          (hands_append (zs ++ xs) (emptying_to a ∷ []) (calls_of (stretches f ps)) (hand_reached here emptying (length p.log), tt) r.hands);
      bytes = all_append lends_bytes xs (emptying_to a ∷ calls_of (stretches f ps)) (bytes_trail n.moments ok.1.1.1.1.0)
          (all_append lends_bytes (emptying_to a ∷ []) (calls_of (stretches f ps)) (bytes_trail f.moments ok.1.1.1.1.1.0) r.bytes);
      logs = ap₂ (λ l ls. l ∷ ls) (reply_so here q p.log ok.1.1.1.0) r.logs;
    }

told_so : (r : Res (List Channel × Beside)) (ns : List ℕ) → is_told r ns ≡ true
    → (a : List Channel × Beside) × ((r ≡ passed a) × (a.1.unknown ≡ get_or ns 2 1))
told_so (refused e) ns t = absurd (true≢false (sym t))
told_so (passed a) ns t = (a, (refl, ap (λ l. get_or l 2 1) (same_equal (numbers_of a.0 a.1) ns t)))

module _ (x : Totals) where
  abbrev before : List Made
  before = calls (set_out copy) (asks_of x.before)

  abbrev lent : Areas
  lent = (made_of (powers_at x.room) (goes x.before).last).areas

  abbrev o : Trail
  o = one_more (goes x.before) (powers_at x.room)

  abbrev on : List Made
  on = before ++ (powering lent ∷ [])

  abbrev ss : List Stretch
  ss = stretches o x.parts

  at_on : Reached on o.last
  at_on = one_reached (reached_more (reached_none copy) (asks_of x.before)) (powers_at x.room)

  -- what `totals_with_gaps` and `totals_as_seen` say of the logs, this where by the script no number is unknown
  abbrev pub TotalsSo : Type 0
  TotalsSo = (a : List Channel × Beside)
      × ((totals_of (logs_of on ss) ≡ passed a) × TotalsKept on ss a.0 a.1 × (get_or x.told 2 1 ≡ 0 → TotalsSeen on ss a.0 a.1))

  abbrev pub SeenSo : Type 0
  SeenSo = (a : List Channel × Beside) × ((totals_of (logs_of on ss) ≡ passed a) × TotalsSeen on ss a.0 a.1)

  pub totals_apply : AllTrue (totals x) → TotalsSo
  unfolding totals trail moment
  totals_apply ok =
      let m = met x.parts o on at_on ok.1.1.1.1 in
      let t = told_so (totals_of (logs_in x.parts)) x.told ok.1.1.0 in
      let a = t.0 in
      let goes_on : totals_of (logs_of on ss) ≡ passed (a.0, a.1) = ap totals_of m.logs ∙ t.1.0 in
      let bytes : lend_bytes (on ++ calls_of ss) ≡ true =
      all_append lends_bytes on (calls_of ss)
      (all_append lends_bytes before (powering lent ∷ []) (bytes_trail (goes x.before).moments ok.0) (bytes_trail o.moments ok.1.0))
      m.bytes in (
        a,
        (
          goes_on,
          totals_with_gaps before lent ss m.chain m.hands bytes a.0 a.1 goes_on,
          λ none. totals_as_seen before lent ss m.chain m.hands bytes a.0 a.1 goes_on (t.1.1 ∙ none),
        ),
      )

  pub seen_apply : get_or x.told 2 1 ≡ 0 → TotalsSo → SeenSo
  seen_apply none so = (so.0, (so.1.0, so.1.2 none))
