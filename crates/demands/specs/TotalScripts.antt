-- Promises that apply, the switching totals: the kind of script on which they are tried, its tests, and the scripts.
use Rattle.std.specs.Prelude.{ℕ, Bool, false, List, [], ◌∷◌, ◌++◌, map, take, replicate}
use Rattle.formats.specs.Checks.{Res, refused, passed, same, all}
use Rattle.channels.specs.declared.Channel.{Channel}
use Rattle.channels.specs.declared.Beside.{Beside}
use Rattle.channels.specs.Totals.{one_if}
use Rattle.controller.specs.Refusals.{tick, emptying}
use Rattle.demands.specs.Exchanges.{change, gap}
use Rattle.demands.specs.CallsTable.{lent}
use Rattle.demands.specs.Seen.{is_taken, reply}
use Rattle.demands.specs.Changes.{none_begins}
use Rattle.channels.specs.Bringing.{totals_of}
use Rattle.demands.specs.Walks.{Act, ◌⇒◌, lends, powers, Trail, is_as_said}
use Rattle.demands.specs.Premises.{hands_on, goes, ◌behind◌, one_more, seen_at, powers_at, empties_to, notes_in, lends_moment}

-- acts, and the bytes that the emptying behind them copies
pub record Part : Type 0 where
  pub acts : List Act
  pub log : List ℕ

-- `Totalled`: after `before` comes a power-on with a log of `room` bytes, and then the parts. What the totals then say is `told`: last tick and word, the
-- number unknown, 1 where it may be more, and closings, openings and ticks of the first eight channels.
pub record Totals : Type 0 where
  pub before : List Act
  pub room : ℕ
  pub parts : List Part
  pub told : List ℕ

abbrev pub of_channels : List Channel → List ℕ
of_channels [] = []
of_channels (c ∷ cs) = c.closings ∷ c.openings ∷ c.ticks ∷ of_channels cs

abbrev pub numbers_of : List Channel → Beside → List ℕ
numbers_of cs b = b.tick ∷ b.word ∷ b.unknown ∷ one_if b.more ∷ of_channels (take 8 cs)

abbrev pub is_told : Res (List Channel × Beside) → List ℕ → Bool
is_told (refused e) ns = false
is_told (passed a) ns = same (numbers_of a.0 a.1) ns

abbrev pub logs_in : List Part → List (List ℕ)
logs_in ps = map (λ (p : Part). p.log) ps

-- the parts behind a trail
unfoldable pub partly : Trail → List Part → List Bool
partly t [] = []
partly t (p ∷ ps) =
    let n = t behind p.acts in
    let f = one_more n (empties_to p.log) in
    all hands_on n.moments
    ∷ none_begins (notes_in n.moments)
    ∷ is_taken (seen_at n (empties_to p.log))
    ∷ same (reply (seen_at n (empties_to p.log))) p.log
    ∷ all lends_moment n.moments
    ∷ all lends_moment f.moments
    ∷ is_as_said p.acts n.moments
    ∷ partly f ps

unfoldable pub totals : Totals → List Bool
totals x =
    let b = goes x.before in
    let o = one_more b (powers_at x.room) in
    all lends_moment b.moments
    ∷ all lends_moment o.moments
    ∷ is_told (totals_of (logs_in x.parts)) x.told
    ∷ is_as_said x.before b.moments
    ∷ partly o x.parts

-- ---- the scripts

-- Four places, and no change is lost. Channels 1 and 2 are closed by a write and opened by the start of a program, channel 1 is closed again. Calls are
-- refused among them, a log is empty, and outputs stood before the power-on.
abbrev pub without_gap : Totals
without_gap = record {
  before = powers 32 ∷ "CW20607^" ⇒ "OK^" ∷ [];
  room = 64;
  parts =
      record {
        acts = "CW20603^#" ⇒ "OK^" ∷ lends emptying (lent 0 0 64 15) 35 ∷ lends tick (lent 1599 0 64 0) 30 ∷ [];
        log = change 255 0 3 0;
      }
      ∷ record { acts = "#" ⇒ "" ∷ []; log = [] }
      ∷ record { acts = "!#CW20601^" ⇒ "OK^" ∷ []; log = change 0 2 0 3 ++ change 255 3 1 0 }
      ∷ [];
  told = 3 ∷ 1 ∷ 0 ∷ 0 ∷ (2 ∷ 1 ∷ 2 ∷ 1 ∷ 1 ∷ 2 ∷ replicate 18 0);
}

-- Two places: the first log keeps one change of three. From tick 1 on the gap's word counts: channel 2 is closed for two ticks, and no closing is counted.
abbrev pub over_a_gap : Totals
over_a_gap = record {
  before = [];
  room = 32;
  parts =
      record { acts = "CW20601^#!CW20602^##" ⇒ "OK^OK^" ∷ []; log = change 255 0 1 0 ++ gap 1 2 2 }
      ∷ record { acts = "!" ⇒ "" ∷ []; log = change 0 3 0 2 }
      ∷ [];
  told = 3 ∷ 0 ∷ 2 ∷ 0 ∷ (1 ∷ 0 ∷ 1 ∷ 0 ∷ 1 ∷ 2 ∷ replicate 18 0);
}
