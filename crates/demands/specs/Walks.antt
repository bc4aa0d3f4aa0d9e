-- A language of histories, for promises that are shown to apply: a caller acts, each of its calls is lent what it holds or what the act says, and what
-- comes of it is noted. A history is gone through once; at each call there stand what the caller holds, what the history says, the call and its note.
use Rattle.std.specs.Prelude.{ℕ, Bool, ◌&&◌, List, [], ◌∷◌, ◌++◌, map, length, replicate, eqb}
use Prim.Native.String.{String}
use Rattle.std.specs.Prelude.{if◌then◌else◌}
use Rattle.formats.specs.Checks.{text, same}
use Rattle.controller.specs.Controller.{Areas}
use Rattle.controller.specs.Refusals.{Call, power_on, emptying}
use Rattle.controller.specs.Calls.{After}
use Rattle.demands.specs.Exchanges.{Lent, call_of, wire_byte, blank, lending}
use Rattle.demands.specs.Histories.{Made, Held, unpowered, outcome, is_lent_program}
use Rattle.demands.specs.Seen.{seen_of, reply, Note}
use Rattle.demands.specs.Told.{Told, powered, tell}

-- ---- what the caller does

pub data Act : Type 0 where
  -- a text arrives, in the letters of `Exchanges`, and these are the replies to it; every call is taken
  says : String → String → Act
  -- a call that is lent areas of these lengths is refused with this number, 0 for taken; an area of its own length is the caller's
  lends : Call → Lent → ℕ → Act
  -- emptying, which is taken and copies these bytes
  gives : List ℕ → Act
  -- power-on with a log of so many bytes, none of them handed on
  powers : ℕ → Act

infix 70 ◌⇒◌
abbrev pub ◌⇒◌ : String → String → Act
s ⇒ r = says s r

-- what one call is lent: what the caller holds, with so many bytes for the reply or the records; areas of these lengths; areas for a power-on
pub data Lending : Type 0 where
  own : ℕ → Lending
  sized : Lent → Lending
  anew : ℕ → Lending

pub record Ask : Type 0 where
  pub call : Call
  pub lent : Lending

-- with the least reply area
abbrev pub asking : Call → Ask
asking k = record { call = k; lent = own 16 }

unfoldable pub asks_of : List Act → List Ask
asks_of [] = []
asks_of (says s r ∷ more) = map (λ x. asking (call_of x)) (text s) ++ asks_of more
asks_of (lends k l n ∷ more) = record { call = k; lent = sized l } ∷ asks_of more
asks_of (gives rs ∷ more) = record { call = emptying; lent = own (length rs) } ∷ asks_of more
asks_of (powers n ∷ more) = record { call = power_on; lent = anew n } ∷ asks_of more

-- what must be seen of them: the refusals, one for each call, and the bytes written, one after the other
unfoldable pub refusals_of : List Act → List ℕ
refusals_of [] = []
refusals_of (says s r ∷ more) = map (λ x. 0) (text s) ++ refusals_of more
refusals_of (lends k l n ∷ more) = n ∷ refusals_of more
refusals_of (gives rs ∷ more) = 0 ∷ refusals_of more
refusals_of (powers n ∷ more) = 0 ∷ refusals_of more

unfoldable pub written_of : List Act → List ℕ
written_of [] = []
written_of (says s r ∷ more) = map wire_byte (text r) ++ written_of more
written_of (lends k l n ∷ more) = written_of more
written_of (gives rs ∷ more) = rs ++ written_of more
written_of (powers n ∷ more) = written_of more

-- ---- how it goes

-- between two calls: what the caller holds, with its saved copy, and what the history says
pub record Walk : Type 0 where
  pub held : Held
  pub told : Told
  pub saved : List ℕ

-- before the first call
abbrev pub set_out : List ℕ → Walk
set_out copy = record { held = unpowered; told = powered 0; saved = copy }

-- the program area that is lent to power-on holds no line
abbrev pub lent_to : Lending → Walk → Areas
lent_to (own n) w = record { program = w.held.program; saved = w.saved; log = w.held.log; out = replicate n blank }
lent_to (sized l) w = lending l (record { program = w.held.program; saved = w.saved; log = w.held.log; out = [] })
lent_to (anew n) w = record { program = replicate 1600 blank; saved = w.saved; log = replicate n blank; out = [] }

abbrev pub made_of : Ask → Walk → Made
made_of a w = record { call = a.call; areas = lent_to a.lent w }

-- `Histories.next` and `Seen.note`, from what came of the call: it is reckoned once
unfoldable pub next_by : Held → Made → After → Held
next_by h m r = record {
  state = r.state;
  program = if eqb r.refusal 0 && is_lent_program m.call then r.areas.program else h.program;
  log = if eqb r.refusal 0 then r.areas.log else h.log;
}

unfoldable pub note_by : Made → After → Note
note_by m r = record { call = m.call; lent = m.areas; seen = seen_of r }

-- the caller's saved copy after a call
abbrev pub saved_by : Lending → Walk → After → List ℕ
saved_by (own n) w r = r.areas.saved
saved_by (sized l) w r = w.saved
saved_by (anew n) w r = r.areas.saved

-- one call: before it, and what it was
pub record Moment : Type 0 where
  pub held : Held
  pub told : Told
  pub lent : Lending
  pub made : Made
  pub note : Note

pub record Trail : Type 0 where
  pub moments : List Moment
  pub last : Walk

unfoldable pub went_on : Walk → Ask → After → Walk
went_on w a r = let m = made_of a w in
    record { held = next_by w.held m r; told = tell w.told (note_by m r); saved = saved_by a.lent w r }

unfoldable pub moment : Walk → Ask → After → Moment
moment w a r = let m = made_of a w in
    record { held = w.held; told = w.told; lent = a.lent; made = m; note = note_by m r }

unfoldable pub trail : Walk → List Ask → Trail
trail w [] = record { moments = []; last = w }
trail w (a ∷ more) =
    let r = outcome w.held (made_of a w) in
    let rest = trail (went_on w a r) more in
    record { moments = moment w a r ∷ rest.moments; last = rest.last }

-- the calls
abbrev pub made_in : List Moment → List Made
made_in xs = map (λ (x : Moment). x.made) xs

-- ---- what is seen

abbrev pub refusals_in : List Moment → List ℕ
refusals_in xs = map (λ (x : Moment). x.note.seen.refusal) xs

unfoldable pub written_in : List Moment → List ℕ
written_in [] = []
written_in (x ∷ xs) = reply x.note.seen ++ written_in xs

-- of these acts it is what they say
unfoldable pub is_as_said : List Act → List Moment → Bool
is_as_said more xs = same (refusals_in xs) (refusals_of more) && same (written_in xs) (written_of more)
