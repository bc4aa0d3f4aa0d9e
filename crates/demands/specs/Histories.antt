-- Calls one after the other, refused ones among them, as the demands speak of them.
use Rattle.std.specs.Prelude.{ℕ, ◌≡◌, Bool, true, false, ◌&&◌, List, [], ◌∷◌, ◌++◌, eqb}
use Rattle.std.specs.Prelude.{if◌then◌else◌}
use Rattle.controller.specs.declared.Controller.{Controller}
use Rattle.controller.specs.Controller.{Areas, fresh}
use Rattle.controller.specs.Refusals.{Call, power_on, byte, tick, press, emptying}
use Rattle.controller.specs.Calls.{After, call}
use Rattle.controller.specs.Effects.{is_power_on}

-- a call and the areas that it is lent, of any length and content
pub record Made : Type 0 where
  pub call : Call
  pub areas : Areas

-- "Byte 13 ends a command"; a tick; a power-on; an emptying
abbrev pub ending : Areas → Made
ending a = record { call = byte 13; areas = a }

abbrev pub ticking : Areas → Made
ticking a = record { call = tick; areas = a }

abbrev pub powering : Areas → Made
powering a = record { call = power_on; areas = a }

abbrev pub emptying_to : Areas → Made
emptying_to a = record { call = emptying; areas = a }

-- calls, and a power-on after them; and other calls after that
abbrev pub powered_on : List Made → Areas → List Made
powered_on before a = before ++ (powering a ∷ [])

abbrev pub since_power_on : List Made → Areas → List Made → List Made
since_power_on before a later = powered_on before a ++ later

-- What the caller holds between two calls: the state that the last call returned, and the program area and the log as the last
-- accepted call that was lent them left them.
pub record Held : Type 0 where
  pub state : Controller
  pub program : List ℕ
  pub log : List ℕ

-- Before the first power-on; the state is the one that a refused power-on returns, so every other call is refused.
abbrev pub unpowered : Held
unpowered = record { state = fresh 0; program = []; log = [] }

-- 01, 'The box': "every other call is given the state that the call before it returned, never an older copy or one made up."
unfoldable pub outcome : Held → Made → After
outcome h m = call m.call h.state m.areas

-- the call is taken, as `Seen.is_taken` says of what is seen
abbrev pub is_accepted : Held → Made → Bool
is_accepted h m = eqb (outcome h m).refusal 0

-- "Every call but emptying is lent the program area and the log"; emptying is lent the log
abbrev pub is_lent_program : Call → Bool
is_lent_program power_on = true
is_lent_program (byte x) = true
is_lent_program tick = true
is_lent_program (press n) = true
is_lent_program emptying = false

unfoldable pub next : Held → Made → Held
next h m = record {
  state = (outcome h m).state;
  program = if is_accepted h m && is_lent_program m.call then (outcome h m).areas.program else h.program;
  log = if is_accepted h m then (outcome h m).areas.log else h.log;
}

unfoldable pub after : Held → List Made → Held
after h [] = h
after h (m ∷ ms) = after (next h m) ms

-- 00: "In 2 and 3 the caller alters neither the program area nor the log between calls." What is lent to power-on, or to a call
-- that is refused, may be anything.
pub record HandsOn (h : Held) (m : Made) : Type 0 where
  pub program : is_power_on m.call ≡ false → is_lent_program m.call ≡ true → is_accepted h m ≡ true → m.areas.program ≡ h.program
  pub log : is_power_on m.call ≡ false → is_accepted h m ≡ true → m.areas.log ≡ h.log

abbrev pub AllHandOn : Held → List Made → Type 0
AllHandOn h [] = Unit {0}
AllHandOn h (m ∷ ms) = HandsOn h m × AllHandOn (next h m) ms
