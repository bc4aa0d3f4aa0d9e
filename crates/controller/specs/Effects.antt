-- What a call is and what an accepted one does, in the words of the laws of one call: it finishes a command, gives a special command,
-- starts a program, replaces a line.
use Rattle.std.specs.Prelude.{ℕ, Bool, true, false, not, ◌&&◌, eqb, leb}
use Rattle.std.proofs.Math.Option.{Option, none, some}
use Rattle.std.specs.Prelude.{if◌then◌else◌}
use Rattle.formats.specs.Checks.{Res, refused, passed}
use Rattle.wire.specs.declared.Data.{Data}
use Rattle.wire.specs.declared.Data.TheVariants.{WriteLine, WriteOutputs, WriteParameter, WriteSpecial}
use Rattle.wire.specs.declared.Asked.{Asked}
use Rattle.wire.specs.declared.Asked.TheVariants.{Read, Write}
use Rattle.special.specs.Special.{code_of}
use Rattle.controller.specs.declared.Controller.{Controller}
use Rattle.controller.specs.Controller.{Areas}
use Rattle.controller.specs.Deeds.{asked}
use Rattle.controller.specs.Refusals.{Call, power_on, byte, tick, press, emptying}

-- the command that a call finishes, if it is byte 13; any other call finishes none
unfoldable pub finished : Call → Controller → Areas → Res Asked
finished power_on c a = refused 0
finished (byte x) c a = if eqb x 13 then asked c a.program else refused 0
finished tick c a = refused 0
finished (press n) c a = refused 0
finished emptying c a = refused 0

-- the code of the special command that is given; 0 for none
abbrev pub data_code : Data → ℕ
data_code (WriteLine l) = 0
data_code (WriteOutputs x) = 0
data_code (WriteParameter v) = 0
data_code (WriteSpecial s) = code_of s

abbrev pub special_code : Res Asked → ℕ
special_code (refused e) = 0
special_code (passed (Read k)) = 0
special_code (passed (Write k x)) = data_code x

-- a write to 203-206
abbrev pub is_outputs : Data → Bool
is_outputs (WriteLine l) = false
is_outputs (WriteOutputs x) = true
is_outputs (WriteParameter v) = false
is_outputs (WriteSpecial s) = false

abbrev pub writes_outputs : Res Asked → Bool
writes_outputs (refused e) = false
writes_outputs (passed (Read k)) = false
writes_outputs (passed (Write k x)) = is_outputs x

-- an accepted write of a line to address k
abbrev pub is_line : Data → Bool
is_line (WriteLine l) = true
is_line (WriteOutputs x) = false
is_line (WriteParameter v) = false
is_line (WriteSpecial s) = false

abbrev pub writes_line : ℕ → Res Asked → Bool
writes_line k (refused e) = false
writes_line k (passed (Read j)) = false
writes_line k (passed (Write j x)) = is_line x && eqb k j

-- the call is byte 13; it is a tick; it is an emptying
abbrev pub is_end : Call → Bool
is_end = elim [ power_on ↦ false | byte x ↦ eqb x 13 | tick ↦ false | press n ↦ false | emptying ↦ false ]

abbrev pub is_tick : Call → Bool
is_tick = elim [ power_on ↦ false | byte x ↦ false | tick ↦ true | press n ↦ false | emptying ↦ false ]

abbrev pub is_emptying : Call → Bool
is_emptying = elim [ power_on ↦ false | byte x ↦ false | tick ↦ false | press n ↦ false | emptying ↦ true ]

abbrev pub is_press : ℕ → Call → Bool
is_press b power_on = false
is_press b (byte x) = false
is_press b tick = false
is_press b (press n) = eqb n b
is_press b emptying = false

abbrev pub is_power_on : Call → Bool
is_power_on power_on = true
is_power_on (byte x) = false
is_power_on tick = false
is_power_on (press n) = false
is_power_on emptying = false

-- 003 starts at 000, 005 at the parameter
abbrev pub start_by : ℕ → ℕ → Option ℕ
start_by code parameter = if eqb code 3 then some 0 else if eqb code 5 then some parameter else none

-- The line at which a call starts a program; Start/Stop "starts at 000 when stopped".
unfoldable pub start_line : Call → Controller → Areas → Option ℕ
start_line k c a =
    if is_press 1 k && not c.run.on then some 0
    else start_by (special_code (finished k c a)) c.panel.parameter

-- 00: "until a later write, a load or a power-on replaces it": a write to k; command 007, which replaces 000-199; or power-on
unfoldable pub replaces : ℕ → Call → Controller → Areas → Bool
replaces k n c a =
    if is_power_on n then true
    else if writes_line k (finished n c a) then true
    else leb k 199 && eqb (special_code (finished n c a)) 7
