-- The special commands.
-- 01, 'Special commands', and its table; 02, item 3.
use Rattle.std.specs.Prelude.{ℕ, Bool, true, false, eqb, leb}
use Rattle.std.specs.Prelude.{if◌then◌else◌}
use Rattle.formats.specs.Checks.{Res, refused, passed}
use Rattle.special.specs.declared.Mode as M
use Rattle.special.specs.declared.Mode.{Mode}
use Rattle.special.specs.declared.Special.{Special}
use Rattle.special.specs.declared.Special.TheVariants.{Stop, Pause, Start, Continue, StartAt, Execute, Load, Save}

-- running also when paused
abbrev pub mode_of : Bool → Bool → Mode
mode_of false paused = M.TheVariants.Stop
mode_of true true = M.TheVariants.Pause
mode_of true false = M.TheVariants.Auto

abbrev pub row : ℕ → ℕ → ℕ → Mode → ℕ
row stop pause auto M.TheVariants.Stop = stop
row stop pause auto M.TheVariants.Pause = pause
row stop pause auto M.TheVariants.Auto = auto

-- The error that a command is refused with, 0 where it is allowed. 01's table has a 1 where it is allowed, in Stop, Pause, Auto:
--     001 stop                                      1 1 1
--     002 pause                                     0 1 1
--     003 start at 000                              1 0 0
--     004 continue                                  0 1 0
--     005 start at parameter, at most 199           1 0 0
--     006 execute one line, parameter at most 200   1 0 0
--     007 load saved copy                           1 0 0
--     008 save                                      1 0 0
-- and where it has a 0, 02, item 3, says why: "E020 needs a stopped program, E021 needs a pause, E022 nothing is running to pause, in
-- place of E005 there".
unfoldable pub forbidden : Special → Mode → ℕ
forbidden Stop = row 0 0 0
forbidden Pause = row 22 0 0
forbidden Start = row 0 20 20
forbidden Continue = row 21 0 21
forbidden StartAt = row 0 20 20
forbidden Execute = row 0 20 20
forbidden Load = row 0 20 20
forbidden Save = row 0 20 20

abbrev pub allowed : Special → Mode → Bool
allowed s mode = eqb (forbidden s mode) 0

abbrev pub code_of : Special → ℕ
code_of Stop = 1
code_of Pause = 2
code_of Start = 3
code_of Continue = 4
code_of StartAt = 5
code_of Execute = 6
code_of Load = 7
code_of Save = 8

-- 01, check 7: "code not 001-008, E003"
unfoldable pub special_of : ℕ → Res Special
special_of n =
    if eqb n 1 then passed Stop
    else if eqb n 2 then passed Pause
    else if eqb n 3 then passed Start
    else if eqb n 4 then passed Continue
    else if eqb n 5 then passed StartAt
    else if eqb n 6 then passed Execute
    else if eqb n 7 then passed Load
    else if eqb n 8 then passed Save
    else refused 3

-- "start at parameter, at most 199", "execute one line, parameter at most 200"; the others look at no parameter
abbrev pub in_reach : Special → ℕ → Bool
in_reach Stop parameter = true
in_reach Pause parameter = true
in_reach Start parameter = true
in_reach Continue parameter = true
in_reach StartAt parameter = leb parameter 199
in_reach Execute parameter = leb parameter 200
in_reach Load parameter = true
in_reach Save parameter = true
