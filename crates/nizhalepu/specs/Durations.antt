-- How the report is passed to C: one number for the refusal and one for the ticks.
use Rattle.std.specs.Prelude.{ℕ}
use Rattle.formats.specs.Checks.{Res, refused, passed}
use Rattle.nizhalepu.specs.declared.Duration.{Duration}

-- Refusal 0, which is no refusal's number (`duration/Refusing.zero_not_told`), says that there is none; a refused program has 0 ticks.
abbrev pub duration_of : Res ℕ → Duration
duration_of (refused e) = record { refusal = e; ticks = 0 }
duration_of (passed n) = record { refusal = 0; ticks = n }
