-- The grand total of programs.
-- 02, item 6: "prints each number or refusal, then the grand total, a line each; a refused program adds nothing", "043 more than 9,999,999,999
-- ticks, or a grand total more than ten times that".
use Rattle.std.specs.Prelude.{ℕ, ◌+◌, ◌*◌, List, [], ◌∷◌, leb}
use Rattle.formats.specs.Checks.{Res, refused, passed, ◌>>◌, ◌or_else◌}
use Rattle.duration.specs.Report.{most_ticks, capped_at, report}

-- "ten times that"
abbrev pub most_total : ℕ
most_total = 10 * most_ticks

-- "a refused program adds nothing"
abbrev pub adds : Res ℕ → ℕ
adds (passed n) = n
adds (refused e) = 0

unfoldable pub grand_total : List (List ℕ) → ℕ
grand_total [] = 0
grand_total (p ∷ ps) = adds (report p) + grand_total ps

-- the last line
unfoldable pub told_total : ℕ → Res ℕ
told_total n = do
  leb n most_total or_else 43
  passed n

-- how it is kept: up to one more than is told
abbrev pub capped_total : ℕ → ℕ
capped_total n = capped_at most_total n
