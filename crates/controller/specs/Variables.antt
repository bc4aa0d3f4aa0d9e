-- The variables of the state: the layer `variables` over the state's parts.
-- 01, 'Variables', its table.
use Rattle.std.specs.Prelude.{ℕ, Bool, List}
use Rattle.lines.specs.declared.Line.{Line}
use Rattle.variables.specs.Variables as Variables
use Rattle.controller.specs.declared.Controller.{Controller}

-- the line at 000-199, in the program area, or at 200
abbrev pub line_of : Controller → List ℕ → ℕ → Line
line_of c program k = Variables.line_of c.panel program k

-- address k is one of 000-200, and a Bad line stands there
abbrev pub is_bad_at : Controller → List ℕ → ℕ → Bool
is_bad_at c program k = Variables.is_bad_at c.panel program k

-- what a read of address k shows
abbrev pub value : Controller → List ℕ → ℕ → List ℕ
value c program k = Variables.value c.panel c.run c.paused program k
