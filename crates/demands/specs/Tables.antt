-- The tables of 01, computed: a second list of points beside those marked P, in the language of Exchanges and the order of the paper.
-- Each shows a rule at both its edges, so that a definition which is off by one, or takes one thing for its neighbour, fails here.
-- What is expected is read from the paper.
use Rattle.std.specs.Prelude.{List, ◌++◌}
use Rattle.demands.specs.Exchanges.{Point}
use Rattle.demands.specs.CallsTable.{calls}
use Rattle.demands.specs.WireTable.{wire}
use Rattle.demands.specs.VariablesTable.{variables}
use Rattle.demands.specs.RunningTable.{commands, running}
use Rattle.demands.specs.LogTable.{logs}

unfoldable pub tables : List Point
tables = calls ++ (wire ++ (variables ++ (commands ++ (running ++ logs))))
