-- `planner::Writer::state` meets its contract: one line.
-- Assumes nothing.
use borrow.Author.Rules.{rules}
use Rattle.planner.proofs.Laying.{put_lays}
use Rattle.planner.proofs.Writer.state.Goals as goal

pub returns-clause-lays : goal.returns-clause-lays
returns-clause-lays c = record { size = search rules; lays = put_lays {k = c.args.self.now.at} c.put_line.ensures.program }
