-- `planner::Writer::looped` meets its contract: three lines.
-- Assumes nothing.
use borrow.Author.Rules.{rules}
use Rattle.lines.specs.declared.Line.TheVariants.{For, Next}
use Rattle.planner.specs.Lines.{loop_lines}
use Rattle.planner.proofs.Laying.{put_lays, lays_more}
use Rattle.planner.proofs.Writer.looped.Goals as goal

pub returns-clause-lays : goal.returns-clause-lays
unfolding loop_lines
returns-clause-lays c =
    record {
      size = search rules;
      lays =
          lays_more (put_lays {k = c.args.self.now.at} {l = For 1 c.args.turns} c.put_line.ensures.program) (search rules)
          (lays_more c.state.ensures.lays.lays (search rules) (put_lays {k = c.state.new.self.at} {l = Next 1} c.put_line-2.ensures.program));
    }
