-- `trials::tried` keeps the invariant, call by call.
-- Assumes nothing.
use Rattle.controller.specs.Refusals as Calls
use Rattle.calls.proofs.Kept.{call_kept, power_on_gives}
use Rattle.trials.proofs.tried.Goals as goal

pub returns-in-PowerOn : goal.returns-in-PowerOn
returns-in-PowerOn c = record { kept = power_on_gives _ c.power_on.result c.power_on.ensures.call }

pub returns-in-Byte : goal.returns-in-Byte
returns-in-Byte c = record { kept = call_kept (Calls.byte c.in-Byte.x) c.args.b.controller _ c.byte.result c.byte.ensures.call c.requires }

pub returns-in-Tick : goal.returns-in-Tick
returns-in-Tick c = record { kept = call_kept Calls.tick c.args.b.controller _ c.tick.result c.tick.ensures.call c.requires }

pub returns-in-Press : goal.returns-in-Press
returns-in-Press c = record { kept = call_kept (Calls.press c.in-Press.n) c.args.b.controller _ c.press.result c.press.ensures.call c.requires }

pub returns-in-Empty : goal.returns-in-Empty
returns-in-Empty c = record { kept = call_kept Calls.emptying c.args.b.controller _ c.empty.result c.empty.ensures.call c.requires }
