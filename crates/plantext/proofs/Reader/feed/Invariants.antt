-- What is left to feed from here is what was to feed from the start.
use Rattle.std.proofs.Common.{◌≡◌, drop}
use Rattle.plantext.specs.Reading.{fed}
use Rattle.plantext.proofs.Reader.feed.Given as goal

abbrev pub invariant-loop-x : goal.invariant-loop-x
invariant-loop-x l = fed l.self (drop l.x-index l.bytes) ≡ fed l.initial.self l.bytes
