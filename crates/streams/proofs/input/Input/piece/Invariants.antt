-- `streams::input::Input::piece` meets its contract.
-- Assumes nothing.
use mathlib.Core.Path.{◌≡◌}
use lib.ListN.{length}
use Rattle.io.specs.Counts.{IsPrefixLen}
use Rattle.streams.specs.Gathering.{Passes}
use Rattle.streams.proofs.input.Input.piece.Given as goal

abbrev pub invariant-loop : goal.invariant-loop
invariant-loop g l = (length l.buffer ≡ length l.initial.buffer) × IsPrefixLen l.n l.buffer × Passes l.initial.output l.output
