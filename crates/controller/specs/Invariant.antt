-- The one invariant: power-on gives it, refused or not, and every call keeps it.
use Rattle.std.specs.Prelude.{◌≡◌, true, length}
use Rattle.running.specs.Invariant.{RunInvariant}
use Rattle.boxlog.specs.Invariant.{LogInvariant}
use Rattle.wire.specs.Invariant.{WireInvariant}
use Rattle.controller.specs.declared.Controller.{Controller}

pub record Invariant (c : Controller) : Type 0 where
  pub run : RunInvariant c.run
  pub wire : WireInvariant c.wire
  pub log : LogInvariant c.log
  -- only a running program is paused
  pub paused_runs : c.paused ≡ true → c.run.on ≡ true
  pub single : length c.panel.single ≡ 8
