-- Laws of a command that has arrived: the box finds it as it was received.
-- Assumes nothing.
use mathlib.Core.Path.{◌≡◌, sym, ap, ap₂, ◌∙◌}
use Prim.Native.Nat.{ℕ, ◌≤◌}
use native.Mathlib.Omega.{arith}
use mathlib.Core.Bool.{Bool, false}
use mathlib.Core.List.{List, ◌++◌}
use lib.ListN.{length, length-append, length-map}
use borrow.Author.Tests.{le-ltb}
use Rattle.formats.specs.Checks.{◌>>=◌, text}
use Rattle.lines.specs.declared.Line.{Line}
use Rattle.texts.specs.Text.{line_text}
use Rattle.texts.proofs.Texts.{text_length}
use Rattle.variables.specs.declared.Panel.{Panel}
use Rattle.variables.specs.Variables.{is_bad_at}
use Rattle.wire.specs.Collecting.{most_chars, sent}
use Rattle.wire.specs.Command.{command, command_in}
use Rattle.wire.specs.Naming.{Names}
use Rattle.controller.specs.declared.Controller.{Controller}
use Rattle.controller.specs.Controller.{mode}
use Rattle.controller.specs.Deeds.{legible, asked}
use Rattle.demands.specs.Capitals.{counts_as}
use Rattle.demands.specs.Told.{Told}
use Rattle.demands.specs.ReadBack.{Arrives}
use Rattle.demands.proofs.History.Asked.{checks_of, command_of, panel_of}
use Rattle.demands.proofs.History.Collects.{sent_whole}
use Rattle.demands.proofs.History.Agrees.{Agrees}
use Rattle.demands.proofs.Calls.Sentences.{named_few}

-- the panel is what the history says
pub panel_as_told : (t : Told) (c : Controller) → Agrees t c → c.panel ≡ panel_of t
panel_as_told t c g =
    ap₂ (λ (b : List ℕ × Bool) (n : ℕ × ℕ × ℕ). record { single = b.0; parameter = n.0; special = n.1; event = n.2; unread = b.1 })
    (ap₂ (λ s u. (s, u)) g.panel.single g.panel.unread)
    (ap₂ (λ p (n : ℕ × ℕ). (p, n.0, n.1)) g.panel.parameter (ap₂ (λ x e. (x, e)) g.panel.special g.panel.event))

-- what the seven checks make of the characters is what they make of those that the history says
pub checks_as_told : (t : Told) (c : Controller) → Agrees t c → command c.wire (mode c) c.panel.parameter ≡ checks_of t
unfolding command command_in checks_of
checks_as_told t c g =
    rw (g.wire.received.first, g.wire.received.more, g.wire.next_read, g.wire.next_write, g.panel.parameter, g.run, g.paused)

-- so is what byte 13 finds
pub asked_as_told : (t : Told) (c : Controller) → Agrees t c → (program : List ℕ) → asked c program ≡ command_of t program
asked_as_told t c g program =
    ap₂ (λ r (v : Panel). r >>= legible (is_bad_at v program)) (checks_as_told t c g) (panel_as_told t c g)

module _ (t : Told) (c : Controller) (g : Agrees t c) (command : List ℕ) (arrived : Arrives t command) where
  -- one of at most 32 characters is not overlong
  pub arrives_short : length command ≤ most_chars → c.wire.overlong ≡ false
  arrives_short few =
      let l : length command ≡ length t.received = sym (ap (λ (cs : List ℕ). length cs) arrived) ∙ length-map t.received counts_as in
      g.wire.received.more ∙ le-ltb most_chars (length t.received) (omega arith)

  -- and then it is found as it arrived
  pub arrives_sent : c.wire.overlong ≡ false → sent c.wire ≡ command
  arrives_sent short = sent_whole t.received c.wire g.wire.received short ∙ arrived

pub read_length : {next k : ℕ} {a : List ℕ} → Names next k a → length (text "CR" ++ a) ≤ most_chars
unfolding text
read_length {a} n = let l = named_few n in omega arith

pub write_length : {next k : ℕ} {a : List ℕ} (l : Line) → Names next k a → length (text "CW" ++ (a ++ line_text l)) ≤ most_chars
unfolding text
write_length {a} l n =
    let b = named_few n in
    let e = length-append a (line_text l) in
    omega (arith, text_length l)
