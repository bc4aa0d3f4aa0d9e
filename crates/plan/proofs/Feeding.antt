-- What was read, one piece behind the other.
-- Assumes nothing.
use mathlib.Core.Path.{◌≡◌, refl, sym, ap, ◌∙◌}
use Prim.Native.Nat.{ℕ}
use mathlib.Core.List.{List, [], ◌++◌}
use Rattle.plantext.specs.declared.Reader.{Reader}
use Rattle.plantext.specs.Reading.{begin, fed, ended, reader_of}
use Rattle.plantext.proofs.Feeding.{fed_pieces}
use Rattle.plan.specs.Reading.{ReadOn, ReadFrom}

-- nothing more
pub read_none : (r : Reader) → ReadOn r r
unfolding fed
read_none r = record { bytes = []; read = refl }

-- one behind the other
pub read_more : {q m r : Reader} → ReadOn q m → ReadOn m r → ReadOn q r
read_more {q} {m} {r} f g = record {
  bytes = f.bytes ++ g.bytes;
  read = g.read ∙ ap (λ x. fed x g.bytes) f.read ∙ sym (fed_pieces q f.bytes g.bytes);
}

-- the text is over
pub read_over : {m r : Reader} → ReadOn begin m → r ≡ ended m → ReadFrom r
unfolding reader_of
read_over f is = record { text = f.bytes; read = is ∙ ap ended f.read }
