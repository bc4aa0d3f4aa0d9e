-- What waits after bytes are put, in the three ways that `put` goes.
-- Assumes nothing.
use mathlib.Core.Bool.{true}
use mathlib.Core.List.{List, [], ◌++◌, append-nil}
use mathlib.Core.Path.{◌≡◌, refl, ap, ◌∙◌}
use Prim.Native.Nat.{ℕ, ◌+◌, ◌≤◌, ◌<◌}
use native.Mathlib.Omega.{arith}
use lib.ListN.{length}
use borrow.Author.Tests.{le-leb, lt-leb}
use Rattle.streams.specs.Gathering.{Waiting, waits_after, more, Puts}

-- the bytes follow
pub puts_behind : (size : ℕ) (o : Waiting) (bytes : List ℕ) → length o.waits + length bytes ≤ size → Puts size o bytes (more o bytes)
unfolding waits_after
puts_behind size o bytes fits =
    record { waits = rw (le-leb (length o.waits + length bytes) size fits); failed = λ e. e; stays = λ _. refl }

-- they wait alone
pub puts_alone : (size : ℕ) (o m : Waiting) (bytes : List ℕ) → size < length o.waits + length bytes → length bytes ≤ size → m.waits ≡ []
    → (m.open ≡ true → o.open ≡ true) → Puts size o bytes (more m bytes)
unfolding waits_after
puts_alone size o m bytes over fits none failed =
    record {
      waits = ap (λ w. w ++ bytes) none ∙ rw (lt-leb (length o.waits + length bytes) size over, le-leb (length bytes) size fits);
      failed = failed;
      stays = λ le. absurd (omega arith);
    }

-- they went out too
pub puts_out : (size : ℕ) (o r : Waiting) (bytes : List ℕ) → size < length bytes → r.waits ≡ [] → (r.open ≡ true → o.open ≡ true) → Puts size o bytes r
unfolding waits_after
puts_out size o r bytes over none failed =
    record {
      waits = none ∙ rw (lt-leb (length o.waits + length bytes) size (omega arith), lt-leb (length bytes) size over);
      failed = failed;
      stays = λ le. absurd (omega arith);
    }

-- no bytes leave what waits
pub nothing_waits : (size : ℕ) (waited : List ℕ) → length waited ≤ size → waits_after size waited [] ≡ waited
unfolding waits_after
nothing_waits size waited fits = rw (le-leb (length waited + 0) size (omega arith)) (append-nil waited)
