-- Output that is gathered in a block before it goes out.
use Rattle.std.specs.Prelude.{Bool, true, List, [], ◌++◌, ◌≡◌, ◌⊎◌, ℕ, ◌+◌, ◌≤◌, leb, length, if◌then◌else◌}

-- what is known of an output: the bytes that wait in its block, and that no write has failed
pub record Waiting : Type 0 where
  pub waits : List ℕ
  pub «open» : Bool

-- nothing is gathered, and nothing has failed
abbrev pub nothing_gathered : Waiting
nothing_gathered = record { waits = []; «open» = true }

-- the same with more bytes behind what waits
abbrev pub more : Waiting → List ℕ → Waiting
more o bytes = record { waits = o.waits ++ bytes; «open» = o.open }

-- what waits in a block of a size after more bytes: they follow what waited, where they fit; else that goes out and they wait alone; and
-- where they are longer than the block, they go out too
unfoldable pub waits_after : ℕ → List ℕ → List ℕ → List ℕ
waits_after size waited bytes =
    if leb (length waited + length bytes) size then waited ++ bytes
    else if leb (length bytes) size then bytes
    else []

-- what putting bytes does, in a block of a size; no output that failed is open again, and none fails where they fit behind what waits, since nothing
-- goes out then
pub record Puts (size : ℕ) (o : Waiting) (bytes : List ℕ) (r : Waiting) : Type 0 where
  pub waits : r.waits ≡ waits_after size o.waits bytes
  pub failed : r.open ≡ true → o.open ≡ true
  pub stays : length o.waits + length bytes ≤ size → r.open ≡ o.open

-- what reading leaves of an output: as it was, or nothing waits any more, since it has gone out; no output that failed is open again
abbrev pub Passes : Waiting → Waiting → Type 0
Passes o r = ((r ≡ o) ⊎ (r.waits ≡ [])) × (r.open ≡ true → o.open ≡ true)

-- what several puts do, one behind the other: their bytes follow what waits, if there is room in the block for all of them
pub record Follows (size : ℕ) (o : Waiting) (bytes : List ℕ) (r : Waiting) : Type 0 where
  pub waits : length o.waits + length bytes ≤ size → r.waits ≡ o.waits ++ bytes
  pub stays : length o.waits + length bytes ≤ size → r.open ≡ o.open
