-- Areas of bytes stay areas of bytes: what the box writes into them are bytes.
-- Assumes nothing.
use mathlib.Core.Path.{◌≡◌, refl}
use Prim.Native.Nat.{ℕ, zero, suc, ◌+◌, ◌*◌, ◌<◌}
use native.Mathlib.Omega.{arith}
use mathlib.Core.Bool.{true}
use mathlib.Core.List.{List}
use lib.ListN.{take, replicate}
use lib.Dec.{ltb}
use Rattle.formats.specs.Bytes.{bytes, placed, are_bytes}
use Rattle.formats.proofs.Checks.{if_case, all_take, all_drop, all_append}
use Rattle.formats.proofs.Digits.{is_below, digits_below}
use Rattle.boxlog.specs.declared.Change.{Change}
use Rattle.boxlog.specs.declared.Log.{Log}
use Rattle.boxlog.specs.Record.{record_size, change_record, gap_record}
use Rattle.boxlog.specs.Log.{R, Logged, one_more_lost, first_lost, add_change}
use Rattle.reader.proofs.Bytes.{new_record_bytes}
use Rattle.demands.specs.Sent.{zeros}

-- numbers in bytes, and zeros
digits_bytes : (n v : ℕ) → are_bytes (bytes n v) ≡ true
digits_bytes n v = digits_below 256 (omega arith) n v

replicate_bytes : (n : ℕ) → are_bytes (replicate n 0) ≡ true
replicate_bytes zero = refl
replicate_bytes (suc n) = replicate_bytes n

pub zeros_bytes : (n : ℕ) → are_bytes (zeros n) ≡ true
unfolding zeros
zeros_bytes n = replicate_bytes n

-- bytes placed among bytes
pub placed_bytes : (n k : ℕ) (r bs : List ℕ) → are_bytes r ≡ true → are_bytes bs ≡ true → are_bytes (placed n k r bs) ≡ true
unfolding placed
placed_bytes n k r bs e f =
    all_append (is_below 256) (take (n * k) bs) _ (all_take (is_below 256) (n * k) bs f)
    (all_append (is_below 256) r _ e (all_drop (is_below 256) (n * k + n) bs f))

-- ---- records

-- an area of bytes to which a change is logged
pub added_bytes : (l : Log) (area : List ℕ) (c : Change) → c.cause < 256 → are_bytes area ≡ true → are_bytes (add_change l area c).area ≡ true
unfolding add_change change_record gap_record
added_bytes l area c lt e =
    if_case (λ (x : Logged). are_bytes x.area ≡ true) (ltb (l.kept + 1) (R l))
    (λ _. placed_bytes record_size l.kept _ area (new_record_bytes 1 c.cause c.tick c.word c.before (omega arith) lt) e)
    (λ _. placed_bytes record_size l.kept _ area
    (new_record_bytes 2 0 (first_lost l c.tick) (one_more_lost l.lost) c.word (omega arith) (omega arith)) e)
