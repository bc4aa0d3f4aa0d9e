-- What is told always fits into the block of the program: nothing of it goes out before the rest.
-- Assumes nothing.
use Prim.Native.Nat.{ℕ, ◌+◌, ◌*◌, ◌/◌, ◌%◌}
use native.Mathlib.Omega.{arith}
use mathlib.Core.Path.{◌≡◌, refl, ap}
use mathlib.Core.Bool.{Bool, true}
use mathlib.Core.List.{List, [], ◌∷◌}
use lib.ListN.{length}
use Rattle.formats.specs.Checks.{Res, refused, passed, text}
use Rattle.formats.proofs.Checks.{if_case}
use Rattle.streams.specs.Gathering.{Waiting, Follows}
use Rattle.streams.proofs.Within.{Within, lit, one_within, both, room, decimal_within, digits_within, error_within, waits_whole}
use Rattle.planner.specs.declared.Move.{Move}
use Rattle.planner.specs.Plan.{moves_of}
use Rattle.planner.specs.Planned.{planned}
use Rattle.plantext.specs.declared.Fault.{Fault}
use Rattle.plantext.specs.declared.Fault.TheVariants.{NoWord, NoSettling, NoReadingWord, NoReading, SettlingMissing, ReadingWordMissing, ReadingMissing, Behind}
use Rattle.plan.specs.Telling.{clock, ticks, clocks, stretch, move_line, total_line, table_from}
use Rattle.plan.specs.Telling.{told_of, told, zeros, fault_text, move_form, fault_lines}
use Rattle.plan.proofs.Answers.{passed_is, counted_few, program_long}

-- ---- the table

clock_within : (n : ℕ) → Within 25 (clock n)
unfolding clock text
clock_within n =
    both (decimal_within (n / 600))
    (both (lit ":") (both (digits_within 10 2 (n / 10 % 60)) (both (lit ".") (digits_within 10 1 (n % 10)))))

ticks_within : (from to : ℕ) → Within 44 (ticks from to)
unfolding ticks text
ticks_within from to = both (decimal_within from) (both (lit " to ") (decimal_within to))

clocks_within : (from to : ℕ) → Within 57 (clocks from to)
unfolding clocks text
clocks_within from to = both (lit " (") (both (clock_within from) (both (lit " to ") (both (clock_within to) (lit ")"))))

stretch_within : {n : ℕ} {what : List ℕ} (word from to : ℕ) → Within n what → Within (8 + (n + 101)) (stretch word what from to)
unfolding stretch
stretch_within word from to w = both (digits_within 16 8 word) (both w (both (ticks_within from to) (clocks_within from to)))

move_within : (k at : ℕ) (m : Move) → Within 249 (move_line k at m)
unfolding move_line text
move_within k at m =
    both (lit "move ")
    (both (digits_within 10 2 (k + 1))
    (both (lit ": ")
    (both (stretch_within m.moveword at (at + m.settling) (lit " settling "))
    (both (lit ", ")
    (both (stretch_within m.readingword (at + m.settling) (at + m.settling + m.reading) (lit " reading ")) (one_within 10))))))

total_within : (at : ℕ) → Within 56 (total_line at)
unfolding total_line text
total_within at = both (lit "total: ") (both (decimal_within at) (both (lit " (") (both (clock_within at) (both (lit ")") (one_within 10)))))

table_within : (k at : ℕ) (ms : List Move) → Within (249 * length ms + 56) (table_from k at ms)
unfolding table_from
table_within k at [] = room (249 * 0 + 56) (total_within at) (omega arith)
table_within k at (m ∷ ms) =
    room (249 * length (m ∷ ms) + 56) (both (move_within k at m) (table_within (k + 1) (at + m.settling + m.reading) ms)) (omega arith)

-- ---- a plan

told_within : (check : Bool) (ns : List ℕ) → Within 4096 (told check ns)
unfolding told
told_within check ns = go (planned ns zeros) refl
  where
    go : (r : Res (List ℕ)) → planned ns zeros ≡ r → Within 4096 (told_of check (moves_of ns) r)
    go (refused e) so = room 4096 (both (error_within e) (one_within 10)) (omega arith)
    go (passed p) so =
        let is = passed_is ns zeros p so in
        let few = counted_few ns is.counted in
        if_case (Within 4096) check (λ _. room 4096 (table_within 0 0 (moves_of ns)) (omega arith))
        (λ _. record { fits = omega (arith, program_long (moves_of ns) few, ap length is.program) })

-- In a block of 4096 bytes, of which none wait, what is told waits whole, and no write fails.
pub told_whole : (check : Bool) (ns : List ℕ) {o r : Waiting} → o.waits ≡ [] → Follows 4096 o (told check ns) r
    → (r.waits ≡ told check ns) × (r.open ≡ o.open)
told_whole check ns none f = waits_whole (told_within check ns) (omega arith) none f

-- ---- a text that is no plan

fault_within : (e : Fault) → Within 60 (fault_text e)
unfolding fault_text text
fault_within NoWord = record { fits = omega arith }
fault_within NoSettling = record { fits = omega arith }
fault_within NoReadingWord = record { fits = omega arith }
fault_within NoReading = record { fits = omega arith }
fault_within SettlingMissing = record { fits = omega arith }
fault_within ReadingWordMissing = record { fits = omega arith }
fault_within ReadingMissing = record { fits = omega arith }
fault_within Behind = record { fits = omega arith }

lines_within : (line : ℕ) (e : Fault) → Within 200 (fault_lines line e)
unfolding fault_lines move_form text
lines_within line e =
    room 200
    (both (lit "line ")
    (both (decimal_within line)
    (both (lit ": ")
    (both (fault_within e)
    (both (one_within 10)
    (both (lit "a move is WORD SETTLING WORD READING: words of eight hex digits, times in decimal ticks") (one_within 10)))))))
    (omega arith)

pub fault_whole : (line : ℕ) (e : Fault) {o r : Waiting} → o.waits ≡ [] → Follows 4096 o (fault_lines line e) r → r.waits ≡ fault_lines line e
fault_whole line e none f = (waits_whole (lines_within line e) (omega arith) none f).0
