-- Promises that apply: for each premise of the theorems that speaks of calls, a test that can be computed on a history. That a test which passes is the very
-- premise is proved in `proofs/Walked`.
use Rattle.std.specs.Prelude.{ℕ, ◌+◌, Bool, true, false, not, ◌&&◌, ◌||◌, List, [], ◌∷◌, ◌++◌, map, length, eqb, Option as Outcome, None, Some}
use Rattle.std.proofs.Math.Option.{Option, none, some}
use Rattle.formats.specs.Checks.{Res, refused, passed, text, same, all}
use Rattle.explanation.specs.declared.Stop.{Stop}
use Rattle.formats.specs.Digits.{shown}
use Rattle.running.specs.declared.Run.{Run}
use Rattle.running.specs.Running.{ticks}
use Rattle.running.specs.Running as Running
use Rattle.controller.specs.Refusals.{power_on, byte, emptying}
use Rattle.controller.specs.Effects.{is_power_on}
use Rattle.demands.specs.Capitals.{in_capitals}
use Rattle.demands.specs.Exchanges.{times, end_mark}
use Rattle.demands.specs.Histories.{is_lent_program, outcome}
use Rattle.demands.specs.Seen.{Seen, seen_of, is_taken, Note}
use Rattle.demands.specs.Told.{Told}
use Rattle.demands.specs.Undisturbed.{counts}
use Rattle.demands.specs.LentBytes.{lends_bytes}
use Rattle.demands.specs.Walks.{Act, Lending, own, sized, anew, Ask, asking, asks_of, set_out, made_of, Moment, Trail, note_by, trail}

-- ---- the premises, as tests

-- `Told.Never`
abbrev pub never : (Told → Note → Bool) → List Moment → Bool
never is xs = all (λ (x : Moment). not (is x.told x.note)) xs

-- `Histories.HandsOn`: what the caller holds is lent by itself; of other areas, what is lent to a call that is taken must be the same
abbrev pub hands_other : Bool → Moment → Bool
hands_other false x = true
hands_other true x =
    (not (is_lent_program x.made.call) || same x.made.areas.program x.held.program) && same x.made.areas.log x.held.log

abbrev pub hands_lent : Lending → Moment → Bool
hands_lent (own n) x = true
hands_lent (sized l) x = hands_other (is_taken x.note.seen && not (is_power_on x.made.call)) x
hands_lent (anew n) x = is_power_on x.made.call

abbrev pub hands_on : Moment → Bool
hands_on x = hands_lent x.lent x

-- `Undisturbed.unpaused`
unfoldable pub counted : List Moment → ℕ
counted [] = 0
counted (x ∷ xs) = counts x.told x.note + counted xs

-- `ReadBack.Arrives`
abbrev pub arrives : Told → List ℕ → Bool
arrives t command = same (in_capitals t.received) command

-- `wire/Naming.Names`
abbrev pub names : ℕ → ℕ → List ℕ → Bool
names next k a = same a (shown 10 3 k) || ((same a (text "I") && eqb k next) || (same a (text "D") && eqb (k + 2) next))

-- the report gives so many ticks
abbrev pub is_given : Res ℕ → ℕ → Bool
is_given (refused e) n = false
is_given (passed m) n = eqb m n

-- the report of a stop tells this event, tick and line
abbrev pub is_stop : Res (Outcome Stop) → ℕ → ℕ → ℕ → Bool
is_stop (refused r) e n k = false
is_stop (passed None) e n k = false
is_stop (passed (Some s)) e n k = eqb s.event e && eqb s.tick n && eqb s.line k

-- or that the program still runs
abbrev pub is_still : Res (Outcome Stop) → Bool
is_still (refused r) = false
is_still (passed None) = true
is_still (passed (Some s)) = false

abbrev pub is_some : Option ℕ → ℕ → Bool
is_some none n = false
is_some (some m) n = eqb m n

-- ---- what every script has

-- what comes of a plan is this program
abbrev pub is_program_of : Res (List ℕ) → List ℕ → Bool
is_program_of (refused r) p = false
is_program_of (passed q) p = same q p

-- the saved copy: end marks, and at 007 a Bad line
abbrev pub copy : List ℕ
copy = times 7 end_mark ++ (times 1 (0xFF ∷ 0xFF ∷ 0xFF ∷ 0xFF ∷ 0xFF ∷ 0xFF ∷ 0xFF ∷ 0xFF ∷ []) ++ times 192 end_mark)

-- the acts, from the first call of all; and acts after others
abbrev pub goes : List Act → Trail
goes acts = trail (set_out copy) (asks_of acts)

infixl 60 ◌behind◌
abbrev pub ◌behind◌ : Trail → List Act → Trail
t behind acts = trail t.last (asks_of acts)

-- one call more, and what is seen of it
abbrev pub one_more : Trail → Ask → Trail
one_more t a = trail t.last (a ∷ [])

abbrev pub seen_at : Trail → Ask → Seen
seen_at t a = seen_of (outcome t.last.held (made_of a t.last))

abbrev pub end : Ask
end = asking (byte 13)

abbrev pub powers_at : ℕ → Ask
powers_at room = record { call = power_on; lent = anew room }

-- an emptying to a destination that is just long enough for these records
abbrev pub empties_to : List ℕ → Ask
empties_to rs = record { call = emptying; lent = own (length rs) }

-- the note of that call
abbrev pub note_at : Trail → Ask → Note
note_at t a = note_by (made_of a t.last) (outcome t.last.held (made_of a t.last))

abbrev pub notes_in : List Moment → List Note
notes_in xs = map (λ (x : Moment). x.note) xs

abbrev pub lends_moment : Moment → Bool
lends_moment x = lends_bytes x.made

-- the run that the rules give from here: for the program, the line, the outputs and n ticks
abbrev pub ruled_at : Trail → ℕ → ℕ → Run
ruled_at t k n = ticks t.last.held.program n (Running.start t.last.held.program k t.last.held.state.run.outputs).run
