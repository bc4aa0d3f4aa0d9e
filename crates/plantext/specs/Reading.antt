-- How the code reads a text, one character after the other. Text and Faults say what it must come to, and a reader need not hold this against the paper.
use Rattle.std.specs.Prelude.{ℕ, ◌+◌, ◌*◌, min, Bool, true, false, Option, Some, None, is_some, List, [], ◌∷◌, ◌++◌, take, leb, ltb, eqb}
use Rattle.std.specs.Prelude.{if◌then◌else◌}
use Rattle.plantext.specs.declared.Fault.{Fault}
use Rattle.plantext.specs.declared.Fault.TheVariants.{NoWord, NoSettling, NoReadingWord, NoReading, SettlingMissing, ReadingWordMissing, ReadingMissing, Behind}
use Rattle.plantext.specs.declared.Kind.{Kind}
use Rattle.plantext.specs.declared.Kind.TheVariants.{MoveWord, Settling, ReadingWord, Reading}
use Rattle.plantext.specs.declared.Number.{Number}
use Rattle.plantext.specs.declared.Number.TheVariants.{Few, Whole, Never}
use Rattle.plantext.specs.declared.Place.{Place}
use Rattle.plantext.specs.declared.Place.TheVariants.{In, Past, Remark}
use Rattle.plantext.specs.declared.Reader.{Reader}
use Rattle.plantext.specs.Text.{is_blank, is_hash, hex_value}
use Rattle.plantext.specs.Kept.{most, room, most_line}

-- ---- fields

-- before a field
abbrev pub before : Kind → Place
before k = In k (Few 0 0)

-- the place behind a field: before the next, if there is one
abbrev pub behind : Kind → Place
behind MoveWord = before Settling
behind Settling = before ReadingWord
behind ReadingWord = before Reading
behind Reading = Past

-- the words have digits to the base 16, the times to the base 10
abbrev pub base : Kind → ℕ
base MoveWord = 16
base Settling = 10
base ReadingWord = 16
base Reading = 10

-- the fault of a field that is wrong, and of a line that ends at a place: none where it has no field, or all four
abbrev pub wrong : Kind → Fault
wrong MoveWord = NoWord
wrong Settling = NoSettling
wrong ReadingWord = NoReadingWord
wrong Reading = NoReading

abbrev pub missing_in : Kind → Option Fault
missing_in MoveWord = None
missing_in Settling = Some SettlingMissing
missing_in ReadingWord = Some ReadingWordMissing
missing_in Reading = Some ReadingMissing

abbrev pub missing : Place → Option Fault
missing (In k n) = missing_in k
missing Past = None
missing Remark = None

-- ---- the characters of a field

abbrev pub value_after : ℕ → ℕ → ℕ → ℕ
value_after b v x = min (v * b + x) most

-- what a field is after a digit of value x to the base b: a word has eight, and a time one or more
abbrev pub with_digit : ℕ → ℕ → Number → Number
with_digit b x (Few n v) = if eqb b 16 then (if ltb n 7 then Few (n + 1) (value_after b v x) else Whole (value_after b v x)) else Whole (value_after b v x)
with_digit b x (Whole v) = if eqb b 10 then Whole (value_after b v x) else Never
with_digit b x Never = Never

-- and after a character of value x, which is a digit or none
unfoldable pub grown : ℕ → ℕ → Number → Number
grown b x n = if leb b x then Never else with_digit b x n

-- ---- the reader's parts

abbrev pub reader : List ℕ → ℕ → Option Fault → Place → Bool → Reader
reader ns n e p cr = record { numbers = record { items = ns }; line = n; fault = e; place = p; cr = cr }

abbrev pub begin : Reader
begin = reader [] 1 None (before MoveWord) false

abbrev pub with_fault : Option Fault → Reader → Reader
with_fault e r = record r { fault = e }

abbrev pub with_cr : Bool → Reader → Reader
with_cr cr r = record r { cr = cr }

abbrev pub with_place : Place → Reader → Reader
with_place p r = record r { place = p }

-- a character of a field: behind the fourth there is none, in a remark it is passed over
abbrev pub character_at : ℕ → Reader → Place → Reader
character_at c r (In k n) = with_place (In k (grown (base k) (hex_value c) n)) r
character_at c r Past = with_fault (Some Behind) r
character_at c r Remark = r

unfoldable pub character : ℕ → Reader → Reader
character c r = character_at c r r.place

-- ---- the end of a field

-- a number is stored where there is room
unfoldable pub put : List ℕ → ℕ → List ℕ
put ns n = take room (ns ++ (n ∷ []))

abbrev pub stored : ℕ → Reader → Reader
stored n r = record r { numbers = record { items = put r.numbers.items n } }

abbrev pub number_end : Reader → Kind → Number → Reader
number_end r k (Few n v) = if eqb n 0 then r else with_fault (Some (wrong k)) r
number_end r k (Whole v) = with_place (behind k) (stored v r)
number_end r k Never = with_fault (Some (wrong k)) r

abbrev pub field_end_at : Reader → Place → Reader
field_end_at r (In k n) = number_end r k n
field_end_at r Past = r
field_end_at r Remark = r

unfoldable pub field_end : Reader → Reader
field_end r = field_end_at r r.place

-- ---- what follows the fields

-- nothing more of a line counts; a fault that was found stays
abbrev pub complete : Reader → Reader
complete q = if is_some q.fault then q else with_fault (missing q.place) q

unfoldable pub closed : Reader → Reader
closed r = if is_some r.fault then r else complete (field_end r)

abbrev pub remarked : Reader → Reader
remarked q = if is_some q.fault then q else with_place Remark q

unfoldable pub hash : Reader → Reader
hash r = remarked (closed r)

-- a character of a line
unfoldable pub letter : ℕ → Reader → Reader
letter c r =
    if is_some r.fault then r
    else if is_blank c then field_end r
    else if is_hash c then hash r
    else character c r

abbrev pub line_after : ℕ → ℕ
line_after n = min (n + 1) most_line

abbrev pub next_line : Reader → Reader
next_line r = record r { line = line_after r.line; place = before MoveWord }

abbrev pub onward : Reader → Reader
onward q = if is_some q.fault then q else next_line q

unfoldable pub line_end : Reader → Reader
line_end r = onward (closed r)

-- ---- a CR waits for what follows it

unfoldable pub resolved : Reader → Reader
resolved r = if r.cr then letter 13 (with_cr false r) else r

-- any byte but LF, and what was read before it
unfoldable pub byte_after : ℕ → Reader → Reader
byte_after x q = if eqb x 13 then with_cr true q else letter x q

unfoldable pub step : ℕ → Reader → Reader
step x r = if eqb x 10 then line_end (with_cr false r) else byte_after x (resolved r)

unfoldable pub fed : Reader → List ℕ → Reader
fed r [] = r
fed r (x ∷ xs) = fed (step x r) xs

unfoldable pub ended : Reader → Reader
ended r = closed (resolved r)

-- the reader at the end of a text
unfoldable pub reader_of : List ℕ → Reader
reader_of t = ended (fed begin t)
