-- What the program tells of the logs that were read.
-- 02, item 11: "keep for each of the 32 channels a record of closings, openings and ticks spent closed", and "a number of changes unknown is kept beside
-- the totals [...]; 4,294,967,295 makes it 'or more'". docs/programs/totals.md has the lines and the messages. 02, item 1: "a refusal is printed as E and
-- three digits, here and later."
use Rattle.std.specs.Prelude.{ℕ, ◌+◌, ◌-◌, ◌≤◌, Bool, true, false, List, [], ◌∷◌, ◌++◌, ◌≡◌, length, take, replicate, eqb}
use Rattle.std.specs.Prelude.{if◌then◌else◌, Option, Some, None, Result, Ok, Err}
use Rattle.formats.specs.Checks.{Res, refused, passed, text, same}
use Rattle.formats.specs.Digits.{shown, decimal, error_text}
use Rattle.reader.specs.declared.Record.{Record}
use Rattle.reader.specs.declared.Layout.TheVariants.{Sixteen}
use Rattle.reader.specs.Reading.{record_at}
use Rattle.channels.specs.declared.Channel.{Channel}
use Rattle.channels.specs.declared.Beside.{Beside}
use Rattle.channels.specs.Numbers.{number_of}
use Rattle.channels.specs.Totals.{unused, at_start}
use Rattle.channels.specs.Bringing.{bringing, totals_of}
use Rattle.streams.specs.declared.input.Failed.{Failed}
use Rattle.streams.specs.Gathering.{Waiting}
use Rattle.totals.specs.declared.Totals.{Totals}
use Rattle.totals.specs.declared.Refused.{Refused}

abbrev pub line_end : List ℕ
line_end = 10 ∷ []

-- ---- the totals

-- "CHANNEL CLOSINGS OPENINGS TICKS"; the channel at place i of the 32 is channel i + 1
unfoldable pub line_of : ℕ → Channel → List ℕ
line_of i c =
    decimal (i + 1) ++ (text " " ++ (decimal c.closings ++ (text " " ++ (decimal c.openings ++ (text " " ++ (decimal c.ticks ++ line_end))))))

-- "unknown N", or "unknown N or more"
abbrev pub or_more : Bool → List ℕ
or_more true = text " or more"
or_more false = []

unfoldable pub unknown_line : Beside → List ℕ
unknown_line b = text "unknown " ++ (decimal b.unknown ++ (or_more b.more ++ line_end))

-- the lines of the channels from place i on, and behind them the number unknown
unfoldable pub table_from : ℕ → List Channel → Beside → List ℕ
table_from i [] b = unknown_line b
table_from i (c ∷ cs) b = line_of i c ++ table_from (i + 1) cs b

abbrev pub table_of : List Channel → Beside → List ℕ
table_of cs b = table_from 0 cs b

-- ---- what is told

unfoldable pub refusal_line : ℕ → List ℕ
refusal_line e = error_text e ++ line_end

-- what is told on standard output of all logs that were read, the refused one being the last
abbrev pub told_of : Res (List Channel × Beside) → List ℕ
told_of (refused e) = refusal_line e
told_of (passed a) = table_of a.0 a.1

-- ---- the message of a refusal, on standard error

-- a file by its name as it was given; `-` is standard input
unfoldable pub name_text : List ℕ → List ℕ
name_text name = if same name (text "-") then text "standard input" else text "'" ++ (name ++ text "'")

-- what was expected, by what is kept beside the totals, and what was found in the log's first record
unfoldable pub tick_text : Beside → Record → List ℕ
tick_text b r = text ": expected a first tick of " ++ (decimal b.tick ++ (text " or later, found " ++ decimal r.tick))

unfoldable pub word_text : Beside → Record → List ℕ
word_text b r = text ": expected " ++ (shown 16 8 b.word ++ (text " as the first earlier word, found " ++ shown 16 8 r.word))

unfoldable pub reason_text : ℕ → Beside → List ℕ → List ℕ
reason_text e b log =
    if eqb e 72 then tick_text b (record_at Sixteen 0 log)
    else if eqb e 73 then word_text b (record_at Sixteen 0 log)
    else []

-- what the code needs to read that record; each log that is refused so has it (channels/Refusing)
abbrev pub HasFirst : ℕ → List ℕ → Type 0
HasFirst e log = 72 ≤ e → e ≤ 73 → 16 ≤ length log

-- of a log that is refused with e, where b is kept beside the totals before it
unfoldable pub message_of : List ℕ → ℕ → Beside → List ℕ → List ℕ
message_of name e b log = name_text name ++ (text " is refused with " ++ (error_text e ++ (reason_text e b log ++ line_end)))

-- ---- what the program does

-- before the first log
abbrev pub begun : Totals
begun = record { channels = replicate 32 unused; beside = at_start }

-- the log that is refused, in the area that is lent for it
abbrev pub log_in : Refused → List ℕ → List ℕ
log_in f area = take f.length area

-- The log of argument i is refused, where t are the totals before it.
pub record Refuses (i : ℕ) (t : Totals) (f : Refused) (area : List ℕ) : Type 0 where
  pub named : f.name ≡ i
  pub inside : f.length ≤ length area
  pub refuses : bringing t.channels (log_in f area) t.beside ≡ refused (number_of f.why)

-- What a turn does with the file that argument i names. What was read of it, the first n bytes of the area, is brought forward, or is refused, and all
-- stays; and so where the file could not be opened or read. Which bytes were read, and that they are those of the file, is in no contract, since what a
-- read gives is in none.
abbrev pub Turns : ℕ → Totals → Result (Option Refused) Failed → Totals → List ℕ → Type 0
Turns i t (Ok None) t' area = (n : ℕ) × (n ≤ length area) × (bringing t.channels (take n area) t.beside ≡ passed (t'.channels, t'.beside))
Turns i t (Ok (Some f)) t' area = (t' ≡ t) × Refuses i t f area
Turns i t (Err e) t' area = t' ≡ t

-- What the turns end with, where there are arguments up to number count - 1: the totals of the logs that were brought forward one after the other, none
-- refused. They are those of all arguments, unless a file could not be read or a log is refused: that is the one of the next argument, behind them.
abbrev pub EndsAfter : List (List ℕ) → ℕ → Result (Option Refused) Failed → Totals → List ℕ → Type 0
EndsAfter logs count (Ok None) t area = length logs ≡ count - 1
EndsAfter logs count (Ok (Some f)) t area = Refuses (length logs + 1) t f area
EndsAfter logs count (Err e) t area = Unit {0}

pub record Ends (count : ℕ) (r : Result (Option Refused) Failed) (t : Totals) (area : List ℕ) : Type 0 where
  pub logs : List (List ℕ)
  pub brought : totals_of logs ≡ passed (t.channels, t.beside)
  pub after : EndsAfter logs count r t area

-- all logs that were read, a refused one among them
abbrev pub logs_read : List (List ℕ) → Option Refused → List ℕ → List (List ℕ)
logs_read logs None area = logs
logs_read logs (Some f) area = logs ++ (log_in f area ∷ [])

-- what goes to standard output in the end, whole
pub record Tells (r : Option Refused) (t : Totals) (area : List ℕ) (o : Waiting) : Type 0 where
  pub count : ℕ
  pub ended : Ends count (Ok r) t area
  pub unfailed : o.open ≡ true
  pub whole : o.waits ≡ told_of (totals_of (logs_read ended.logs r area))
