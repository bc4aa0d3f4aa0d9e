-- What is told of a text is what it says: the table or the program of its numbers, though not all of them are kept; or what is wrong with it.
-- Assumes nothing.
use Prim.Native.Nat.{ℕ, ◌^◌, ◌<◌, min}
use mathlib.Core.Path.{◌≡◌, refl, sym, ap, subst, ◌∙◌}
use native.Mathlib.Omega.{arith}
use mathlib.Core.Bool.{Bool, true, false, ◌&&◌}
use mathlib.Core.List.{List, [], ◌∷◌, ◌++◌, map}
use lib.ListN.{length, length-map}
use borrow.Author.Tests.{lt-ltb}
use Rattle.std.specs.Prelude.{None, Some}
use Rattle.formats.specs.Checks.{passed, all}
use Rattle.formats.proofs.Checks.{both_true}
use Rattle.formats.specs.Digits.{number}
use Rattle.formats.proofs.Digits.{is_below, number_below}
use Rattle.planner.specs.Plan.{IsWord, moves_of, is_time, is_timed, are_words}
use Rattle.planner.specs.Planned.{planned}
use Rattle.planner.specs.ByTheRule.{CarriesOut}
use Rattle.planner.proofs.Moves.{time_is}
use Rattle.planner.proofs.Planning.{carried_out}
use Rattle.plantext.specs.Text.{hex_value, is_digit_to, Word, OnLine, nothing, move, Says, last, line}
use Rattle.plantext.specs.declared.Fault.{Fault}
use Rattle.plantext.specs.declared.Reader.{Reader}
use Rattle.plantext.specs.Faults.{Wrong}
use Rattle.plantext.specs.Kept.{kept}
use Rattle.plantext.specs.Reading.{reader_of}
use Rattle.plantext.proofs.Exactly.{said_so_read, wrong_so_told, read_so_said, told_so_wrong}
use Rattle.plan.specs.Telling.{zeros, told_of, told, fault_lines}
use Rattle.plan.specs.Reading.{ReadFrom, numbers_of, Worded, none, more}
use Rattle.plan.proofs.Answers.{passed_is}
use Rattle.plan.proofs.KeptSame.{told_kept}

all_hex : (cs : List ℕ) → all (is_below 16) (map hex_value cs) ≡ all (is_digit_to 16) cs
all_hex [] = refl
all_hex (c ∷ cs) = ap (λ b. is_below 16 (hex_value c) && b) (all_hex cs)

-- eight hex digits
word_fits : {cs : List ℕ} {w : ℕ} → Word cs w → IsWord w
word_fits {cs} {w} x =
    let below = number_below 16 (map hex_value cs) (all_hex cs ∙ x.digits) in
    let long : length (map hex_value cs) ≡ 8 = length-map cs hex_value ∙ x.eight in
    rw x.value (subst (λ n. number 16 (map hex_value cs) < 16 ^ n) long below)

worded_both : {ns ms : List ℕ} → Worded ns → Worded ms → Worded (ns ++ ms)
worded_both none w = w
worded_both {ms = ms} (more a b c d ns x y rest) w = more a b c d (ns ++ ms) x y (worded_both rest w)

line_worded : {l ns : List ℕ} → OnLine l ns → Worded ns
line_worded (nothing b c _ _) = none
line_worded (move b₀ w b₁ s b₂ v b₃ r b₄ c word settling reading_word reading _ is _ _ _ is' _ _ _ _) =
    more word settling reading_word reading [] (word_fits is) (word_fits is') none

pub says_worded : {text ns : List ℕ} → Says text ns → Worded ns
says_worded (last l ns _ on) = line_worded on
says_worded (line l t ns ms _ on rest) = worded_both (line_worded on) (says_worded rest)

-- What is told of the numbers that a text says is told of those that are kept.
told_said : (check : Bool) {text ns : List ℕ} → Says text ns → told check (kept ns) ≡ told check ns
told_said check says = told_kept check (says_worded says)

-- ---- a text that was read

-- A text that is a plan has no fault, and is told as it says.
pub told_as_said : (check : Bool) {text ns : List ℕ} {r : Reader} → Says text ns → r ≡ reader_of text
    → (r.fault ≡ None) × (told check (numbers_of r) ≡ told check ns)
told_as_said check {text} {ns} says is =
    let read = said_so_read text ns says in
    rw is (read.fault, ap (told check) read.numbers ∙ told_said check says)

-- A text that is none has a fault, and its line and that fault are told. The largest number of eight bytes stands for every line behind it.
pub wrong_as_told : {text : List ℕ} {n : ℕ} {e : Fault} {r : Reader} → Wrong text n e → r ≡ reader_of text
    → (r.fault ≡ Some e) × (fault_lines r.line e ≡ fault_lines (min n 18446744073709551615) e)
wrong_as_told {text} {n} {e} wrong is =
    let read = wrong_so_told text n e wrong in
    rw is (read.fault, ap (λ l. fault_lines l e) read.line)

-- and nothing else is told: without a fault, what some text says
pub read_as_said : (check : Bool) {r : Reader} (f : ReadFrom r) → r.fault ≡ None
    → (ns : List ℕ) × Says f.text ns × (told check (numbers_of r) ≡ told check ns)
read_as_said check {r} f clear =
    let said = read_so_said f.text (sym (ap (λ x. x.fault) f.read) ∙ clear) in
    (said.numbers, said.says, (told_as_said check said.says f.read).1)

-- and with one, what is wrong with it
pub fault_as_wrong : {r : Reader} (f : ReadFrom r) (e : Fault) → r.fault ≡ Some e → (n : ℕ) × Wrong f.text n e × (r.line ≡ min n 18446744073709551615)
fault_as_wrong {r} f e some =
    let is = told_so_wrong f.text e (sym (ap (λ x. x.fault) f.read) ∙ some) in
    (is.line, is.wrong, ap (λ x. x.line) f.read ∙ is.told)

-- ---- what the program does

timed_words : {ns : List ℕ} → Worded ns → all is_timed (moves_of ns) ≡ true → are_words ns ≡ true
unfolding moves_of
timed_words none so = refl
timed_words (more w s v r ns fits fits' rest) so =
    let here = both_true (is_time s && is_time r) (all is_timed (moves_of ns)) so in
    let times = both_true (is_time s) (is_time r) here.0 in
    let settling = time_is s times.0 in
    let reading = time_is r times.1 in
    rw (
      lt-ltb w (256 ^ 4) fits,
      lt-ltb s (256 ^ 4) (omega (arith, settling.1)),
      lt-ltb v (256 ^ 4) fits',
      lt-ltb r (256 ^ 4) (omega (arith, reading.1)),
      timed_words rest here.1,
    )

-- From the text to the outputs: where a text says numbers that are not refused, what is told of it without --check is a program that carries the plan
-- out.
pub carried_as_said : {text ns : List ℕ} (p : List ℕ) → Says text ns → planned ns zeros ≡ passed p
    → (told false ns ≡ p) × ((outputs : ℕ) → CarriesOut (moves_of ns) p outputs)
unfolding told
carried_as_said {ns = ns} p says is =
    (ap (told_of false (moves_of ns)) is, carried_out ns zeros p (timed_words (says_worded says) (passed_is ns zeros p is).timed) is)
