-- Demand 2: "Commands, replies, error codes, variables [...] are those of the manual": the reply to every string of characters, by the history and the
-- program lent.
-- Assumes nothing.
use mathlib.Core.Path.{◌≡◌, refl, sym, ap, subst, ◌∙◌}
use mathlib.Core.Logic.{◌≢◌}
use Prim.Native.Nat.{ℕ, ◌≤◌, ◌<◌}
use mathlib.Core.Bool.{true, false, true≢false}
use mathlib.Core.List.{List, [], ◌++◌, append-nil}
use lib.ListN.{get_or}
use lib.Dec.{ltb}
use borrow.Author.Tests.{ltb-true}
use Rattle.formats.specs.Checks.{Res, passed, text}
use Rattle.formats.specs.Digits.{error_text}
use Rattle.formats.proofs.Checks.{not_so, below}
use Rattle.formats.proofs.Order.{one_first}
use Rattle.lines.specs.declared.Line.TheVariants.{Bad}
use Rattle.lines.specs.Program.{line_at}
use Rattle.wire.specs.declared.Asked.{Asked}
use Rattle.controller.specs.declared.Controller.{Controller}
use Rattle.controller.specs.Controller.{Areas}
use Rattle.controller.specs.Deeds.{asked}
use Rattle.controller.proofs.Lines.{reply_of}
use Rattle.demands.specs.Histories.{ending, Made, unpowered, after}
use Rattle.demands.specs.Seen.{is_taken, reply, seen, is_error, note}
use Rattle.demands.specs.Said.{Said, silence, reads, writes_line, writes_outputs, writes_parameter, gives}
use Rattle.demands.specs.Told.{Told, said, told}
use Rattle.demands.specs.ReadBack.{ReadOf}
use Rattle.demands.specs.Shown.{shown_at}
use Rattle.demands.specs.Commands.{Reads, IsWritten, Allows, Error, bad_line, Says, place, numbers, number, First}
use Rattle.demands.specs.Replies.{ended, answer_to, Reply, to_command, to_error}
use Rattle.demands.proofs.Calls.Formats.{value_in_format, format_no_error, ok_no_error, error_is_error, error_same}
use Rattle.demands.proofs.Calls.Answered.{invariant_always}
use Rattle.demands.proofs.History.Asked.{panel_of, is_bad_then, command_of, bad_in_program}
use Rattle.demands.proofs.History.Shown.{value_shown}
use Rattle.demands.proofs.History.Agrees.{Agrees, Hears, a_read, a_line, an_output, a_parameter, a_special}
use Rattle.demands.proofs.History.Heard.{reply_is}
use Rattle.demands.proofs.History.Telling.{held_as_told}
use Rattle.demands.proofs.History.Arrived.{panel_as_told, asked_as_told}
use Rattle.demands.proofs.Calls.Sentences.{place_last}
use Rattle.demands.proofs.Calls.Checking.{Found, found_error, found_command, found}
use Rattle.demands.proofs.Calls.Written.{written_spoken, written_none, bad_first}

-- ---- one reply

-- the numbers of the errors are of three digits
number_small : (e : Error) → number e < 1000
number_small e = ltb-true (number e) 1000 (below (λ i. ltb (get_or numbers i 0) 1000) 12 refl (place e) (place_last e))

-- one error is the first
number_same : (t : Told) (program : List ℕ) (e f : Error) → First t program e → First t program f → number e ≡ number f
number_same t program e f x y =
    ap (λ i. get_or numbers i 0) (one_first place (Says t program) e f x y)

never_both : (t : Told) (program : List ℕ) (s : Said) (e : Error) → IsWritten t s → Allows t program s → First t program e → ⊥
never_both t program s e is may f = written_none t program s is may e (place_last e) f.says

-- Every string of characters has at most one reply, whatever box it is sent to: a reader finds it by the sentences alone.
pub one_reply : (t : Told) (program r r' : List ℕ) → Reply t program r → Reply t program r' → r ≡ r'
one_reply t program r r' (to_command s is may e) (to_command s' is' may' e') =
    e ∙ ap (answer_to t program) (sym (written_spoken t s is) ∙ written_spoken t s' is') ∙ sym e'
one_reply t program r r' (to_command s is may e) (to_error x f e') = absurd (never_both t program s x is may f)
one_reply t program r r' (to_error x f e) (to_command s is may e') = absurd (never_both t program s x is may f)
one_reply t program r r' (to_error x f e) (to_error y g e') = e ∙ ap (λ n. ended (error_text n)) (number_same t program x y f g) ∙ sym e'

-- ---- the box

answer_same : (t : Told) (c : Controller) → Agrees t c → (a : Areas) (q : Asked) (s : Said) → Hears (passed q) s
    → reply_of (passed q) c a ≡ answer_to t a.program s
answer_same t c g a q s (a_read k le) =
    rw (panel_as_told t c g, g.run, g.paused) (ap ended (value_shown t g.panel.fits t.run a.program k le))
answer_same t c g a q s (a_line k l le fits) = refl
answer_same t c g a q s (an_output k x lo hi) = refl
answer_same t c g a q s (a_parameter v) = refl
answer_same t c g a q s (a_special x) = refl

-- after the calls ms, byte 13 is taken
module _ (ms : List Made) (a : Areas) (taken : is_taken (seen ms (ending a)) ≡ true) where
  abbrev t : Told
  t = told ms

  abbrev answered : List ℕ
  answered = reply (seen ms (ending a))

  -- The reply to what was received is the one that the sentences give it: a command's, where it is written so and the state allows it, else the first
  -- error's that has its sentence.
  pub replies_as_told : Reply (told ms) a.program (reply (seen ms (ending a)))
  unfolding seen
  replies_as_told = go (asked c a.program) (subst (Found t a.program) (sym (asked_as_told t c g a.program)) is_found) refl
    where
      c : Controller
      c = (after unpowered ms).state

      g : Agrees t c
      g = held_as_told ms

      is_found : Found t a.program (command_of t a.program)
      is_found =
          found t a.program (subst (λ n. n ≤ 217) g.wire.next_read (invariant_always ms).wire.next_read) g.panel.fits

      go : (r : Res Asked) → Found t a.program r → asked c a.program ≡ r → Reply t a.program answered
      go r (found_error e f) is = to_error e f (reply_is (after unpowered ms) a taken ∙ ap (λ x. reply_of x c a) is)
      go r (found_command q s hears written may none) is =
          to_command s written may (reply_is (after unpowered ms) a taken ∙ ap (λ x. reply_of x c a) is ∙ answer_same t c g a q s hears)

  reply_one : (r : List ℕ) → Reply t a.program r → answered ≡ r
  reply_one r x = one_reply t a.program answered r replies_as_told x

  -- So a command that is written so and that the state allows is answered with its value or OK,
  pub written_answered : (s : Said) → IsWritten (told ms) s → Allows (told ms) a.program s → reply (seen ms (ending a)) ≡ answer_to (told ms) a.program s
  written_answered s is may = reply_one (answer_to t a.program s) (to_command s is may refl)

  -- and the first error that has its sentence is told.
  pub error_answered : (e : Error) → First (told ms) a.program e → reply (seen ms (ending a)) ≡ ended (error_text (number e))
  error_answered e f = reply_one (ended (error_text (number e))) (to_error e f refl)

  -- what answers a command looks like no error
  answer_no_error : (s : Said) → IsWritten t s → Allows t a.program s → is_error (answer_to t a.program s) ≡ false
  answer_no_error silence is may = absurd is
  answer_no_error (reads k) r may =
      let fits = (held_as_told ms).panel.fits in
      let good = not_so (is_bad_then t a.program k) (λ e. let x = bad_in_program t fits a.program k e in may x.0 x.1) in
      ap (λ v. is_error (ended v)) (sym (value_shown t fits t.run a.program k r.inside))
      ∙ format_no_error k _ (value_in_format (panel_of t) t.run t.paused a.program k r.inside good)
  answer_no_error (writes_line k l) is may = ok_no_error
  answer_no_error (writes_outputs k x) is may = ok_no_error
  answer_no_error (writes_parameter v) is may = ok_no_error
  answer_no_error (gives n) is may = ok_no_error

  -- "the box accepts it as this command": the reply is no error, and the history then says it
  said_spoken : is_error answered ≡ false → (s : Said) → IsWritten t s → said t (note (after unpowered ms) (ending a)) ≡ s
  unfolding seen said note
  said_spoken no_error s is = rw no_error (written_spoken t s is)

  -- Which characters are a command: they are accepted as s exactly if they are written so and the state allows it.
  pub accepted_exactly : (s : Said) → s ≢ silence
      → ((is_error (reply (seen ms (ending a))) ≡ false) × (said (told ms) (note (after unpowered ms) (ending a)) ≡ s)
      → IsWritten (told ms) s × Allows (told ms) a.program s)
      × (IsWritten (told ms) s × Allows (told ms) a.program s
      → (is_error (reply (seen ms (ending a))) ≡ false) × (said (told ms) (note (after unpowered ms) (ending a)) ≡ s))
  accepted_exactly s some = (λ x. only x.0 x.1 replies_as_told, λ x. so x.0 x.1)
    where
      only : is_error answered ≡ false → said t (note (after unpowered ms) (ending a)) ≡ s → Reply t a.program answered
          → IsWritten t s × Allows t a.program s
      only no_error is (to_command u written may e) =
          let same : u ≡ s = sym (said_spoken no_error u written) ∙ is in
          (subst (IsWritten t) same written, subst (Allows t a.program) same may)
      only no_error is (to_error e f x) = absurd (true≢false (sym (ap is_error x ∙ error_is_error (number e)) ∙ no_error))

      so : IsWritten t s → Allows t a.program s → (is_error answered ≡ false) × (said t (note (after unpowered ms) (ending a)) ≡ s)
      so written may =
          let no_error : is_error answered ≡ false = ap is_error (written_answered s written may) ∙ answer_no_error s written may in
          (no_error, said_spoken no_error s written)

  -- Each error is answered exactly if its own sentence holds and none of those before it does; and there are no others.
  pub error_exactly : (n : ℕ) → n < 1000
      → (reply (seen ms (ending a)) ≡ ended (error_text n) → (e : Error) × First (told ms) a.program e × (number e ≡ n))
      × ((e : Error) × First (told ms) a.program e × (number e ≡ n) → reply (seen ms (ending a)) ≡ ended (error_text n))
  error_exactly n small = (λ is. only is replies_as_told, λ x. error_answered x.0 x.1 ∙ ap (λ i. ended (error_text i)) x.2)
    where
      only : answered ≡ ended (error_text n) → Reply t a.program answered → (e : Error) × First t a.program e × (number e ≡ n)
      only is (to_command s written may e) =
          absurd (true≢false (sym (ap is_error is ∙ error_is_error n) ∙ ap is_error e ∙ answer_no_error s written may))
      only is (to_error e f x) = (e, f, error_same (number e) n (number_small e) small (sym x ∙ is))

-- A read of every address, by three digits, I or D, is answered with what the demands' table shows there; but where a Bad line stands, with E024.
pub reads_as_told : (ms : List Made) (a : Areas) (k : ℕ) → k ≤ 216 → ReadOf ms k a
    → ((k ≤ 199 → line_at a.program k ≢ Bad) → reply (seen ms (ending a)) ≡ ended (shown_at (told ms) a.program k))
    × (k ≤ 199 → line_at a.program k ≡ Bad → reply (seen ms (ending a)) ≡ ended (error_text 24))
reads_as_told ms a k inside x =
    let r : Reads (told ms) k [] =
    record { inside = inside; address = x.address; named = x.named; written = x.arrived ∙ ap (λ l. text "CR" ++ l) (sym (append-nil x.address)) } in
    (λ good. written_answered ms a x.taken (reads k) r good, λ le bad. error_answered ms a x.taken bad_line (bad_first (told ms) a.program k r le bad))
