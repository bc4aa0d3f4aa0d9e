-- Laws of read-back: an accepted write stores its line, the calls after it leave it, and a read shows it.
-- Assumes nothing.
use mathlib.Core.Path.{◌≡◌, refl, sym, ap, subst, ◌∙◌}
use Prim.Native.Nat.{ℕ, ◌≤◌}
use native.Mathlib.Omega.{arith}
use mathlib.Core.Bool.{Bool, true, false, ◌&&◌, true≢false}
use mathlib.Core.List.{List, [], ◌∷◌, ◌++◌, head-eq_of_cons-eq}
use lib.ListN.{length}
use lib.Dec.{eqb, leb}
use borrow.Author.Tests.{le-leb}
use Rattle.std.specs.Prelude.{if◌then◌else◌}
use Rattle.formats.specs.Checks.{Res, refused, passed, ◌>>=◌, text, Ok}
use Rattle.formats.specs.Digits.{error_text}
use Rattle.formats.proofs.Checks.{ok_at, and_false, and_swap}
use Rattle.lines.specs.declared.Line.{Line}
use Rattle.lines.specs.Line.{is_bad}
use Rattle.texts.specs.Text.{line_text, Sent}
use Rattle.variables.specs.Variables as Variables
use Rattle.special.specs.Special.{code_of}
use Rattle.wire.specs.declared.Asked.{Asked}
use Rattle.wire.specs.declared.Asked.TheVariants.{Write}
use Rattle.wire.specs.declared.Data.TheVariants.{WriteLine}
use Rattle.wire.specs.Naming.{Names}
use Rattle.wire.specs.Command.{command}
use Rattle.wire.proofs.Says.{Spoken, command_says}
use Rattle.wire.proofs.Commands.{read_asked, WritesLine, write_asked}
use Rattle.controller.specs.declared.Controller.{Controller}
use Rattle.controller.specs.Controller.{mode, Areas}
use Rattle.controller.specs.Variables.{line_of, is_bad_at}
use Rattle.controller.specs.Deeds.{legible, asked, answer}
use Rattle.controller.specs.Deeds as Deeds
use Rattle.controller.specs.Refusals.{Call, power_on, byte, tick, press, emptying}
use Rattle.controller.specs.Effects.{finished, special_code, writes_line, is_power_on, replaces}
use Rattle.controller.specs.Calls.{does}
use Rattle.controller.specs.Invariant.{Invariant}
use Rattle.controller.proofs.Refusals.{Checked, program_long}
use Rattle.controller.proofs.Legible.{read_stays, asked_ok}
use Rattle.controller.proofs.Lines.{reply_of, line_in, write_stores, answered_line, line_kept}
use Rattle.demands.specs.Histories.{ending, Made, Held, outcome, is_accepted, is_lent_program, next, after, HandsOn, AllHandOn}
use Rattle.demands.specs.Seen.{reply, seen_of, note, notes}
use Rattle.demands.specs.Said.{Said}
use Rattle.demands.specs.Told.{Told, said, tell}
use Rattle.demands.specs.ReadBack.{Arrives, replaced_by, is_replaced, Unreplaced}
use Rattle.demands.specs.Replies.{ended}
use Rattle.demands.proofs.Calls.Answered.{next_invariant}
use Rattle.demands.proofs.History.Steps.{deed, held_then, Step, passes, fails, stepped, refused_held}
use Rattle.demands.proofs.History.Agrees.{Agrees, Hears, an_error, a_read, a_line, an_output, a_parameter, a_special}
use Rattle.demands.proofs.History.Arrived.{arrives_short, arrives_sent, read_length}
use Rattle.demands.proofs.History.Heard.{reply_is, hears}
use Rattle.demands.proofs.History.Telling.{agrees_next}

-- ---- a write stores the line

-- no error reply is OK
not_ok : (e : ℕ) → ended (error_text e) ≡ ended (text "OK") → ⊥
unfolding error_text text
not_ok e p = let z : ◌≡◌ {A = ℕ} 69 79 = head-eq_of_cons-eq p in omega arith

-- the line that address k holds, as the caller holds the box
abbrev pub line_at_address : Held → ℕ → Line
line_at_address h k = line_of h.state h.program k

-- an accepted call that is lent the program leaves the line that it left in what it did
accepted_line : (h : Held) (m : Made) (k : ℕ) → is_lent_program m.call ≡ true → next h m ≡ held_then h m → line_at_address (next h m) k ≡ line_in (deed h m) k
unfolding Variables.line_of
accepted_line h m k lent f = ap (λ (g : Held). line_at_address g k) f ∙ rw lent

module _ (h : Held) (t : Told) (g : Agrees t h.state) (a : Areas) (k : ℕ) (address line : List ℕ) (inside : k ≤ 200)
    (arrived : Arrives t (text "CW" ++ (address ++ line))) (named : Names t.next_write k address) (taken : is_accepted h (ending a) ≡ true) where
  -- what is asked, where the answer is OK
  asked_write : reply (seen_of (outcome h (ending a))) ≡ ended (text "OK") → (q : Asked) × (asked h.state a.program ≡ passed q)
  asked_write ok = go (asked h.state a.program) refl
    where
      go : (r : Res Asked) → asked h.state a.program ≡ r → (q : Asked) × (asked h.state a.program ≡ passed q)
      go (refused e) f = absurd (not_ok e (ap (λ r. reply_of r h.state a) (sym f) ∙ sym (reply_is h a taken) ∙ ok))
      go (passed q) f = (q, f)

  -- what holds of all that passes the checks holds of what is asked
  of_asked : (P : Asked → Type 0) {q : Asked} → Ok P (command h.state.wire (mode h.state) h.state.panel.parameter)
      → asked h.state a.program ≡ passed q → P q
  of_asked P ok e = ok_at P (asked_ok h.state a.program P ok) e

  -- The address then holds the line that was sent.
  pub written_line : reply (seen_of (outcome h (ending a))) ≡ ended (text "OK") → Sent line (line_at_address (next h (ending a)) k)
  unfolding does Deeds.byte
  written_line ok =
      let q = asked_write ok in
      let short = (of_asked (Spoken h.state.wire) (command_says h.state.wire (mode h.state) h.state.panel.parameter) q.1).short in
      let p = of_asked (WritesLine k line)
      (write_asked h.state.wire (mode h.state) h.state.panel.parameter short k address line (arrives_sent t h.state g _ arrived short)
      (rw g.wire.next_write named) inside) q.1 in
      go p.line (q.1 ∙ ap passed p.writes) (stepped h (ending a)) p.sent_as
    where
      go : (l : Line) → asked h.state a.program ≡ passed (Write k (WriteLine l)) → Step h (ending a) → Sent line l
          → Sent line (line_at_address (next h (ending a)) k)
      go l e (fails bad n _ f) s = absurd (true≢false (sym taken ∙ bad))
      go l e (passes _ ch _ f) s =
          let len : length a.program ≡ 1600 = program_long ch.checks.0 in
          subst (Sent line)
          (sym (accepted_line h (ending a) k refl f ∙ ap (λ r. line_in (answer r h.state a) k) e ∙ answered_line k (WriteLine l) h.state a k
          ∙ write_stores l k _ a inside len s.fits))
          s

-- ---- the calls after it leave it

-- what does not replace the line by the history does not replace it in the box
replaces_as_told : (k : ℕ) (n : Call) (c : Controller) (a : Areas) (s : Said) → is_power_on n ≡ false → Hears (finished n c a) s → replaced_by k s ≡ false
    → replaces k n c a ≡ false
unfolding replaces
replaces_as_told k n c a s other h u = rw other (go (finished n c a) s h u)
  where
    go : (r : Res Asked) (s : Said) → Hears r s → replaced_by k s ≡ false → (if writes_line k r then true else (leb k 199 && eqb (special_code r) 7)) ≡ false
    go r s (an_error e) u = and_false (leb k 199)
    go r s (a_read j le) u = and_false (leb k 199)
    go r s (a_line j l le fits) u = rw u (and_false (leb k 199))
    go r s (an_output j x lo hi) u = and_false (leb k 199)
    go r s (a_parameter v) u = and_false (leb k 199)
    go r s (a_special x) u = and_swap (eqb (code_of x) 7) (leb k 199) u

module _ (k : ℕ) (h : Held) (a : Areas) (inside : k ≤ 200) (i : Invariant h.state) where
  -- an accepted call that is lent the program
  lent_keeps : (n : Call)
      → let m : Made = record { call = n; areas = a } in
      is_power_on n ≡ false → is_lent_program n ≡ true → HandsOn h m → is_accepted h m ≡ true → Checked n h.state a → next h m ≡ held_then h m
      → replaces k n h.state a ≡ false
      → line_at_address (next h m) k ≡ line_at_address h k
  lent_keeps n other lent hands ok ch f u =
      accepted_line h (record { call = n; areas = a }) k lent f ∙ line_kept n k h.state a i ch inside u
      ∙ ap (λ p. line_of h.state p k) (hands.program other lent ok)

  emptying_keeps : let m : Made = record { call = emptying; areas = a } in next h m ≡ held_then h m → line_at_address (next h m) k ≡ line_at_address h k
  unfolding does Deeds.empty_log Deeds.writing Variables.line_of
  emptying_keeps f = ap (λ (g : Held). line_at_address g k) f

  accepted_keeps : (n : Call) → let m : Made = record { call = n; areas = a } in
      is_power_on n ≡ false → HandsOn h m → is_accepted h m ≡ true → Checked n h.state a → next h m ≡ held_then h m → replaces k n h.state a ≡ false
      → line_at_address (next h m) k ≡ line_at_address h k
  accepted_keeps power_on other hands ok ch f u = absurd (true≢false other)
  accepted_keeps (byte x) other hands ok ch f u = lent_keeps (byte x) other refl hands ok ch f u
  accepted_keeps tick other hands ok ch f u = lent_keeps tick other refl hands ok ch f u
  accepted_keeps (press n) other hands ok ch f u = lent_keeps (press n) other refl hands ok ch f u
  accepted_keeps emptying other hands ok ch f u = emptying_keeps f

call_keeps : (k : ℕ) (h : Held) (m : Made) (t : Told) → k ≤ 200 → Agrees t h.state → Invariant h.state → HandsOn h m → is_replaced k t (note h m) ≡ false
    → line_at_address (next h m) k ≡ line_at_address h k
unfolding is_replaced note
call_keeps k h m t inside g i hands u = go (is_power_on m.call) refl (stepped h m)
  where
    go : (b : Bool) → is_power_on m.call ≡ b → Step h m → line_at_address (next h m) k ≡ line_at_address h k
    go true other s = absurd (true≢false (rw other at u))
    go false other (fails ok n e f) = ap (λ (x : Held). line_at_address x k) (refused_held h m other f)
    go false other (passes ok ch e f) =
        let u' : replaced_by k (said t (note h m)) ≡ false = rw (other, ok) at u in
        accepted_keeps k h m.areas inside i m.call other hands ok ch f
        (replaces_as_told k m.call h.state m.areas (said t (note h m)) other (hears h m t g i ok) u')

pub lines_kept : (k : ℕ) (ms : List Made) (h : Held) (t : Told) → k ≤ 200 → Agrees t h.state → Invariant h.state → AllHandOn h ms
    → Unreplaced k t (notes h ms) → line_at_address (after h ms) k ≡ line_at_address h k
unfolding after notes
lines_kept k [] h t inside g i hands u = refl
lines_kept k (m ∷ ms) h t inside g i hands u =
    lines_kept k ms (next h m) (tell t (note h m)) inside (agrees_next t h m i g) (next_invariant h m i) hands.1 u.1
    ∙ call_keeps k h m t inside g i hands.0 u.0

-- ---- a read shows the line

pub read_line : (h : Held) (t : Told) → Agrees t h.state → (a : Areas) (k : ℕ) (address : List ℕ) → k ≤ 200 → Arrives t (text "CR" ++ address)
    → Names t.next_read k address → is_accepted h (ending a) ≡ true → HandsOn h (ending a) → is_bad (line_at_address h k) ≡ false
    → reply (seen_of (outcome h (ending a))) ≡ ended (line_text (line_at_address h k))
unfolding Variables.value Variables.is_bad_at
read_line h t g a k address inside arrived named taken hands good =
    let short = arrives_short t h.state g _ arrived (read_length named) in
    let bad = is_bad_at h.state a.program in
    let same = hands.program refl refl taken in
    reply_is h a taken
    ∙ ap (λ r. reply_of r h.state a)
    (ap (λ r. r >>= legible bad)
    (read_asked h.state.wire (mode h.state) h.state.panel.parameter short k address (omega arith) (arrives_sent t h.state g _ arrived short)
    (rw g.wire.next_read named))
    ∙ read_stays bad k (rw (le-leb k 200 inside) (ap (λ p. is_bad (line_of h.state p k)) same ∙ good)))
    ∙ rw (le-leb k 200 inside) (ap (λ p. ended (line_text (line_of h.state p k))) same)
