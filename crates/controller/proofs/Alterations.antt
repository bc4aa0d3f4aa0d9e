-- Laws of one accepted call: which parts of the state and of the lent areas it may alter.
-- Assumes nothing.
use mathlib.Core.Path.{◌≡◌, refl, sym, ap, ◌∙◌}
use Prim.Native.Nat.{ℕ}
use mathlib.Core.Bool.{Bool, true, false, not, ◌&&◌, ◌||◌}
use mathlib.Core.List.{List, [], ◌∷◌}
use lib.Dec.{eqb, ltb}
use Rattle.std.specs.Prelude.{if◌then◌else◌}
use Rattle.formats.specs.Checks.{Res, refused, passed}
use Rattle.formats.proofs.Checks.{if_case}
use Rattle.running.specs.declared.Run.{Run}
use Rattle.boxlog.specs.declared.Log.{Log}
use Rattle.special.specs.declared.Special.{Special}
use Rattle.special.specs.declared.Special.TheVariants.{Stop, Pause, Start, Continue, StartAt, Execute, Load, Save}
use Rattle.wire.specs.declared.Wire.{Wire}
use Rattle.wire.specs.declared.Data.{Data}
use Rattle.wire.specs.declared.Data.TheVariants.{WriteLine, WriteOutputs, WriteParameter, WriteSpecial}
use Rattle.wire.specs.declared.Asked.{Asked}
use Rattle.wire.specs.declared.Asked.TheVariants.{Read, Write}
use Rattle.wire.specs.Collecting.{most_chars, collect}
use Rattle.special.specs.Special.{code_of}
use Rattle.controller.specs.declared.Controller.{Controller}
use Rattle.controller.specs.Controller.{with_event, with_special, with_out, Areas}
use Rattle.controller.specs.Variables.{value}
use Rattle.controller.specs.Deeds.{Deed, nothing_run, raise, moved, start_at, stop, load, save, special, write, wrote_to, ended}
use Rattle.controller.specs.Deeds.{writing, empty_collection, asked, answer, ticked, pressed, empty_log, power_up}
use Rattle.controller.specs.Deeds as Deeds
use Rattle.controller.specs.Refusals.{Call, power_on, byte, tick, press, emptying}
use Rattle.controller.specs.Calls.{does}
use Rattle.controller.specs.Effects.{finished, special_code, writes_outputs, is_line, is_end, is_tick, is_emptying, is_press, is_power_on}

-- ---- the parts

-- The parts of the state, and from `program` on those of the lent areas. `last_special` is what 210 shows, `event` what 212 shows.
pub data Part : Type 0 where
  run paused ticks collected next_read next_write single parameter last_special event log program saved log_area out : Part

-- what a part holds
abbrev pub Of : Part → Type 0
Of run = Run
Of paused = Bool
Of ticks = ℕ
Of collected = List ℕ × ℕ × Bool
Of next_read = ℕ
Of next_write = ℕ
Of single = List ℕ
Of parameter = ℕ
Of last_special = ℕ
Of event = ℕ × Bool
Of log = Log
Of program = List ℕ
Of saved = List ℕ
Of log_area = List ℕ
Of out = List ℕ

-- the parts of what was done
abbrev pub part_of : (p : Part) → Deed → Of p
part_of run x = x.state.run
part_of paused x = x.state.paused
part_of ticks x = x.state.ticks
part_of collected x = (x.state.wire.chars, x.state.wire.len, x.state.wire.overlong)
part_of next_read x = x.state.wire.nextread
part_of next_write x = x.state.wire.nextwrite
part_of single x = x.state.panel.single
part_of parameter x = x.state.panel.parameter
part_of last_special x = x.state.panel.special
part_of event x = (x.state.panel.event, x.state.panel.unread)
part_of log x = x.state.log
part_of program x = x.areas.program
part_of saved x = x.areas.saved
part_of log_area x = x.areas.log
part_of out x = x.areas.out

-- ---- the table

-- a finished command that reads such an address
abbrev pub reads : (ℕ → Bool) → Res Asked → Bool
reads f (refused e) = false
reads f (passed (Read k)) = f k
reads f (passed (Write k x)) = false

-- one that writes such data to such an address
abbrev pub writes : (ℕ → Data → Bool) → Res Asked → Bool
writes f (refused e) = false
writes f (passed (Read k)) = false
writes f (passed (Write k x)) = f k x

-- one that gives a special command of one of these codes
abbrev pub gives : List ℕ → Res Asked → Bool
gives [] r = false
gives (n ∷ ns) r = eqb (special_code r) n || gives ns r

-- what is written is the parameter
abbrev pub is_parameter : Data → Bool
is_parameter = elim [ WriteLine l ↦ false | WriteOutputs x ↦ false | WriteParameter v ↦ true | WriteSpecial s ↦ false ]

-- The parts that a finished command may alter, beside the collection and the reply.
abbrev pub by_command : Part → Res Asked → Bool
by_command run r = writes_outputs r || gives (1 ∷ 3 ∷ 5 ∷ 6 ∷ []) r
by_command paused r = gives (1 ∷ 2 ∷ 4 ∷ []) r
by_command ticks r = false
by_command collected r = false
by_command next_read r = reads (λ k. true) r
by_command next_write r = writes (λ k x. true) r
by_command single r = writes (λ k x. is_line x && eqb k 200) r
by_command parameter r = writes (λ k x. is_parameter x) r
by_command last_special r = gives (1 ∷ 2 ∷ 3 ∷ 4 ∷ 5 ∷ 6 ∷ 7 ∷ 8 ∷ []) r
by_command event r = reads (λ k. eqb k 212) r || gives (3 ∷ 5 ∷ []) r
by_command log r = false
by_command program r = writes (λ k x. is_line x && not (eqb k 200)) r || eqb (special_code r) 7
by_command saved r = eqb (special_code r) 8
by_command log_area r = false
by_command out r = false

-- the call is a wire byte; it is a press of either button
abbrev pub is_byte : Call → Bool
is_byte = elim [ power_on ↦ false | byte x ↦ true | tick ↦ false | press n ↦ false | emptying ↦ false ]

abbrev pub is_any_press : Call → Bool
is_any_press = elim [ power_on ↦ false | byte x ↦ false | tick ↦ false | press n ↦ true | emptying ↦ false ]

-- The parts that a call may alter, beside those that the command alters which it finishes.
abbrev pub by_call : Part → Call → Controller → Bool
by_call run k c = is_power_on k || is_press 1 k || (is_tick k && not c.paused)
by_call paused k c = is_power_on k || (is_any_press k && c.run.on)
by_call ticks k c = is_power_on k || is_tick k
by_call collected k c = is_power_on k || is_byte k
by_call next_read k c = is_power_on k
by_call next_write k c = is_power_on k
by_call single k c = is_power_on k
by_call parameter k c = is_power_on k
by_call last_special k c = is_power_on k
by_call event k c = is_power_on k || is_press 1 k || (is_tick k && not c.paused)
by_call log k c = is_power_on k || is_emptying k
by_call program k c = is_power_on k
by_call saved k c = false
by_call log_area k c = false
by_call out k c = is_end k || is_emptying k

-- The parts that an accepted call may alter, before its change is logged.
abbrev pub alters : Part → Call → Controller → Areas → Bool
alters p k c a = by_call p k c || by_command p (finished k c a)

-- ---- one deed after the other

-- what was done, with the parts f
abbrev built : ((p : Part) → Of p) → Deed → Deed
built f x = record {
  state = record {
    run = f run;
    paused = f paused;
    ticks = f ticks;
    wire = record { chars = (f collected).0; len = (f collected).1; overlong = (f collected).2; nextread = f next_read; nextwrite = f next_write };
    panel = record { single = f single; parameter = f parameter; special = f last_special; event = (f event).0; unread = (f event).1 };
    log = f log;
  };
  areas = record { program = f program; saved = f saved; log = f log_area; out = f out };
  lines = x.lines;
  written = x.written;
}

-- it has these parts
part_built : (f : (p : Part) → Of p) (x : Deed) (p : Part) → part_of p (built f x) ≡ f p
part_built f x run = refl
part_built f x paused = refl
part_built f x ticks = refl
part_built f x collected = refl
part_built f x next_read = refl
part_built f x next_write = refl
part_built f x single = refl
part_built f x parameter = refl
part_built f x last_special = refl
part_built f x event = refl
part_built f x log = refl
part_built f x program = refl
part_built f x saved = refl
part_built f x log_area = refl
part_built f x out = refl

-- x, with the parts of y where m does not allow an alteration
abbrev mixed : (Part → Bool) → Deed → Deed → Deed
mixed m x y = built (λ p. if m p then part_of p x else part_of p y) x

-- x is y but for parts that m allows to be altered
record Only (m : Part → Bool) (y x : Deed) : Type 0 where
  same : mixed m x y ≡ x

-- each part that m does not allow to be altered is as it was
others : (m : Part → Bool) (y x : Deed) → Only m y x → (p : Part) → m p ≡ false → part_of p x ≡ part_of p y
others m y x h p e = ap (part_of p) (sym h.same) ∙ part_built (λ q. if m q then part_of q x else part_of q y) x p ∙ rw e

-- an event raised alters the event alone
pub raise_is : (e : ℕ) (c : Controller) → raise e c ≡ with_event (raise e c).panel.event (raise e c).panel.unread c
unfolding raise
raise_is e c = if_case (λ (x : Controller). x ≡ with_event x.panel.event x.panel.unread c) (eqb e 0) (λ _. refl) (λ _. refl)

-- an accepted special command
special_only : (s : Special) (k : ℕ) (c : Controller) (a : Areas)
    → Only (λ p. by_command p (passed (Write k (WriteSpecial s)))) (nothing_run c a) (special s (with_special (code_of s) (wrote_to k c)) a)
unfolding special stop load save start_at moved
special_only Stop k c a = record { same = refl }
special_only Pause k c a = record { same = refl }
special_only Start k c a = rw raise_is (record { same = refl })
special_only Continue k c a = record { same = refl }
special_only StartAt k c a = rw raise_is (record { same = refl })
special_only Execute k c a = record { same = refl }
special_only Load k c a = record { same = refl }
special_only Save k c a = record { same = refl }

-- an accepted write
write_only : (k : ℕ) (x : Data) (c : Controller) (a : Areas)
    → Only (λ p. by_command p (passed (Write k x))) (nothing_run c a) (write k x (wrote_to k c) a)
unfolding write
write_only k (WriteLine l) c a =
    if_case (Only (λ p. by_command p (passed (Write k (WriteLine l)))) (nothing_run c a)) (eqb k 200) (λ e. record { same = rw e }) (λ e. record { same = rw e })
write_only k (WriteOutputs x) c a = record { same = refl }
write_only k (WriteParameter v) c a = record { same = refl }
write_only k (WriteSpecial s) c a = special_only s k c a

-- the collection emptied and the reply written, and nothing else done
abbrev pub replied : Res Asked → Controller → Areas → Deed
replied r c a = nothing_run (empty_collection c) (with_out (answer r c a).areas.out a)

-- an answer, seen from there
answer_only : (r : Res Asked) (c : Controller) (a : Areas) → Only (λ p. by_command p r) (replied r c a) (answer r c a)
unfolding answer writing
answer_only (refused e) c a = record { same = refl }
answer_only (passed (Read k)) c a =
    let r : Res Asked = passed (Read k) in
    let P : Controller → Type 0 = λ s. Only (λ p. by_command p r) (replied r c a) (writing (ended (value c a.program k)) (nothing_run s a)) in
    if_case P (eqb k 212) (λ e. record { same = rw e }) (λ e. record { same = rw e })
answer_only (passed (Write k x)) c a =
    let y = answer (passed (Write k x)) c a in
    let with_reply : Deed → Deed = λ z. record { state = z.state; areas = with_out y.areas.out z.areas; lines = z.lines; written = y.written } in
    record { same = ap with_reply (write_only k x (empty_collection c) a).same }

-- the collection of v, with the last addresses of w
abbrev pub collection : Wire → Wire → Wire
collection w v = record { chars = v.chars; len = v.len; overlong = v.overlong; nextread = w.nextread; nextwrite = w.nextwrite }

-- a byte collected alters the collection alone
pub collect_is : (x : ℕ) (w : Wire) → collect x w ≡ collection w (collect x w)
unfolding collect
collect_is x w =
    let P : Wire → Type 0 = λ v. v ≡ collection w v in
    if_case P (eqb x 32) (λ _. refl) (λ _. if_case P (ltb w.len most_chars) (λ _. refl) (λ _. refl))

-- the five calls
does_only : (k : Call) (c : Controller) (a : Areas) → Only (λ p. alters p k c a) (nothing_run c a) (does k c a)
unfolding does power_up load Deeds.byte ticked pressed stop start_at moved empty_log writing finished
does_only power_on c a = record { same = refl }
does_only (byte x) c a =
    if_case (Only (λ p. alters p (byte x) c a) (nothing_run c a)) (eqb x 13)
    (λ e. record { same = rw e (ap (mixed (λ p. by_call p (byte 13) c) (answer (asked c a.program) c a)) (answer_only (asked c a.program) c a).same) })
    (λ e. rw (collect_is x c.wire) (record { same = rw e }))
does_only tick c a =
    if_case (Only (λ p. alters p tick c a) (nothing_run c a)) c.paused (λ e. record { same = rw e }) (λ e. rw raise_is (record { same = rw e }))
does_only (press n) c a =
    let P : Deed → Type 0 = Only (λ p. alters p (press n) c a) (nothing_run c a) in
    if_case P (eqb n 1)
    (λ e. if_case P c.run.on (λ f. rw raise_is (record { same = rw (e, f) })) (λ f. rw raise_is (record { same = rw (e, f) })))
    (λ e. if_case P c.run.on (λ f. record { same = rw (e, f) }) (λ f. record { same = rw (e, f) }))
does_only emptying c a = record { same = refl }

-- ---- the laws

-- An accepted call leaves each part that the table does not allow it to alter.
pub does_alters : (k : Call) (c : Controller) (a : Areas) (p : Part) → alters p k c a ≡ false → part_of p (does k c a) ≡ part_of p (nothing_run c a)
does_alters k c a = others (λ p. alters p k c a) (nothing_run c a) (does k c a) (does_only k c a)

-- An answer empties the collection, writes the reply, and leaves each part that the table does not allow its command to alter.
pub answer_alters : (r : Res Asked) (c : Controller) (a : Areas) (p : Part) → by_command p r ≡ false → part_of p (answer r c a) ≡ part_of p (replied r c a)
answer_alters r c a = others (λ p. by_command p r) (replied r c a) (answer r c a) (answer_only r c a)
