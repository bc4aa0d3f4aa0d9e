-- A write sent on the wire by a caller who hands on, byte by byte: it is collected, found and done.
-- Assumes nothing.
use mathlib.Core.Path.{◌≡◌, refl, sym, ap, ap₂, subst, ◌∙◌}
use Prim.Native.Nat.{ℕ, ◌≤◌, ◌<◌}
use native.Mathlib.Omega.{arith}
use mathlib.Core.Bool.{Bool, true, false, ◌&&◌}
use mathlib.Core.List.{List, [], ◌∷◌, ◌++◌, map, append-nil, append_assoc}
use lib.ListN.{length, length-append}
use lib.Dec.{eqb, leb, ltb}
use borrow.Author.Tests.{eq-eqb, ne_eqb, lt-leb, leb-true, le-ltb, ltb-true}
use Rattle.formats.specs.Checks.{passed, ◌>>=◌, all, text}
use Rattle.formats.specs.Digits.{digits, digit_char, shown}
use Rattle.formats.proofs.Checks.{both_true, below, all_append}
use Rattle.formats.proofs.Digits.{is_below, digits_below}
use Rattle.formats.proofs.Characters.{length_shown}
use Rattle.boxlog.specs.declared.Change.{Change}
use Rattle.special.specs.declared.Mode as M
use Rattle.wire.specs.declared.Wire.{Wire}
use Rattle.wire.specs.declared.Data.{Data}
use Rattle.wire.specs.declared.Asked.TheVariants.{Write}
use Rattle.wire.specs.Collecting.{most_chars, collect, sent}
use Rattle.wire.specs.Command.{is_writable, data_in}
use Rattle.wire.specs.Naming.{by_digits}
use Rattle.wire.specs.Invariant.{WireInvariant}
use Rattle.wire.proofs.Collecting.{collect_kept}
use Rattle.wire.proofs.Commands.{data_accepted}
use Rattle.formats.specs.Bytes.{are_bytes}
use Rattle.controller.specs.declared.Controller.{Controller}
use Rattle.controller.specs.Controller.{mode, with_wire, with_log}
use Rattle.controller.specs.Deeds.{legible, Deed, asked, answer, write, writing, wrote_to, empty_collection}
use Rattle.controller.specs.Deeds as Deeds
use Rattle.controller.specs.Variables.{is_bad_at}
use Rattle.controller.proofs.Legible.{write_stays}
use Rattle.controller.specs.Refusals.{Call, byte}
use Rattle.controller.specs.Effects.{finished}
use Rattle.controller.specs.Calls.{does, cause, logged}
use Rattle.controller.proofs.Logging.{a_byte, logged_is}
use Rattle.controller.proofs.Wires.{Empty, answer_empties}
use Rattle.demands.specs.Capitals.{counts_as, in_capitals}
use Rattle.demands.specs.Histories.{Held, next}
use Rattle.demands.specs.Sent.{lent_by, making}
use Rattle.demands.specs.Seen.{note}
use Rattle.demands.specs.Told.{Told}
use Rattle.demands.specs.Changes.{since_call}
use Rattle.demands.specs.Replies.{ended}
use Rattle.demands.proofs.History.Agrees.{Agrees}
use Rattle.demands.proofs.History.Changing.{changing}
use Rattle.demands.proofs.History.Collects.{Collects, nothing_collected, byte_collects, sent_whole}
use Rattle.demands.proofs.Logs.Sending.{Leads, none, more, leads_append, Fit, byte_taken, fit_next, call_changes}
use Rattle.demands.proofs.History.Capitals.{counts_as_lem}

-- ---- characters that are neither byte 13 nor a space nor a small letter

-- from 0 to Z
abbrev pub is_plain : ℕ → Bool
is_plain c = leb 48 c && leb c 90

-- what is so of them
record Plain (c : ℕ) : Type 0 where
  no_end : eqb c 13 ≡ false
  no_space : eqb c 32 ≡ false
  capital_is : counts_as c ≡ c

plain : (c : ℕ) → is_plain c ≡ true → Plain c
plain c e =
    let p = both_true (leb 48 c) (leb c 90) e in
    let lo : 48 ≤ c = leb-true 48 c p.0 in
    let hi : c ≤ 90 = leb-true c 90 p.1 in
    record { no_end = ne_eqb c 13 (λ z. omega arith); no_space = ne_eqb c 32 (λ z. omega arith); capital_is = sym (counts_as_lem c) ∙ rw (lt-leb 97 c (omega arith)) }

-- a number is shown in such characters
chars_plain : (base : ℕ) → base ≤ 16 → (ds : List ℕ) → all (is_below base) ds ≡ true → all is_plain (map digit_char ds) ≡ true
chars_plain base le [] e = refl
chars_plain base le (d ∷ ds) e =
    let p = both_true (ltb d base) (all (is_below base) ds) e in
    rw (below (λ v. is_plain (digit_char v)) 16 refl d (omega (arith, ltb-true d base p.0))) (chars_plain base le ds p.1)

pub shown_plain : (base n v : ℕ) → 0 < base → base ≤ 16 → all is_plain (shown base n v) ≡ true
unfolding shown
shown_plain base n v pos le = chars_plain base le (digits base n v) (digits_below base pos n v)

-- capitals are made of none of them
plain_capitals : (cs : List ℕ) → all is_plain cs ≡ true → in_capitals cs ≡ cs
plain_capitals [] e = refl
plain_capitals (c ∷ cs) e =
    let p = both_true (is_plain c) (all is_plain cs) e in
    ap₂ (λ x xs. x ∷ xs) (plain c p.0).capital_is (plain_capitals cs p.1)

-- ---- characters that are collected

-- the wire after the characters cs
abbrev collect_all : List ℕ → Wire → Wire
collect_all [] w = w
collect_all (c ∷ cs) w = collect_all cs (collect c w)

-- what is held, with this wire
abbrev wired : Held → Wire → Held
wired h w = record { state = with_wire w h.state; program = h.program; log = h.log }

module _ {n : ℕ} {h : Held} (f : Fit n h) (x : ℕ) (other : eqb x 13 ≡ false) where
  -- one character is collected
  collects_one : next h (making h (byte x)) ≡ wired h (collect x h.state.wire)
  unfolding does Deeds.byte
  collects_one =
      (byte_taken f x).gone
      ∙ rw (logged_is (byte x) h.state (lent_by h) (a_byte x), other, eq-eqb h.state.run.outputs h.state.run.outputs refl)

  -- what is held still fits
  fit_one : Fit n (next h (making h (byte x)))
  unfolding does Deeds.byte
  fit_one = fit_next f (byte x) (a_byte x) (byte_taken f x) (rw other f.program) (rw other f.program_bytes)

  -- it makes no change
  collects_silent : (cs : List Change) (t : Told) → Agrees t h.state → since_call cs t (note h (making h (byte x))) (byte x) ≡ cs
  unfolding does Deeds.byte
  collects_silent cs t a =
      call_changes f (byte x) (a_byte x) (byte_taken f x) cs t a
      ∙ rw (other, eq-eqb h.state.run.outputs h.state.run.outputs refl) (append-nil cs)

-- characters that are sent are collected, and nothing else is done
collects_all : (n : ℕ) (xs : List ℕ) {h : Held} → Fit n h → all is_plain xs ≡ true → (cs : List Change) → let g = wired h (collect_all xs h.state.wire) in
    Leads cs h (map byte xs) cs g × Fit n g
collects_all n [] f e cs = (none cs _, f)
collects_all n (x ∷ xs) {h} f e cs =
    let p = both_true (is_plain x) (all is_plain xs) e in
    let other = (plain x p.0).no_end in
    let one = collects_one f x other in
    let ih = collects_all n xs (subst (λ g. Fit n g) one (fit_one f x other)) p.1 cs in (
      more (byte x) (map byte xs) (byte_taken f x) (collects_silent f x other cs)
          (subst (λ g. Leads cs g (map byte xs) cs (wired h (collect_all (x ∷ xs) h.state.wire))) (sym one) ih.0),
      ih.1,
    )

-- and the wire then holds them behind those that it held
all_collected : (xs ys : List ℕ) (w : Wire) → WireInvariant w → Collects ys w → all is_plain xs ≡ true → Collects (ys ++ xs) (collect_all xs w)
all_collected [] ys w i c e = rw append-nil c
all_collected (x ∷ xs) ys w i c e =
    let p = both_true (is_plain x) (all is_plain xs) e in
    let one : Collects (ys ++ (x ∷ [])) (collect x w) = rw (plain x p.0).no_space at (byte_collects ys w i c x) in
    subst (λ zs. Collects zs (collect_all xs (collect x w))) (append_assoc ys (x ∷ []) xs)
    (all_collected xs (ys ++ (x ∷ [])) (collect x w) (collect_kept x w i) one p.1)

-- ---- a write

-- the characters of a write of these data to address k
abbrev write_text : ℕ → List ℕ → List ℕ
write_text k cs = text "CW" ++ (shown 10 3 k ++ cs)

-- the state that a write to k starts from, with this wire
abbrev pub writing_to : Held → Wire → ℕ → Controller
writing_to h w k = wrote_to k (empty_collection (with_wire w h.state))

-- what the write does
abbrev pub doing : Held → Wire → ℕ → Data → Deed
doing h w k x = write k x (writing_to h w k) (lent_by h)

-- The write of x to k was sent and done: the calls lead from h, where the changes cs are told, to `held`.
pub record Wrote (n : ℕ) (cs : List Change) (h : Held) (k : ℕ) (x : Data) : Type 0 where
  pub wire : Wire
  pub calls : List Call
  pub held : Held
  pub leads : let y = (doing h wire k x).state in
      Leads cs h calls (cs ++ changing h.state.run.outputs y.run.outputs (cause (passed (Write k x)) y.run.line) y.ticks) held
  pub is : held.state ≡ with_log held.state.log (doing h wire k x).state
  pub program : held.program ≡ (doing h wire k x).areas.program
  pub empty : Empty held.state.wire
  pub fit : Fit n held

module _ {n : ℕ} {h : Held} (f : Fit n h) (off : h.state.run.on ≡ false) (empty : Empty h.state.wire) (k : ℕ)
    (can : is_writable k ≡ true) (written : List ℕ) (good : all is_plain written ≡ true) (few : length written ≤ 27) (x : Data)
    (says : data_in M.TheVariants.Stop h.state.panel.parameter k written ≡ passed x) where
  -- the wire when the characters have been sent
  abbrev w : Wire
  w = collect_all (write_text k written) h.state.wire

  -- what is then held
  abbrev g : Held
  g = wired h w

  -- the characters of a write
  all_plain : all is_plain (write_text k written) ≡ true
  unfolding text
  all_plain = all_append is_plain (shown 10 3 k) written (shown_plain 10 3 k (omega arith) (omega arith)) good

  -- they are not too many
  short_text : length (write_text k written) ≤ most_chars
  unfolding text
  short_text = simp (length-append, length_shown) (omega arith)

  -- the wire holds them
  holds : Collects (write_text k written) w
  holds = all_collected (write_text k written) [] h.state.wire f.invariant.wire (nothing_collected h.state.wire empty) all_plain

  -- so the write is found
  is_asked : asked g.state h.program ≡ passed (Write k x)
  is_asked =
      let short : w.overlong ≡ false = holds.more ∙ le-ltb most_chars (length (write_text k written)) short_text in
      let stop : mode h.state ≡ M.TheVariants.Stop = rw off in
      let found : sent w ≡ write_text k written = sent_whole (write_text k written) w holds short ∙ plain_capitals (write_text k written) all_plain in
      ap (λ r. r >>= legible (is_bad_at g.state h.program))
      (data_accepted w (mode h.state) h.state.panel.parameter short k (shown 10 3 k) written found (by_digits refl) can (rw stop) x (rw stop says))
      ∙ write_stays (is_bad_at g.state h.program) k x

  -- byte 13 does what was asked, and answers OK
  is_done : does (byte 13) g.state (lent_by g) ≡ writing (ended (text "OK")) (doing h w k x)
  unfolding does Deeds.byte answer
  is_done = ap (λ r. answer r g.state (lent_by g)) is_asked

  -- the state that it leaves
  state_is : (does (byte 13) g.state (lent_by g)).state ≡ (doing h w k x).state
  unfolding writing
  state_is = ap (λ (y : Deed). y.state) is_done

  -- the program area that it leaves
  program_is : (does (byte 13) g.state (lent_by g)).areas.program ≡ (doing h w k x).areas.program
  unfolding writing
  program_is = ap (λ (y : Deed). y.areas.program) is_done

  -- A write in its format, sent to a box in which no program runs, is done.
  pub sent_write : (cs : List Change) → let p = (doing h w k x).areas.program in length p ≡ 1600 → are_bytes p ≡ true → Wrote n cs h k x
  unfolding does Deeds.byte finished
  sent_write cs long are =
      let c = collects_all n (write_text k written) f all_plain cs in
      let t = byte_taken c.1 13 in
      let gone = t.gone in
      record {
        wire = w;
        calls = map byte (write_text k written) ++ (byte 13 ∷ []);
        held = next g (making g (byte 13));
        leads =
            leads_append c.0
            (more (byte 13) [] t
            (λ s a. call_changes c.1 (byte 13) (a_byte 13) t cs s a
            ∙ ap₂ (λ (y : Controller) r. cs ++ changing h.state.run.outputs y.run.outputs (cause r y.run.line) y.ticks) state_is is_asked)
            (none _ _));
        is = rw gone (ap (λ (y : Controller). with_log (logged (byte 13) g.state (lent_by g) (does (byte 13) g.state (lent_by g))).log y) state_is);
        program = rw gone program_is;
        empty = rw gone (answer_empties (asked g.state h.program) g.state (lent_by g));
        fit = fit_next c.1 (byte 13) (a_byte 13) t (ap (λ (l : List ℕ). length l) program_is ∙ long) (ap are_bytes program_is ∙ are);
      }
