-- The seven checks, and the one for a Bad line behind them, find what the sentences say: a command, where it is written so and the state allows it, else
-- the first error that has its sentence.
-- Assumes nothing.
use mathlib.Core.Path.{◌≡◌, refl, sym, ap, subst, ◌∙◌}
use mathlib.Core.Logic.{◌≢◌, inl, inr, ⊎_elim}
use Prim.Native.Nat.{ℕ, ◌≤◌, ◌<◌}
use native.Mathlib.Omega.{arith}
use mathlib.Core.Bool.{Bool, true, false, not, ◌||◌, true≢false}
use mathlib.Core.List.{List, [], ◌∷◌}
use lib.ListN.{length, take, length-map}
use lib.Seq.{take_all, length-take-le}
use lib.Dec.{eqb, leb}
use borrow.Author.Tests.{eqb-true, eqb-false, ne_eqb, leb-true, leb-false, lt-ltb, le-ltb}
use Rattle.std.specs.Prelude.{if◌then◌else◌}
use Rattle.formats.specs.Checks.{Res, refused, passed, ◌>>=◌, ◌>>◌, ◌or_else◌}
use Rattle.formats.specs.Digits.{h, h_in, d, d_in}
use Rattle.formats.proofs.Checks.{if_case, either_true, ok_at}
use Rattle.formats.proofs.Order.{none_yet}
use Rattle.formats.proofs.Readers.{Reader, wrong_length as of_wrong_length, no_format as of_no_format, reads as of_reads, h_reads, d_reads, d_same}
use Rattle.lines.specs.declared.Line.{Line}
use Rattle.lines.specs.declared.Line.TheVariants.{Bad}
use Rattle.lines.specs.Line.{Fits}
use Rattle.lines.specs.Program.{line_at}
use Rattle.texts.specs.Text.{line_text, line_in, WrongLineLength}
use Rattle.texts.proofs.LineReader.{line_reads}
use Rattle.special.specs.declared.Mode.{Mode}
use Rattle.special.specs.Special.{mode_of, special_of}
use Rattle.wire.specs.declared.Data.{Data}
use Rattle.wire.specs.declared.Data.TheVariants.{WriteLine, WriteOutputs, WriteParameter}
use Rattle.wire.specs.declared.Asked.{Asked}
use Rattle.wire.specs.declared.Asked.TheVariants.{Read, Write}
use Rattle.wire.specs.Command.{is_read, is_write, rest, address_in, is_writable, is_open, special_now, special_in, data_in, read_command, write_command, in_format}
use Rattle.wire.specs.Command.{command_in}
use Rattle.wire.specs.Collecting.{most_chars}
use Rattle.wire.proofs.Addresses.{address_inside, outputs_from}
use Rattle.wire.proofs.Named.{refused_four}
use Rattle.wire.proofs.Says.{last_writable}
use Rattle.wire.proofs.Quiet.{always_open}
use Rattle.controller.specs.Deeds.{legible}
use Rattle.demands.specs.Capitals.{counts_as, in_capitals}
use Rattle.demands.specs.Said.{Said, reads, writes_line, writes_outputs, writes_parameter}
use Rattle.demands.specs.Told.{Told}
use Rattle.demands.specs.Commands.{characters, Reads, Writes, IsWritten, Allows, Error, WrongLength, of_line, of_h, of_d, InFormat}
use Rattle.demands.specs.Commands.{a_line, an_h, a_d, no_address, locked, wrong_length, no_format, no_code, needs_stop, needs_pause, needs_run, out_of_reach}
use Rattle.demands.specs.Commands.{too_short, no_command, overlong, bad_line, Says, place, number, First}
use Rattle.demands.proofs.History.Agrees.{Hears, a_read, a_line as hears_line, an_output, a_parameter}
use Rattle.demands.proofs.Calls.CodesChecked.{Checked, an_error, to_read, to_write, code_checked}
use Rattle.demands.proofs.History.Asked.{checks_of, is_bad_then, command_of, bad_in_program, bad_at}
use Rattle.demands.proofs.Calls.Sentences.{not_begun, is_begun, place_last, begun, writes_found}
use Rattle.demands.proofs.Calls.Sentences.{None, passing, reads_found, no_reads, no_writes, same_read, same_write, Begun, a_read_lem, a_write, can_write}

nothing : (xs : List ℕ) → length xs ≡ 0 → xs ≡ []
nothing [] e = refl
nothing (x ∷ xs) e = absurd (omega arith)

module _ (t : Told) (program : List ℕ) (begun : Begun t) where
  abbrev cs : List ℕ
  cs = characters t

  -- ---- a read

  -- of a read no sentence about a write holds
  module _ (r : is_read cs ≡ true) where
    no_locked : Says t program locked → ⊥
    no_locked s = no_writes t r s.1.2

    read_behind : None t program 5 → None t program 11
    read_behind n5 =
        let n6 = passing t program no_format n5 (λ s. no_writes t r s.2) in
        let n7 = passing t program no_code n6 (λ s. no_writes t r s.2) in
        let n8 = passing t program needs_stop n7 (λ s. no_writes t r s.1.2) in
        let n9 = passing t program needs_pause n8 (λ s. no_writes t r s.0) in
        let n10 = passing t program needs_run n9 (λ s. no_writes t r s.0) in
        passing t program out_of_reach n10 (λ s. ⊎_elim (λ x. no_writes t r x.0) (λ x. no_writes t r x.0) s)

    -- a read of an address and nothing behind it
    pub read_none : (k : ℕ) → Reads t k [] → None t program 2 → None t program 11
    read_none k x n2 =
        let n3 = passing t program no_address n2 (λ s. (s k []).0 x) in
        let f = reads_found t x in
        read_behind (passing t program wrong_length (passing t program locked n3 no_locked) λ s.
        ⊎_elim (λ y. y.3 ((same_read t f.1 y.2).1 ∙ f.2)) (λ y. no_writes t r y.2) s)

    pub read_checked : t.next_read ≤ 217 → None t program 2 → Checked t program (read_command t.next_read cs)
    unfolding read_command ◌>>=◌ ◌>>◌ ◌or_else◌
    read_checked low n2 = go (address_in t.next_read cs) refl
      where
        found_read : (k : ℕ) → address_in t.next_read cs ≡ passed k → Reads t k (rest cs)
        found_read k a = a_read_lem t begun r k (ok_at (λ j. j ≤ 216) (address_inside t.next_read cs low) a) a

        none_4 : (k : ℕ) → address_in t.next_read cs ≡ passed k → None t program 4
        none_4 k a = passing t program locked (passing t program no_address n2 (λ s. (s k (rest cs)).0 (found_read k a))) no_locked

        length_said : (k : ℕ) → address_in t.next_read cs ≡ passed k → (b : Bool) → eqb (length (rest cs)) 0 ≡ b
            → Checked t program ((b or_else 2) >> passed (Read k))
        length_said k a false e =
            an_error wrong_length (inl (k, rest cs, found_read k a, λ z. eqb-false (length (rest cs)) 0 e (ap length z))) (none_4 k a)
        length_said k a true e =
            let none : rest cs ≡ [] = nothing (rest cs) (eqb-true _ _ e) in
            let x = subst (Reads t k) none (found_read k a) in
            to_read k x (read_none k x n2)

        go : (x : Res ℕ) → address_in t.next_read cs ≡ x → Checked t program (read_command t.next_read cs)
        go (refused e) a =
            rw (a, refused_four t.next_read cs e a)
            (an_error no_address (λ k more. (
              λ x. true≢false (ap (λ (y : Res ℕ). is_passed y) (sym (reads_found t x).1 ∙ a)),
              no_writes t r,
            )) n2)
          where
            is_passed : Res ℕ → Bool
            is_passed (refused i) = false
            is_passed (passed i) = true
        go (passed k) a = rw a (length_said k a (eqb (length (rest cs)) 0) refl)

  -- ---- a write

  module _ (r : is_read cs ≡ false) where
    -- a write to address k, with the data that were sent
    module _ (k : ℕ) (sent : List ℕ) (w : Writes t k sent) (same : (j : ℕ) (x : List ℕ) → Writes t j x → (j ≡ k) × (x ≡ sent)) (n4 : None t program 4) where
      -- check 5
      too_long : WrongLength k sent → Checked t program (refused 2)
      too_long wrong = an_error wrong_length (inr (k, sent, w, wrong)) n4

      none_5 : (WrongLength k sent → ⊥) → None t program 5
      none_5 right =
          passing t program wrong_length n4 λ s. ⊎_elim (λ x. no_reads t r x.2)
          (λ x. let e = same _ _ x.2 in right (subst (WrongLength k) e.1 (subst (λ j. WrongLength j x.1) e.0 x.3))) s

      -- check 6
      unreadable : (WrongLength k sent → ⊥) → (InFormat k sent → ⊥) → Checked t program (refused 3)
      unreadable right none = an_error no_format (k, sent, w, none) (none_5 right)

      pub none_6 : (WrongLength k sent → ⊥) → InFormat k sent → None t program 6
      none_6 right is =
          passing t program no_format (none_5 right) λ s.
          let e = same _ _ s.2 in s.3 (subst (λ j. InFormat j s.1) (sym e.0) (subst (InFormat k) (sym e.1) is))

      -- no line of the program is read
      pub none_12 : None t program 11 → None t program 12
      none_12 n11 = passing t program bad_line n11 (λ s. no_reads t r s.2)

      -- check 7 is of 210 alone
      pub elsewhere : k ≢ 210 → None t program 6 → None t program 12
      elsewhere ne n6 =
          let other : (x : List ℕ) → Writes t 210 x → ⊥ = λ x y. ne (sym (same 210 x y).0) in
          let n7 = passing t program no_code n6 (λ s. other _ s.2) in
          let n8 = passing t program needs_stop n7 (λ s. other _ s.1.2) in
          let n9 = passing t program needs_pause n8 (λ s. other _ s.0) in
          let n10 = passing t program needs_run n9 (λ s. other _ s.0) in
          none_12 (passing t program out_of_reach n10 (λ s. ⊎_elim (λ x. other _ x.0) (λ x. other _ x.0) s))

      line_checked : k ≤ 200 → t.run.on ≡ false → Checked t program (line_in sent >>= (λ l. passed (WriteLine l)) >>= (λ x. passed (Write k x)))
      unfolding ◌>>=◌
      line_checked le off = go (line_in sent) (line_reads sent)
        where
          right : (WrongLineLength sent → ⊥) → WrongLength k sent → ⊥
          right f (of_line _ x) = f x
          right f (of_h lo hi x) = omega arith
          right f (of_d lo hi x) = omega arith

          none : ((l : Line) → Fits l × (sent ≡ line_text l) → ⊥) → InFormat k sent → ⊥
          none f (a_line _ l fits e) = f l (fits, e)
          none f (an_h lo hi x b e) = omega arith
          none f (a_d lo hi v b e) = omega arith

          go : (x : Res Line) → Reader (WrongLineLength sent) (λ l. Fits l × (sent ≡ line_text l)) x
              → Checked t program (x >>= (λ l. passed (WriteLine l)) >>= (λ y. passed (Write k y)))
          go x (of_wrong_length wrong) = too_long (of_line le wrong)
          go x (of_no_format f shows) = unreadable (right f) (none shows)
          go x (of_reads f l shows) =
              to_write k (WriteLine l) (writes_line k l) (hears_line k l le shows.0) (le, shows.0, subst (Writes t k) shows.1 w) off
              (elsewhere (λ z. omega arith) (none_6 (right f) (a_line le l shows.0 shows.1)))

      outputs_checked : 203 ≤ k → k ≤ 206 → t.run.on ≡ false
          → Checked t program (h_in sent >>= (λ x. passed (WriteOutputs x)) >>= (λ x. passed (Write k x)))
      unfolding ◌>>=◌
      outputs_checked lo hi off = go (h_in sent) (h_reads sent)
        where
          right : (length sent ≢ 2 → ⊥) → WrongLength k sent → ⊥
          right f (of_line le x) = omega arith
          right f (of_h _ _ x) = f x
          right f (of_d low high x) = omega arith

          none : ((x : ℕ) → (x ≤ 255) × (sent ≡ h x) → ⊥) → InFormat k sent → ⊥
          none f (a_line le l fits e) = omega arith
          none f (an_h _ _ x b e) = f x (b, e)
          none f (a_d low high v b e) = omega arith

          go : (x : Res ℕ) → Reader (length sent ≢ 2) (λ x. (x ≤ 255) × (sent ≡ h x)) x
              → Checked t program (x >>= (λ y. passed (WriteOutputs y)) >>= (λ y. passed (Write k y)))
          go x (of_wrong_length wrong) = too_long (of_h lo hi wrong)
          go x (of_no_format f shows) = unreadable (right f) (none shows)
          go x (of_reads f v shows) =
              to_write k (WriteOutputs v) (writes_outputs k v) (an_output k v lo hi) (lo, hi, shows.0, subst (Writes t k) shows.1 w) off
              (elsewhere (λ z. omega arith) (none_6 (right f) (an_h lo hi v shows.0 shows.1)))

      -- three decimal digits, of 209 and of 210
      module _ (lo : 209 ≤ k) (hi : k ≤ 210) where
        right_d : (length sent ≢ 3 → ⊥) → WrongLength k sent → ⊥
        right_d f (of_line le x) = omega arith
        right_d f (of_h low high x) = omega arith
        right_d f (of_d _ _ x) = f x

        none_d : ((v : ℕ) → (v ≤ 255) × (sent ≡ d v) → ⊥) → InFormat k sent → ⊥
        none_d f (a_line le l fits e) = omega arith
        none_d f (an_h low high x b e) = omega arith
        none_d f (a_d _ _ v b e) = f v (b, e)

      parameter_checked : k ≡ 209 → Checked t program (d_in sent >>= (λ v. passed (WriteParameter v)) >>= (λ x. passed (Write k x)))
      unfolding ◌>>=◌
      parameter_checked is = go (d_in sent) (d_reads sent)
        where
          go : (x : Res ℕ) → Reader (length sent ≢ 3) (λ v. (v ≤ 255) × (sent ≡ d v)) x
              → Checked t program (x >>= (λ y. passed (WriteParameter y)) >>= (λ y. passed (Write k y)))
          go x (of_wrong_length wrong) = too_long (of_d (omega arith) (omega arith) wrong)
          go x (of_no_format f shows) = unreadable (right_d (omega arith) (omega arith) f) (none_d (omega arith) (omega arith) shows)
          go x (of_reads f v shows) =
              to_write k (WriteParameter v) (writes_parameter v) (rw is (a_parameter v)) (
                shows.0,
                subst (λ j. Writes t j (d v)) is (subst (Writes t k) shows.1 w),
              ) tt
              (elsewhere (λ z. omega arith)
              (none_6 (right_d (omega arith) (omega arith) f) (a_d (omega arith) (omega arith) v shows.0 shows.1)))

      special_checked : k ≡ 210 → Checked t program (special_in (mode_of t.run.on t.paused) t.parameter sent >>= (λ x. passed (Write k x)))
      unfolding special_in ◌>>=◌
      special_checked is = go (d_in sent) (d_reads sent)
        where
          go : (x : Res ℕ) → Reader (length sent ≢ 3) (λ v. (v ≤ 255) × (sent ≡ d v)) x
              → Checked t program (x >>= (λ n. special_of n >>= special_now (mode_of t.run.on t.paused) t.parameter) >>= (λ y. passed (Write k y)))
          go x (of_wrong_length wrong) = too_long (of_d (omega arith) (omega arith) wrong)
          go x (of_no_format f shows) = unreadable (right_d (omega arith) (omega arith) f) (none_d (omega arith) (omega arith) shows)
          go x (of_reads f v shows) =
              code_checked t program k v is shows.0 (subst (λ j. Writes t j (d v)) is (subst (Writes t k) shows.1 w))
              (λ n le y. d_same n v le shows.0 ((same 210 (d n) y).1 ∙ shows.1))
              (none_6 (right_d (omega arith) (omega arith) f) (a_d (omega arith) (omega arith) v shows.0 shows.1)) none_12

      -- checks 5 to 7, where check 4 lets the write through
      data_checked : is_writable k ≡ true → (k ≢ 209 → k ≢ 210 → t.run.on ≡ false)
          → Checked t program (data_in (mode_of t.run.on t.paused) t.parameter k sent >>= (λ x. passed (Write k x)))
      unfolding data_in
      data_checked can off =
          let P : Res Data → Type 0 = λ x. Checked t program (x >>= (λ y. passed (Write k y))) in
          if_case P (leb k 200) (λ e. let le = leb-true k 200 e in line_checked le (off (λ z. omega arith) (λ z. omega arith))) λ a.
          if_case P (leb k 206)
          (λ e. let le = leb-true k 206 e in outputs_checked (outputs_from k can a le) le (off (λ z. omega arith) (λ z. omega arith))) λ b.
          if_case P (eqb k 209) (λ e. parameter_checked (eqb-true k 209 e)) λ c. special_checked (last_writable k can a b c)

    -- ---- checks 3 and 4

    -- a write that check 4 stops, and one that it lets through
    shut : (k : ℕ) → is_open (mode_of t.run.on t.paused) k ≡ false → (t.run.on ≡ true) × (k ≢ 209) × (k ≢ 210)
    shut k f =
        let other : ((eqb k 209 || eqb k 210) ≡ true → ⊥) = λ o. true≢false (sym (always_open (mode_of t.run.on t.paused) k o) ∙ f) in
        (runs t.run.on refl, (λ e. other (rw e)), (λ e. other (rw e)))
      where
        runs : (o : Bool) → t.run.on ≡ o → t.run.on ≡ true
        runs true e = e
        runs false e = absurd (true≢false (rw e at f))

    let_through : (k : ℕ) → is_open (mode_of t.run.on t.paused) k ≡ true → k ≢ 209 → k ≢ 210 → t.run.on ≡ false
    let_through k f a b = go t.run.on refl t.paused refl
      where
        go : (o : Bool) → t.run.on ≡ o → (p : Bool) → t.paused ≡ p → t.run.on ≡ false
        go false o p p' = o
        go true o true p = absurd (true≢false (sym (rw (o, p, ne_eqb k 209 a, ne_eqb k 210 b) at f)))
        go true o false p = absurd (true≢false (sym (rw (o, p, ne_eqb k 209 a, ne_eqb k 210 b) at f)))

    pub write_checked : is_write cs ≡ true → None t program 2
        → Checked t program (write_command (mode_of t.run.on t.paused) t.parameter t.next_write cs)
    unfolding write_command ◌>>=◌ ◌>>◌ ◌or_else◌
    write_checked iw n2 = go (address_in t.next_write cs) refl
      where
        mode : Mode
        mode = mode_of t.run.on t.paused

        opened : (k : ℕ) → address_in t.next_write cs ≡ passed k → (can : is_writable k ≡ true) → (b : Bool) → is_open mode k ≡ b
            → Checked t program ((b or_else 5) >> (data_in mode t.parameter k (rest cs) >>= (λ x. passed (Write k x))))
        opened k a can b e =
            let w = a_write t begun iw k can a in
            let n3 = passing t program no_address n2 (λ s. (s k (rest cs)).1 w) in
            by b e w n3
          where
            by : (b : Bool) → is_open mode k ≡ b → Writes t k (rest cs) → None t program 3
                → Checked t program ((b or_else 5) >> (data_in mode t.parameter k (rest cs) >>= (λ x. passed (Write k x))))
            by false e w n3 = let x = shut k e in an_error locked (x.0, (k, rest cs, w, x.1, x.2)) n3
            by true e w n3 =
                data_checked k (rest cs) w (λ j x y. same_write t a y)
                (passing t program locked n3 λ s. let z = (same_write t a s.1.2).0 in
                true≢false (sym s.0 ∙ let_through k e (λ q. s.1.3 (z ∙ q)) (λ q. s.1.4 (z ∙ q)))) can (let_through k e)

        writable : (k : ℕ) → address_in t.next_write cs ≡ passed k → (b : Bool) → is_writable k ≡ b
            → Checked t program ((b or_else 4) >> ((is_open mode k or_else 5) >> (data_in mode t.parameter k (rest cs) >>= (λ x. passed (Write k x)))))
        writable k a true e = opened k a e (is_open mode k) refl
        writable k a false e =
            an_error no_address (λ j more. (no_reads t r, λ x. true≢false (sym (can_write x.can) ∙ ap is_writable (same_write t a x).0 ∙ e))) n2

        is_passed : Res ℕ → Bool
        is_passed (refused i) = false
        is_passed (passed i) = true

        go : (x : Res ℕ) → address_in t.next_write cs ≡ x → Checked t program (write_command mode t.parameter t.next_write cs)
        go (refused e) a =
            rw (a, refused_four t.next_write cs e a)
            (an_error no_address (λ k more. (no_reads t r, λ x. true≢false (ap is_passed (sym (writes_found t x).1 ∙ a)))) n2)
        go (passed k) a = rw a (writable k a (is_writable k) refl)

-- ---- the whole command

-- what byte 13 finds
pub data Found (t : Told) (program : List ℕ) : Res Asked → Type 0 where
  found_error : (e : Error) → First t program e → Found t program (refused (number e))
  found_command : (q : Asked) (s : Said) → Hears (passed q) s → IsWritten t s → Allows t program s → ((e : Error) → Says t program e → ⊥)
      → Found t program (passed q)

module _ (t : Told) (program : List ℕ) (low : t.next_read ≤ 217) where
  abbrev received : List ℕ
  received = characters t

  long : length received ≡ length t.received
  long = length-map t.received counts_as

  -- a command of more than 32 characters
  overlong_checked : 32 < length t.received → Checked t program (checks_of t)
  unfolding checks_of command_in ◌>>◌ ◌or_else◌
  overlong_checked lt =
      let n : length (in_capitals (take most_chars t.received)) ≡ 32 =
      length-map (take most_chars t.received) counts_as ∙ length-take-le most_chars t.received (omega arith) in
      rw (n, lt-ltb 32 (length t.received) lt)
      (an_error no_command (overlong (omega (arith, long))) (passing t program too_short (none_yet place (Says t program)) λ s. omega (arith, long)))

  -- one that is not, after its length
  begun_checked : length t.received ≤ 32 → 3 ≤ length received → Begun t → Checked t program
      (if is_read received then read_command t.next_read received else write_command (mode_of t.run.on t.paused) t.parameter t.next_write received)
  begun_checked few three b =
      let n2 = passing t program no_command (passing t program too_short (none_yet place (Says t program)) λ s. omega arith)
      (is_begun t b (omega (arith, long))) in
      if_case (Checked t program) (is_read received) (λ r. read_checked t program b r low n2) λ r.
      write_checked t program b r (either_true (is_read received) (is_write received) b.kind (λ x. absurd (true≢false (sym x ∙ r))) (λ x. x)) n2

  short_checked : length t.received ≤ 32 → Checked t program (checks_of t)
  unfolding checks_of command_in ◌>>◌ ◌or_else◌
  short_checked few =
      let all : take most_chars t.received ≡ t.received = take_all most_chars t.received few in
      let n1 : Says t program too_short → None t program 0 = λ _. none_yet place (Says t program) in
      rw (all, le-ltb 32 (length t.received) few) (go (leb 3 (length received)) refl (in_format false received) refl)
    where
      go : (a : Bool) → leb 3 (length received) ≡ a → (b : Bool) → in_format false received ≡ b
          → Checked t program ((a or_else 1) >> ((b or_else 2) >> (if is_read received then read_command t.next_read received
          else write_command (mode_of t.run.on t.paused) t.parameter t.next_write received)))
      go false a b b' = an_error too_short (leb-false 3 (length received) a) (none_yet place (Says t program))
      go true a false b =
          let three = leb-true 3 (length received) a in
          an_error no_command (not_begun t b) (passing t program too_short (none_yet place (Says t program)) λ s. omega arith)
      go true a true b = let three = leb-true 3 (length received) a in begun_checked few three (begun t three b)

  pub checked : Checked t program (checks_of t)
  checked = go (leb (length t.received) 32) refl
    where
      go : (b : Bool) → leb (length t.received) 32 ≡ b → Checked t program (checks_of t)
      go true e = short_checked (leb-true _ _ e)
      go false e = overlong_checked (leb-false _ _ e)

  -- and behind the checks a Bad line
  pub found : Fits t.single → Found t program (command_of t program)
  unfolding ◌>>=◌ ◌>>◌ ◌or_else◌ legible
  found fits = go (checks_of t) checked
    where
      at_line_lem : (k : ℕ) → Reads t k [] → None t program 11 → (b : Bool) → is_bad_then t program k ≡ b
          → Found t program ((not b or_else 24) >> passed (Read k))
      at_line_lem k r n11 true e =
          let at = bad_in_program t fits program k e in
          found_error bad_line (record { says = (k, at.0, r, at.1); none_before = n11 })
      at_line_lem k r n11 false e =
          let good : k ≤ 199 → line_at program k ≢ Bad = λ le bad. true≢false (sym (bad_at t program k le bad) ∙ e) in
          let n12 = passing t program bad_line n11
          λ s. let z = same_address r s.2 in good (subst (λ j. j ≤ 199) z s.1) (subst (λ j. line_at program j ≡ Bad) z s.3) in
          found_command (Read k) (reads k) (a_read k r.inside) r good (λ x s. n12 x (place_last x) s)
        where
          same_address : {j i : ℕ} → Reads t i [] → Reads t j [] → j ≡ i
          same_address x y = (same_read t (reads_found t x).1 y).0

      go : (x : Res Asked) → Checked t program x → Found t program (x >>= legible (is_bad_then t program))
      go x (an_error e s n) = found_error e (record { says = s; none_before = n })
      go x (to_read k r n11) = at_line_lem k r n11 (is_bad_then t program k) refl
      go x (to_write k y s hears is may n12) = found_command (Write k y) s hears is may (λ e z. n12 e (place_last e) z)
