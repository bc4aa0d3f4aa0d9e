-- A command that is written so and that the state allows: it is what the history reads off its characters, and no error's sentence holds of it.
-- Assumes nothing.
use mathlib.Core.Path.{◌≡◌, refl, sym, ap, subst, ◌∙◌}
use mathlib.Core.Logic.{◌≢◌, inl, inr}
use Prim.Native.Nat.{ℕ, ◌≤◌}
use native.Mathlib.Omega.{arith}
use Prim.Native.Char.{code}
use mathlib.Core.Bool.{true, false, ◌||◌, true≢false}
use mathlib.Core.List.{List, [], ◌∷◌, ◌++◌}
use lib.ListN.{length}
use lib.Dec.{eqb}
use borrow.Author.Tests.{le-leb, lt-leb}
use Rattle.formats.specs.Checks.{Res, refused, passed, text}
use Rattle.formats.specs.Digits.{h, d}
use Rattle.formats.proofs.Checks.{not_passed}
use Rattle.formats.proofs.Order.{none_yet}
use Rattle.formats.proofs.Characters.{length_shown, h_back, d_back}
use Rattle.formats.proofs.Readers.{Reader, wrong_length as of_wrong_length, no_format as of_no_format, reads as of_reads, d_same}
use Rattle.lines.specs.declared.Line.{Line}
use Rattle.lines.specs.declared.Line.TheVariants.{Bad}
use Rattle.lines.specs.Line.{Fits}
use Rattle.lines.specs.Program.{line_at}
use Rattle.texts.specs.Text.{line_text, line_in}
use Rattle.texts.proofs.Texts.{text_accepted, text_length}
use Rattle.texts.proofs.LineReader.{line_reads}
use Rattle.wire.specs.Command.{is_read, address_in}
use Rattle.wire.specs.Naming.{IsStep, NamesNone}
use Rattle.wire.proofs.Addresses.{unnamed}
use Rattle.demands.specs.Said.{Said, silence, reads, writes_line, writes_outputs, writes_parameter, gives, spoken}
use Rattle.demands.specs.Told.{Told}
use Rattle.demands.specs.Commands.{characters, Reads, Writes, IsWritten, Allows, WrongLength, of_line, of_h, of_d, a_line, an_h, a_d, InFormat}
use Rattle.demands.specs.Commands.{too_short, no_command, no_address, locked, bad_line, Says, place, First}
use Rattle.demands.proofs.Calls.CodesChecked.{given_none}
use Rattle.demands.proofs.Calls.Sentences.{None, passing, BegunBy, Begun, reads_found, writes_found}
use Rattle.demands.proofs.Calls.Sentences.{same_read, same_write, no_reads, no_writes, is_begun}
use Rattle.demands.proofs.Calls.Sentences.{read_begun, write_begun, read_few, write_few}
use Rattle.demands.proofs.Calls.Checking.{read_none, none_6, elsewhere, none_12}

-- ---- what the history reads

pub written_spoken : (t : Told) (s : Said) → IsWritten t s → spoken t.next_read t.next_write (characters t) ≡ s
written_spoken t silence x = absurd x
written_spoken t (reads k) r = let f = reads_found t r in rw (f.0, f.1)
written_spoken t (writes_line k l) x = let f = writes_found t x.2 in rw (f.0, f.1, le-leb k 200 x.0, f.2, text_accepted l x.1)
written_spoken t (writes_outputs k v) x =
    let f = writes_found t x.3 in
    let lo = x.0 in
    let small = x.2 in
    rw (f.0, f.1, lt-leb k 200 (omega arith), le-leb k 206 x.1, f.2, h_back v (omega arith))
written_spoken t (writes_parameter v) x = let f = writes_found t x.1 in rw (f.0, f.1, f.2, d_back v x.0)
written_spoken t (gives n) x =
    let f = writes_found t x.2 in
    let small = x.1 in
    rw (f.0, f.1, f.2, d_back n (omega arith))

-- ---- no sentence holds of it

-- a reader that reads a value found no wrong length
right_length : {A : Type 0} {Wrong : Type 0} {Shows : A → Type 0} (r : Res A) (a : A) → Reader Wrong Shows r → r ≡ passed a → Wrong → ⊥
right_length r a (of_wrong_length w) e = absurd (not_passed e)
right_length r a (of_no_format f g) e = absurd (not_passed e)
right_length r a (of_reads f b g) e = f

line_right : (k : ℕ) (l : Line) → Fits l → k ≤ 200 → WrongLength k (line_text l) → ⊥
line_right k l fits le (of_line _ x) = right_length (line_in (line_text l)) l (line_reads (line_text l)) (text_accepted l fits) x
line_right k l fits le (of_h lo hi x) = omega arith
line_right k l fits le (of_d lo hi x) = omega arith

h_right : (k v : ℕ) → 203 ≤ k → k ≤ 206 → WrongLength k (h v) → ⊥
h_right k v lo hi (of_line le x) = omega arith
h_right k v lo hi (of_h _ _ x) = x (length_shown 16 2 v)
h_right k v lo hi (of_d low high x) = omega arith

d_right : (k v : ℕ) → 209 ≤ k → WrongLength k (d v) → ⊥
d_right k v lo (of_line le x) = omega arith
d_right k v lo (of_h low high x) = omega arith
d_right k v lo (of_d _ _ x) = x (length_shown 10 3 v)

module _ (t : Told) (program : List ℕ) where
  -- checks 1 and 2
  none_2 : Begun t → length (characters t) ≤ 32 → None t program 2
  none_2 b few =
      let three = b.three in
      passing t program no_command (passing t program too_short (none_yet place (Says t program)) λ s. omega arith) (is_begun t b few)

  module _ (k : ℕ) (sent : List ℕ) (w : Writes t k sent) (few : length sent ≤ 15) where
    only : (j : ℕ) (x : List ℕ) → Writes t j x → (j ≡ k) × (x ≡ sent)
    only j x y = let f = writes_found t w in let e = same_write t f.1 y in (e.0, e.1 ∙ f.2)

    -- checks 3 and 4
    none_4 : (k ≢ 209 → k ≢ 210 → t.run.on ≡ false) → None t program 4
    none_4 off =
        passing t program locked (passing t program no_address (none_2 (write_begun t w) (write_few t w few)) (λ s. (s k sent).1 w)) λ s.
        let e = (only s.1.0 s.1.1 s.1.2).0 in
        true≢false (sym s.0 ∙ off (λ z. s.1.3 (e ∙ z)) (λ z. s.1.4 (e ∙ z)))

    -- and the others, of an address that is not 210
    none_elsewhere : k ≢ 210 → (k ≢ 209 → k ≢ 210 → t.run.on ≡ false) → (WrongLength k sent → ⊥) → InFormat k sent → None t program 12
    none_elsewhere ne off right is =
        let r = (writes_found t w).0 in
        elsewhere t program (write_begun t w) r k sent w only (none_4 off) ne (none_6 t program (write_begun t w) r k sent w only (none_4 off) right is)

  -- The sentence at the top.
  pub written_none : (s : Said) → IsWritten t s → Allows t program s → None t program 12
  written_none silence x a = absurd x
  written_none (reads k) r a =
      let f = reads_found t r in
      passing t program bad_line (read_none t program (read_begun t r) f.0 k r (none_2 (read_begun t r) (read_few t r))) λ s.
      let e = (same_read t f.1 s.2).0 in
      a (rw e at s.1) (rw e at s.3)
  written_none (writes_line k l) x a =
      let le = x.0 in
      none_elsewhere k (line_text l) x.2 (text_length l) (λ z. omega arith) (λ _ _. a) (line_right k l x.1 le) (a_line le l x.1 refl)
  written_none (writes_outputs k v) x a =
      let hi = x.1 in
      none_elsewhere k (h v) x.3 (omega (arith, length_shown 16 2 v)) (λ z. omega arith) (λ _ _. a) (h_right k v x.0 hi) (an_h x.0 hi v x.2 refl)
  written_none (writes_parameter v) x a =
      none_elsewhere 209 (d v) x.1 (omega (arith, length_shown 10 3 v)) (λ z. omega arith) (λ ne _. absurd (ne refl)) (d_right 209 v (omega arith))
      (a_d (omega arith) (omega arith) v x.0 refl)
  written_none (gives n) x a =
      let w = x.2 in
      let hi = x.1 in
      let r = (writes_found t w).0 in
      let b = write_begun t w in
      let few : length (d n) ≤ 15 = omega (arith, length_shown 10 3 n) in
      let one = only 210 (d n) w few in
      let n4 = none_4 210 (d n) w few (λ _ ne. absurd (ne refl)) in
      given_none t program 210 n refl (omega arith) w (λ m le y. d_same m n le (omega arith) (one 210 (d m) y).1)
      (none_6 t program b r 210 (d n) w one n4 (d_right 210 n (omega arith)) (a_d (omega arith) (omega arith) n (omega arith) refl))
      (none_12 t program b r 210 (d n) w one n4) x.0 hi a

  -- a read of a Bad line: E024 and no other error
  pub bad_first : (k : ℕ) → Reads t k [] → k ≤ 199 → line_at program k ≡ Bad → First t program bad_line
  bad_first k r le bad =
      record { says = (k, le, r, bad); none_before = read_none t program (read_begun t r) (reads_found t r).0 k r (none_2 (read_begun t r) (read_few t r)) }

-- ---- I or D that names no address: E004 and no other error

module _ (t : Told) (program address more : List ℕ) (step : IsStep address) where
  -- I or D makes three characters, and is an address for check 2
  step_begun : (y : ℕ) → (eqb y (code "R") || eqb y (code "W")) ≡ true → characters t ≡ 67 ∷ y ∷ (address ++ more) → Begun t
  unfolding text
  step_begun y is e = go step
    where
      go : IsStep address → Begun t
      go (inl i) = subst BegunBy (sym (e ∙ ap (λ x. 67 ∷ y ∷ (x ++ more)) i)) (record { three = omega arith; c = refl; kind = is; has = refl })
      go (inr j) = subst BegunBy (sym (e ∙ ap (λ x. 67 ∷ y ∷ (x ++ more)) j)) (record { three = omega arith; c = refl; kind = is; has = refl })

  differ : {k i : ℕ} {r : Res ℕ} → r ≡ passed k → r ≡ refused i → ⊥
  differ p q = not_passed (sym q ∙ p)

  pub no_read_first : t.next_read ≤ 217 → length (characters t) ≤ 32 → characters t ≡ text "CR" ++ (address ++ more) → NamesNone t.next_read address
      → First t program no_address
  unfolding text
  no_read_first low few e none =
      record {
        says = λ k x. (
          λ r. differ (reads_found t r).1 (ap (address_in t.next_read) e ∙ unnamed 67 82 t.next_read more low address step none),
          no_writes t (ap is_read e),
        );
        none_before = none_2 t program (step_begun 82 refl e) few;
      }

  pub no_write_first : t.next_write ≤ 217 → length (characters t) ≤ 32 → characters t ≡ text "CW" ++ (address ++ more) → NamesNone t.next_write address
      → First t program no_address
  unfolding text
  no_write_first low few e none =
      record {
        says = λ k x. (
          no_reads t (ap is_read e),
          λ w. differ (writes_found t w).1 (ap (address_in t.next_write) e ∙ unnamed 67 87 t.next_write more low address step none),
        );
        none_before = none_2 t program (step_begun 87 refl e) few;
      }
