-- Laws of a line on the wire: what is shown is read back, and what is accepted is shown as it was sent.
-- Assumes nothing.
use mathlib.Core.Path.{◌≡◌, refl, sym, ap, ap₂, ◌∙◌}
use Prim.Native.Nat.{ℕ, ◌+◌, ◌^◌, ◌≤◌, ◌<◌}
use Prim.Native.Char.{code}
use mathlib.Core.Bool.{Bool, true, false, true≢false}
use mathlib.Core.List.{List, [], ◌∷◌, ◌++◌, append-nil}
use lib.ListN.{length, take, drop, get_or, length-append, take-append-drop}
use lib.Seq.{drop-drop, drop-cons, drop-length, take_at, drop_at, take_all}
use lib.Dec.{eqb, ltb}
use native.Mathlib.Omega.{arith}
use borrow.Author.Tests.{eqb-true, ltb-true}
use Rattle.formats.specs.Checks.{Res, refused, passed, ◌>>=◌, ◌>>◌, ◌or_else◌, text, Ok}
use Rattle.formats.specs.Digits.{shown, number_in}
use Rattle.formats.proofs.Checks.{if_case, ok_bind, ok_guard, Err, err_bind, err_guard}
use Rattle.formats.proofs.Characters.{length_shown, shown_back, read_shows, read_fits, number_err}
use Rattle.formats.proofs.Parts.{length_part}
use Rattle.lines.specs.declared.Line.{Line}
use Rattle.lines.specs.declared.Line.TheVariants.{State, For, Next, Bad}
use Rattle.formats.specs.Bytes.{part}
use Rattle.lines.specs.Line.{is_counter, is_bad, OneToFour, Fits}
use Rattle.texts.specs.Text.{line_text, line_length, counter_in, state_in, for_in, next_in, line_in, Sent}
use Rattle.lines.proofs.Lines.{fits_good, counter_is, counter_so}

-- ---- parts of the characters

part_and_rest : (from n to : ℕ) (cs : List ℕ) → from + n ≡ to → drop from cs ≡ part from n cs ++ drop to cs
part_and_rest from n to cs e =
    sym (take-append-drop n (drop from cs)) ∙ ap (λ r. part from n cs ++ r) (drop-drop n from cs ∙ ap (λ k. drop k cs) e)

last_part : (from n : ℕ) (cs : List ℕ) → from + n ≡ length cs → drop from cs ≡ part from n cs
last_part from n cs e = part_and_rest from n (length cs) cs e ∙ rw drop-length (append-nil _)

-- a number read from a part: it is shown as that part, and it fits its n characters
record Read (base n : ℕ) (cs : List ℕ) (v : ℕ) : Type 0 where
  shows : shown base n v ≡ cs
  fits : v < base ^ n

module _ (base from n : ℕ) (cs : List ℕ) (pos : 0 < base) (le : base ≤ 16) (inside : from + n ≤ length cs) where
  part_read : Ok (Read base n (part from n cs)) (number_in base 3 (part from n cs))
  part_read = go (number_in base 3 (part from n cs)) (read_shows base pos le 3 (part from n cs)) (read_fits base 3 (part from n cs))
    where
      len : length (part from n cs) ≡ n
      len = length_part from n cs inside

      go : (r : Res ℕ) → Ok (λ v. shown base (length (part from n cs)) v ≡ part from n cs) r → Ok (λ v. v < base ^ length (part from n cs)) r
          → Ok (Read base n (part from n cs)) r
      go (refused e) s f = tt
      go (passed v) s f = record { shows = rw len at s; fits = rw len at f }

record CounterRead (cs : List ℕ) (v : ℕ) : Type 0 where
  read : Read 10 1 cs v
  in_range : is_counter v ≡ true

counter_read : (cs : List ℕ) → 2 ≤ length cs → Ok (CounterRead (part 1 1 cs)) (counter_in (part 1 1 cs))
unfolding counter_in
counter_read cs le =
    ok_bind (CounterRead (part 1 1 cs)) (Read 10 1 (part 1 1 cs)) _ _ (part_read 10 1 1 cs (omega arith) (omega arith) (omega arith)) λ c r.
    ok_guard (CounterRead (part 1 1 cs)) (is_counter c) 3 _ λ e. record { read = r; in_range = e }

-- ---- what is accepted is shown as it was sent

-- the reserved digits
pub zeros : shown 10 2 0 ≡ text "00"
unfolding shown text Rattle.formats.specs.Digits.digits
zeros = refl

module _ (cs : List ℕ) (some : 0 < length cs) where
  begins : {c : ℕ} {rest : List ℕ} → get_or cs 0 0 ≡ c → drop 1 cs ≡ rest → c ∷ rest ≡ cs
  begins e f = sym (drop-cons cs 0 0 some ∙ ap₂ (λ x r. x ∷ r) e f)

  state_sent : get_or cs 0 0 ≡ code "S" → length cs ≡ 15 → Ok (Sent cs) (state_in cs)
  unfolding state_in line_text text
  state_sent c n =
      ok_bind (Sent cs) (Read 10 2 (part 1 2 cs)) _ _ (part_read 10 1 2 cs (omega arith) (omega arith) (omega arith)) λ z hz.
      ok_guard (Sent cs) (eqb z 0) 3 _ λ ez.
      ok_bind (Sent cs) (Read 16 8 (part 3 8 cs)) _ _ (part_read 16 3 8 cs (omega arith) (omega arith) (omega arith)) λ o ho.
      ok_bind (Sent cs) (Read 10 4 (part 11 4 cs)) _ _ (part_read 10 11 4 cs (omega arith) (omega arith) (omega arith)) λ t ht.
      record {
        shows = rw (ho.shows, ht.shows)
            (begins c (part_and_rest 1 2 3 cs refl ∙ ap₂ (λ a b. a ++ b) (sym hz.shows ∙ ap (shown 10 2) (eqb-true z 0 ez) ∙ zeros)
            (part_and_rest 3 8 11 cs refl ∙ ap (λ r. part 3 8 cs ++ r) (last_part 11 4 cs (sym n)))));
        fits = (omega (arith, ho.fits), omega (arith, ht.fits));
      }

  for_sent : get_or cs 0 0 ≡ code "F" → length cs ≡ 6 → Ok (Sent cs) (for_in cs)
  unfolding for_in line_text text
  for_sent c n =
      ok_bind (Sent cs) (CounterRead (part 1 1 cs)) _ _ (counter_read cs (omega arith)) λ k hk.
      ok_bind (Sent cs) (Read 10 4 (part 2 4 cs)) _ _ (part_read 10 2 4 cs (omega arith) (omega arith) (omega arith)) λ m hm.
      record {
        shows = rw (hk.read.shows, hm.shows) (begins c (part_and_rest 1 1 2 cs refl ∙ ap (λ r. part 1 1 cs ++ r) (last_part 2 4 cs (sym n))));
        fits = (counter_is k hk.in_range, omega (arith, hm.fits));
      }

  next_sent : get_or cs 0 0 ≡ code "N" → length cs ≡ 2 → Ok (Sent cs) (next_in cs)
  unfolding next_in line_text text
  next_sent c n =
      ok_bind (Sent cs) (CounterRead (part 1 1 cs)) _ _ (counter_read cs (omega arith)) λ k hk.
      record { shows = rw hk.read.shows (begins c (last_part 1 1 cs (sym n))); fits = counter_is k hk.in_range }

  -- the letter that is left
  is_next_lem : eqb (get_or cs 0 0) (code "S") ≡ false → eqb (get_or cs 0 0) (code "F") ≡ false → 0 < line_length (get_or cs 0 0) → get_or cs 0 0 ≡ code "N"
  is_next_lem e f known = go (eqb (get_or cs 0 0) (code "N")) refl
    where
      go : (t : Bool) → eqb (get_or cs 0 0) (code "N") ≡ t → get_or cs 0 0 ≡ code "N"
      go true g = eqb-true _ _ g
      go false g = let z : 0 < 0 = rw (e, f, g) at known in absurd (omega arith)

-- Every line that the wire accepts is shown in the very characters that were sent, and its values fit.
pub accepted_shows : (cs : List ℕ) → Ok (Sent cs) (line_in cs)
unfolding line_in
accepted_shows cs =
    ok_guard (Sent cs) (ltb 0 (length cs)) 2 _ λ s. ok_guard (Sent cs) (ltb 0 (line_length (get_or cs 0 0))) 3 _ λ known.
    ok_guard (Sent cs) (eqb (length cs) (line_length (get_or cs 0 0))) 2 _ λ l.
    let some = ltb-true 0 (length cs) s in
    let len = eqb-true (length cs) (line_length (get_or cs 0 0)) l in
    if_case (Ok (Sent cs)) (eqb (get_or cs 0 0) (code "S"))
    (λ e. let c = eqb-true (get_or cs 0 0) 83 e in state_sent cs some c (rw c at len)) λ e.
    if_case (Ok (Sent cs)) (eqb (get_or cs 0 0) (code "F"))
    (λ f. let c = eqb-true (get_or cs 0 0) 70 f in for_sent cs some c (rw c at len)) λ f.
    let c = is_next_lem cs some e f (ltb-true 0 _ known) in next_sent cs some c (rw c at len)

-- So no line that the wire accepts is Bad.
pub never_bad : (cs : List ℕ) → Ok (λ l. is_bad l ≡ false) (line_in cs)
never_bad cs = go (line_in cs) (accepted_shows cs)
  where
    go : (r : Res Line) → Ok (Sent cs) r → Ok (λ l. is_bad l ≡ false) r
    go (refused e) s = tt
    go (passed l) s = fits_good l s.fits

-- ---- what every line's characters are like

-- they are at most fifteen
pub text_length : (l : Line) → length (line_text l) ≤ 15
unfolding line_text text
text_length (State o t) = simp (length-append, length_shown) (omega arith)
text_length (For c n) = simp (length-append, length_shown) (omega arith)
text_length (Next c) = simp length_shown (omega arith)
text_length Bad = omega arith

-- and do not begin with E, whatever follows them
pub no_error : (l : Line) (r : List ℕ) → is_bad l ≡ false → eqb (get_or (line_text l ++ r) 0 0) (code "E") ≡ false
unfolding line_text text
no_error (State o t) r good = refl
no_error (For c n) r good = refl
no_error (Next c) r good = refl
no_error Bad r good = absurd (true≢false good)

-- ---- what is shown is read back

whole : (base n v : ℕ) → take n (shown base n v) ≡ shown base n v
whole base n v = take_all n _ (omega (arith, length_shown base n v))

-- two numbers side by side
module _ (base₁ base₂ m n x y : ℕ) where
  first_of_two : take m (shown base₁ m x ++ shown base₂ n y) ≡ shown base₁ m x
  first_of_two = take_at _ (shown base₂ n y) m (length_shown base₁ m x)

  second_of_two : take n (drop m (shown base₁ m x ++ shown base₂ n y)) ≡ shown base₂ n y
  second_of_two = rw (drop_at (shown base₁ m x) (shown base₂ n y) m (length_shown base₁ m x)) (whole base₂ n y)

counter_back : (c : ℕ) → OneToFour c → counter_in (shown 10 1 c) ≡ passed c
unfolding counter_in ◌>>=◌ ◌>>◌ ◌or_else◌
counter_back c x = rw (shown_back 10 (omega arith) (omega arith) 3 1 c (omega (arith, x.1)), counter_so c x)

decimal_back : (n v : ℕ) → v < 10 ^ n → number_in 10 3 (shown 10 n v) ≡ passed v
decimal_back n v lt = shown_back 10 (omega arith) (omega arith) 3 n v lt

zeros_back : number_in 10 3 (text "00") ≡ passed 0
zeros_back = rw (← zeros) (decimal_back 2 0 (omega arith))

-- Every line whose values fit is accepted in the characters that show it: no box that refuses all meets this.
pub text_accepted : (l : Line) → Fits l → line_in (line_text l) ≡ passed l
unfolding line_in line_text state_in for_in next_in text ◌>>=◌ ◌>>◌ ◌or_else◌
text_accepted (State o t) f =
    let len : length (shown 16 8 o ++ shown 10 4 t) ≡ 12 = simp (length-append, length_shown) in
    let z : number_in 10 3 (48 ∷ 48 ∷ []) ≡ passed 0 = zeros_back in
    rw (
      len,
      z,
      first_of_two 16 10 8 4 o t,
      shown_back 16 (omega arith) (omega arith) 3 8 o (omega (arith, f.0)),
      second_of_two 16 10 8 4 o t,
      decimal_back 4 t (omega (arith, f.1)),
    )
text_accepted (For c n) f =
    let len : length (shown 10 1 c ++ shown 10 4 n) ≡ 5 = simp (length-append, length_shown) in
    rw (len, first_of_two 10 10 1 4 c n, counter_back c f.0, second_of_two 10 10 1 4 c n, decimal_back 4 n (omega (arith, f.1)))
text_accepted (Next c) f = rw (length_shown 10 1 c, whole 10 1 c, counter_back c f)
text_accepted Bad f = absurd f

-- ---- the errors of characters that are no line

module _ (P : ℕ → Type 0) (three : P 3) where
  counter_err : (cs : List ℕ) → Err P (counter_in cs)
  unfolding counter_in
  counter_err cs = err_bind P (number_in 10 3 cs) _ (number_err P 10 3 three cs) λ c _. err_guard P (is_counter c) 3 _ (λ _. three) λ _. tt

  pub state_err : (cs : List ℕ) → Err P (state_in cs)
  unfolding state_in
  state_err cs =
      err_bind P (number_in 10 3 (part 1 2 cs)) _ (number_err P 10 3 three _) λ reserved _. err_guard P (eqb reserved 0) 3 _ (λ _. three) λ _.
      err_bind P (number_in 16 3 (part 3 8 cs)) _ (number_err P 16 3 three _) λ outputs _.
      err_bind P (number_in 10 3 (part 11 4 cs)) _ (number_err P 10 3 three _) λ time _. tt

  pub for_err : (cs : List ℕ) → Err P (for_in cs)
  unfolding for_in
  for_err cs =
      err_bind P (counter_in (part 1 1 cs)) _ (counter_err _) λ counter _.
      err_bind P (number_in 10 3 (part 2 4 cs)) _ (number_err P 10 3 three _) λ count _. tt

  pub next_err : (cs : List ℕ) → Err P (next_in cs)
  unfolding next_in
  next_err cs = err_bind P (counter_in (part 1 1 cs)) _ (counter_err _) λ counter _. tt
