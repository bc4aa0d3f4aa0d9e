-- Check 7 of a command finds what the sentences say of its code: E003, E020 to E023, or the special command.
-- Assumes nothing.
use mathlib.Core.Path.{◌≡◌, refl, sym, ap, subst, ◌∙◌}
use mathlib.Core.Logic.{◌≢◌, ◌⊎◌, inl, inr, ⊎_elim}
use Prim.Native.Nat.{ℕ, ◌≤◌, ◌<◌}
use native.Mathlib.Omega.{arith}
use mathlib.Core.Bool.{Bool, true, false, not, ◌&&◌, ◌||◌, true≢false}
use mathlib.Core.List.{List, []}
use lib.Dec.{leb}
use borrow.Author.Tests.{leb-true, leb-false}
use Rattle.formats.specs.Checks.{Res, refused, passed, ◌>>=◌, ◌>>◌, ◌or_else◌}
use Rattle.formats.specs.Digits.{d}
use Rattle.formats.proofs.Checks.{below, ok_at, err_at}
use Rattle.special.specs.declared.Special.{Special}
use Rattle.special.specs.declared.Special.TheVariants.{Stop, Pause, Start, Continue, StartAt, Execute, Load, Save}
use Rattle.special.specs.Special.{mode_of, forbidden, code_of, special_of}
use Rattle.special.proofs.Codes.{code_named, code_err, code_low, code_high}
use Rattle.wire.specs.declared.Data.{Data}
use Rattle.wire.specs.declared.Data.TheVariants.{WriteSpecial}
use Rattle.wire.specs.declared.Asked.{Asked}
use Rattle.wire.specs.declared.Asked.TheVariants.{Read, Write}
use Rattle.wire.specs.Command.{special_now}
use Rattle.demands.specs.Said.{Said, gives}
use Rattle.demands.specs.Told.{Told}
use Rattle.demands.specs.Commands.{Reads, Writes, IsWritten, NeedsStop, MayGive, Allows, Error, no_code, needs_stop, needs_pause, needs_run, out_of_reach}
use Rattle.demands.specs.Commands.{Says, place, number}
use Rattle.demands.proofs.History.Agrees.{Hears, a_special}
use Rattle.demands.proofs.Calls.Sentences.{None, passing}

-- what the checks answer
pub data Checked (t : Told) (program : List ℕ) : Res Asked → Type 0 where
  an_error : (e : Error) → Says t program e → None t program (place e) → Checked t program (refused (number e))
  to_read : (k : ℕ) → Reads t k [] → None t program 11 → Checked t program (passed (Read k))
  to_write : (k : ℕ) (x : Data) (s : Said) → Hears (passed (Write k x)) s → IsWritten t s → Allows t program s → None t program 12
      → Checked t program (passed (Write k x))

-- a number that is no code names nothing, and every code names something
abbrev is_named : Res Special → Bool
is_named (refused e) = false
is_named (passed s) = true

no_code_lem : (v e : ℕ) → v ≤ 255 → special_of v ≡ refused e → (v ≡ 0) ⊎ (8 < v)
unfolding special_of
no_code_lem v e small is = go (leb 1 v) refl (leb v 8) refl
  where
    go : (a : Bool) → leb 1 v ≡ a → (b : Bool) → leb v 8 ≡ b → (v ≡ 0) ⊎ (8 < v)
    go false a b b' = let lt = leb-false 1 v a in inl (omega arith)
    go true a false b = inr (leb-false v 8 b)
    go true a true b =
        let named : (not (leb 1 v && leb v 8) || is_named (special_of v)) ≡ true =
        below (λ j. not (leb 1 j && leb j 8) || is_named (special_of j)) 256 refl v (omega arith) in
        absurd (true≢false (sym (rw (a, b) at named) ∙ ap is_named is))

-- a write of the code v to 210, and of no other
module _ (t : Told) (program : List ℕ) (k v : ℕ) (is : k ≡ 210) (small : v ≤ 255) (w : Writes t 210 (d v))
    (only : (n : ℕ) → n ≤ 255 → Writes t 210 (d n) → n ≡ v) (n6 : None t program 6) (last : None t program 11 → None t program 12) where
  abbrev on : Bool
  on = t.run.on

  -- which of 003 and 005-008 are needed in words of v
  needed : (n : ℕ) → NeedsStop n → Writes t 210 (d n) → NeedsStop v
  needed n (inl e) x = inl (sym (only n (omega arith) x) ∙ e)
  needed n (inr p) x = let lo = p.0 in let hi = p.1 in let z = only n (omega arith) x in inr (omega arith, omega arith)

  no_need : v ≢ 3 → v < 5 → NeedsStop v → ⊥
  no_need ne lt (inl e) = ne e
  no_need ne lt (inr p) = let lo = p.0 in omega arith

  module _ (lo : 1 ≤ v) (hi : v ≤ 8) where
    n7 : None t program 7
    n7 = passing t program no_code n6 λ s.
        let z = only s.0 s.1 s.2 in ⊎_elim (λ e. omega arith) (λ lt. omega arith) s.3

    n8 : (NeedsStop v → on ≡ false) → None t program 8
    n8 off = passing t program needs_stop n7 λ s. true≢false (sym s.0 ∙ off (needed s.1.0 s.1.1 s.1.2))

    n9 : (NeedsStop v → on ≡ false) → (v ≡ 4 → (on ≡ true) × (t.paused ≡ true)) → None t program 9
    n9 off pause = passing t program needs_pause (n8 off) λ s.
        let p = pause (sym (only 4 (omega arith) s.0)) in
        ⊎_elim (λ e. true≢false (sym p.0 ∙ e)) (λ e. true≢false (sym p.1 ∙ e)) s.1

    n10 : (NeedsStop v → on ≡ false) → (v ≡ 4 → (on ≡ true) × (t.paused ≡ true)) → (v ≡ 2 → on ≡ true) → None t program 10
    n10 off pause run = passing t program needs_run (n9 off pause) λ s. true≢false (sym (run (sym (only 2 (omega arith) s.0))) ∙ s.1)

    -- it is given
    pub given_none : MayGive t v → None t program 12
    given_none may =
        last (passing t program out_of_reach (n10 may.stop may.pause may.run) λ x.
        ⊎_elim (λ y. let le = may.start_at (sym (only 5 (omega arith) y.0)) in let lt = y.1 in omega arith)
        (λ y. let le = may.execute (sym (only 6 (omega arith) y.0)) in let lt = y.1 in omega arith) x)

    given : (s : Special) → code_of s ≡ v → MayGive t v → Checked t program (passed (Write k (WriteSpecial s)))
    given s code may =
        to_write k (WriteSpecial s) (gives v) (subst (λ n. Hears (passed (Write k (WriteSpecial s))) (gives n)) code (rw is (a_special s))) (lo, hi, w) may
        (given_none may)

    -- E020 to E023
    e020 : on ≡ true → NeedsStop v → Checked t program (refused 20)
    e020 runs needs = an_error needs_stop (runs, (v, needs, w)) n7

    e021 : v ≡ 4 → (on ≡ false) ⊎ (t.paused ≡ false) → Checked t program (refused 21)
    e021 four no-pause =
        an_error needs_pause (subst (λ n. Writes t 210 (d n)) four w, no-pause) (n8 λ n. absurd (no_need (λ z. omega arith) (omega arith) n))

    e022 : v ≡ 2 → on ≡ false → Checked t program (refused 22)
    e022 two off = an_error needs_run (subst (λ n. Writes t 210 (d n)) two w, off) (n9 (λ _. off) λ z. absurd (omega arith))

    e023 : on ≡ false → 5 ≤ v → (Writes t 210 (d 5) × (199 < t.parameter)) ⊎ (Writes t 210 (d 6) × (200 < t.parameter)) → Checked t program (refused 23)
    e023 off five far = an_error out_of_reach far (n10 (λ _. off) (λ z. absurd (omega arith)) λ z. absurd (omega arith))

    -- what may be given while no program runs, and while one does
    while_off : on ≡ false → v ≢ 2 → v ≢ 4 → (v ≡ 5 → t.parameter ≤ 199) → (v ≡ 6 → t.parameter ≤ 200) → MayGive t v
    while_off off two four five six =
        record { stop = λ _. off; pause = λ z. absurd (four z); run = λ z. absurd (two z); start_at = five; execute = six }

    while_on : on ≡ true → v ≢ 3 → v < 5 → (v ≡ 4 → t.paused ≡ true) → MayGive t v
    while_on runs three five pause =
        record {
          stop = λ n. absurd (no_need three five n);
          pause = λ z. (runs, pause z);
          run = λ _. runs;
          start_at = λ z. absurd (omega arith);
          execute = λ z. absurd (omega arith);
        }

    abbrev Answers : Res Data → Type 0
    Answers r = Checked t program (r >>= (λ x. passed (Write k x)))

    reached : (most code : ℕ) (s : Special) → code_of s ≡ v → on ≡ false → (b : Bool) → leb t.parameter most ≡ b
        → ((t.parameter ≤ most) → MayGive t v) → (most < t.parameter → Checked t program (refused 23))
        → Answers ((b or_else 23) >> passed (WriteSpecial s))
    unfolding ◌>>=◌ ◌>>◌ ◌or_else◌
    reached most code s c off true e may far = given s c (may (leb-true _ _ e))
    reached most code s c off false e may far = far (leb-false _ _ e)

    off_now : on ≡ false → (s : Special) → code_of s ≡ v → Answers (special_now (mode_of false t.paused) t.parameter s)
    unfolding forbidden ◌>>=◌ ◌>>◌ ◌or_else◌
    off_now o Stop c = given Stop c (while_off o (λ z. omega arith) (λ z. omega arith) (λ z. absurd (omega arith)) λ z. absurd (omega arith))
    off_now o Pause c = e022 (sym c) o
    off_now o Start c = given Start c (while_off o (λ z. omega arith) (λ z. omega arith) (λ z. absurd (omega arith)) λ z. absurd (omega arith))
    off_now o Continue c = e021 (sym c) (inl o)
    off_now o StartAt c =
        reached 199 5 StartAt c o (leb t.parameter 199) refl
        (λ le. while_off o (λ z. omega arith) (λ z. omega arith) (λ _. le) λ z. absurd (omega arith))
        (λ lt. e023 o (omega arith) (inl (subst (λ n. Writes t 210 (d n)) (sym c) w, lt)))
    off_now o Execute c =
        reached 200 6 Execute c o (leb t.parameter 200) refl
        (λ le. while_off o (λ z. omega arith) (λ z. omega arith) (λ z. absurd (omega arith)) λ _. le)
        (λ lt. e023 o (omega arith) (inr (subst (λ n. Writes t 210 (d n)) (sym c) w, lt)))
    off_now o Load c = given Load c (while_off o (λ z. omega arith) (λ z. omega arith) (λ z. absurd (omega arith)) λ z. absurd (omega arith))
    off_now o Save c = given Save c (while_off o (λ z. omega arith) (λ z. omega arith) (λ z. absurd (omega arith)) λ z. absurd (omega arith))

    on_now : on ≡ true → (p : Bool) → t.paused ≡ p → (s : Special) → code_of s ≡ v → Answers (special_now (mode_of true p) t.parameter s)
    unfolding forbidden ◌>>=◌ ◌>>◌ ◌or_else◌
    on_now o true p Stop c = given Stop c (while_on o (λ z. omega arith) (omega arith) λ _. p)
    on_now o true p Pause c = given Pause c (while_on o (λ z. omega arith) (omega arith) λ _. p)
    on_now o true p Start c = e020 o (inl (sym c))
    on_now o true p Continue c = given Continue c (while_on o (λ z. omega arith) (omega arith) λ _. p)
    on_now o true p StartAt c = e020 o (inr (omega arith, omega arith))
    on_now o true p Execute c = e020 o (inr (omega arith, omega arith))
    on_now o true p Load c = e020 o (inr (omega arith, omega arith))
    on_now o true p Save c = e020 o (inr (omega arith, omega arith))
    on_now o false p Stop c = given Stop c (while_on o (λ z. omega arith) (omega arith) λ z. absurd (omega arith))
    on_now o false p Pause c = given Pause c (while_on o (λ z. omega arith) (omega arith) λ z. absurd (omega arith))
    on_now o false p Start c = e020 o (inl (sym c))
    on_now o false p Continue c = e021 (sym c) (inr p)
    on_now o false p StartAt c = e020 o (inr (omega arith, omega arith))
    on_now o false p Execute c = e020 o (inr (omega arith, omega arith))
    on_now o false p Load c = e020 o (inr (omega arith, omega arith))
    on_now o false p Save c = e020 o (inr (omega arith, omega arith))

  -- The sentence at the top.
  pub code_checked : Checked t program ((special_of v >>= special_now (mode_of on t.paused) t.parameter) >>= (λ x. passed (Write k x)))
  unfolding ◌>>=◌
  code_checked = go (special_of v) refl
    where
      at_mode : (s : Special) → code_of s ≡ v → (o : Bool) → on ≡ o
          → Checked t program (special_now (mode_of o t.paused) t.parameter s >>= (λ x. passed (Write k x)))
      at_mode s c false o = off_now (subst (λ n. 1 ≤ n) c (code_low s)) (subst (λ n. n ≤ 8) c (code_high s)) o s c
      at_mode s c true o = on_now (subst (λ n. 1 ≤ n) c (code_low s)) (subst (λ n. n ≤ 8) c (code_high s)) o t.paused refl s c

      go : (r : Res Special) → special_of v ≡ r → Checked t program ((r >>= special_now (mode_of on t.paused) t.parameter) >>= (λ x. passed (Write k x)))
      go (refused e) f =
          rw (err_at (λ i. i ≡ 3) (code_err (λ i. i ≡ 3) refl v) f) (an_error no_code (v, small, w, no_code_lem v e small f) n6)
      go (passed s) f = at_mode s (ok_at (λ z. code_of z ≡ v) (code_named v) f) on refl
