-- The reader reads what the text says, and tells what is wrong with it, and nothing else.
-- Assumes nothing.
use mathlib.Core.Path.{◌≡◌, refl, sym, ap, subst, ◌∙◌}
use Prim.Native.Nat.{ℕ, suc, ◌+◌, ◌-◌, ◌≤◌, ◌<◌, min}
use native.Mathlib.Omega.{arith}
use mathlib.Core.Bool.{Bool, true, false, true≢false}
use mathlib.Core.List.{List, [], ◌∷◌}
use lib.ListN.{length-append}
use lib.Dec.{eqb}
use Rattle.std.specs.Prelude.{Option, None, Some, is_some}
use Rattle.formats.proofs.Checks.{if_case}
use Rattle.plantext.specs.declared.Fault.{Fault}
use Rattle.plantext.specs.declared.Reader.{Reader}
use Rattle.plantext.specs.Text.{OnLine, nothing, move, line_of, Says, last, line}
use Rattle.plantext.specs.Faults.{Wrong, last as last_wrong, here, later}
use Rattle.plantext.specs.Kept.{most_line}
use Rattle.plantext.specs.Reading.{with_cr, line_after, closed, letter, line_end, resolved, byte_after, step, fed, ended, reader_of}
use Rattle.plantext.specs.AtEnd.{IsRead, Said, IsTold, IsWrong, Fours}
use Rattle.plantext.proofs.Walking.{at, letters}
use Rattle.plantext.proofs.Closing.{Closes, right_line, Told, told_some, told_closed, wrong_line}
use Rattle.plantext.proofs.LineEnds.{line_read_lem, last_read}
use Rattle.plantext.proofs.Storing.{put_all, put_then, kept_put}
use Rattle.plantext.proofs.Judging.{JudgedText, says, fails, judged_text}

-- ---- a line and its end

right_end : (st : List ℕ) (n : ℕ) (r : Reader) → Closes r st n → line_end r ≡ at st (line_after n) 0
unfolding line_end
right_end st n r c = rw c.is

told_end : (r : Reader) {e : Fault} {n : ℕ} → Told (closed r) e n → Told (line_end r) e n
unfolding line_end
told_end r t = rw (told_some t) t

-- ---- what the text says

-- at the end of the text: no fault, and these numbers are stored
record Reads (r : Reader) (st : List ℕ) : Type 0 where
  pub fault : r.fault ≡ None
  pub numbers : r.numbers.items ≡ st

ended_reads : (st : List ℕ) (n : ℕ) (r : Reader) → Closes (resolved r) st n → Reads (ended r) st
unfolding ended
ended_reads st n r c = rw c.is (record { fault = refl; numbers = refl })

says_read : (st : List ℕ) (n : ℕ) {t ns : List ℕ} → Says t ns → Reads (ended (fed (at st n 0) t)) (put_all st ns)
says_read st n (last l ns are is) =
    ended_reads (put_all st ns) n (fed (at st n 0) l) (rw (last_read l (at st n 0) refl are) (right_line st n is))
says_read st n (line l t ns ms are is rest) =
    rw (
      line_read_lem l t (at st n 0) refl are,
      right_end (put_all st ns) n (letters (at st n 0) (line_of l)) (right_line st n is),
      put_then st ns ms,
    )
    (says_read (put_all st ns) (line_after n) rest)

line_fours : {l ns : List ℕ} → OnLine l ns → Fours ns
line_fours (nothing b c are rest) = record { moves = 0; many = refl }
line_fours (move b₀ w b₁ s b₂ v b₃ r b₄ c x y z u are₀ is₀ are₁ is₁ are₂ is₂ are₃ is₃ are₄ rest) = record { moves = 1; many = refl }

pub fours : {t ns : List ℕ} → Says t ns → Fours ns
fours (last l ns are is) = line_fours is
fours (line l t ns ms are is rest) =
    let one = line_fours is in
    let more = fours rest in
    record { moves = one.moves + more.moves; many = omega (arith, length-append ns ms, one.many, more.many) }

-- What the text says is read.
pub said_so_read : (t ns : List ℕ) → Says t ns → IsRead (reader_of t) ns
unfolding reader_of
said_so_read t ns s =
    let end = says_read [] 1 s in
    record { fault = end.fault; numbers = end.numbers ∙ kept_put ns }

-- ---- what is wrong with it

told_ended : (r : Reader) {e : Fault} {n : ℕ} → Told (closed (resolved r)) e n → Told (ended r) e n
unfolding ended
told_ended r t = t

told_cr : {r : Reader} {e : Fault} {n : ℕ} (b : Bool) → Told r e n → Told (with_cr b r) e n
told_cr b t = record { fault = t.fault; line = t.line }

told_letter : {r : Reader} {e : Fault} {n : ℕ} (c : ℕ) → Told r e n → Told (letter c r) e n
unfolding letter
told_letter c t = rw (told_some t) t

told_resolved : {r : Reader} {e : Fault} {n : ℕ} → Told r e n → Told (resolved r) e n
unfolding resolved
told_resolved {r} {e} {n} t = if_case (λ q. Told q e n) r.cr (λ _. told_letter 13 (told_cr false t)) (λ _. t)

told_step : {r : Reader} {e : Fault} {n : ℕ} (x : ℕ) → Told r e n → Told (step x r) e n
unfolding step byte_after
told_step {r} {e} {n} x t =
    let after = told_resolved t in
    if_case (λ q. Told q e n) (eqb x 10) (λ _. told_end (with_cr false r) (told_closed (told_cr false t))) λ _.
    if_case (λ q. Told q e n) (eqb x 13) (λ _. told_cr true after) (λ _. told_letter x after)

-- a fault stays, whatever follows
fault_fed : (t : List ℕ) {r : Reader} {e : Fault} {n : ℕ} → Told r e n → Told (ended (fed r t)) e n
unfolding fed
fault_fed [] {r} t = told_ended r (told_closed (told_resolved t))
fault_fed (x ∷ xs) t = fault_fed xs (told_step x t)

some_line : {t : List ℕ} {m : ℕ} {e : Fault} → Wrong t m e → 0 < m
some_line (last_wrong l e are is) = omega arith
some_line (here l t e are is) = omega arith
some_line (later l t ns n e are is rest) = omega arith

wrong_told : (st : List ℕ) (n : ℕ) {t : List ℕ} {m : ℕ} {e : Fault} → n ≤ most_line → Wrong t m e
    → Told (ended (fed (at st n 0) t)) e (min (n + (m - 1)) most_line)
wrong_told st n le (last_wrong l e are is) =
    let same : n ≡ min (n + (1 - 1)) most_line = omega (arith, le) in
    let r : Reader = fed (at st n 0) l in
    subst (Told (ended r) e) same (told_ended r (rw (last_read l (at st n 0) refl are) (wrong_line st n is)))
wrong_told st n le (here l t e are is) =
    let same : n ≡ min (n + (1 - 1)) most_line = omega (arith, le) in
    let r : Reader = letters (at st n 0) (line_of l) in
    rw (line_read_lem l t (at st n 0) refl are) (subst (Told (ended (fed (line_end r) t)) e) same (fault_fed t (told_end r (wrong_line st n is))))
wrong_told st n le (later l t ns m e are is rest) =
    let same : min (line_after n + (m - 1)) most_line ≡ min (n + (suc m - 1)) most_line = omega (arith, some_line rest) in
    rw (line_read_lem l t (at st n 0) refl are, right_end (put_all st ns) n (letters (at st n 0) (line_of l)) (right_line st n is))
    (subst (Told (ended (fed (at (put_all st ns) (line_after n) 0) t)) e) same (wrong_told (put_all st ns) (line_after n) (omega arith) rest))

begun_told : {t : List ℕ} {n : ℕ} {e : Fault} → Wrong t n e → Told (reader_of t) e (min (1 + (n - 1)) most_line)
unfolding reader_of
begun_told w = wrong_told [] 1 (omega arith) w

-- What is wrong is told.
pub wrong_so_told : (t : List ℕ) (n : ℕ) (e : Fault) → Wrong t n e → IsTold (reader_of t) n e
wrong_so_told t n e w =
    let told = begun_told w in
    record { fault = told.fault; line = told.line ∙ omega (arith, some_line w) }

-- ---- and nothing else

no_fault : {r : Reader} {e : Fault} {n : ℕ} → Told r e n → r.fault ≡ None → ⊥
no_fault t none = true≢false (sym (told_some t) ∙ ap is_some none)

-- No text both says numbers and is wrong.
pub not_both : (t ns : List ℕ) (n : ℕ) (e : Fault) → Says t ns → Wrong t n e → ⊥
not_both t ns n e s w = no_fault (begun_told w) (said_so_read t ns s).fault

-- What is read without a fault is what the text says.
pub read_so_said : (t : List ℕ) → (reader_of t).fault ≡ None → Said t
read_so_said t none = go (judged_text t)
  where
    go : JudgedText t → Said t
    go (says ns s) = record { numbers = ns; says = s; read = said_so_read t ns s }
    go (fails n e w) = absurd (no_fault (begun_told w) none)

-- A fault that is told is wrong with the text, on the line that is told.
pub told_so_wrong : (t : List ℕ) (e : Fault) → (reader_of t).fault ≡ Some e → IsWrong t e
told_so_wrong t e some = go (judged_text t)
  where
    go : JudgedText t → IsWrong t e
    go (says ns s) = absurd (true≢false (sym (ap is_some some) ∙ ap is_some (said_so_read t ns s).fault))
    go (fails n f w) =
        let told = wrong_so_told t n f w in
        let same : ◌≡◌ {A = Option Fault} (Some f) (Some e) = sym told.fault ∙ some in
        let is : f ≡ e = cc in
        record { line = n; wrong = subst (Wrong t n) is w; told = told.line }
