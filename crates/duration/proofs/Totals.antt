-- Laws of the grand total: kept up to one more than is told, it tells the same.
-- Assumes nothing.
use Prim.Native.Nat.{ℕ, ◌+◌, ◌≤◌, ◌<◌}
use native.Mathlib.Omega.{arith}
use mathlib.Core.Path.{◌≡◌, refl, sym, ap, ◌∙◌}
use mathlib.Core.Bool.{Bool, true, false}
use mathlib.Core.List.{List, [], ◌∷◌, ◌++◌}
use lib.Dec.{leb}
use borrow.Author.Tests.{leb-true, leb-false, le-leb, lt-leb}
use Rattle.formats.specs.Checks.{refused, passed, ◌>>◌, ◌or_else◌}
use Rattle.duration.specs.Report.{report}
use Rattle.duration.specs.Total.{most_total, adds, grand_total, told_total, capped_total}
use Rattle.duration.proofs.Capping.{capped_small, capped_large, capped_left}

-- "a refused program adds nothing"
pub adds_none : (e : ℕ) → adds (refused e) ≡ 0
adds_none e = refl

pub adds_own : (n : ℕ) → adds (passed n) ≡ n
adds_own n = refl

-- the grand total: of none 0, and with one program more
pub total_none : grand_total [] ≡ 0
unfolding grand_total
total_none = refl

module _ (p : List ℕ) (ps : List (List ℕ)) where
  pub total_takes : (n : ℕ) → report p ≡ passed n → grand_total (p ∷ ps) ≡ n + grand_total ps
  unfolding grand_total
  total_takes n is = rw is

  pub total_refused : (e : ℕ) → report p ≡ refused e → grand_total (p ∷ ps) ≡ grand_total ps
  unfolding grand_total
  total_refused e is = rw is (let z : 0 + grand_total ps ≡ grand_total ps = omega arith in z)

-- of none, as it is kept
pub none_kept : capped_total (grand_total []) ≡ 0
none_kept = ap capped_total total_none ∙ capped_small most_total 0 (omega arith)

-- with one program more at the end
total_last : (ps : List (List ℕ)) (p : List ℕ) → grand_total (ps ++ (p ∷ [])) ≡ grand_total ps + adds (report p)
unfolding grand_total
total_last [] p = omega arith
total_last (q ∷ qs) p = omega (arith, total_last qs p)

-- and so as it is kept
pub total_more : (ps : List (List ℕ)) (p : List ℕ)
    → capped_total (capped_total (grand_total ps) + adds (report p)) ≡ capped_total (grand_total (ps ++ (p ∷ [])))
total_more ps p = capped_left most_total (grand_total ps) (adds (report p)) ∙ ap capped_total (sym (total_last ps p))

-- more than is told
pub refused_over : (m : ℕ) → most_total < m → told_total m ≡ refused 43
unfolding told_total ◌>>◌ ◌or_else◌
refused_over m lt = rw (lt-leb m most_total lt)

-- and as much as is told
pub passed_well : (m : ℕ) → m ≤ most_total → told_total m ≡ passed m
unfolding told_total ◌>>◌ ◌or_else◌
passed_well m le = rw (le-leb m most_total le)

-- what is kept tells what the grand total tells
pub total_told : (n : ℕ) → told_total (capped_total n) ≡ told_total n
total_told n = go (leb n most_total) refl
  where
    go : (t : Bool) → leb n most_total ≡ t → told_total (capped_total n) ≡ told_total n
    go true e = ap told_total (capped_small most_total n (omega (arith, leb-true n most_total e)))
    go false e =
        let lt = leb-false n most_total e in
        ap told_total (capped_large most_total n (omega arith)) ∙ refused_over (most_total + 1) (omega arith) ∙ sym (refused_over n lt)
