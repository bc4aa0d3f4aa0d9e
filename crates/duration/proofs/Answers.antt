-- The report, check by check: what it answers where the checks before pass, and what the code's own tests say of the checks.
-- Assumes nothing.
use Prim.Native.Nat.{ℕ, ◌≤◌, ◌<◌}
use native.Mathlib.Omega.{arith}
use mathlib.Core.Path.{◌≡◌, refl, sym, ap, ◌∙◌}
use mathlib.Core.Logic.{◌≢◌}
use mathlib.Core.Bool.{Bool, true, false, not}
use mathlib.Core.List.{List}
use lib.ListN.{length}
use Rattle.std.specs.Prelude.{Option, None, Some, IfSome}
use Rattle.std.specs.Option.{unwrap_or}
use lib.Dec.{leb}
use borrow.Author.Tests.{eq-eqb, ne_eqb, lt-ltb, le-ltb, le-leb, lt-leb, leb-true, leb-false}
use Rattle.formats.specs.Checks.{refused, passed, ◌>>◌, ◌or_else◌}
use Rattle.lines.specs.Line.{is_bad}
use Rattle.lines.specs.Program.{line_at}
use Rattle.duration.specs.declared.sums.Sum.{Sum}
use Rattle.lines.specs.Loops.{end_line}
use Rattle.duration.specs.Loops.{is_tangled, ends_inside}
use Rattle.duration.specs.Ticks.{run_ticks, idles_at, idles, has_bad}
use Rattle.duration.specs.Report.{most_ticks, report}
use Rattle.duration.specs.Walk.{is_across_one, walked}
use Rattle.duration.specs.Summing.{capped, sum_of, told_of, Nests}
use Rattle.formats.proofs.Checks.{rule_passes, rule_refuses}
use Rattle.formats.proofs.Refusals.{Before, none_before_lem, one_more}
use Rattle.duration.proofs.Order.{checks, told_at, told_well}
use Rattle.duration.proofs.Faults.{inside_is}
use Rattle.duration.proofs.Walking.{walk_tangled, walk_plain}
use Rattle.lines.proofs.FirstEnd.{end_is}
use Rattle.duration.proofs.Judging.{nests}
use Rattle.duration.proofs.Capping.{capped_small, capped_large}
use Rattle.duration.proofs.Summing.{in_all}

-- what is told of a sum, test by test
module _ (s : Sum) where
  pub idle_told : s.idle ≡ true → told_of s ≡ refused 44
  unfolding told_of ◌>>◌ ◌or_else◌
  idle_told idle = rw idle

  module _ (moves : s.idle ≡ false) where
    pub bad_told : s.bad ≡ true → told_of s ≡ refused 14
    unfolding told_of ◌>>◌ ◌or_else◌
    bad_told bad = rw (moves, bad)

    module _ (good : s.bad ≡ false) where
      pub over_told : most_ticks < s.ticks → told_of s ≡ refused 43
      unfolding told_of ◌>>◌ ◌or_else◌
      over_told more = rw (moves, good, lt-leb s.ticks most_ticks more)

      pub ticks_told : s.ticks ≤ most_ticks → told_of s ≡ passed s.ticks
      unfolding told_of ◌>>◌ ◌or_else◌
      ticks_told few = rw (moves, good, le-leb s.ticks most_ticks few)

pub no_program : (p : List ℕ) → length p ≢ 1600 → report p ≡ refused 30
no_program p ne = told_at p (end_line p) refl 0 30 (none_before_lem (checks p (end_line p))) (rule_refuses 30 (ne_eqb (length p) 1600 ne))

-- the end that was found, if one was
pub end_found : (p : List ℕ) (o : Option ℕ) {e : ℕ} → unwrap_or o 200 ≡ end_line p → IfSome o (λ n. n < 200) → o ≡ Some e → (e ≡ end_line p) × (e < 200)
end_found p o is within some = (sym (ap (λ x. unwrap_or x 200) some) ∙ is, rw some at within)

pub no_end_found : (p : List ℕ) (o : Option ℕ) → unwrap_or o 200 ≡ end_line p → o ≡ None → 200 ≡ end_line p
no_end_found p o is none = sym (ap (λ x. unwrap_or x 200) none) ∙ is

module _ (p : List ℕ) (size : length p ≡ 1600) (e : ℕ) (is : e ≡ end_line p) where
  before_042 : Before (checks p e) 1
  before_042 = one_more (checks p e) 0 (rule_passes 30 (eq-eqb (length p) 1600 size)) (none_before_lem (checks p e))

  pub no_end : e ≡ 200 → report p ≡ refused 42
  no_end none = told_at p e is 1 42 before_042 (rule_refuses 42 (le-ltb e 200 (omega arith)))

  module _ (ends : e < 200) where
    before_040 : Before (checks p e) 2
    before_040 = one_more (checks p e) 1 (rule_passes 42 (lt-ltb e 200 ends)) before_042

    module _ (w : Option (List (Option ℕ))) (q : w ≡ walked p e) where
      pub tangled : w ≡ None → report p ≡ refused 40
      tangled none = told_at p e is 2 40 before_040 (rule_refuses 40 (ap not (walk_tangled p e (sym q ∙ none))))

      module _ (os : List (Option ℕ)) (some : w ≡ Some os) where
        not_tangled : is_tangled p e ≡ false
        not_tangled = (walk_plain p e os (sym q ∙ some)).0

        before_041 : Before (checks p e) 3
        before_041 = one_more (checks p e) 2 (rule_passes 40 (ap not not_tangled)) before_040

        module _ (b : Bool) (across : b ≡ is_across_one e 200 os) where
          inside_by : ends_inside p e ≡ b
          inside_by = inside_is p e (omega arith) ∙ ap (is_across_one e 200) (sym (walk_plain p e os (sym q ∙ some)).1) ∙ sym across

          pub ends_inside_lem : b ≡ true → report p ≡ refused 41
          ends_inside_lem found = told_at p e is 3 41 before_041 (rule_refuses 41 (ap not (inside_by ∙ found)))

          module _ (outside : b ≡ false) where
            pub nests_so : Nests p 0 e
            nests_so = rw is (nests p (end_line p) (end_is p (rw is at ends)) (rw is at not_tangled) (rw is at (inside_by ∙ outside)))

            before_044 : Before (checks p e) 4
            before_044 = one_more (checks p e) 3 (rule_passes 41 (ap not (inside_by ∙ outside))) before_041

            module _ (s : Sum) (sum : s ≡ sum_of p 0 e) where
              idle_by : s.idle ≡ idles p e
              unfolding sum_of idles
              idle_by = ap (λ (x : Sum). x.idle) sum ∙ in_all (idles_at p) e

              bad_by : s.bad ≡ has_bad p e
              unfolding sum_of has_bad
              bad_by = ap (λ (x : Sum). x.bad) sum ∙ in_all (λ k. is_bad (line_at p k)) e

              ticks_by : s.ticks ≡ capped (run_ticks p 0 e)
              unfolding sum_of
              ticks_by = ap (λ (x : Sum). x.ticks) sum

              idle_loop : s.idle ≡ true → report p ≡ refused 44
              idle_loop found = told_at p e is 4 44 before_044 (rule_refuses 44 (ap not (sym idle_by ∙ found)))

              module _ (moves : s.idle ≡ false) where
                before_014 : Before (checks p e) 5
                before_014 = one_more (checks p e) 4 (rule_passes 44 (ap not (sym idle_by ∙ moves))) before_044

                bad_line : s.bad ≡ true → report p ≡ refused 14
                bad_line found = told_at p e is 5 14 before_014 (rule_refuses 14 (ap not (sym bad_by ∙ found)))

                module _ (good : s.bad ≡ false) where
                  before_043 : Before (checks p e) 6
                  before_043 = one_more (checks p e) 5 (rule_passes 14 (ap not (sym bad_by ∙ good))) before_014

                  too_many : most_ticks < s.ticks → report p ≡ refused 43
                  too_many more =
                      told_at p e is 6 43 before_043 (rule_refuses 43 (lt-leb (run_ticks p 0 e) most_ticks (above (run_ticks p 0 e) (rw ticks_by at more))))
                    where
                      above : (n : ℕ) → most_ticks < capped n → most_ticks < n
                      above n lt = go (leb n most_ticks) refl
                        where
                          go : (t : Bool) → leb n most_ticks ≡ t → most_ticks < n
                          go true le =
                              let z = capped_small most_ticks n (omega (arith, leb-true n most_ticks le)) in
                              absurd (omega (arith, z, leb-true n most_ticks le, lt))
                          go false gt = leb-false n most_ticks gt

                  few_enough : s.ticks ≤ most_ticks → report p ≡ passed s.ticks
                  few_enough le =
                      let n : run_ticks p 0 e ≡ s.ticks = small (run_ticks p 0 e) (rw ticks_by at le) ∙ sym ticks_by in
                      told_well p e is (one_more (checks p e) 6 (rule_passes 43 (le-leb (run_ticks p 0 e) most_ticks (rw n le))) before_043) ∙ ap passed n
                    where
                      small : (n : ℕ) → capped n ≤ most_ticks → n ≡ capped n
                      small n lt = go (leb n most_ticks) refl
                        where
                          go : (t : Bool) → leb n most_ticks ≡ t → n ≡ capped n
                          go true le = sym (capped_small most_ticks n (omega (arith, leb-true n most_ticks le)))
                          go false gt = let z = capped_large most_ticks n (omega (arith, leb-false n most_ticks gt)) in absurd (omega (arith, z, lt))

              -- what is told of the sum is the report's answer
              told_by : (i b l : Bool) → s.idle ≡ i → s.bad ≡ b → leb s.ticks most_ticks ≡ l → told_of s ≡ report p
              told_by true b l idle bad le = idle_told s idle ∙ sym (idle_loop idle)
              told_by false true l idle bad le = bad_told s idle bad ∙ sym (bad_line idle bad)
              told_by false false true idle bad le =
                  let few = leb-true s.ticks most_ticks le in ticks_told s idle bad few ∙ sym (few_enough idle bad few)
              told_by false false false idle bad le =
                  let more = leb-false s.ticks most_ticks le in over_told s idle bad more ∙ sym (too_many idle bad more)

              pub sum_told : told_of s ≡ report p
              sum_told = told_by s.idle s.bad (leb s.ticks most_ticks) refl refl refl
