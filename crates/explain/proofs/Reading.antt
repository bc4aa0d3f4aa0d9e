-- The line on which a program stopped, as it is told.
-- Assumes nothing.
use Prim.Native.Nat.{ℕ}
use mathlib.Core.Path.{◌≡◌, refl, sym, subst}
use mathlib.Core.Bool.{true, false, true≢false}
use mathlib.Core.List.{List}
use Rattle.std.specs.Prelude.{Option, Some, None, unwrap_or}
use Rattle.formats.specs.Checks.{Res, refused, passed}
use Rattle.formats.specs.Digits.{error_text}
use Rattle.lines.specs.declared.Line.{Line}
use Rattle.lines.specs.declared.Line.TheVariants.{State, For, Next, Bad}
use Rattle.lines.specs.Line.{is_bad, counter_in, counter_of}
use Rattle.texts.specs.Text.{line_text}
use Rattle.explanation.specs.declared.Stop.{Stop}
use Rattle.explanation.specs.Report.{report}
use Rattle.explanation.proofs.Explained.{told_in_program}
use Rattle.explain.specs.Telling.{read_text, Readable}

-- what is answered can be read
pub readable : (p : List ℕ) (k limit : ℕ) (r : Res (Option Stop)) → r ≡ report p k limit → Readable p r
readable p k limit (refused e) so = tt
readable p k limit (passed None) so = tt
readable p k limit (passed (Some s)) so = told_in_program p k limit s (sym so)

-- the counter that a line names, 0 for none
pub named : (l : Line) → unwrap_or (counter_in l) 0 ≡ counter_of l
named (State o t) = refl
named (For c x) = refl
named (Next c) = refl
named Bad = refl
