-- The lines of the table, one behind the other.
-- Assumes nothing.
use Prim.Native.Nat.{ℕ, suc, ◌+◌, ◌<◌}
use native.Mathlib.Numerals.{add-one}
use mathlib.Core.Path.{◌≡◌, sym, ap, subst, ◌∙◌}
use mathlib.Core.List.{List, [], ◌∷◌, ◌++◌, append_assoc}
use lib.ListN.{length, drop, get_or}
use lib.Seq.{drop-cons, drop-length}
use Rattle.formats.specs.Checks.{text}
use Rattle.formats.specs.Digits.{decimal}
use Rattle.streams.specs.Gathering.{Waiting, Follows}
use Rattle.streams.proofs.Following.{follows_more}
use Rattle.channels.specs.declared.Channel.{Channel}
use Rattle.channels.specs.declared.Beside.{Beside}
use Rattle.totals.specs.Telling.{line_of, unknown_line, table_from, table_of}

-- the line of a channel, number by number, each with the byte behind it
pub line_follows : {size : ℕ} (i : ℕ) (c : Channel) {o o1 o2 o3 r : Waiting} → Follows size o (decimal (i + 1) ++ (32 ∷ [])) o1
    → Follows size o1 (decimal c.closings ++ (32 ∷ [])) o2 → Follows size o2 (decimal c.openings ++ (32 ∷ [])) o3
    → Follows size o3 (decimal c.ticks ++ (10 ∷ [])) r → Follows size o (line_of i c) r
unfolding line_of text
line_follows {size} i c {o} {r = r} f g h k =
    let is =
    append_assoc (decimal (i + 1)) (32 ∷ []) _
    ∙ ap (λ l. decimal (i + 1) ++ (32 ∷ l))
    (append_assoc (decimal c.closings) (32 ∷ []) _ ∙ ap (λ l. decimal c.closings ++ (32 ∷ l)) (append_assoc (decimal c.openings) (32 ∷ []) _)) in
    subst (λ l. Follows size o l r) is (follows_more f (follows_more g (follows_more h k)))

-- The channels before place i are told: with the table from there on the table is whole.
pub record Lines (size : ℕ) (cs : List Channel) (b : Beside) (first : Waiting) (i : ℕ) (o : Waiting) : Type 0 where
  pub rest : {r : Waiting} → Follows size o (table_from i (drop i cs) b) r → Follows size first (table_of cs b) r

pub table_begins : (size : ℕ) (cs : List Channel) (b : Beside) (o : Waiting) → Lines size cs b o 0 o
table_begins size cs b o = record { rest = λ f. f }

module _ {size : ℕ} {cs : List Channel} {b : Beside} {first : Waiting} {i : ℕ} {o : Waiting} (t : Lines size cs b first i o) where
  -- one line more
  pub table_on : {o' : Waiting} (c d : Channel) → i < length cs → c ≡ get_or cs i d → Follows size o (line_of i c) o' → Lines size cs b first (i + 1) o'
  unfolding table_from
  table_on {o'} c d inside is line =
      let so : drop i cs ≡ c ∷ drop (i + 1) cs =
      drop-cons cs i d inside ∙ ap (λ x. x ∷ drop (suc i) cs) (sym is) ∙ ap (λ n. c ∷ drop n cs) (sym (add-one i)) in
      record { rest = λ {r} f. t.rest (subst (λ l. Follows size o (table_from i l b) r) (sym so) (follows_more line f)) }

  -- the number unknown
  pub table_over : {r : Waiting} → i ≡ length cs → Follows size o (unknown_line b) r → Follows size first (table_of cs b) r
  unfolding table_from
  table_over {r} over f =
      let none = ap (λ n. drop n cs) over ∙ drop-length cs in t.rest (subst (λ l. Follows size o (table_from i l b) r) (sym none) f)
