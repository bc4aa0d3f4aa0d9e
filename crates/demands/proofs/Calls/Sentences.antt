-- Laws of the texts of commands: what the checks find in them, that a text is of one command, and that each error has its own place.
-- Assumes nothing.
use mathlib.Core.Path.{◌≡◌, refl, sym, ap, subst, ◌∙◌}
use Prim.Native.Nat.{ℕ, suc, ◌≤◌, ◌<◌}
use Prim.Native.Char.{code}
use native.Mathlib.Omega.{arith}
use mathlib.Core.Bool.{Bool, true, false, ◌&&◌, ◌||◌, true≢false}
use mathlib.Core.List.{List, [], ◌∷◌}
use lib.ListN.{length, get_or, length-append}
use lib.Dec.{eqb, leb}
use borrow.Author.Tests.{eqb-true, eqb-false, ne_eqb, leb-true, leb-false}
use Rattle.formats.specs.Checks.{passed, text}
use Rattle.formats.specs.Order.{NoneBefore}
use Rattle.formats.proofs.Checks.{both_true, either_true, passed_same}
use Rattle.formats.proofs.Characters.{length_shown}
use Rattle.formats.proofs.Order.{none_more}
use Rattle.wire.specs.Command.{char, is_read, is_write, has_address, in_format, rest, address_in, is_writable}
use Rattle.wire.specs.Naming.{Names, by_digits, by_i, by_d}
use Rattle.wire.proofs.Addresses.{found}
use Rattle.wire.proofs.Named.{named, writable_so, so_writable}
use Rattle.demands.specs.Told.{Told}
use Rattle.demands.specs.Commands.{characters, Writable, Reads, Writes, Error, too_short, no_command, no_address, locked, wrong_length, no_format}
use Rattle.demands.specs.Commands.{no_code, needs_stop, needs_pause, needs_run, out_of_reach, bad_line, NoBeginning, overlong, first, second, third}
use Rattle.demands.specs.Commands.{Says, place}

-- ---- places

-- the errors in their order
errors : List Error
errors =
    too_short ∷ no_command ∷ no_address ∷ locked ∷ wrong_length ∷ no_format ∷ no_code ∷ needs_stop ∷ needs_pause ∷ needs_run ∷ out_of_reach ∷ bad_line ∷ []

at_place : (e : Error) → get_or errors (place e) too_short ≡ e
unfolding errors
at_place too_short = refl
at_place no_command = refl
at_place no_address = refl
at_place locked = refl
at_place wrong_length = refl
at_place no_format = refl
at_place no_code = refl
at_place needs_stop = refl
at_place needs_pause = refl
at_place needs_run = refl
at_place out_of_reach = refl
at_place bad_line = refl

-- one place has one error
one_error : (a b : Error) → place a ≡ place b → a ≡ b
one_error a b e = sym (at_place a) ∙ ap (λ i. get_or errors i too_short) e ∙ at_place b

pub place_last : (e : Error) → place e < 12
place_last too_short = omega arith
place_last no_command = omega arith
place_last no_address = omega arith
place_last locked = omega arith
place_last wrong_length = omega arith
place_last no_format = omega arith
place_last no_code = omega arith
place_last needs_stop = omega arith
place_last needs_pause = omega arith
place_last needs_run = omega arith
place_last out_of_reach = omega arith
place_last bad_line = omega arith

-- no sentence before place n holds, and none at the next place
module _ (t : Told) (program : List ℕ) where
  abbrev pub None : ℕ → Type 0
  None = NoneBefore place (Says t program)

  pub passing : (e : Error) → None (place e) → (Says t program e → ⊥) → None (suc (place e))
  passing e = none_more place (Says t program) one_error e

-- ---- the texts, and what the checks find in them

-- one that can be written
pub can_write : {k : ℕ} → Writable k → is_writable k ≡ true
can_write {k} w = so_writable k w.below w.other.0 w.other.1 w.other.2 w.other.3

-- what check 2 leaves
pub record BegunBy (cs : List ℕ) : Type 0 where
  pub three : 3 ≤ length cs
  pub c : char cs 0 ≡ code "C"
  pub kind : (is_read cs || is_write cs) ≡ true
  pub has : has_address cs ≡ true

abbrev pub Begun : Told → Type 0
Begun t = BegunBy (characters t)

-- an address has at most three characters
pub named_few : {next k : ℕ} {a : List ℕ} → Names next k a → length a ≤ 3
unfolding text
named_few {k} (by_digits e) = rw (e, length_shown 10 3 k) (omega arith)
named_few (by_i e n) = rw e (omega arith)
named_few (by_d e n) = rw e (omega arith)

module _ (t : Told) where
  abbrev cs : List ℕ
  cs = characters t

  -- what a text of a read is found to be, and of a write
  pub reads_found : {k : ℕ} {more : List ℕ} → Reads t k more → (is_read cs ≡ true) × (address_in t.next_read cs ≡ passed k) × (rest cs ≡ more)
  unfolding text
  reads_found {k} {more} r =
      let f = found 67 82 t.next_read k r.inside more r.named in
      subst (λ l. (is_read l ≡ true) × (address_in t.next_read l ≡ passed k) × (rest l ≡ more)) (sym r.written) (refl, f.address, f.behind)

  pub writes_found : {k : ℕ} {sent : List ℕ} → Writes t k sent → (is_read cs ≡ false) × (address_in t.next_write cs ≡ passed k) × (rest cs ≡ sent)
  unfolding text
  writes_found {k} {sent} w =
      let below = w.can.below in
      let f = found 67 87 t.next_write k (omega arith) sent w.named in
      subst (λ l. (is_read l ≡ false) × (address_in t.next_write l ≡ passed k) × (rest l ≡ sent)) (sym w.written) (refl, f.address, f.behind)

  -- a text is of one kind, of one address and of one data
  pub no_reads : is_read cs ≡ false → {k : ℕ} {more : List ℕ} → Reads t k more → ⊥
  no_reads e r = true≢false (sym (reads_found r).0 ∙ e)

  pub no_writes : is_read cs ≡ true → {k : ℕ} {sent : List ℕ} → Writes t k sent → ⊥
  no_writes e w = true≢false (sym e ∙ (writes_found w).0)

  pub same_read : {k j : ℕ} {more : List ℕ} → address_in t.next_read cs ≡ passed k → Reads t j more → (j ≡ k) × (more ≡ rest cs)
  same_read a r = let f = reads_found r in (passed_same (sym f.1 ∙ a), sym f.2)

  pub same_write : {k j : ℕ} {sent : List ℕ} → address_in t.next_write cs ≡ passed k → Writes t j sent → (j ≡ k) × (sent ≡ rest cs)
  same_write a w = let f = writes_found w in (passed_same (sym f.1 ∙ a), sym f.2)

  -- ---- checks 2 and 3

  pub begun : 3 ≤ length cs → in_format false cs ≡ true → Begun t
  begun three e =
      let p = both_true (eqb (char cs 0) (code "C") && (is_read cs || is_write cs)) (has_address cs) e in
      let q = both_true (eqb (char cs 0) (code "C")) (is_read cs || is_write cs) p.0 in
      record { three = three; c = eqb-true _ _ q.0; kind = q.1; has = p.1 }

  -- what it stops
  third_wrong : has_address cs ≡ false → NoBeginning cs
  third_wrong h = go (eqb (char cs 2) (code "I")) refl (eqb (char cs 2) (code "D")) refl (leb 5 (length cs)) refl
    where
      go : (i : Bool) → eqb (char cs 2) (code "I") ≡ i → (d : Bool) → eqb (char cs 2) (code "D") ≡ d → (l : Bool) → leb 5 (length cs) ≡ l → NoBeginning cs
      go true i d d' l l' = absurd (true≢false (rw i at h))
      go false i true d l l' = absurd (true≢false (rw (i, d) at h))
      go false i false d true l = absurd (true≢false (rw (i, d, l) at h))
      go false i false d false l = third (eqb-false _ _ i) (eqb-false _ _ d) (leb-false 5 (length cs) l)

  pub not_begun : in_format false cs ≡ false → NoBeginning cs
  not_begun e = go (eqb (char cs 0) (code "C")) refl (is_read cs) refl (is_write cs) refl (has_address cs) refl
    where
      go : (a : Bool) → eqb (char cs 0) (code "C") ≡ a → (r : Bool) → is_read cs ≡ r → (w : Bool) → is_write cs ≡ w → (h : Bool) → has_address cs ≡ h
          → NoBeginning cs
      go false a r r' w w' h h' = first (eqb-false _ _ a)
      go true a false r false w h h' = second (eqb-false _ _ r) (eqb-false _ _ w)
      go true a false r true w true h = absurd (true≢false (rw (a, r, w, h) at e))
      go true a false r true w false h = third_wrong h
      go true a true r w w' true h = absurd (true≢false (rw (a, r, h) at e))
      go true a true r w w' false h = third_wrong h

  pub is_begun : Begun t → length cs ≤ 32 → NoBeginning cs → ⊥
  is_begun b few (overlong lt) = omega arith
  is_begun b few (first ne) = ne b.c
  is_begun b few (second r w) = either_true (is_read cs) (is_write cs) b.kind (λ f. r (eqb-true _ _ f)) (λ f. w (eqb-true _ _ f))
  is_begun b few (third i d lt) =
      let le : 5 ≤ length cs = leb-true 5 (length cs) (rw (ne_eqb _ _ i, ne_eqb _ _ d) at b.has) in
      omega arith

  -- an address that passes check 3 is written there
  pub a_read_lem : Begun t → is_read cs ≡ true → (k : ℕ) → k ≤ 216 → address_in t.next_read cs ≡ passed k → Reads t k (rest cs)
  unfolding text
  a_read_lem b r k inside a =
      let n = named t.next_read k cs b.three b.has a in
      record { inside = inside; address = n.address; named = n.names; written = n.is ∙ rw (b.c, eqb-true (char cs 1) 82 r) }

  pub a_write : Begun t → is_write cs ≡ true → (k : ℕ) → is_writable k ≡ true → address_in t.next_write cs ≡ passed k → Writes t k (rest cs)
  unfolding text
  a_write b w k can a =
      let n = named t.next_write k cs b.three b.has a in
      let so = writable_so k can in
      record {
        can = record { below = so.0; other = (so.1, so.2, so.3, so.4) };
        address = n.address;
        named = n.names;
        written = n.is ∙ rw (b.c, eqb-true (char cs 1) 87 w);
      }

  -- ---- a text begins as check 2 wants it, and is not overlong

  pub read_begun : {k : ℕ} {more : List ℕ} → Reads t k more → Begun t
  unfolding text
  read_begun {k} {more} r =
      let f = found 67 82 t.next_read k r.inside more r.named in
      subst BegunBy (sym r.written) (record { three = leb-true 3 _ f.three; c = refl; kind = refl; has = f.long })

  pub write_begun : {k : ℕ} {sent : List ℕ} → Writes t k sent → Begun t
  unfolding text
  write_begun {k} {sent} w =
      let below = w.can.below in
      let f = found 67 87 t.next_write k (omega arith) sent w.named in
      subst BegunBy (sym w.written) (record { three = leb-true 3 _ f.three; c = refl; kind = refl; has = f.long })

  pub read_few : {k : ℕ} → Reads t k [] → length cs ≤ 32
  unfolding text
  read_few r =
      let few = named_few r.named in
      omega (arith, ap length r.written, length-append r.address [])

  pub write_few : {k : ℕ} {sent : List ℕ} → Writes t k sent → length sent ≤ 15 → length cs ≤ 32
  unfolding text
  write_few {sent} w le =
      let few = named_few w.named in
      omega (arith, ap length w.written, length-append w.address sent)
