-- Laws of choices and of chains of checks.
-- Assumes nothing.
use Prim.Native.Nat.{ℕ, zero, suc, ◌<◌}
use mathlib.Core.Path.{◌≡◌, refl, sym, ap}
use mathlib.Core.Bool.{Bool, true, false, ◌&&◌, ◌||◌, false≢true}
use mathlib.Core.List.{List, [], ◌∷◌, ◌++◌}
use mathlib.Core.Logic.{◌≢◌}
use mathlib.Core.Option.{none, some}
use native.Mathlib.Omega.{arith}
use native.Mathlib.Nat.{not-suc-le-zero}
use lib.ListN.{take, drop, set}
use lib.Dec.{eqb}
use borrow.Author.Tests.{eqb-true, eqb-false}
use Rattle.std.specs.Prelude.{if◌then◌else◌}
use Rattle.formats.specs.Checks.{Res, refused, passed, ◌>>=◌, ◌>>◌, ◌or_else◌, all, same, Ok}

-- ---- choices and tests

-- what holds on both ways of a test holds of the choice
pub if_case : {A : Type 0} (P : A → Type 0) (t : Bool) {x y : A} → (t ≡ true → P x) → (t ≡ false → P y) → P (if t then x else y)
if_case P true f g = f refl
if_case P false f g = g refl

-- the branch that a test takes
pub if_true : {A : Type 0} (t : Bool) (x y : A) → t ≡ true → x ≡ (if t then x else y)
if_true t x y e = ap (λ u. if u then x else y) (sym e)

pub if_false : {A : Type 0} (t : Bool) (x y : A) → t ≡ false → y ≡ (if t then x else y)
if_false t x y e = ap (λ u. if u then x else y) (sym e)

pub both_true : (a b : Bool) → (a && b) ≡ true → (a ≡ true) × (b ≡ true)
both_true true b e = (refl, e)
both_true false b e = (e, absurd (false≢true e))

pub either_true : {X : Type 0} (a b : Bool) → (a || b) ≡ true → (a ≡ true → X) → (b ≡ true → X) → X
either_true true b e f g = f refl
either_true false b e f g = g e

-- a conjunction is false by its second test, where the first is true
pub both_false : (a b : Bool) → a ≡ true → (a && b) ≡ false → b ≡ false
both_false true b t e = e
both_false false b t e = absurd (false≢true t)

-- a disjunction is false by both its tests
pub and_false : (a : Bool) → (a && false) ≡ false
and_false true = refl
and_false false = refl

pub and_true : (a : Bool) → (a && true) ≡ a
and_true true = refl
and_true false = refl

pub or_true : (a : Bool) → (a || true) ≡ true
or_true true = refl
or_true false = refl

pub or_false : (a : Bool) → (a || false) ≡ a
or_false true = refl
or_false false = refl

pub and_swap : (a b : Bool) → (a && b) ≡ false → (b && a) ≡ false
and_swap true true e = e
and_swap true false e = refl
and_swap false true e = refl
and_swap false false e = refl

pub neither : (a b : Bool) → (a || b) ≡ false → (a ≡ false) × (b ≡ false)
neither true b e = absurd (false≢true (sym e))
neither false b e = (refl, e)

-- what is not true is false
pub not_so : (a : Bool) → (a ≡ true → ⊥) → a ≡ false
not_so true f = absurd (f refl)
not_so false f = refl

-- two tests that say the same
pub by_both : (a b : Bool) → (a ≡ true → b ≡ true) → (b ≡ true → a ≡ true) → a ≡ b
by_both true b f g = sym (f refl)
by_both false true f g = g refl
by_both false false f g = refl

-- nothing is not something
pub not_some : {A : Type 0} {k : A} → none ≡ some k → ⊥
not_some e = let z : ◌≡◌ {A = ℕ} 0 1 = cc in omega arith

-- a test that antt computes at each number below n
abbrev pub all_below : (ℕ → Bool) → ℕ → Bool
all_below f zero = true
all_below f (suc n) = f n && all_below f n

-- such a test holds at each of them
pub below : (f : ℕ → Bool) (n : ℕ) → all_below f n ≡ true → (k : ℕ) → k < n → f k ≡ true
below f zero t k lt = absurd (not-suc-le-zero lt)
below f (suc n) t k lt = go (eqb k n) refl (below f n halves.1 k)
  where
    halves : (f n ≡ true) × (all_below f n ≡ true)
    halves = both_true (f n) (all_below f n) t

    go : (b : Bool) → eqb k n ≡ b → (k < n → f k ≡ true) → f k ≡ true
    go true e rest = rw (eqb-true k n e) halves.0
    go false e rest = let ne : k ≢ n = eqb-false k n e in rest (omega arith)

-- a test of every element, over an appended one
pub all_snoc : {A : Type 0} (f : A → Bool) (xs : List A) (x : A) → all f xs ≡ true → f x ≡ true → all f (xs ++ (x ∷ [])) ≡ true
all_snoc f [] x e g = rw g
all_snoc f (y ∷ xs) x e g =
    let p = both_true (f y) (all f xs) e in
    rw p.0 (all_snoc f xs x p.1 g)

-- over the first n elements, over the rest, and over a list with one element set
pub all_take : {A : Type 0} (f : A → Bool) (n : ℕ) (xs : List A) → all f xs ≡ true → all f (take n xs) ≡ true
all_take f zero xs e = refl
all_take f (suc n) [] e = refl
all_take f (suc n) (x ∷ xs) e =
    let p = both_true (f x) (all f xs) e in
    rw p.0 (all_take f n xs p.1)

pub all_drop : {A : Type 0} (f : A → Bool) (n : ℕ) (xs : List A) → all f xs ≡ true → all f (drop n xs) ≡ true
all_drop f zero xs e = e
all_drop f (suc n) [] e = refl
all_drop f (suc n) (x ∷ xs) e = all_drop f n xs (both_true (f x) (all f xs) e).1

pub all_set : {A : Type 0} (f : A → Bool) (xs : List A) (i : ℕ) (x : A) → all f xs ≡ true → f x ≡ true → all f (set xs i x) ≡ true
all_set f [] i x e g = refl
all_set f (y ∷ xs) zero x e g = rw g (both_true (f y) (all f xs) e).1
all_set f (y ∷ xs) (suc i) x e g =
    let p = both_true (f y) (all f xs) e in
    rw p.0 (all_set f xs i x p.1 g)

-- over two lists
pub all_append : {A : Type 0} (f : A → Bool) (xs ys : List A) → all f xs ≡ true → all f ys ≡ true → all f (xs ++ ys) ≡ true
all_append f [] ys e g = g
all_append f (x ∷ xs) ys e g =
    let p = both_true (f x) (all f xs) e in
    rw p.0 (all_append f xs ys p.1 g)

-- and over the first of them alone
pub all_front : {A : Type 0} (f : A → Bool) (xs ys : List A) → all f (xs ++ ys) ≡ true → all f xs ≡ true
all_front f [] ys e = refl
all_front f (x ∷ xs) ys e =
    let p = both_true (f x) (all f (xs ++ ys)) e in
    rw p.0 (all_front f xs ys p.1)

-- and over the others
pub all_behind : {A : Type 0} (f : A → Bool) (xs ys : List A) → all f (xs ++ ys) ≡ true → all f ys ≡ true
all_behind f [] ys e = e
all_behind f (x ∷ xs) ys e = all_behind f xs ys (both_true (f x) (all f (xs ++ ys)) e).1

-- what computed lists are judged by: the same numbers in the same order are one list
pub same_equal : (xs ys : List ℕ) → same xs ys ≡ true → xs ≡ ys
same_equal [] [] e = refl
same_equal [] (y ∷ ys) e = absurd (false≢true e)
same_equal (x ∷ xs) [] e = absurd (false≢true e)
same_equal (x ∷ xs) (y ∷ ys) e =
    let p = both_true (eqb x y) (same xs ys) e in
    let first : x ≡ y = eqb-true x y p.0 in
    let others : xs ≡ ys = same_equal xs ys p.1 in
    cc

-- ---- chains of checks

pub ok_at : {A : Type 0} (P : A → Type 0) {r : Res A} {a : A} → Ok P r → r ≡ passed a → P a
ok_at P ok e = rw e at ok

module _ {A B : Type 0} (P : B → Type 0) where
  pub ok_bind : (Q : A → Type 0) (m : Res A) (f : A → Res B) → Ok Q m → ((a : A) → Q a → Ok P (f a)) → Ok P (m >>= f)
  unfolding ◌>>=◌
  ok_bind Q (refused e) f h k = tt
  ok_bind Q (passed a) f h k = k a h

  -- the value that passed is known by its equation
  pub ok_passed : (m : Res A) (f : A → Res B) → ((a : A) → m ≡ passed a → Ok P (f a)) → Ok P (m >>= f)
  unfolding ◌>>=◌
  ok_passed (refused e) f k = tt
  ok_passed (passed a) f k = k a refl

module _ {B : Type 0} (P : B → Type 0) where
  pub ok_guard : (t : Bool) (e : ℕ) (r : Res B) → (t ≡ true → Ok P r) → Ok P ((t or_else e) >> r)
  unfolding ◌>>◌ ◌or_else◌
  ok_guard true e r k = k refl
  ok_guard false e r k = tt

-- what holds of the number, where the check refuses
abbrev pub Err : {A : Type 0} → (ℕ → Type 0) → Res A → Type 0
Err P (refused e) = P e
Err P (passed a) = Unit

pub err_at : {A : Type 0} (P : ℕ → Type 0) {r : Res A} {e : ℕ} → Err P r → r ≡ refused e → P e
err_at P err f = rw f at err

module _ {B : Type 0} (P : ℕ → Type 0) where
  pub err_bind : {A : Type 0} (m : Res A) (f : A → Res B) → Err P m → ((a : A) → m ≡ passed a → Err P (f a)) → Err P (m >>= f)
  unfolding ◌>>=◌
  err_bind (refused e) f h k = h
  err_bind (passed a) f h k = k a refl

  pub err_guard : (t : Bool) (e : ℕ) (r : Res B) → (t ≡ false → P e) → (t ≡ true → Err P r) → Err P ((t or_else e) >> r)
  unfolding ◌>>◌ ◌or_else◌
  err_guard true e r h k = k refl
  err_guard false e r h k = h refl

-- a check that refuses does not pass
pub not_passed : {A : Type 0} {e : ℕ} {a : A} → refused e ≡ passed a → ⊥
not_passed e = let z : ◌≡◌ {A = ℕ} 0 1 = cc in omega arith

-- two refusals that are one have one number, and two values that passed are one
pub refused_same : {A : Type 0} {i e : ℕ} → ◌≡◌ {A = Res A} (refused i) (refused e) → i ≡ e
refused_same p = cc

pub passed_same : {A : Type 0} {a b : A} → passed a ≡ passed b → a ≡ b
passed_same p = cc

-- where a chain passes, its first check does, and the rest
pub both_passed : {A B : Type 0} (m : Res A) (r : Res B) {b : B} → (m >> r) ≡ passed b → ((a : A) × (m ≡ passed a)) × (r ≡ passed b)
unfolding ◌>>◌
both_passed (refused e) r p = absurd (not_passed p)
both_passed (passed a) r p = ((a, refl), p)

-- and a rule that passes holds
pub rule_holds : (t : Bool) (e : ℕ) {x : Unit {0}} → (t or_else e) ≡ passed x → t ≡ true
unfolding ◌or_else◌
rule_holds true e p = refl
rule_holds false e p = absurd (not_passed p)

-- a rule that does not hold refuses with its number, and only then
pub rule_passes : {t : Bool} (e : ℕ) → t ≡ true → (t or_else e) ≡ passed tt
unfolding ◌or_else◌
rule_passes e is = rw is

pub rule_refuses : {t : Bool} (e : ℕ) → t ≡ false → (t or_else e) ≡ refused e
unfolding ◌or_else◌
rule_refuses e is = rw is

pub rule_fails : (t : Bool) (e : ℕ) {r : ℕ} → (t or_else e) ≡ refused r → (t ≡ false) × (r ≡ e)
unfolding ◌or_else◌
rule_fails true e p = absurd (not_passed (sym p))
rule_fails false e p = (refl, sym (refused_same p))
