-- Refusals in order: of a list of checks, which is told and when; and which sentence, where each check has its own.
-- Assumes nothing.
use Prim.Native.Nat.{ℕ, zero, suc, ◌≤◌, ◌<◌}
use native.Mathlib.Omega.{arith}
use mathlib.Core.Path.{◌≡◌, refl, sym, ap, subst, ◌∙◌}
use mathlib.Core.Bool.{Bool, true, false}
use mathlib.Core.List.{List, [], ◌∷◌}
use lib.ListN.{length, get_or}
use lib.Dec.{ltb}
use borrow.Author.Tests.{ltb-true, ltb-false}
use Rattle.formats.specs.Checks.{Res, refused, passed, ◌>>◌, in_order}
use Rattle.formats.specs.Order.{NoneBefore, First}
use Rattle.formats.proofs.Checks.{not_passed, refused_same}
use Rattle.formats.proofs.Order.{last_or_before}

abbrev pub Check : Type 0
Check = Res (Unit {0})

-- the check at place i; behind the last there is none, and it passes
abbrev pub check_at : List Check → ℕ → Check
check_at cs i = get_or cs i (passed tt)

-- all checks before place n pass
abbrev pub Before : List Check → ℕ → Type 0
Before cs n = (i : ℕ) → i < n → check_at cs i ≡ passed tt

-- none stands before the first, and one more passes
pub none_before_lem : (cs : List Check) → Before cs 0
none_before_lem cs i lt = absurd (omega arith)

pub one_more : (cs : List Check) (n : ℕ) → check_at cs n ≡ passed tt → Before cs n → Before cs (suc n)
one_more cs n here before i lt = last_or_before i n lt (λ z. ap (check_at cs) z ∙ here) (before i)

-- ---- which check is told

-- the first that refuses, or what stands behind them
pub data Told {A : Type 0} (cs : List Check) (r x : Res A) : Type 0 where
  refuses : (i e : ℕ) → i < length cs → Before cs i → check_at cs i ≡ refused e → x ≡ refused e → Told cs r x
  passes : Before cs (length cs) → x ≡ r → Told cs r x

before_more : (cs : List Check) (n : ℕ) → Before cs n → Before (passed tt ∷ cs) (suc n)
before_more cs n all zero lt = refl
before_more cs n all (suc i) lt = all i (omega arith)

pub told : {A : Type 0} (cs : List Check) (r : Res A) → Told cs r (in_order cs r)
unfolding in_order ◌>>◌
told [] r = passes (λ i lt. absurd (omega arith)) refl
told (refused e ∷ cs) r = refuses 0 e (omega arith) (λ i lt. absurd (omega arith)) refl refl
told (passed tt ∷ cs) r = go (told cs r)
  where
    go : Told cs r (in_order cs r) → Told (passed tt ∷ cs) r (in_order cs r)
    go (refuses i e lt all fails is) = refuses (suc i) e (omega arith) (before_more cs i all) fails is
    go (passes all is) = passes (before_more cs (length cs) all) is

-- where all pass, what stands behind them
pub told_well : {A : Type 0} (cs : List Check) (r : Res A) → Before cs (length cs) → in_order cs r ≡ r
told_well cs r all = go (told cs r)
  where
    go : Told cs r (in_order cs r) → in_order cs r ≡ r
    go (refuses i e lt _ fails is) = absurd (not_passed (sym fails ∙ all i lt))
    go (passes _ is) = is

-- the check at a place that refuses, where all before it pass
pub told_at : {A : Type 0} (cs : List Check) (r : Res A) (i e : ℕ) → Before cs i → check_at cs i ≡ refused e → in_order cs r ≡ refused e
unfolding in_order ◌>>◌
told_at [] r i e all fails = absurd (not_passed (sym fails))
told_at (c ∷ cs) r zero e all fails = rw fails
told_at (c ∷ cs) r (suc i) e all fails = rw (all 0 (omega arith)) (told_at cs r i e (λ j lt. all (suc j) (omega arith)) fails)

-- where nothing is refused, all checks pass
pub passed_all : {A : Type 0} (cs : List Check) (a : A) {b : A} → in_order cs (passed a) ≡ passed b → Before cs (length cs)
passed_all cs a is = go (told cs (passed a))
  where
    go : Told cs (passed a) (in_order cs (passed a)) → Before cs (length cs)
    go (refuses i e lt all fails so) = absurd (not_passed (sym so ∙ is))
    go (passes all so) = all

-- behind the last check there is none
beyond : (cs : List Check) (i : ℕ) → length cs ≤ i → check_at cs i ≡ passed tt
beyond [] i le = refl
beyond (c ∷ cs) zero le = absurd (omega arith)
beyond (c ∷ cs) (suc i) le = beyond cs i (omega arith)

-- ---- which sentence is told

-- a sentence that holds, at this place and with this number
pub record Said {S : Type 0} (place number : S → ℕ) (Says : S → Type 0) (i e : ℕ) : Type 0 where
  pub sentence : S
  pub says : Says sentence
  pub there : place sentence ≡ i
  pub numbered : number sentence ≡ e

-- the first that holds has this number
pub record FirstSaid {S : Type 0} (place number : S → ℕ) (Says : S → Type 0) (e : ℕ) : Type 0 where
  pub sentence : S
  pub first : First place Says sentence
  pub numbered : number sentence ≡ e

-- Each check has its sentences, with its place and its number: behind those before it, it refuses exactly where one of them holds.
pub record Worded {S : Type 0} (place number : S → ℕ) (Says : S → Type 0) (cs : List Check) : Type 0 where
  pub only : (i e : ℕ) → i < length cs → Before cs i → check_at cs i ≡ refused e → Said place number Says i e
  pub so : (s : S) → Says s → Before cs (place s) → check_at cs (place s) ≡ refused (number s)

module _ {S : Type 0} {place number : S → ℕ} {Says : S → Type 0} {cs : List Check} (w : Worded place number Says cs) where
  -- no sentence before a place where all checks before it pass
  none_said : (n : ℕ) → Before cs n → NoneBefore place Says n
  none_said n all s lt says = not_passed (sym (w.so s says (λ i up. all i (omega arith))) ∙ all (place s) lt)

  -- and all checks pass before a place where no sentence before it holds
  passes_there : (n : ℕ) → Before cs n → NoneBefore place Says (suc n) → check_at cs n ≡ passed tt
  passes_there n before none = go (ltb n (length cs)) refl (check_at cs n) refl
    where
      go : (t : Bool) → ltb n (length cs) ≡ t → (c : Check) → check_at cs n ≡ c → check_at cs n ≡ passed tt
      go false t c is = beyond cs n (ltb-false n (length cs) t)
      go true t (passed tt) is = is
      go true t (refused e) is =
          let why = w.only n e (ltb-true n (length cs) t) before is in absurd (none why.sentence (omega (arith, why.there)) why.says)

  all_pass : (n : ℕ) → NoneBefore place Says n → Before cs n
  all_pass zero none i lt = absurd (omega arith)
  all_pass (suc n) none i lt =
      let before = all_pass n (λ s up. none s (omega arith)) in
      last_or_before i n lt (λ is. subst (λ j. check_at cs j ≡ passed tt) (sym is) (passes_there n before none)) (before i)

  module _ {A : Type 0} (a : A) where
    -- What is refused has the sentence of its number, and no sentence before it holds.
    pub told_first : (e : ℕ) → in_order cs (passed a) ≡ refused e → FirstSaid place number Says e
    told_first e is = go (told cs (passed a))
      where
        go : Told cs (passed a) (in_order cs (passed a)) → FirstSaid place number Says e
        go (refuses i f lt all fails so) =
            let why = w.only i f lt all fails in
            record {
              sentence = why.sentence;
              first = record { says = why.says; none_before = subst (NoneBefore place Says) (sym why.there) (none_said i all) };
              numbered = why.numbered ∙ refused_same (sym so ∙ is);
            }
        go (passes _ so) = absurd (not_passed (sym is ∙ so))

    -- The first sentence that holds is told by its number.
    pub first_told : (s : S) → First place Says s → in_order cs (passed a) ≡ refused (number s)
    first_told s f = let all = all_pass (place s) f.none_before in told_at cs (passed a) (place s) (number s) all (w.so s f.says all)

    -- Where none holds, nothing is refused,
    pub none_told : ((s : S) → Says s → ⊥) → in_order cs (passed a) ≡ passed a
    none_told none = told_well cs (passed a) (all_pass (length cs) (λ s lt. none s))

    -- and where nothing is refused, none holds.
    pub passed_none : {b : A} → in_order cs (passed a) ≡ passed b → (s : S) → Says s → ⊥
    passed_none is s says = go (told cs (passed a))
      where
        go : Told cs (passed a) (in_order cs (passed a)) → ⊥
        go (refuses i e _ _ _ so) = not_passed (sym so ∙ is)
        go (passes all so) = said (ltb (place s) (length cs)) refl
          where
            said : (t : Bool) → ltb (place s) (length cs) ≡ t → ⊥
            said true t = none_said (length cs) all s (ltb-true (place s) (length cs) t) says
            said false t =
                let here = w.so s says (λ i lt. up i (ltb i (length cs)) refl) in
                not_passed (sym here ∙ beyond cs (place s) (ltb-false (place s) (length cs) t))
              where
                up : (i : ℕ) (u : Bool) → ltb i (length cs) ≡ u → check_at cs i ≡ passed tt
                up i true u = all i (ltb-true i (length cs) u)
                up i false u = beyond cs i (ltb-false i (length cs) u)

-- Both ways: a number is told exactly if it is that of the first sentence.
pub told_exactly : {S : Type 0} {place number : S → ℕ} {Says : S → Type 0} {cs : List Check} → Worded place number Says cs → {A : Type 0} (a : A) (e : ℕ)
    → (in_order cs (passed a) ≡ refused e → FirstSaid place number Says e) × (FirstSaid place number Says e → in_order cs (passed a) ≡ refused e)
told_exactly w a e = (told_first w a e, λ f. first_told w a f.sentence f.first ∙ ap refused f.numbered)

-- ---- a check whose value is not asked, as one of a list

abbrev pub forgotten : {A : Type 0} → Res A → Check
forgotten (refused e) = refused e
forgotten (passed a) = passed tt

pub forgotten_then : {A B : Type 0} (x : Res A) (y : Res B) → (x >> y) ≡ (forgotten x >> y)
unfolding ◌>>◌
forgotten_then (refused e) y = refl
forgotten_then (passed a) y = refl

pub forgotten_refuses : {A : Type 0} (x : Res A) (e : ℕ) → (forgotten x ≡ refused e → x ≡ refused e) × (x ≡ refused e → forgotten x ≡ refused e)
forgotten_refuses (refused i) e = (λ p. cc, λ p. cc)
forgotten_refuses (passed a) e = (λ p. absurd (not_passed (sym p)), λ p. absurd (not_passed (sym p)))
