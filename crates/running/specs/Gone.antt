-- The lines that a run goes through, one behind the other by the running rules, and the For that holds a counter.
-- 02, item 9: "for 006 the line of the For that holds the counter, [...] for 013 the State line last held, if any".
use Rattle.std.specs.Prelude.{ℕ, suc, ◌+◌, ◌<◌, ◌≡◌, true, List, [], ◌∷◌, ◌++◌, length}
use Rattle.std.specs.Prelude.{if◌then◌else◌}
use Rattle.formats.specs.Checks.{all}
use Rattle.lines.specs.declared.Line.TheVariants.{State, For}
use Rattle.lines.specs.Program.{line_at, is_next_of}
use Rattle.running.specs.declared.Run.{Run}
use Rattle.running.specs.declared.How.TheVariants.{GoesOn}
use Rattle.running.specs.Running.{at_line, with_outputs, waiting, is_for_or_next, step}

-- ---- one line behind the other

-- the run at which the line after a State line falls due, its time being over
abbrev pub behind : ℕ → Run → Run
behind outputs r = at_line (r.line + 1) (waiting 1 (with_outputs outputs r))

-- s comes next after r: a For or a Next goes on to it, one of the 400 of a call at most; or the line of r is a State and is held for its time,
-- and s falls due in another call. Before r n For and Next lines were run in its call, before s m in its own.
pub data FollowedBy (p : List ℕ) (n : ℕ) (r : Run) (m : ℕ) (s : Run) : Type 0 where
  goes : n < 400 → m ≡ suc n → (step p r).how ≡ GoesOn → (step p r).run ≡ s → FollowedBy p n r m s
  waits : {o t : ℕ} → m ≡ 0 → line_at p r.line ≡ State o t → 0 < t → r.line < 199 → behind o r ≡ s → FollowedBy p n r m s

-- From b on, with which a call begins, the run has gone through the lines `gone`, the last of them first, and the line of s falls due,
-- behind n For and Next lines of its call.
pub data Gone (p : List ℕ) (b : Run) : ℕ → List ℕ → Run → Type 0 where
  begins : {s : Run} → b ≡ s → Gone p b 0 [] s
  further : {n m : ℕ} {gone : List ℕ} {r s : Run} → Gone p b n gone r → FollowedBy p n r m s → Gone p b m (r.line ∷ gone) s

-- ---- the For that holds a counter

-- how many of these lines are a Next of counter c
unfoldable pub nexts_of : List ℕ → ℕ → List ℕ → ℕ
nexts_of p c [] = 0
nexts_of p c (k ∷ ks) = (if is_next_of c (line_at p k) then 1 else 0) + nexts_of p c ks

-- "the For that holds the counter": of the lines gone through one is line k, a For of counter c, and fewer Nexts of it than its count were run since, so
-- that none has freed it. (A For with count 0000 takes no counter, and here never holds one.)
pub record HeldBy (p : List ℕ) (c k : ℕ) (gone : List ℕ) : Type 0 where
  pub since : List ℕ
  pub before : List ℕ
  pub ran : gone ≡ since ++ (k ∷ before)
  pub count : ℕ
  pub line : line_at p k ≡ For c count
  pub few : nexts_of p c since < count

-- ---- the State line last held

-- all of these lines are a For or a Next
abbrev pub LoopLines : List ℕ → List ℕ → Type 0
LoopLines p ks = all (λ k. is_for_or_next (line_at p k)) ks ≡ true

-- "the State line last held": of the lines gone through line k is a State, and those since are n lines, each a For or a Next.
pub record LastState (p : List ℕ) (k n : ℕ) (gone : List ℕ) : Type 0 where
  pub since : List ℕ
  pub before : List ℕ
  pub ran : gone ≡ since ++ (k ∷ before)
  pub outputs : ℕ
  pub time : ℕ
  pub line : line_at p k ≡ State outputs time
  pub loops : LoopLines p since
  pub many : length since ≡ n
