-- Nobody has to believe this: no theorem that a reader needs speaks of it.
-- The moments of a run: the runs at which a line falls due (`Gone`). And what they tell of an end, call by call.
use Rattle.std.specs.Prelude.{ℕ, zero, suc, ◌+◌, ◌≤◌, ◌<◌, ◌≡◌, true, List}
use Rattle.lines.specs.declared.Line.TheVariants.{State, For, Next, Bad}
use Rattle.lines.specs.Program.{line_at, NoneFrom}
use Rattle.running.specs.declared.Run.{Run}
use Rattle.running.specs.declared.How.{How}
use Rattle.running.specs.declared.How.TheVariants.{Holds, Ends, GoesOn}
use Rattle.running.specs.Running.{counter, with_outputs, waiting, stopped, ends, is_for_or_next, step}
use Rattle.running.specs.Gone.{behind, Gone}

-- ---- moments

-- s is a moment of the run that begins with b, with which a call begins: no line was run in it yet
pub record Moment (p : List ℕ) (b s : Run) : Type 0 where
  pub gone : List ℕ
  pub way : Gone p b 0 gone s

-- or one behind some lines of its call
pub record AnyMoment (p : List ℕ) (b s : Run) : Type 0 where
  pub lines : ℕ
  pub gone : List ℕ
  pub way : Gone p b lines gone s

-- it falls due in the same call as b, n lines later, each of them a For or a Next
pub data Within (p : List ℕ) (b : Run) : ℕ → Run → Type 0 where
  here : {s : Run} → b ≡ s → Within p b 0 s
  on : {n : ℕ} {r s : Run} → Within p b n r → (step p r).how ≡ GoesOn → (step p r).run ≡ s → Within p b (suc n) s

-- ---- why a program ends

-- The line of the moment s ends the program with event e and leaves the run u, its loops not being freed yet.
pub data LineEnds (p : List ℕ) (s : Run) (e : ℕ) (u : Run) : Type 0 where
  -- "For C: busy counter, event 006; else no Next C on any later line, 007"
  busy : {c x : ℕ} → e ≡ 6 → line_at p s.line ≡ For c x → 0 < (counter s c).count → u ≡ s → LineEnds p s e u
  alone : {c x : ℕ} → e ≡ 7 → line_at p s.line ≡ For c x → (counter s c).count ≡ 0 → (s.line < 200 → NoneFrom p c (s.line + 1)) → u ≡ s → LineEnds p s e u
  -- "Next C: counter not busy, 008"
  loose : {c : ℕ} → e ≡ 8 → line_at p s.line ≡ Next c → (counter s c).count ≡ 0 → u ≡ s → LineEnds p s e u
  -- "Going on past 199: event 009"
  past : e ≡ 9 → is_for_or_next (line_at p s.line) ≡ true → 199 ≤ u.line → LineEnds p s e u
  -- "State, time 0: set outputs, stop, event 011."
  done : {o : ℕ} → e ≡ 11 → line_at p s.line ≡ State o 0 → u ≡ with_outputs o s → LineEnds p s e u
  -- "Running a Bad line stops with event 014 at that line."
  bad : e ≡ 14 → line_at p s.line ≡ Bad → u ≡ s → LineEnds p s e u

-- So the program ends at the moment s, behind n lines of its call: by the rule its line ends it, and is not a 401st For or Next;
-- "Were a 401st due, the program stops there with event 013".
pub data Cause (p : List ℕ) (s : Run) (n e : ℕ) (u : Run) : Type 0 where
  by_line : LineEnds p s e u → step p s ≡ ends e u → (is_for_or_next (line_at p s.line) ≡ true → n < 400) → Cause p s n e u
  over : e ≡ 13 → n ≡ 400 → is_for_or_next (line_at p s.line) ≡ true → u ≡ s → Cause p s n e u

-- The call in which r falls due ends the program with event e, for a cause, and leaves the run v.
pub record Stops (p : List ℕ) (r : Run) (e : ℕ) (v : Run) : Type 0 where
  pub last : Run
  pub lines : ℕ
  pub few : lines ≤ 400
  pub within : Within p r lines last
  pub left : Run
  pub cause : Cause p last lines e left
  pub freed : v ≡ stopped left

-- The run v holds the State line of the moment `at`, with w ticks still to wait.
pub record Holding (p : List ℕ) (b v : Run) : Type 0 where
  pub at : Run
  pub moment : AnyMoment p b at
  pub outputs : ℕ
  pub time : ℕ
  pub line : line_at p at.line ≡ State outputs time
  pub wait : ℕ
  pub above : 0 < wait
  pub most : wait ≤ time
  pub is : v ≡ waiting wait (with_outputs outputs at)

-- The tick that ends the program with event e and leaves the run v, where h was held before it: it goes on past line 199, or stops in the lines behind.
pub data StopsAfter (p : List ℕ) (b u : Run) (h : Holding p b u) (e : ℕ) (v : Run) : Type 0 where
  past199 : e ≡ 9 → 199 ≤ h.at.line → v ≡ stopped u → StopsAfter p b u h e v
  behind_it : h.at.line < 199 → h.wait ≡ 1 → Stops p (behind h.outputs h.at) e v → StopsAfter p b u h e v

-- ---- the last moment of a call

-- the moment r, where its line does not go on; else what `go` finds from the next one, s, on
abbrev pub last_or : How → Run → Run → (Run → Run) → Run
last_or Holds r s go = r
last_or (Ends event) r s go = r
last_or GoesOn r s go = go s

-- Where r falls due and so many lines more may be run: the first moment whose line does not go on, or that at which none may be run any more.
unfoldable pub last_due : List ℕ → ℕ → Run → Run
last_due p zero r = r
last_due p (suc left) r = last_or (step p r).how r (step p r).run (λ s. last_due p left s)
