-- The kinds of a job's lines, one after another.
use Prim.Native.Nat.{ℕ, zero, suc, ◌+◌, ◌≤◌, ◌<◌}
use native.Mathlib.Omega.{arith}
use native.Mathlib.Numerals.{add-one}
use mathlib.Core.Path.{◌≡◌, refl, sym, ap, ◌∙◌}
use mathlib.Core.List.{List, [], ◌∷◌, ◌++◌, map, map-append, append_assoc, append-nil}
use mathlib.Core.Bool.{Bool, true, false, cond}
use lib.Dec.{ltb}
use lib.ListN.{length, length-append}
use borrow.Author.Tests.{le-ltb, lt-ltb}
use Rattle.digits.proofs.Cases.{either}
use Rattle.jobs.specs.Lines.{pin_lines, after_n, job_number}
use Rattle.checks.specs.Checks.{system_check, line_check}
use Rattle.jobs.specs.declared.Kind.{Kind}
use Rattle.jobs.specs.declared.Job.{Job}
use Rattle.jobs.specs.declared.JobLine.{JobLine}
use Rattle.reading.specs.Shows.{lines_of, before, Passed}
use Rattle.reading.proofs.Walk.{Tied, passed-join, passed-front, passed-rest}
use Rattle.job_form.specs.JobForm.{after_system, job_end, job_form_of}
use Rattle.job_form.specs.JobBytes.{head_kinds, box_kinds, system_kinds}
use Rattle.job_form.specs.JobBytes.{pin_written, job_prior, first_system, shown_check, job_shows}
use Rattle.std.specs.Prelude.{Ok}

-- ---- the lines of the system

pub kinds-next : (i : ℕ) → system_kinds (i + 1) ≡ system_kinds i ++ (JobLine.System i ∷ [])
unfolding system_kinds
kinds-next i = rw add-one

-- the last of them before what follows
pub kinds-rest : (m : ℕ) (ks : List JobLine) → system_kinds (suc m) ++ ks ≡ system_kinds m ++ (JobLine.System m ∷ ks)
unfolding system_kinds
kinds-rest m ks = append_assoc (system_kinds m) (JobLine.System m ∷ []) ks

kinds-long : {A : Type 0} (f : JobLine → A) (m : ℕ) → length (map f (system_kinds m)) ≡ m
unfolding system_kinds
kinds-long f zero = refl
kinds-long f (suc m) =
    ap length (map-append f (system_kinds m) (JobLine.System m ∷ []))
    ∙ length-append (map f (system_kinds m)) (f (JobLine.System m) ∷ [])
    ∙ ap (λ (k : ℕ). k + 1) (kinds-long f m)
    ∙ add-one m

-- ---- their checks

module _ (j : Job) where
  pub passed-each : (m : ℕ) → Passed job_shows (system_kinds m) j → (i : ℕ) → i < m
      → system_check j.head.kind j i ≡ Ok tt
  unfolding system_kinds shown_check line_check
  passed-each zero p i l = absurd (omega arith)
  passed-each (suc m) p i l =
      let ks = system_kinds m in
      either i m
      (λ h. passed-each m (passed-front job_shows j ks (JobLine.System m ∷ []) p) i h)
      (λ h.
      let last : i ≡ m = omega arith in
      rw last (passed-rest job_shows j ks (JobLine.System m ∷ []) p).0)

  pub each-passed : (m : ℕ) → ((i : ℕ) → i < m → system_check j.head.kind j i ≡ Ok tt)
      → Passed job_shows (system_kinds m) j
  unfolding system_kinds shown_check line_check
  each-passed zero h = tt
  each-passed (suc m) h =
      passed-join job_shows j (system_kinds m) (JobLine.System m ∷ []) (each-passed m (λ i l. h i (omega arith)))
      (h m (omega arith), tt)

-- ---- what follows a line of the system

pub first_one : (n : ℕ) → 0 < n → first_system n ≡ JobLine.System 0
unfolding first_system
first_one n h = rw (lt-ltb 0 n h)

-- another one, or the end
pub after-cases : (P : JobLine → Type 0) (i n : ℕ) → i < n → (i + 1 < n → P (JobLine.System (i + 1)))
    → (i + 1 ≡ n → P JobLine.End) → P (after_system i n)
unfolding after_system
after-cases P i n l more end =
    either (i + 1) n
    (λ h. rw (lt-ltb (i + 1) n h) (more h))
    (λ h. rw (le-ltb (i + 1) n h) (end (omega arith)))

pub after-prior : (i : ℕ) (j : Job) → i < j.head.n
    → job_prior (after_system i j.head.n) j ≡ box_kinds j ++ system_kinds (i + 1)
after-prior i j l =
    after-cases (λ k. job_prior k j ≡ box_kinds j ++ system_kinds (i + 1)) i j.head.n l
    (λ h. refl)
    (λ h. ap (λ (m : ℕ). box_kinds j ++ system_kinds m) (sym h))

-- ---- the whole

pub ends : (k : JobLine) → job_end k ≡ true → k ≡ JobLine.End
ends JobLine.Number e = cc
ends JobLine.Kind e = cc
ends JobLine.Unknowns e = cc
ends JobLine.Pin e = cc
ends JobLine.Lo e = cc
ends JobLine.Hi e = cc
ends JobLine.Inv e = cc
ends JobLine.Steps e = cc
ends (JobLine.System i) e = cc
ends JobLine.End e = refl

-- with and without a line for the pin
abbrev lows_by : Job → Bool → List JobLine
lows_by j b = head_kinds ++ (after_n j.head.kind ∷ cond b (JobLine.Lo ∷ []) [])

abbrev long : Job → List JobLine → ℕ
long j ks = length (lines_of job_shows j ks)

system-counted : (i : ℕ) (j : Job) → job_number (JobLine.System i) j.head ≡ long j (box_kinds j ++ system_kinds i) + 1
unfolding pin_lines
system-counted i j = go (pin_written j)
  where
    system : length (lines_of job_shows j (system_kinds i)) ≡ i
    system = kinds-long (λ k. job_shows.line k j) i

    go : (b : Bool) → 7 + cond b 1 0 + 1 + i
        ≡ long j
        ((((lows_by j b ++ (JobLine.Hi ∷ [])) ++ (JobLine.Inv ∷ [])) ++ (JobLine.Steps ∷ [])) ++ system_kinds i) + 1
    go true = omega (arith, system)
    go false = omega (arith, system)

-- a line's number counts the lines before it, from 1
pub counted : (k : JobLine) (j : Job) → job_number k j.head ≡ length (before job_shows k j) + 1
unfolding pin_lines
counted JobLine.Number j = refl
counted JobLine.Kind j = refl
counted JobLine.Unknowns j = refl
counted JobLine.Pin j = refl
counted JobLine.Lo j = go (pin_written j)
  where
    go : (b : Bool) → 4 + cond b 1 0 ≡ long j (head_kinds ++ cond b (JobLine.Pin ∷ []) []) + 1
    go true = refl
    go false = refl
counted JobLine.Hi j = go (pin_written j)
  where
    go : (b : Bool) → 5 + cond b 1 0 ≡ long j (lows_by j b) + 1
    go true = refl
    go false = refl
counted JobLine.Inv j = go (pin_written j)
  where
    go : (b : Bool) → 6 + cond b 1 0 ≡ long j (lows_by j b ++ (JobLine.Hi ∷ [])) + 1
    go true = refl
    go false = refl
counted JobLine.Steps j = go (pin_written j)
  where
    go : (b : Bool) → 7 + cond b 1 0 ≡ long j ((lows_by j b ++ (JobLine.Hi ∷ [])) ++ (JobLine.Inv ∷ [])) + 1
    go true = refl
    go false = refl
counted (JobLine.System i) j = system-counted i j
counted JobLine.End j = system-counted j.head.n j

-- how lo stands in a job: after n, since it is no eigenpair's; after an eigenpair's n, the last being pinned; after
-- the pin
pub data Shape (j : Job) : Type 0 where
  plain : after_n j.head.kind ≡ JobLine.Lo → pin_written j ≡ false → Shape j
  last : j.head.kind ≡ Kind.Eigen → pin_written j ≡ false → Shape j
  pinned : j.head.kind ≡ Kind.Eigen → pin_written j ≡ true → Shape j

pub shape : (j : Job) → Shape j
shape j = kinds j.head.kind refl
  where
    eigen : j.head.kind ≡ Kind.Eigen → (b : Bool) → pin_written j ≡ b → Shape j
    eigen e true p = Shape.pinned e p
    eigen e false p = Shape.last e p

    kinds : (k : Kind) → j.head.kind ≡ k → Shape j
    kinds Kind.Poly e = Shape.plain (rw e) (rw e)
    kinds Kind.Linear e = Shape.plain (rw e) (rw e)
    kinds Kind.Eigen e = eigen e (pin_written j) refl

module _ (j : Job) where
  -- line m of the system, or the end
  line_from : ℕ → JobLine
  line_from m = cond (ltb m j.head.n) (JobLine.System m) JobLine.End

  from_first : first_system j.head.n ≡ line_from 0
  unfolding line_from first_system
  from_first = refl

  from_next : (m : ℕ) → after_system m j.head.n ≡ line_from (suc m)
  unfolding line_from after_system
  from_next m = rw add-one

  from_more : (m : ℕ) → m < j.head.n → line_from m ≡ JobLine.System m
  unfolding line_from
  from_more m l = rw (lt-ltb m j.head.n l)

  from_end : line_from j.head.n ≡ JobLine.End
  unfolding line_from
  from_end = rw (le-ltb j.head.n j.head.n (omega arith))

  -- the first m lines of the system, and what is tied to them
  tied-system : (m : ℕ) → m ≤ j.head.n → (ks : List JobLine) → Tied job_form_of job_shows j (line_from m) ks
      → Tied job_form_of job_shows j (line_from 0) (system_kinds m ++ ks)
  unfolding system_kinds
  tied-system zero h ks t = t
  tied-system (suc m) h ks t =
      rw (kinds-rest m ks)
      (tied-system m (omega arith) (JobLine.System m ∷ ks)
      (rw (from_more m h) (Tied.one {k = JobLine.System m} {ks = ks} refl (rw (from_next m) t))))

  abbrev system : List JobLine
  system = system_kinds j.head.n

  rest : Tied job_form_of job_shows j JobLine.Hi (JobLine.Hi ∷ JobLine.Inv ∷ JobLine.Steps ∷ system)
  rest =
      let none : Tied job_form_of job_shows j (line_from j.head.n) [] = rw from_end Tied.none in
      let lines = rw (append-nil system) at (tied-system j.head.n (omega arith) [] none) in
      Tied.one refl (Tied.one refl (Tied.one {k = JobLine.Steps} {ks = system} refl (rw from_first lines)))

  low : Shape j → Tied job_form_of job_shows j (after_n j.head.kind)
      (after_n j.head.kind ∷ (((cond (pin_written j) (JobLine.Lo ∷ []) [] ++ (JobLine.Hi ∷ [])) ++ (JobLine.Inv ∷ []))
      ++ (JobLine.Steps ∷ [])) ++ system)
  low (Shape.plain e b) = rw (e, b) (Tied.one refl rest)
  low (Shape.last e b) =
      rw (ap after_n e, b)
      (Tied.one {k = JobLine.Pin} {ks = JobLine.Hi ∷ JobLine.Inv ∷ JobLine.Steps ∷ system} refl (rw b rest))
  low (Shape.pinned e b) =
      let lo : Tied job_form_of job_shows j JobLine.Lo (JobLine.Lo ∷ JobLine.Hi ∷ JobLine.Inv ∷ JobLine.Steps ∷
      system) =
      Tied.one refl rest in
      rw (ap after_n e, b)
      (Tied.one {k = JobLine.Pin} {ks = JobLine.Lo ∷ JobLine.Hi ∷ JobLine.Inv ∷ JobLine.Steps ∷ system} refl (rw b lo))

  pub tied : Tied job_form_of job_shows j JobLine.Number (job_prior JobLine.End j)
  tied = Tied.one refl (Tied.one refl (Tied.one refl (low (shape j))))
