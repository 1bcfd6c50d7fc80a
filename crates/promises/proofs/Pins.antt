-- The pin in a text and in values.
use Prim.Native.Nat.{ℕ, zero, suc, ◌≤◌}
use native.Mathlib.Omega.{arith}
use mathlib.Core.Path.{◌≡◌, refl, sym, ap, ap₂, fun_ext, ◌∙◌}
use mathlib.Core.List.{List, [], ◌∷◌, ◌++◌, map-append}
use mathlib.Core.Bool.{Bool, true, false, cond, not, ◌&&◌}
use lib.Dec.{eqb, leb, ltb}
use lib.IntN.{ℤ, pos, negsuc}
use lib.ListN.{get_or}
use borrow.Author.Tests.{eqb-true, eq-eqb, ne_eqb, le-leb, le-ltb, lt-ltb}
use Rattle.digits.specs.Number.{read_number}
use Rattle.digits.proofs.Cases.{either}
use Rattle.text.specs.Keys.{starts_with, body_of}
use Rattle.text.specs.Words.{pin_key, lo_key}
use Rattle.text.specs.Counts.{in_count, count_of}
use Rattle.text.proofs.Keys.{both}
use Rattle.text.proofs.ListLines.{no-list}
use Rattle.faults.specs.declared.Fault.{Fault}
use Rattle.faults.specs.Checked.{Status}
use Rattle.faults.specs.Checks.{bad_unless, and_then}
use Rattle.reading.specs.Results.{after, passing}
use Rattle.reading.specs.NumberLines.{counted, count_line, rowed, row_line}
use Rattle.reading.specs.Lines.{bytes}
use Rattle.reading.specs.Shows.{lines_of, shown}
use Rattle.jobs.specs.declared.Kind.{Kind}
use Rattle.jobs.specs.declared.Head.{Head}
use Rattle.jobs.specs.declared.Job.{Job}
use Rattle.jobs.specs.declared.JobLine.{JobLine}
use Rattle.jobs.specs.declared.Equation.{Equation}
use Rattle.jobs.specs.Lines.{pin_stands, pin_lines, after_n}
use Rattle.jobs.specs.Parts.{with_pin}
use Rattle.term_checks.specs.Ranges.{one_to}
use Rattle.checks.specs.Checks.{pin_check, line_check, system_check, job_line_status}
use Rattle.checks.specs.Checks.{system_lines, head_lines, body_lines, check_job}
use Rattle.lines.specs.Lines.{written_pin, pin_of, low_of}
use Rattle.lines.specs.Texts.{count_text}
use Rattle.systems.specs.Kinds.{equation_by, equation_of}
use Rattle.step.specs.Values.{start_of, inverse_of}
use Rattle.run.specs.Run.{run_of}
use Rattle.run.specs.Job.{outcome_of, result_of, answer_by, run_job}
use Rattle.run.specs.declared.Outcome.{Outcome}
use Rattle.job_form.specs.JobForm.{job_says}
use Rattle.job_form.specs.JobBytes.{system_text, low_text, box_kinds, system_kinds, job_shows, job_bytes}
use Rattle.job_form.proofs.Order.{Shape, shape}
use Rattle.promises.specs.Pins.{pin_by}
use Rattle.std.specs.Prelude.{Ok, Err, Some, None, Option}

-- ---- a pin line

written-by : (n p : ℕ) → p ≤ n
    → after (written_pin n p) (λ u. p) ≡ cond (leb 1 p && ltb p n) (Ok p) (Err Fault.Pin)
unfolding written_pin one_to bad_unless after
written-by n p h =
    either p n
    (λ l. rw (le-leb p n h, lt-ltb p n l, ne_eqb p n (λ e. omega arith)) (go (leb 1 p)))
    (λ l. rw (le-leb p n h, le-ltb p n l, eq-eqb p n (omega arith)) (none (leb 1 p)))
  where
    go : (b : Bool) → after (bad_unless ((b && true) && true) Fault.Pin) (λ u. p)
        ≡ cond (b && true) (Ok p) (Err Fault.Pin)
    go true = refl
    go false = refl

    none : (b : Bool) → after (bad_unless ((b && true) && false) Fault.Pin) (λ u. p)
        ≡ cond (b && false) (Ok p) (Err Fault.Pin)
    none true = refl
    none false = refl

pub pin-says : (n : ℕ) (l : List ℕ) → pin_of n l ≡ pin_by n (read_number (body_of pin_key l))
unfolding pin_of count_line counted count_of in_count passing after
pin-says n l = go (read_number (body_of pin_key l))
  where
    go : (v : Option ℤ)
        → passing (counted Fault.Spelling Fault.Pin (count_of n v)) (λ p. written_pin n p) ≡ pin_by n v
    go None = refl
    go (Some (negsuc m)) = refl
    go (Some (pos p)) =
        either n p
        (λ l. rw (lt-ltb n p l, le-ltb p n (omega arith)) (none (leb 1 p)))
        (λ l. rw (le-ltb n p l) (written-by n p l))
      where
        none : (b : Bool) → Err Fault.Pin ≡ cond (b && false) (Ok p) (Err Fault.Pin)
        none true = refl
        none false = refl

-- ---- in the other kinds

-- no line of lo begins so
other_key : (l : List ℕ) → starts_with pin_key l ≡ true → starts_with lo_key l ≡ false
unfolding starts_with
other_key [] e = refl
other_key (b ∷ bs) e =
    let p = both (eqb b 112) _ e in
    let first : b ≡ 112 = eqb-true b 112 p.0 in
    rw first

low-odd : (n : ℕ) (l : List ℕ) → starts_with pin_key l ≡ true → low_of n l ≡ Err Fault.Spelling
unfolding low_of row_line rowed passing body_of
low-odd n l e = rw (other_key l e, no-list)

pub pin-elsewhere : (j : Job) (l : List ℕ) → after_n j.head.kind ≡ JobLine.Lo → starts_with pin_key l ≡ true
    → job_says (after_n j.head.kind) j l ≡ Err Fault.Spelling
unfolding job_says after
pin-elsewhere j l k e = rw (k, low-odd j.head.n l e)

module _ (j : Job) (p : ℕ) where
  -- "other kinds ignore it"
  pub check-ignores : after_n j.head.kind ≡ JobLine.Lo → check_job (with_pin j p) ≡ check_job j
  unfolding check_job head_lines body_lines system_lines job_line_status line_check system_check pin_check pin_lines
  check-ignores = go j.head.kind refl
    where
      go : (k : Kind) → j.head.kind ≡ k → after_n k ≡ JobLine.Lo → check_job (with_pin j p) ≡ check_job j
      go Kind.Poly e h = rw e
      go Kind.Linear e h = rw e
      go Kind.Eigen e h = absurd (let z : ◌≡◌ {A = ℕ} 0 1 = cc in omega arith)

  equation-ignores : after_n j.head.kind ≡ JobLine.Lo → (i : ℕ) → equation_of (with_pin j p) i ≡ equation_of j i
  unfolding equation_of
  equation-ignores h i = go j.head.kind h
    where
      go : (k : Kind) → after_n k ≡ JobLine.Lo → equation_by k (with_pin j p) i ≡ equation_by k j i
      go Kind.Poly h = refl
      go Kind.Linear h = refl
      go Kind.Eigen h = absurd (let z : ◌≡◌ {A = ℕ} 0 1 = cc in omega arith)

  outcome-ignores : after_n j.head.kind ≡ JobLine.Lo → outcome_of (with_pin j p) ≡ outcome_of j
  unfolding outcome_of
  outcome-ignores h =
      ap (λ (q : ℕ → Equation). run_of j.head.n q (inverse_of j) j.steps 0 (start_of j))
      (fun_ext (equation-ignores h))

  pub run-ignores : after_n j.head.kind ≡ JobLine.Lo → run_job (with_pin j p) ≡ run_job j
  unfolding run_job result_of and_then
  run-ignores h =
      ap (λ (s : Status). answer_by s (with_pin j p)) (check-ignores h) ∙ go (check_job j)
    where
      go : (s : Status) → answer_by s (with_pin j p) ≡ answer_by s j
      go (Ok u) = ap (λ (o : Outcome). Ok (result_of j o)) (outcome-ignores h)
      go (Err r) = refl

  text-ignores : (k : Kind) (i : ℕ) → system_text k (with_pin j p) i ≡ system_text k j i
  unfolding system_text
  text-ignores Kind.Poly i = refl
  text-ignores Kind.Linear i = refl
  text-ignores Kind.Eigen i = refl

  system-ignores : (m : ℕ) → lines_of job_shows (with_pin j p) (system_kinds m) ≡ lines_of job_shows j (system_kinds m)
  unfolding system_kinds
  system-ignores zero = refl
  system-ignores (suc m) =
      map-append (λ k. job_shows.line k (with_pin j p)) (system_kinds m) (JobLine.System m ∷ [])
      ∙ ap₂ (λ (ls : List (List ℕ)) (l : List ℕ). ls ++ (l ∷ [])) (system-ignores m) (text-ignores j.head.kind m)
      ∙ sym (map-append (λ k. job_shows.line k j) (system_kinds m) (JobLine.System m ∷ []))

  box-ignores : after_n j.head.kind ≡ JobLine.Lo
      → lines_of job_shows (with_pin j p) (box_kinds (with_pin j p)) ≡ lines_of job_shows j (box_kinds j)
  box-ignores = go j.head.kind refl
    where
      go : (k : Kind) → j.head.kind ≡ k → after_n k ≡ JobLine.Lo
          → lines_of job_shows (with_pin j p) (box_kinds (with_pin j p)) ≡ lines_of job_shows j (box_kinds j)
      go Kind.Poly e h = rw e
      go Kind.Linear e h = rw e
      go Kind.Eigen e h = absurd (let z : ◌≡◌ {A = ℕ} 0 1 = cc in omega arith)

  pub bytes-ignore : after_n j.head.kind ≡ JobLine.Lo → job_bytes (with_pin j p) ≡ job_bytes j
  bytes-ignore h =
      let m = j.head.n in
      ap bytes (map-append (λ k. job_shows.line k (with_pin j p)) (box_kinds (with_pin j p)) (system_kinds m)
      ∙ ap₂ (λ (a b : List (List ℕ)). a ++ b) (box-ignores h) (system-ignores m)
      ∙ sym (map-append (λ k. job_shows.line k j) (box_kinds j) (system_kinds m)))

-- ---- what is written

pub written-fourth : (j : Job) → get_or (shown job_shows j) 3 []
    ≡ cond (pin_stands j.head.kind j.head.n j.head.pin) (count_text pin_key j.head.pin) (low_text j)
written-fourth j = go (shape j)
  where
    go : Shape j → get_or (shown job_shows j) 3 []
        ≡ cond (pin_stands j.head.kind j.head.n j.head.pin) (count_text pin_key j.head.pin) (low_text j)
    go (Shape.plain e b) = rw (e, b)
    go (Shape.last e b) = rw (ap after_n e, b)
    go (Shape.pinned e b) = rw (ap after_n e, b)

pub never-written : (j : Job) → j.head.pin ≡ j.head.n → get_or (shown job_shows j) 3 [] ≡ low_text j
never-written j e =
    written-fourth j
    ∙ ap (λ (b : Bool). cond b (count_text pin_key j.head.pin) (low_text j)) (go j.head.kind)
  where
    go : (k : Kind) → pin_stands k j.head.n j.head.pin ≡ false
    go Kind.Poly = refl
    go Kind.Linear = refl
    go Kind.Eigen = ap not (eq-eqb j.head.pin j.head.n e)

-- ---- the numbers of the lines after it

module _ (h : Head) where
  pub shift_one : h.kind ≡ Kind.Eigen → (h.pin ≡ h.n → ⊥) → pin_lines h ≡ 1
  unfolding pin_lines
  shift_one e ne = rw (e, ne_eqb h.pin h.n ne)

  pub shift_none : (h.kind ≡ Kind.Eigen → h.pin ≡ h.n) → pin_lines h ≡ 0
  unfolding pin_lines
  shift_none e = go h.kind refl
    where
      go : (k : Kind) → h.kind ≡ k → ◌≡◌ {A = ℕ} (cond (pin_stands h.kind h.n h.pin) 1 0) 0
      go Kind.Poly p = rw p
      go Kind.Linear p = rw p
      go Kind.Eigen p = rw (p, eq-eqb h.pin h.n (e p))
