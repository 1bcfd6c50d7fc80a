-- The lines up to lo, and what their checks find, are those of the head and of lo: the lines after them change neither.
use Prim.Native.Nat.{ℕ}
use native.Mathlib.Omega.{arith}
use mathlib.Core.Path.{◌≡◌, refl, sym, ap, ap₂, ◌∙◌}
use mathlib.Core.List.{List, [], ◌∷◌, ◌++◌, map-append}
use mathlib.Core.Bool.{Bool, true, false, cond}
use lib.IntN.{ℤ}
use Rattle.faults.specs.Checks.{first_of}
use Rattle.faults.proofs.Laws.{fine-first, fine-next, both-fine}
use Rattle.text.specs.Words.{job_key, n_key, pin_key, lo_key, hi_key, steps_key}
use Rattle.jobs.specs.declared.Kind.{Kind}
use Rattle.jobs.specs.declared.Row.{Row}
use Rattle.jobs.specs.declared.Head.{Head}
use Rattle.jobs.specs.declared.Job.{Job}
use Rattle.jobs.specs.declared.JobLine.{JobLine}
use Rattle.jobs.specs.Lines.{pin_stands, after_n}
use Rattle.checks.specs.Checks.{number_check, unknowns_check, pin_check, low_check, inverse_check, steps_check}
use Rattle.checks.specs.Checks.{line_check}
use Rattle.reading.specs.Shows.{lines_of, Passed}
use Rattle.reading.proofs.Walk.{passed-join, passed-front, passed-rest}
use Rattle.lines.specs.Texts.{count_text, kind_text, row_text, inverse_text}
use Rattle.job_form.specs.JobBytes.{pin_written, low_kinds, high_kinds, inverse_kinds, box_kinds}
use Rattle.job_form.specs.JobBytes.{job_line, shown_check, job_shows}
use Rattle.job_form.proofs.Order.{Shape, shape}
use Rattle.std.specs.Prelude.{Ok}

-- ---- the lines

-- a written pin stands before lo
abbrev pub pin_first : Bool → List ℕ → List ℕ → List (List ℕ)
pin_first true pin lo = pin ∷ lo ∷ []
pin_first false pin lo = lo ∷ []

abbrev pub low_lines : Head → List ℤ → List (List ℕ)
low_lines h lo =
    count_text job_key h.number ∷ kind_text h.kind ∷ count_text n_key h.n
    ∷ pin_first (pin_stands h.kind h.n h.pin) (count_text pin_key h.pin) (row_text lo_key h.n lo)

pub low-lines-are : (j : Job) → lines_of job_shows j (low_kinds j) ≡ low_lines j.head j.ends.lo
low-lines-are j = go (shape j)
  where
    go : Shape j → lines_of job_shows j (low_kinds j) ≡ low_lines j.head j.ends.lo
    go (Shape.plain e b) = rw (e, b)
    go (Shape.last e b) = rw (ap after_n e, b)
    go (Shape.pinned e b) = rw (ap after_n e, b)

-- ---- their checks

pub record LowFine (h : Head) (lo : List ℤ) : Type 0 where
  pub number : number_check h.number ≡ Ok tt
  pub unknowns : unknowns_check h.n ≡ Ok tt
  pub pin : pin_check h.kind h.n h.pin ≡ Ok tt
  pub low : low_check h.n lo ≡ Ok tt

-- no eigenpair's job: whatever its pin is
pub plain-pin : (k : Kind) (n pin : ℕ) → after_n k ≡ JobLine.Lo → pin_check k n pin ≡ Ok tt
unfolding pin_check
plain-pin Kind.Poly n pin e = refl
plain-pin Kind.Linear n pin e = refl
plain-pin Kind.Eigen n pin e = absurd (let z : ◌≡◌ {A = ℕ} 0 1 = cc in omega arith)

module _ (j : Job) where
  abbrev Checks : JobLine → Type 0
  Checks k = shown_check k j ≡ Ok tt

  pub passed-fine : Passed job_shows (low_kinds j) j → LowFine j.head j.ends.lo
  unfolding shown_check line_check
  passed-fine p = go (shape j) p.1.1.1
    where
      all : pin_check j.head.kind j.head.n j.head.pin ≡ Ok tt
          → low_check j.head.n j.ends.lo ≡ Ok tt → LowFine j.head j.ends.lo
      all pin low = record {
        number = p.0;
        unknowns = p.1.1.0;
        pin = pin;
        low = low;
      }

      go : Shape j → Checks (after_n j.head.kind) × Passed job_shows (cond (pin_written j) (JobLine.Lo ∷ []) []) j
          → LowFine j.head j.ends.lo
      go (Shape.plain e b) q =
          all (plain-pin j.head.kind j.head.n j.head.pin e) (rw e at q.0)
      go (Shape.last e b) q =
          let f : first_of (pin_check j.head.kind j.head.n j.head.pin)
          (low_check j.head.n j.ends.lo) ≡ (Ok tt) =
          rw (ap after_n e, b) at q.0 in
          all (fine-first _ _ f) (fine-next _ _ f)
      go (Shape.pinned e b) q =
          let f : first_of (pin_check j.head.kind j.head.n j.head.pin) (Ok tt) ≡ Ok tt =
          rw (ap after_n e, b) at q.0 in
          all (fine-first _ _ f) (rw b at q.1).0

  fine-passed : LowFine j.head j.ends.lo → Passed job_shows (low_kinds j) j
  unfolding shown_check line_check
  fine-passed f = (f.number, (refl, (f.unknowns, go (shape j))))
    where
      go : Shape j → Checks (after_n j.head.kind) × Passed job_shows (cond (pin_written j) (JobLine.Lo ∷ []) []) j
      go (Shape.plain e b) = rw (e, b) (f.low, tt)
      go (Shape.last e b) = rw (ap after_n e, b) (both-fine f.pin f.low, tt)
      go (Shape.pinned e b) =
          rw (ap after_n e, b) (both-fine f.pin refl, (f.low, tt))

-- ---- jobs that have the same lines so far

pub record Alike (v u : Job) (ks ls : List JobLine) : Type 0 where
  pub lines : lines_of job_shows u ls ≡ lines_of job_shows v ks
  pub passed : Passed job_shows ks v → Passed job_shows ls u

module _ (v u : Job) where
  pub low_alike : u.head ≡ v.head → u.ends.lo ≡ v.ends.lo → Alike v u (low_kinds v) (low_kinds u)
  low_alike h lo = record {
    lines = low-lines-are u ∙ ap₂ low_lines h lo ∙ sym (low-lines-are v);
    passed = λ p. fine-passed u (rw (h, lo) (passed-fine v p));
  }

  module _ {ks ls : List JobLine} (a : Alike v u ks ls) (k : JobLine) where
    -- the next line, which says l
    pub alike-lines : {l : List ℕ} → job_line k u ≡ l
        → lines_of job_shows u (ls ++ (k ∷ [])) ≡ lines_of job_shows v ks ++ (l ∷ [])
    alike-lines e =
        map-append (λ k. job_shows.line k u) ls (k ∷ [])
        ∙ ap₂ (λ (xs : List (List ℕ)) (y : List ℕ). xs ++ (y ∷ [])) a.lines e

    -- the next line, as it was
    pub alike_next : job_line k u ≡ job_line k v → shown_check k u ≡ shown_check k v
        → Alike v u (ks ++ (k ∷ [])) (ls ++ (k ∷ []))
    alike_next line check = record {
      lines = alike-lines line ∙ sym (map-append (λ k. job_shows.line k v) ks (k ∷ []));
      passed = λ p. passed-join job_shows u ls (k ∷ []) (a.passed (passed-front job_shows v ks (k ∷ []) p))
          (check ∙ (passed-rest job_shows v ks (k ∷ []) p).0, tt);
    }

    pub alike-passed : Passed job_shows ks v → shown_check k u ≡ Ok tt
        → Passed job_shows (ls ++ (k ∷ [])) u
    alike-passed p e = passed-join job_shows u ls (k ∷ []) (a.passed p) (e, tt)

-- ---- the lines of the box after lo

module _ (v u : Job) (h : u.head ≡ v.head) (lo : u.ends.lo ≡ v.ends.lo) where
  pub high-alike : u.ends.hi ≡ v.ends.hi → Alike v u (high_kinds v) (high_kinds u)
  unfolding shown_check line_check
  high-alike hi =
      alike_next v u (low_alike v u h lo) JobLine.Hi
      (ap₂ (λ (x : Head) (xs : List ℤ). row_text hi_key x.n xs) h hi)
      (rw (h, lo, hi))

  pub inverse-alike : u.ends.hi ≡ v.ends.hi → u.inv ≡ v.inv → Alike v u (inverse_kinds v) (inverse_kinds u)
  unfolding shown_check line_check
  inverse-alike hi inv =
      alike_next v u (high-alike hi) JobLine.Inv
      (ap₂ (λ (x : Head) (rows : List Row). inverse_text x.n rows) h inv)
      (ap₂ (λ (x : Head) (rows : List Row). inverse_check x.n rows) h inv)

  pub box-alike : u.ends.hi ≡ v.ends.hi → u.inv ≡ v.inv → u.steps ≡ v.steps
      → Alike v u (box_kinds v) (box_kinds u)
  unfolding shown_check line_check
  box-alike hi inv steps =
      alike_next v u (inverse-alike hi inv) JobLine.Steps (ap (count_text steps_key) steps) (ap steps_check steps)
