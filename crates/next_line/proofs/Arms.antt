-- A line by the answer of its function.
use Prim.Native.Nat.{ℕ}
use mathlib.Core.Path.{◌≡◌, refl, sym, ap, ◌∙◌}
use mathlib.Core.List.{List}
use borrow.Author.Tests.{eq-eqb}
use Rattle.faults.specs.declared.Fault.{Fault}
use Rattle.faults.specs.Checked.{Found}
use Rattle.reading.specs.Lines.{Next, State, heard, step}
use Rattle.reading.proofs.Told.{fault-got}
use Rattle.scan.specs.Lines.{line_of}
use Rattle.jobs.specs.declared.Kind.{Kind}
use Rattle.jobs.specs.declared.Job.{Job}
use Rattle.jobs.specs.declared.JobLine.{JobLine}
use Rattle.jobs.specs.Lines.{job_number}
use Rattle.job_form.specs.JobForm.{job_form_of, job_says, system_says}
use Rattle.next_line.specs.declared.Read.{Read}
use Rattle.next_line.specs.State.{kind_of, line_in, head_of, job_of, with_state, stopped_by}
use Rattle.next_line.specs.State.{read_from, line_read, line_taken}
use Rattle.std.specs.Prelude.{Ok, Err}

-- a line of the system, by its kind
pub system-read : (r : Read) (i : ℕ) (t : List ℕ) {k : Kind} {g : Found Read} → kind_of r.kind ≡ k
    → g ≡ read_from r (system_says k i (job_of r) (line_of t 0)) → g ≡ line_read r (JobLine.System i) t
unfolding line_read job_says
system-read r i t e w = w ∙ ap (λ (k : Kind). read_from r (system_says k i (job_of r) (line_of t 0))) (sym e)

-- "bytes after the last line are an extra line": what such a line says is wrongly spelled
step-says : (k : JobLine) (j : Job) (l : List ℕ)
    → step job_form_of (State.at k j) l ≡ heard (job_number k j.head) (job_says k j l)
unfolding step job_says heard
step-says JobLine.Number j l = refl
step-says JobLine.Kind j l = refl
step-says JobLine.Unknowns j l = refl
step-says JobLine.Pin j l = refl
step-says JobLine.Lo j l = refl
step-says JobLine.Hi j l = refl
step-says JobLine.Inv j l = refl
step-says JobLine.Steps j l = refl
step-says (JobLine.System i) j l = refl
step-says JobLine.End j l = refl

-- the next line, as one of its kind
module _ (r : Read) (t : List ℕ) (good : r.fault ≡ 0) {k : JobLine} (is : k ≡ line_in r.next) where
  taken : line_taken r t ≡ with_state r (heard (job_number k (head_of r)) (job_says k (job_of r) (line_of t 0)))
  unfolding line_taken
  taken = rw (is, eq-eqb r.fault 0 good, step-says (line_in r.next) (job_of r) (line_of t 0))

  pub next-read : {s : Read} → Ok s ≡ line_read r k t → s ≡ line_taken r t
  unfolding line_read heard
  next-read {s} e = rw taken (go (job_says k (job_of r) (line_of t 0)) e)
    where
      go : (g : Found (Next JobLine Job)) → Ok s ≡ read_from r g
          → s ≡ with_state r (heard (job_number k (head_of r)) g)
      go (Ok x) w = cc
      go (Err f) w = fault-got (sym w)

  pub next-bad : {f : Fault} → Err f ≡ line_read r k t → stopped_by r f (job_number k (head_of r)) ≡ line_taken r t
  unfolding line_read heard
  next-bad {f} e = rw taken (go (job_says k (job_of r) (line_of t 0)) e)
    where
      go : (g : Found (Next JobLine Job)) → Err f ≡ read_from r g
          → stopped_by r f (job_number k (head_of r)) ≡ with_state r (heard (job_number k (head_of r)) g)
      go (Ok x) w = fault-got w
      go (Err d) w = let z : f ≡ d = cc in rw z
