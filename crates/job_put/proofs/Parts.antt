-- The parts of a job's text, one after the other, and that each line has its place.
use Prim.Native.Nat.{ℕ, zero, suc, ◌+◌, ◌≤◌}
use native.Mathlib.Omega.{arith}
use native.Mathlib.Numerals.{add-one}
use mathlib.Core.Path.{◌≡◌, refl, sym, ap, ◌∙◌}
use mathlib.Core.List.{List, [], ◌∷◌, ◌++◌, map-append}
use lib.ListN.{length, length-append}
use Rattle.sizes.specs.Sizes.{text_max}
use Rattle.digits.proofs.Cases.{either}
use Rattle.text.specs.Cut.{end_each}
use Rattle.checks.specs.Checks.{check_job}
use Rattle.jobs.specs.Lines.{after_n}
use Rattle.checks.specs.Accepted.{GoodSystem}
use Rattle.jobs.specs.declared.Kind.{Kind}
use Rattle.jobs.specs.declared.Job.{Job}
use Rattle.jobs.specs.declared.JobLine.{JobLine}
use Rattle.reading.specs.Lines.{bytes}
use Rattle.reading.specs.Shows.{lines_of, shown}
use Rattle.writing.specs.Wrote.{line}
use Rattle.writing.proofs.Lines.{end-length, end-append, end_none}
use Rattle.job_form.specs.JobBytes.{system_text, job_line, head_kinds, system_kinds, job_shows, job_bytes}
use Rattle.job_form.proofs.Order.{kinds-next, Shape, shape}
use Rattle.job_form.proofs.Trips.{job-short}
use Rattle.job_put.specs.Parts.{lines_bytes, pin_texts, body_kinds}
use Rattle.std.specs.Prelude.{Ok}

module _ (j : Job) where
  abbrev system_lines : List (List ℕ)
  system_lines = lines_of job_shows j (system_kinds j.head.n)

  abbrev body : List (List ℕ)
  body = lines_of job_shows j body_kinds

  -- "Order: job, kind, n, lo, hi, inv, steps, then n lines", the pin after n
  lines_are : lines_of job_shows j head_kinds ++ (pin_texts j ++ (body ++ system_lines)) ≡ shown job_shows j
  lines_are = go (shape j)
    where
      go : Shape j → lines_of job_shows j head_kinds ++ (pin_texts j ++ (body ++ system_lines)) ≡ shown job_shows j
      go (Shape.plain e b) = rw (e, b)
      go (Shape.last e b) = rw (ap after_n e, b)
      go (Shape.pinned e b) = rw (ap after_n e, b)

  pub job-parts : lines_bytes j head_kinds ++ (bytes (pin_texts j) ++ (bytes body ++ bytes system_lines)) ≡ job_bytes j
  job-parts =
      ap (λ (t : List ℕ). lines_bytes j head_kinds ++ (bytes (pin_texts j) ++ t)) (sym (end-append body system_lines))
      ∙ ap (λ (t : List ℕ). lines_bytes j head_kinds ++ t) (sym (end-append (pin_texts j) (body ++ system_lines)))
      ∙ sym (end-append (lines_of job_shows j head_kinds) (pin_texts j ++ (body ++ system_lines)))
      ∙ ap bytes lines_are

  pub parts-short : check_job j ≡ Ok tt
      → length (lines_bytes j head_kinds)
      + (length (bytes (pin_texts j)) + (length (bytes body) + length (bytes system_lines)))
      ≤ text_max
  parts-short e =
      omega (
        arith,
        ap length job-parts,
        length-append (lines_bytes j head_kinds) (bytes (pin_texts j) ++ (bytes body ++ bytes system_lines)),
        length-append (bytes (pin_texts j)) (bytes body ++ bytes system_lines),
        length-append (bytes body) (bytes system_lines),
        job-short j e,
      )

  -- ---- how long the lines are together

  abbrev long : JobLine → ℕ
  long k = length (line (job_line k j))

  pub head-long : length (lines_bytes j head_kinds)
      ≡ long JobLine.Number + (long JobLine.Kind + (long JobLine.Unknowns + 0))
  head-long = rw (end-length _ _, end-length _ _, end-length _ _, end_none)

  pub body-long : length (lines_bytes j body_kinds)
      ≡ long JobLine.Lo + (long JobLine.Hi + (long JobLine.Inv + (long JobLine.Steps + 0)))
  body-long = rw (end-length _ _, end-length _ _, end-length _ _, end-length _ _, end_none)

  -- ---- the lines of the system

  pub system-none : lines_bytes j (system_kinds 0) ≡ []
  unfolding system_kinds end_each
  system-none = refl

  pub system-more : (i : ℕ)
      → lines_bytes j (system_kinds i) ++ line (system_text j.head.kind j i) ≡ lines_bytes j (system_kinds (i + 1))
  unfolding end_each line
  system-more i =
      sym (ap (lines_bytes j) (kinds-next i)
      ∙ ap bytes (map-append (λ k. job_line k j) (system_kinds i) (JobLine.System i ∷ []))
      ∙ end-append (lines_of job_shows j (system_kinds i)) (system_text j.head.kind j i ∷ []))

  pub system-grows : (i m : ℕ) → i ≤ m → length (lines_bytes j (system_kinds i)) ≤ length
      (lines_bytes j (system_kinds m))
  system-grows i zero h = let e : i ≡ 0 = omega arith in rw e (omega arith)
  system-grows i (suc m) h =
      either i (suc m)
      (λ l.
      let more = ap length (system-more m) in
      omega (
        arith,
        system-grows i m (omega arith),
        length-append (lines_bytes j (system_kinds m)) (line (system_text j.head.kind j m)),
        rw (add-one m) at more,
      ))
      (λ l. let e : i ≡ suc m = omega arith in rw e (omega arith))

pub kind-good : {k k' : Kind} (j : Job) (i : ℕ) → k ≡ k' → GoodSystem k j i → GoodSystem k' j i
kind-good j i e g = rw e at g
