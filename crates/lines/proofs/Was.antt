-- What a line tells of its value: it is the line that is written for the value, its check finds nothing, and there are
-- zeros in the dead places.
use Prim.Native.Nat.{ℕ}
use mathlib.Core.Path.{◌≡◌, refl}
use mathlib.Core.List.{List}
use lib.Dec.{leb}
use borrow.Author.Tests.{le-leb}
use Rattle.sizes.specs.Sizes.{number_max, visit_max, steps_max}
use Rattle.faults.specs.declared.Fault.{Fault}
use Rattle.faults.specs.Checked.{Finding}
use Rattle.faults.specs.Checks.{bad_unless}
use Rattle.faults.proofs.Laws.{fine-unless}
use Rattle.text.specs.Words.{job_key, visit_key, steps_key}
use Rattle.checks.specs.Checks.{number_check, steps_check}
use Rattle.checks.specs.CheckResult.{visit_check}
use Rattle.jobs.specs.declared.Kind.{Kind}
use Rattle.reading.specs.Results.{Told}
use Rattle.reading.specs.NumberLines.{count_line}
use Rattle.reading.proofs.Told.{told-map}
use Rattle.reading.proofs.NumberLines.{count-told}
use Rattle.lines.specs.Lines.{number_of, visit_of, steps_of, kind_of}
use Rattle.lines.specs.Texts.{count_text, kind_text}
use Rattle.lines.proofs.Words.{kind-told}
use Rattle.std.specs.Prelude.{Ok}

pub record LineWas {A : Type 0} (text : A → List ℕ) (check : A → Finding) (live : A → A) (l : List ℕ) (x : A)
    : Type 0 where
  pub shown : text x ≡ l
  pub fine : check x ≡ Ok tt
  pub whole : live x ≡ x

limit-told : (f : Fault) (key : List ℕ) (most : ℕ) (l : List ℕ)
    → Told (LineWas (count_text key) (λ m. bad_unless (leb m most) f) (λ m. m) l)
    (count_line Fault.Spelling f key most l)
limit-told f key most l =
    told-map _ (count-told Fault.Spelling f key most l) (λ m e. record {
      shown = e.0;
      fine = fine-unless f (le-leb m most e.1);
      whole = refl;
    })

pub number-told : (l : List ℕ) → Told (LineWas (count_text job_key) number_check (λ m. m) l) (number_of l)
unfolding number_of number_check
number-told = limit-told Fault.Beyond job_key number_max

pub visit-told : (l : List ℕ) → Told (LineWas (count_text visit_key) visit_check (λ m. m) l) (visit_of l)
unfolding visit_of visit_check
visit-told = limit-told Fault.Beyond visit_key visit_max

pub steps-told : (l : List ℕ) → Told (LineWas (count_text steps_key) steps_check (λ m. m) l) (steps_of l)
unfolding steps_of steps_check
steps-told = limit-told Fault.Steps steps_key steps_max

pub kind-was : (l : List ℕ) → Told (LineWas kind_text (λ (k : Kind). (Ok tt)) (λ k. k) l) (kind_of l)
kind-was l = told-map _ (kind-told l) (λ k e. record { shown = e; fine = refl; whole = refl })
