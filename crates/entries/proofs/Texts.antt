-- What is told of a text: its length comes first, then the fault of a line, under a number of at least 1.
use Prim.Native.Nat.{ℕ, ◌+◌, ◌≤◌, ◌<◌}
use native.Mathlib.Omega.{arith}
use mathlib.Core.Path.{◌≡◌, refl, ap}
use mathlib.Core.List.{List, []}
use mathlib.Core.Logic.{◌↔◌}
use lib.ListN.{length}
use Rattle.sizes.specs.Sizes.{text_max}
use Rattle.faults.specs.Words.{number_of, line_of}
use Rattle.faults.specs.declared.Fault.{Fault}
use Rattle.digits.proofs.Cases.{either}
use Rattle.text.specs.Cut.{feeds}
use Rattle.reading.specs.Results.{Blamed}
use Rattle.reading.specs.Lines.{Form, Answer, opened, more, ended, closed, read}
use Rattle.reading.specs.Refused.{Refused}
use Rattle.reading.proofs.Goes.{read-long}
use Rattle.reading.proofs.Refused.{refused-exactly, refused-blamed}
use Rattle.lines.specs.Answered.{answered}
use Rattle.lines.proofs.Faults.{OfLine, spelling}
use Rattle.job_form.specs.JobForm.{job_form_of, read_job}
use Rattle.job_form.proofs.Answers as job
use Rattle.result_form.specs.ResultForm.{result_form_of, read_result}
use Rattle.result_form.proofs.Answers as result
use Rattle.entries.specs.Numbers.{Told, told, tell}
use Rattle.job_form.proofs.Faults.{job-says}
use Rattle.result_form.proofs.Faults.{result_says_lem}

-- the faults of a form are those of document 01: 1 for its length, and no line has 1 or 7
record Faults {L X : Type 0} (g : Form Fault L X) : Type 0 where
  long : g.long ≡ Fault.LongText
  odd : OfLine g.odd
  says : (k : L) (v : X) (l : List ℕ) → Blamed OfLine (g.says k v l)
  counted : (t : List ℕ) (f : Fault) (n : ℕ) (r : Refused g t f n) → n ≡ length r.before + 1

module _ {L X : Type 0} (g : Form Fault L X) (has : Faults g) (t : List ℕ) where
  long-told : g.most < length t → told (answered (read g t)) ≡ tell 1 0
  long-told h = rw (read-long g t h, has.long)

  -- what is told of a text that is not too long
  record OfLines (a : Answer Fault X) : Type 0 where
    not-long : number_of (answered a) ≡ 1 → ⊥
    not_short : number_of (answered a) ≡ 7 → ⊥
    line : 1 ≤ number_of (answered a) → 1 ≤ line_of (answered a)

  of-lines : length t ≤ g.most → OfLines (read g t)
  of-lines h = go (read g t) refl
    where
      go : (a : Answer Fault X) → read g t ≡ a → OfLines a
      go (Answer.done x) e =
          record { not-long = λ q. omega arith; not_short = λ q. omega arith; line = λ q. absurd (omega arith) }
      go (Answer.refused f n) e =
          let r = (refused-exactly g t f n h).0 e in
          let of = refused-blamed OfLine has.odd has.says r in
          record {
            not-long = of.not-long;
            not_short = of.not_short;
            line = λ q. omega (arith, has.counted t f n r);
          }

  long-exactly : ((told (answered (read g t))).number ≡ 1) ↔ (g.most < length t)
  long-exactly = (
    λ e. either g.most (length t) (λ h. h) (λ h. absurd ((of-lines h).not-long e)),
    λ h. ap (λ (x : Told). x.number) (long-told h),
  )

  not-seven : number_of (answered (read g t)) ≡ 7 → ⊥
  not-seven e =
      either g.most (length t)
      (λ h. let one = long-exactly.1 h in omega arith)
      (λ h. (of-lines h).not_short e)

  line-from-one : 1 < (told (answered (read g t))).number → 1 ≤ (told (answered (read g t))).line
  line-from-one q =
      either g.most (length t)
      (λ h. let one = long-exactly.1 h in absurd (omega arith))
      (λ h. (of-lines h).line (omega arith))

-- ---- a job text

of-job : Faults job_form_of
of-job = record { long = refl; odd = spelling; says = job-says; counted = job.line-number }

module _ (t : List ℕ) where
  pub job-long : ((told (read_job t)).number ≡ 1) ↔ (text_max < length t)
  unfolding read_job
  job-long = long-exactly job_form_of of-job t

  pub job-long-told : text_max < length t → told (read_job t) ≡ tell 1 0
  unfolding read_job
  job-long-told = long-told job_form_of of-job t

  pub job-not-seven : number_of (read_job t) ≡ 7 → ⊥
  unfolding read_job
  job-not-seven = not-seven job_form_of of-job t

  pub job-line : 1 < (told (read_job t)).number → 1 ≤ (told (read_job t)).line
  unfolding read_job
  job-line = line-from-one job_form_of of-job t

pub job-empty : told (read_job []) ≡ tell 2 1
unfolding read_job read closed more opened ended feeds
job-empty = refl

-- ---- a result text

of-result : Faults result_form_of
of-result = record { long = refl; odd = spelling; says = result_says_lem; counted = result.line-number }

module _ (t : List ℕ) where
  pub result-long : ((told (read_result t)).number ≡ 1) ↔ (text_max < length t)
  unfolding read_result
  result-long = long-exactly result_form_of of-result t

  pub result-long-told : text_max < length t → told (read_result t) ≡ tell 1 0
  unfolding read_result
  result-long-told = long-told result_form_of of-result t

  pub result-not-seven : number_of (read_result t) ≡ 7 → ⊥
  unfolding read_result
  result-not-seven = not-seven result_form_of of-result t

  pub result-line : 1 < (told (read_result t)).number → 1 ≤ (told (read_result t)).line
  unfolding read_result
  result-line = line-from-one result_form_of of-result t

pub result-empty : told (read_result []) ≡ tell 2 1
unfolding read_result read closed more opened ended feeds
result-empty = refl
