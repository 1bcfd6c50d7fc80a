-- A line of a job that is shown is read as the check of its values finds.
use Prim.Native.Nat.{ℕ, ◌+◌, ◌<◌}
use native.Mathlib.Omega.{arith}
use mathlib.Core.Path.{◌≡◌, refl, sym, ap, ap₂, ◌∙◌}
use mathlib.Core.Bool.{Bool, true, false, cond, true≢false}
use Rattle.digits.specs.Bytes.{line_feed}
use Rattle.digits.specs.Number.{digits_max}
use Rattle.text.specs.Words.{job_key, n_key, pin_key, lo_key, hi_key, inv_key, steps_key, row_key}
use Rattle.text.proofs.Pieces.{Above}
use Rattle.jobs.specs.Places.{row_at, equation_at}
use Rattle.jobs.specs.Parts.{with_steps, with_system}
use Rattle.checks.specs.Checks.{number_check, unknowns_check, low_check, high_check, inverse_check, steps_check}
use Rattle.checks.specs.Checks.{system_check, line_check}
use Rattle.jobs.specs.Lines.{after_n}
use Rattle.checks.proofs.CheckLaws.{unknowns-fine}
use Rattle.jobs.specs.declared.Kind.{Kind}
use Rattle.jobs.specs.declared.Body.{Body}
use Rattle.jobs.specs.declared.Job.{Job}
use Rattle.jobs.specs.declared.JobLine.{JobLine}
use Rattle.reading.specs.Results.{after}
use Rattle.reading.specs.NumberLines.{placed}
use Rattle.reading.proofs.Told.{after-after}
use Rattle.reading.proofs.NumberLines.{count-plain, list-plain}
use Rattle.reading.proofs.Walk.{Law}
use Rattle.term_round.proofs.ReadBack.{equation-above}
use Rattle.lines.specs.Texts.{count_text, matrix_list}
use Rattle.lines.proofs.Words.{kind-above, kind-back}
use Rattle.lines.proofs.Checks.{low_small, high_small, number_spelled, steps-spelled}
use Rattle.lines.proofs.Unknowns.{unknowns-back}
use Rattle.lines.proofs.Rows.{matrix-small}
use Rattle.lines.proofs.Back.{number-back, steps_back, low-back, high-back, inverse-back}
use Rattle.job_form.specs.JobForm.{after_system, job_says, job_end, job_form_of}
use Rattle.job_form.specs.JobBytes.{system_text, pin_written, low_text, job_line, SpelledLine, shown_check, job_shows}
use Rattle.job_form.specs.Live.{upto_system, job_upto}
use Rattle.job_form.proofs.Order.{first_one, after-cases}
use Rattle.job_form.proofs.Reached.{Sized, Has, Spelt}
use Rattle.job_form.proofs.Fourth.{leaves, after-unknowns, unknowns-has, fourth-says, fourth-spelt, fourth-has}
use Rattle.job_form.proofs.System.{said_put, says_is, said-back, said-spelled}
use Rattle.job_form.proofs.System.{system-none, system-more}

-- ---- the system

pub after-upto : (i : ℕ) (j : Job) → i < j.head.n → upto_system (i + 1) j ≡ job_upto (after_system i j.head.n) j
after-upto i j l =
    after-cases (λ k. upto_system (i + 1) j ≡ job_upto k j) i j.head.n l
    (λ h. refl)
    (λ h. ap (λ (m : ℕ). upto_system m j) h)

pub after-has : (i : ℕ) (j : Job) → Sized j → i < j.head.n → Has j (after_system i j.head.n)
after-has i j size l = after-cases (Has j) i j.head.n l (λ h. (size, h)) (λ h. size)

-- before the system nothing of it is read
pub upto-none : (j : Job) → upto_system 0 j ≡ with_steps (job_upto JobLine.Steps j) j.steps
upto-none j =
    ap (λ (s : Body). with_system (with_steps (job_upto JobLine.Steps j) j.steps) s)
    (system-none j.head.kind j.head.n j.system)

module _ (j : Job) (i : ℕ) (size : Sized j) (l : i < j.head.n) where
  line-says : SpelledLine j.head.kind j i
      → job_says (JobLine.System i) (upto_system i j) (system_text j.head.kind j i)
      ≡ after (system_check j.head.kind j i)
      (λ u. leaves (after_system i j.head.n) (job_upto (after_system i j.head.n) j))
  unfolding job_says
  line-says s =
      let k = j.head.kind in
      let n = j.head.n in
      let v = upto_system i j in
      let more = ap (with_system v) (system-more k n i j.system (omega (arith, size.1))) ∙ after-upto i j l in
      says_is k v i (system_text k j i)
      ∙ ap (λ r. after r (λ x. leaves (after_system i n) (with_system v (said_put k v.system i x))))
      (said-back k j i size.0 size.1 s)
      ∙ after-after (system_check k j i) _ _
      ∙ ap (λ (x : Job). after (system_check k j i) (λ u. leaves (after_system i n) x)) more

-- ---- each line

pub law : (j : Job) (k : JobLine) → Has j k → job_end k ≡ false → Law job_form_of job_shows j (Has j) (Spelt j) k
unfolding job_says shown_check line_check after
law j JobLine.Number h o = record {
  says = λ s. rw (number-back j.head.number s) (after-after (number_check j.head.number) _ _);
  spelt = λ e. number_spelled j.head.number e;
  has = λ e. tt;
}
law j JobLine.Kind h o = record {
  says = λ s. rw (kind-back j.head.kind);
  spelt = λ e. tt;
  has = λ e. tt;
}
law j JobLine.Unknowns h o = record {
  says = λ s.
      rw (unknowns-back j.head.n s)
      (after-after (unknowns_check j.head.n) _ _
      ∙ ap (λ (x : Job). after (unknowns_check j.head.n) (λ u. leaves (after_n j.head.kind) x))
      (after-unknowns j));
  spelt = λ e. let f = unknowns-fine j.head.n e in omega arith;
  has = λ e. unknowns-has j (unknowns-fine j.head.n e);
}
law j JobLine.Pin h o = record {
  says = fourth-says j h.0 h.1;
  spelt = fourth-spelt j h.0 h.1;
  has = λ e. fourth-has j h.0 h.1;
}
law j JobLine.Lo h o = record {
  says = λ s.
      rw (low-back j.head.n h.0.0 h.0.1 j.ends.lo s)
      (after-after (low_check j.head.n j.ends.lo) _ _);
  spelt = λ e. low_small j.head.n j.ends.lo e;
  has = λ e. h.0;
}
law j JobLine.Hi h o = record {
  says = λ s.
      rw (high-back j.head.n h.0 h.1 j.ends.lo j.ends.hi s)
      (after-after (high_check j.head.n j.ends.lo j.ends.hi) _ _);
  spelt = λ e. high_small j.head.n j.ends.hi j.ends.lo e;
  has = λ e. h;
}
law j JobLine.Inv h o = record {
  says = λ s.
      rw (inverse-back j.head.n h.0 h.1 j.inv s)
      (after-after (inverse_check j.head.n j.inv) _ _);
  spelt = λ e. matrix-small j.head.n h.0 h.1 j.inv e;
  has = λ e. h;
}
law j JobLine.Steps h o = record {
  says = λ s.
      rw (steps_back j.steps s)
      (after-after (steps_check j.steps) _ _
      ∙ ap₂ (λ (k : JobLine) (x : Job). after (steps_check j.steps) (λ u. leaves k x))
      (sym (first_one j.head.n h.0))
      (sym (upto-none j) ∙ ap (λ (k : JobLine). job_upto k j) (sym (first_one j.head.n h.0))));
  spelt = λ e. steps-spelled j.steps e;
  has = λ e. rw (first_one j.head.n h.0) (h, h.0);
}
law j (JobLine.System i) h o = record {
  says = line-says j i h.0 h.1;
  spelt = λ e. said-spelled j.head.kind j i e;
  has = λ e. after-has i j h.0 h.1;
}
law j JobLine.End h o = absurd (true≢false o)

-- ---- no line holds an LF

key-plain : Above line_feed row_key
unfolding Above
key-plain = omega arith

system-plain : (k : Kind) (j : Job) (i : ℕ) → Above line_feed (system_text k j i)
unfolding system_text
system-plain Kind.Poly j i = equation-above line_feed (omega arith) j.head.n (equation_at j.system.eqs i)
system-plain Kind.Linear j i = list-plain row_key key-plain digits_max _
system-plain Kind.Eigen j i =
    list-plain row_key key-plain digits_max (placed j.head.n j.head.n (row_at j.system.rows i))

pub plain : (j : Job) (k : JobLine) → Above line_feed (job_line k j)
unfolding Above
plain j JobLine.Number = count-plain job_key (omega arith) j.head.number
plain j JobLine.Kind = kind-above j.head.kind
plain j JobLine.Unknowns = count-plain n_key (omega arith) j.head.n
plain j JobLine.Pin = go (pin_written j)
  where
    go : (b : Bool) → Above line_feed (cond b (count_text pin_key j.head.pin) (low_text j))
    go true = count-plain pin_key (omega arith) j.head.pin
    go false = list-plain lo_key (omega arith) digits_max (placed j.head.n j.head.n j.ends.lo)
plain j JobLine.Lo = list-plain lo_key (omega arith) digits_max (placed j.head.n j.head.n j.ends.lo)
plain j JobLine.Hi = list-plain hi_key (omega arith) digits_max (placed j.head.n j.head.n j.ends.hi)
plain j JobLine.Inv = list-plain inv_key (omega arith) digits_max (matrix_list j.inv j.head.n)
plain j JobLine.Steps = count-plain steps_key (omega arith) j.steps
plain j (JobLine.System i) = system-plain j.head.kind j i
plain j JobLine.End = tt
