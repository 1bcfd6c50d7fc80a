-- The line after n. Document 02, P2: an eigenpair's is its pin or, where the last is pinned, its lo.
use Prim.Native.Nat.{ℕ, ◌<◌}
use native.Mathlib.Omega.{arith}
use mathlib.Core.Path.{◌≡◌, refl, sym, ap, ap₂, ◌∙◌}
use mathlib.Core.List.{List}
use mathlib.Core.Bool.{Bool, true, false, cond}
use mathlib.Core.Logic.{inl, inr}
use lib.Dec.{eqb}
use borrow.Author.Tests.{eqb-true, not-true, not-false}
use Rattle.sizes.specs.Sizes.{n_max}
use Rattle.text.specs.Keys.{starts_with}
use Rattle.text.specs.Words.{pin_key}
use Rattle.faults.specs.declared.Fault.{Fault}
use Rattle.faults.specs.Checked.{Finding, Found}
use Rattle.faults.specs.Checks.{first_of}
use Rattle.faults.proofs.Laws.{fine-then, fine-first, fine-next, fine-unless}
use Rattle.jobs.specs.declared.Kind.{Kind}
use Rattle.jobs.specs.declared.Job.{Job}
use Rattle.jobs.specs.declared.JobLine.{JobLine}
use Rattle.jobs.specs.Lines.{after_n}
use Rattle.jobs.specs.Parts.{with_pin, with_lo, last_pin}
use Rattle.checks.specs.Checks.{pin_check, low_check, line_check}
use Rattle.term_checks.proofs.RangeLaws.{to_one}
use Rattle.reading.specs.Results.{after}
use Rattle.reading.specs.Lines.{Next}
use Rattle.reading.specs.NumberLines.{placed}
use Rattle.reading.proofs.Told.{after-after}
use Rattle.lines.specs.Lines.{pin_of, low_of}
use Rattle.lines.specs.Texts.{count_text}
use Rattle.lines.proofs.Pins.{pin-back, pin-spelled}
use Rattle.lines.proofs.Back.{low-back}
use Rattle.lines.proofs.Checks.{low_small}
use Rattle.job_form.specs.JobForm.{job_says}
use Rattle.job_form.specs.JobBytes.{pin_written, low_text, job_line, job_next, shown_check}
use Rattle.job_form.specs.Live.{upto_pin, live_pin, upto_low, job_upto}
use Rattle.job_form.proofs.Reached.{Sized, Has, SpeltPin}
use Rattle.std.specs.Prelude.{Ok, Err}

abbrev pub leaves : JobLine → Job → Next JobLine Job
leaves k j = record { kind = k; value = j }

-- ---- after n

pub after-unknowns : (j : Job) → upto_pin j ≡ job_upto (after_n j.head.kind) j
after-unknowns j = go j.head.kind refl
  where
    go : (k : Kind) → j.head.kind ≡ k → upto_pin j ≡ job_upto (after_n j.head.kind) j
    go Kind.Poly e = rw e
    go Kind.Linear e = rw e
    go Kind.Eigen e = rw e

pub unknowns-has : (j : Job) → Sized j → Has j (after_n j.head.kind)
unknowns-has j size = go j.head.kind refl
  where
    go : (k : Kind) → j.head.kind ≡ k → Has j (after_n j.head.kind)
    go Kind.Poly e = rw e (size, inl (refl, refl))
    go Kind.Linear e = rw e (size, inl (refl, refl))
    go Kind.Eigen e = rw e (size, refl)

-- ---- the pin, written or not

pub first_alone : (f : Finding) → f ≡ first_of f (Ok tt)
unfolding first_of
first_alone (Ok tt) = refl
first_alone (Err f) = refl

-- n is a good pin
pub last-fine : (n : ℕ) → 0 < n → pin_check Kind.Eigen n n ≡ Ok tt
unfolding pin_check
last-fine n some = fine-unless Fault.Pin (to_one n n some (omega arith))

module _ (j : Job) (eigen : j.head.kind ≡ Kind.Eigen) where
  pin-other : pin_written j ≡ true → eqb j.head.pin j.head.n ≡ false
  pin-other w = not-true _ (rw eigen at w)

  pub pin-last : pin_written j ≡ false → j.head.pin ≡ j.head.n
  pin-last w = eqb-true j.head.pin j.head.n (not-false (eqb j.head.pin j.head.n) (rw eigen at w))

module _ (j : Job) (size : Sized j) (eigen : j.head.kind ≡ Kind.Eigen) where
  -- where it is not written, its check finds nothing
  pub last-passes : pin_written j ≡ false → pin_check j.head.kind j.head.n j.head.pin ≡ Ok tt
  last-passes w =
      ap₂ (λ (k : Kind) (p : ℕ). pin_check k j.head.n p) eigen (pin-last j eigen w)
      ∙ last-fine j.head.n size.0

  -- and what is read by then has it
  last-read : pin_written j ≡ false → upto_pin j ≡ upto_low j
  last-read w =
      ap (with_pin (upto_pin j))
      (ap (λ (k : Kind). last_pin k j.head.n) eigen
      ∙ sym (pin-last j eigen w)
      ∙ ap (λ (k : Kind). live_pin k j.head.pin) (sym eigen))

  abbrev finds : Bool → Finding
  finds b =
      first_of (pin_check j.head.kind j.head.n j.head.pin)
      (cond b (Ok tt) (low_check j.head.n j.ends.lo))

  -- what a line l says there
  abbrev says_by : List ℕ → Found (Next JobLine Job)
  says_by l =
      cond (starts_with pin_key l)
      (after (pin_of j.head.n l) (λ p. leaves JobLine.Lo (with_pin (upto_pin j) p)))
      (after (low_of j.head.n l) (λ xs. leaves JobLine.Hi (with_lo (upto_pin j) xs)))

  says-pin : pin_written j ≡ true → SpeltPin true j
      → says_by (count_text pin_key j.head.pin) ≡ after (finds true) (λ u. leaves JobLine.Lo (upto_low j))
  unfolding starts_with
  says-pin w s =
      ap (λ r. after r (λ p. leaves JobLine.Lo (with_pin (upto_pin j) p)))
      (pin-back j.head.n j.head.pin s (pin-other j eigen w))
      ∙ after-after (pin_check Kind.Eigen j.head.n j.head.pin) _ _
      ∙ ap₂ (λ (f : Finding) (p : ℕ). after f (λ u. leaves JobLine.Lo (with_pin (upto_pin j) p)))
      (ap (λ (k : Kind). pin_check k j.head.n j.head.pin) (sym eigen) ∙ first_alone _)
      (ap (λ (k : Kind). live_pin k j.head.pin) (sym eigen))

  says-low : pin_written j ≡ false → SpeltPin false j
      → says_by (low_text j) ≡ after (finds false) (λ u. leaves JobLine.Hi (job_upto JobLine.Hi j))
  unfolding starts_with
  says-low w s =
      ap (λ r. after r (λ xs. leaves JobLine.Hi (with_lo (upto_pin j) xs)))
      (low-back j.head.n size.0 size.1 j.ends.lo s)
      ∙ after-after (low_check j.head.n j.ends.lo) _ _
      ∙ ap₂ (λ (f : Finding) (v : Job).
      after f (λ u. leaves JobLine.Hi (with_lo v (placed n_max j.head.n j.ends.lo))))
      (sym (fine-then _ _ (last-passes w))) (last-read w)

  pub fourth-says : SpeltPin (pin_written j) j
      → job_says JobLine.Pin (upto_pin j) (job_line JobLine.Pin j)
      ≡ after (shown_check JobLine.Pin j)
      (λ u. leaves (job_next JobLine.Pin j) (job_upto (job_next JobLine.Pin j) j))
  unfolding job_says shown_check line_check
  fourth-says s = go (pin_written j) refl s
    where
      go : (b : Bool) → pin_written j ≡ b → SpeltPin b j
          → says_by (cond b (count_text pin_key j.head.pin) (low_text j))
          ≡ after (finds b)
          (λ u. leaves (cond b JobLine.Lo JobLine.Hi) (job_upto (cond b JobLine.Lo JobLine.Hi) j))
      go true w s = says-pin w s
      go false w s = says-low w s

  pub fourth-spelt : shown_check JobLine.Pin j ≡ Ok tt → SpeltPin (pin_written j) j
  unfolding shown_check line_check
  fourth-spelt e = go (pin_written j) e
    where
      go : (b : Bool) → finds b ≡ Ok tt → SpeltPin b j
      go true f =
          pin-spelled j.head.n j.head.pin size.1
          (ap (λ (k : Kind). pin_check k j.head.n j.head.pin) (sym eigen) ∙ fine-first _ _ f)
      go false f = low_small j.head.n j.ends.lo (fine-next _ _ f)

  pub fourth-has : Has j (job_next JobLine.Pin j)
  fourth-has = go (pin_written j) refl
    where
      go : (b : Bool) → pin_written j ≡ b → Has j (cond b JobLine.Lo JobLine.Hi)
      go true w = (size, inr (eigen, w))
      go false w = size
