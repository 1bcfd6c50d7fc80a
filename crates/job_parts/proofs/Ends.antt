-- The end of a text that came in parts, by its tests.
use Prim.Native.Nat.{ℕ, ◌≤◌, ◌<◌}
use native.Mathlib.Omega.{arith}
use mathlib.Core.Path.{◌≡◌, refl, sym}
use mathlib.Core.Bool.{true, false}
use borrow.Author.Tests.{lt-ltb, le-ltb, eq-eqb, ne_eqb}
use Rattle.sizes.specs.Sizes.{text_max}
use Rattle.faults.specs.declared.Fault.{Fault}
use Rattle.faults.specs.Checked.{refused}
use Rattle.faults.specs.Words.{fault_of}
use Rattle.reading.specs.Lines.{ended}
use Rattle.jobs.specs.declared.JobLine.{JobLine}
use Rattle.jobs.specs.Lines.{job_number}
use Rattle.job_form.specs.JobForm.{job_end}
use Rattle.job_parts.specs.declared.Parts.{Parts}
use Rattle.next_line.specs.State.{place_of, line_in, head_of, job_of, state_of}
use Rattle.job_parts.specs.Limits.{fits}
use Rattle.job_parts.specs.Parts.{beyond_limits, whole, end_of}
use Rattle.next_line.proofs.Rooms.{place-back}
use Rattle.std.specs.Prelude.{Ok}

-- only place 0 has no line
not_end : (k : ℕ) → (k ≡ 0 → ⊥) → job_end (line_in k) ≡ false
not_end k n = go (line_in k) (place-back k)
  where
    go : (l : JobLine) → place_of l ≡ k → job_end l ≡ false
    go JobLine.Number e = refl
    go JobLine.Kind e = refl
    go JobLine.Unknowns e = refl
    go JobLine.Pin e = refl
    go JobLine.Lo e = refl
    go JobLine.Hi e = refl
    go JobLine.Inv e = refl
    go JobLine.Steps e = refl
    go (JobLine.System i) e = refl
    go JobLine.End e = absurd (n (sym e))

module _ (p : Parts) where
  pub end-beyond : fits p ≡ false → beyond_limits ≡ end_of p
  unfolding end_of
  end-beyond e = rw e

  module _ (fit : fits p ≡ true) where
    -- "Fault 1 comes first"
    pub end-long : text_max < p.size → refused Fault.LongText 0 ≡ end_of p
    unfolding end_of whole
    end-long h = rw (fit, lt-ltb text_max p.size h)

    module _ (few : p.size ≤ text_max) where
      pub end-bad : (p.read.fault ≡ 0 → ⊥)
          → refused (fault_of p.read.fault) p.read.line ≡ end_of p
      unfolding end_of whole state_of ended
      end-bad n = rw (fit, le-ltb text_max p.size few, ne_eqb p.read.fault 0 n)

      module _ (good : p.read.fault ≡ 0) where
        abbrev missing : ℕ
        missing = job_number (line_in p.read.next) (head_of p.read)

        pub end-held : 0 < p.held → refused Fault.Spelling missing ≡ end_of p
        unfolding end_of whole state_of ended
        end-held h =
            rw (
              fit,
              le-ltb text_max p.size few,
              eq-eqb p.read.fault 0 good,
              ne_eqb p.held 0 (λ e. omega arith),
            )

        pub end-missing : p.held ≤ 0 → (p.read.next ≡ 0 → ⊥)
            → refused Fault.Spelling missing ≡ end_of p
        unfolding end_of whole state_of ended
        end-missing h n =
            rw (
              fit,
              le-ltb text_max p.size few,
              eq-eqb p.read.fault 0 good,
              eq-eqb p.held 0 (omega arith),
              not_end p.read.next n,
            )

        pub end-done : p.held ≤ 0 → p.read.next ≡ 0
            → Ok (job_of p.read) ≡ end_of p
        unfolding end_of whole state_of ended line_in
        end-done h e =
            rw (
              fit,
              le-ltb text_max p.size few,
              eq-eqb p.read.fault 0 good,
              eq-eqb p.held 0 (omega arith),
              e,
            )
