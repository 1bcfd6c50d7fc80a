-- Opening, by what its tests find.
use Prim.Native.Nat.{ℕ, ◌≤◌, ◌<◌}
use native.Mathlib.Omega.{arith}
use mathlib.Core.Path.{◌≡◌, refl, sym, ap}
use mathlib.Core.Bool.{true, false}
use mathlib.Core.List.{List}
use lib.ListN.{length}
use lib.Dec.{eqb}
use borrow.Author.Tests.{lt-ltb, le-ltb, ne_eqb}
use Rattle.sizes.specs.Sizes.{visit_max}
use Rattle.faults.specs.declared.Fault.{Fault}
use Rattle.faults.specs.declared.Refusal.{Refusal}
use Rattle.faults.specs.Checked.{refused, status_of}
use Rattle.faults.specs.Checks.{is_bad, bad_unless, on_line, and_then}
use Rattle.faults.proofs.Laws.{not-bad, bad-first}
use Rattle.checks.proofs.AcceptedLaws.{check_done}
use Rattle.checks.specs.Answered.{job_in}
use Rattle.job_form.specs.JobForm.{read_job}
use Rattle.job_form.proofs.Answers.{read-checked, read_same}
use Rattle.job_form.proofs.Short.{job-width}
use Rattle.room_form.specs.Table.{rooms_max, job_most, last_in, whole}
use Rattle.room_form.specs.Calls.{lowest_free, next_visit, open_status, open_answer, opened}
use Rattle.std.specs.Prelude.{Ok, Err}

module _ (t text : List ℕ) where
  pub no_table : whole t ≡ false → open_status t text ≡ refused Fault.Table 0
  unfolding bad_unless on_line and_then
  no_table e = rw e refl

  module _ (e : whole t ≡ true) where
    pub no-job : is_bad (status_of (read_job text)) ≡ true → open_status t text ≡ (status_of (read_job text))
    unfolding bad_unless on_line and_then
    no-job bad = rw e (bad-first (status_of (read_job text)) _ bad)

    module _ (right : is_bad (status_of (read_job text)) ≡ false) where
      pub is-full : rooms_max ≤ lowest_free t → open_status t text ≡ refused Fault.Full 0
      unfolding bad_unless on_line and_then
      is-full h = rw (e, not-bad (status_of (read_job text)) right, le-ltb (lowest_free t) rooms_max h) refl

      module _ (room : lowest_free t < rooms_max) where
        pub no-visit : visit_max ≤ last_in t → open_status t text ≡ refused Fault.Visits 0
        unfolding bad_unless on_line and_then
        no-visit h =
            rw (
              e,
              not-bad (status_of (read_job text)) right,
              lt-ltb (lowest_free t) rooms_max room,
              le-ltb (last_in t) visit_max h,
            )
            refl

        pub is-opened : last_in t < visit_max → open_status t text ≡ Ok tt
        unfolding bad_unless on_line and_then
        is-opened h =
            rw (
              e,
              not-bad (status_of (read_job text)) right,
              lt-ltb (lowest_free t) rooms_max room,
              lt-ltb (last_in t) visit_max h,
            )
            refl

  -- a refusal, as the code answers it
  pub not_opened : {r : Refusal} → open_status t text ≡ Err r
      → (Err r ≡ open_answer (open_status t text) (lowest_free t) (next_visit t)) × (t ≡ opened t text)
  unfolding open_answer opened
  not_opened e = rw e (refl, refl)

-- a right job text has room in its slot
pub job-short : (text : List ℕ) → status_of (read_job text) ≡ Ok tt → length text ≤ job_most
job-short text e =
    let wide = job-width (job_in (read_job text)) (check_done (job_in (read_job text)) (read-checked text e)) in
    omega (arith, wide, ap length (sym (read_same text e)))

-- "not reused before the next" clearing: no visit that was handed out before is the next one
pub next-new : (t : List ℕ) (v : ℕ) → v ≤ last_in t → eqb (next_visit t) v ≡ false
next-new t v handed = ne_eqb (next_visit t) v (λ same. omega (arith, same, handed))
