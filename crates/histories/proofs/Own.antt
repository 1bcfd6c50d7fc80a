-- A visit from its opening on: what it reads as after any history that does not close it.
use Prim.Native.Nat.{ℕ, zero, suc, ◌≤◌, ◌<◌, min}
use native.Mathlib.Omega.{arith}
use mathlib.Core.Path.{◌≡◌, refl, sym, ap, ◌∙◌, subst}
use mathlib.Core.Bool.{Bool, true, false, cond}
use mathlib.Core.List.{List}
use Rattle.digits.proofs.Cases.{same_or}
use Rattle.jobs.specs.declared.Job.{Job}
use Rattle.jobs.specs.declared.Result.{Result}
use Rattle.checks.specs.Answered.{job_in}
use Rattle.job_form.specs.JobForm.{read_job}
use Rattle.job_form.proofs.Answers.{read-checked}
use Rattle.result_form.specs.ResultForm.{with_visit}
use Rattle.run.specs.Job.{run_from}
use Rattle.step.specs.Values.{start_of}
use Rattle.visits.specs.Visits.{reading_of, next_reading, times}
use Rattle.visits.proofs.Steps.{steps-add}
use Rattle.room_form.specs.declared.Room.{Room}
use Rattle.room_form.specs.Table.{visit_in, rooms_max, taken_room, room_at}
use Rattle.room_form.specs.Calls.{is_free, first_from, lowest_free, next_visit, open_status, opened}
use Rattle.histories.specs.Histories.{Call, after_all, Holds, own_steps, Stays, reads_after}
use Rattle.histories.proofs.Formed.{open-read}
use Rattle.histories.proofs.Histories.{isolated, opened-holds}
use Rattle.std.specs.Prelude.{Ok}

module _ (t text : List ℕ) (done : open_status t text ≡ Ok tt) (h : List Call)
    (stays : Stays (lowest_free t) (next_visit t) h) where
  abbrev k : ℕ
  k = lowest_free t

  abbrev v : ℕ
  v = next_visit t

  abbrev j : Job
  j = (job_in (read_job text))

  -- its own step calls that weren't refused
  abbrev calls : ℕ
  calls = own_steps k v (opened t text) h

  pub own-reading : Holds (after_all (opened t text) h) k v j
      (reading_of v j (run_from j (start_of j) (min calls j.steps)))
  own-reading =
      subst (Holds (after_all (opened t text) h) k v j) (steps-add j (read-checked text (open-read t text done)) v
      calls)
      (isolated h (opened t text) k v j _ (opened-holds t text done) stays)

-- no slot below the lowest free one is free
below-first : (m : ℕ) (f : ℕ → Bool) (k i : ℕ) → k ≤ i → i < first_from m f k → f i ≡ false
unfolding first_from
below-first zero f k i from l = absurd (omega arith)
below-first (suc m) f k i from l = go (f k) refl l (below-first m f (suc k) i)
  where
    go : (b : Bool) → f k ≡ b → i < cond b k (first_from m f (suc k))
        → (suc k ≤ i → i < first_from m f (suc k) → f i ≡ false) → f i ≡ false
    go true e l rest = absurd (omega arith)
    go false e l rest = same_or i k (λ is. ap f is ∙ e) (λ ne. rest (omega (arith, ne)) l)

pub lower-taken : (t : List ℕ) (i : ℕ) → i < lowest_free t → is_free (room_at t i) ≡ false
lower-taken t i l = below-first rooms_max (λ k. is_free (room_at t k)) 0 i (omega arith) l

-- two holders of one job and one reading, after as many own step calls each
pub two-histories : (h g : List Call) (t u : List ℕ) (k v i w : ℕ) (j : Job) (r : Result) → Holds t k v j r
    → Holds u i w j r → Stays k v h → Stays i w g → own_steps k v t h ≡ own_steps i w u g
    → room_at (after_all t h) k ≡ room_at (after_all u g) i
two-histories h g t u k v i w j r first second stays remains same =
    (isolated h t k v j r first stays).room
    ∙ ap (λ (n : ℕ). taken_room j (times n (next_reading j) r)) same
    ∙ sym (isolated g u i w j r second remains).room

-- two visits of one job text, each on its table and in its slot, after as many own step calls: alike but for their
-- numbers
pub same-readings : (h g : List Call) (t u text : List ℕ) → open_status t text ≡ Ok tt
    → open_status u text ≡ Ok tt → Stays (lowest_free t) (next_visit t) h → Stays (lowest_free u) (next_visit u) g
    → own_steps (lowest_free t) (next_visit t) (opened t text) h
    ≡ own_steps (lowest_free u) (next_visit u) (opened u text) g
    → with_visit (reads_after t text h) 0 ≡ with_visit (reads_after u text g) 0
same-readings h g t u text first second stays remains same =
    ap (λ (room : Room). with_visit (visit_in room).reading 0) (own-reading t text first h stays).room
    ∙ ap (λ (calls : ℕ). with_visit (reading_of 0 job (run_from job (start_of job) (min calls job.steps))) 0) same
    ∙ sym (ap (λ (room : Room). with_visit (visit_in room).reading 0) (own-reading u text second g remains).room)
  where
    job : Job
    job = (job_in (read_job text))
