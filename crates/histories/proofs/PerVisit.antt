-- Demand 3 of a visit: what it reads as, from its opening on, is a run of its job.
use Prim.Native.Nat.{ℕ, ◌+◌, ◌-◌, ◌≤◌, min}
use native.Mathlib.Omega.{arith}
use mathlib.Core.Path.{◌≡◌, sym, ap, ◌∙◌}
use mathlib.Core.List.{List, [], ◌∷◌, ◌++◌}
use Rattle.intervals.specs.declared.Interval.{Interval}
use Rattle.jobs.specs.declared.Job.{Job}
use Rattle.jobs.specs.declared.Result.{Result}
use Rattle.jobs.specs.declared.Verdict.{Verdict}
use Rattle.checks.specs.Checks.{check_job}
use Rattle.systems.specs.Kinds.{equation_of}
use Rattle.step.specs.Values.{box_of, start_of, inverse_of}
use Rattle.run.specs.Job.{result_of}
use Rattle.runs.specs.Boxes.{BoxInside}
use Rattle.runs.proofs.Runs.{run-stays}
use Rattle.checks.specs.Answered.{job_in}
use Rattle.job_form.specs.JobForm.{read_job}
use Rattle.job_form.proofs.Answers.{read-checked}
use Rattle.promises.specs.Claims.{Point, Lies, Same}
use Rattle.promises.specs.Jobs.{job_run, Solves}
use Rattle.promises.proofs.Demand3 as demand
use Rattle.visits.specs.Visits.{reading_of}
use Rattle.visits.proofs.Steps.{box-so-far}
use Rattle.room_form.specs.declared.Room.{Room}
use Rattle.room_form.specs.Table.{visit_in}
use Rattle.room_form.specs.Calls.{lowest_free, next_visit, open_status, opened}
use Rattle.histories.specs.Histories.{Call, after, own_steps, Stays, reads_after, box_after}
use Rattle.histories.proofs.Formed.{open-read}
use Rattle.histories.proofs.Own.{own-reading}
use Rattle.std.specs.Prelude.{Ok}

module _ (k v : ℕ) where
  stays-first : (h g : List Call) → Stays k v (h ++ g) → Stays k v h
  unfolding Stays
  stays-first [] g stays = tt
  stays-first (c ∷ h) g stays = (stays.0, stays-first h g stays.1)

  own-more : (h g : List Call) (t : List ℕ) → own_steps k v t h ≤ own_steps k v t (h ++ g)
  unfolding own_steps
  own-more [] g t = omega arith
  own-more (c ∷ h) g t = omega (arith, own-more h g (after t c))

module _ (t text : List ℕ) (done : open_status t text ≡ Ok tt) where
  abbrev k : ℕ
  k = lowest_free t

  abbrev v : ℕ
  v = next_visit t

  abbrev j : Job
  j = (job_in (read_job text))

  abbrev n : ℕ
  n = j.head.n

  abbrev reads : List Call → Result
  reads = reads_after t text

  abbrev box : List Call → List Interval
  box = box_after t text

  -- the allowance of the run that the visit reads as
  abbrev allowed : List Call → ℕ
  allowed h = min (own_steps k v (opened t text) h) j.steps

  checked : check_job j ≡ Ok tt
  checked = read-checked text (open-read t text done)

  module _ (h : List Call) (stays : Stays k v h) where
    reads-run : reads h ≡ reading_of v j (job_run j (allowed h))
    reads-run = ap (λ (room : Room). (visit_in room).reading) (own-reading t text done h stays).room

    verdict-run : (reads h).verdict ≡ (job_run j (allowed h)).verdict
    unfolding result_of
    verdict-run = ap (λ (r : Result). r.verdict) reads-run

    box-run : box h ≡ (job_run j (allowed h)).sides
    box-run =
        ap (λ (r : Result). box_of n (record { lo = r.lo; hi = r.hi })) reads-run ∙ box-so-far j checked v (allowed h)

    -- ---- no zero is lost
    pub zero-kept : (p : Point) → Solves j p → Lies n p (start_of j) → Lies n p (box h)
    zero-kept p zero lies = rw box-run (demand.zero-in-answer j checked p zero lies (allowed h))

    pub none-no-zero : (reads h).verdict ≡ Verdict.None → (p : Point) → Solves j p → Lies n p (start_of j) → ⊥
    none-no-zero says = demand.none-no-zero j checked (allowed h) (sym verdict-run ∙ says)

    pub at_most_one : (reads h).verdict ≡ Verdict.Unique → (p r : Point) → Solves j p → Solves j r
        → Lies n p (start_of j)
        → Lies n r (start_of j) → Same n p r
    at_most_one says = demand.at_most_one j checked (allowed h) (sym verdict-run ∙ says)

  -- ---- more calls
  module _ (h g : List Call) (stays : Stays k v (h ++ g)) where
    first : Stays k v h
    first = stays-first k v h g stays

    more : allowed h ≤ allowed (h ++ g)
    more = omega (arith, own-more k v h g (opened t text))

    pub later-inside : BoxInside n (box (h ++ g)) (box h)
    later-inside = rw (box-run (h ++ g) stays, box-run h first) (demand.larger-inside j checked more)

    pub decided-stays : ((reads h).verdict ≡ Verdict.Spent → ⊥) → reads (h ++ g) ≡ reads h
    decided-stays decided =
        reads-run (h ++ g) stays
        ∙ ap (reading_of v j) (run-same (λ spent. decided (verdict-run h first ∙ spent)))
        ∙ sym (reads-run h first)
      where
        run-same : ((job_run j (allowed h)).verdict ≡ Verdict.Spent → ⊥)
            → job_run j (allowed (h ++ g)) ≡ job_run j (allowed h)
        run-same not-spent =
            let rest = allowed (h ++ g) - allowed h in
            let e : allowed (h ++ g) ≡ allowed h + rest = omega (arith, more) in
            ap (job_run j) e ∙ run-stays n (equation_of j) (inverse_of j) (allowed h) rest 0 (start_of j) not-spent
