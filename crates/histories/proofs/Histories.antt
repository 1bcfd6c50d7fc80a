-- A holder after any history of calls that does not close its visit.
use Prim.Native.Nat.{ℕ, zero, suc, ◌+◌}
use native.Mathlib.Omega.{arith}
use mathlib.Core.Path.{◌≡◌, refl, sym, ap, ◌∙◌, subst}
use mathlib.Core.Bool.{Bool, true, false, cond, not, ◌&&◌}
use mathlib.Core.List.{List, [], ◌∷◌}
use lib.ListN.{length}
use lib.Seq.{sets}
use lib.Dec.{eqb, ltb}
use borrow.Author.Tests.{eqb-true}
use Rattle.jobs.specs.declared.Job.{Job}
use Rattle.jobs.specs.declared.Result.{Result}
use Rattle.result_form.specs.ResultShows.{show_result}
use Rattle.cells.specs.Cells.{cell}
use Rattle.visits.specs.Visits.{opened_as, next_reading, times}
use Rattle.checks.specs.Answered.{job_in}
use Rattle.job_form.specs.JobForm.{read_job}
use Rattle.room_form.specs.Table.{slot_from, room_at}
use Rattle.room_form.specs.Calls.{lowest_free, next_visit, open_status, opened, after_step, finished, stepped}
use Rattle.histories.specs.Histories.{Call, after, after_all, Holds, shows, own_step, own_steps, Keeps, Stays}
use Rattle.term_checks.proofs.RangeLaws.{and_left, and_right}
use Rattle.histories.proofs.Formed.{open-slot, opened-own, open-formed}
use Rattle.histories.proofs.Isolated.{own-good, moved_on, stays-finished, open_kept, step-apart, close-apart}
use Rattle.std.specs.Prelude.{Ok}

-- ---- one call

module _ (t : List ℕ) (k v : ℕ) (j : Job) (r : Result) (h : Holds t k v j r) where
  -- a step call of its own: "then 7 for the result text", and a finished one stays
  step-own : (space : ℕ) → Holds (stepped t k v space) k v j
      (times (cond (not (ltb space (length (show_result (after_step t k))))) 1 0) (next_reading j) r)
  unfolding stepped times
  step-own space =
      rw (own-good t k v j r h)
      (go (ltb space (length (show_result (after_step t k)))) (finished (room_at t k)) refl)
    where
      go : (b c : Bool) → finished (room_at t k) ≡ c
          → Holds (cond b t (cond c t (sets t (slot_from k) (cell (show_result (after_step t k)))))) k v j
          (times (cond (not b) 1 0) (next_reading j) r)
      go true c e = h
      go false true e = subst (Holds t k v j) (sym (stays-finished t k v j r h e)) h
      go false false e = moved_on t k v j r h

  step_kept : (slot visit space : ℕ) → Holds (stepped t slot visit space) k v j
      (times (own_step k v t (Call.steps slot visit space)) (next_reading j) r)
  unfolding own_step times
  step_kept slot visit space = go (shows k v slot visit) refl
    where
      go : (b : Bool) → shows k v slot visit ≡ b → Holds (stepped t slot visit space) k v j
          (times (cond (b && not (ltb space (length (show_result (after_step t slot))))) 1 0) (next_reading j) r)
      go false e = step-apart t k v j r h slot visit space e
      go true e =
          let slot_is = eqb-true slot k (and_left (eqb slot k) (eqb visit v) e) in
          let visit-is = eqb-true visit v (and_right (eqb slot k) (eqb visit v) e) in
          rw (slot_is, visit-is) (step-own space)

  one : (c : Call) → Keeps k v c → Holds (after t c) k v j (times (own_step k v t c) (next_reading j) r)
  unfolding after Keeps own_step times
  one (Call.opens text) keeps = open_kept t k v j r h text
  one (Call.steps slot visit space) keeps = step_kept slot visit space
  one (Call.reads slot visit space) keeps = h
  one (Call.closes slot visit) keeps = close-apart t k v j r h slot visit keeps

-- ---- many calls

-- first some, then more
times-add : (a b : ℕ) (f : Result → Result) (r : Result) → times b f (times a f r) ≡ times (a + b) f r
unfolding times
times-add a zero f r = let e : a ≡ a + 0 = omega arith in ap (λ (n : ℕ). times n f r) e
times-add a (suc b) f r =
    let e : suc (a + b) ≡ a + suc b = omega arith in
    ap f (times-add a b f r) ∙ ap (λ (n : ℕ). times n f r) e

-- "between opening and closing a holder's verdict, box and steps depend on its own job and calls only"
pub isolated : (h : List Call) (t : List ℕ) (k v : ℕ) (j : Job) (r : Result) → Holds t k v j r → Stays k v h
    → Holds (after_all t h) k v j (times (own_steps k v t h) (next_reading j) r)
unfolding Stays own_steps times
isolated [] t k v j r holds stays = holds
isolated (c ∷ h) t k v j r holds stays =
    subst (Holds (after_all t (c ∷ h)) k v j)
    (times-add (own_step k v t c) (own_steps k v (after t c) h) (next_reading j) r)
    (isolated h (after t c) k v j (times (own_step k v t c) (next_reading j) r) (one t k v j r holds c stays.0)
    stays.1)

-- ---- from its opening on

pub opened-holds : (t text : List ℕ) → open_status t text ≡ Ok tt
    → Holds (opened t text) (lowest_free t) (next_visit t) (job_in (read_job text))
    (opened_as (next_visit t) (job_in (read_job text)))
opened-holds t text done = record {
  is-whole = open-formed t text done;
  inside = open-slot t text done;
  room = opened-own t text done;
  visit = refl;
}
