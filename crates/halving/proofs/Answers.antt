-- What halving answers, and what stands in the list then.
use Prim.Native.Nat.{ℕ, ◌*◌, ◌^◌, ◌≤◌}
use native.Mathlib.Nat.{zero-add, mul-zero}
use native.Mathlib.Omega.{arith}
use mathlib.Core.Path.{◌≡◌, refl, ap, ◌∙◌}
use mathlib.Core.List.{List, ◌++◌}
use lib.IntN.{ℤ, nat_abs}
use lib.ListN.{length, drop}
use lib.Seq.{sets, sets-eq}
use Rattle.faults.specs.declared.Refusal.{Refusal}
use Rattle.faults.specs.Checks.{and_then}
use Rattle.faults.proofs.Laws.{done_first, done_next}
use Rattle.jobs.specs.declared.Job.{Job}
use Rattle.checks.specs.Checks.{check_job}
use Rattle.step.specs.Values.{start_of}
use Rattle.halving.specs.Boxes.{Listed, ran_from, boxes_of}
use Rattle.halving.specs.Lists.{listed_places, numbers_of, Lists}
use Rattle.halving.specs.Halving.{depth_status, halve_status, Halves}
use Rattle.halving.proofs.Parts.{boxes-few}
use Rattle.halving.proofs.Lists.{numbers-length}
use Rattle.halving.proofs.Refusals.{room-holds}
use Rattle.std.specs.Prelude.{Ok, Err}

pub few-boxes : (j : Job) (depth : ℕ) → length (boxes_of j depth) ≤ 2 ^ depth
unfolding boxes_of
few-boxes j depth = boxes-few (ran_from j) j.head.n depth (start_of j)

-- numbers from the start of a list on
from_start : (numbers old : List ℤ) → length numbers ≤ length old
    → sets old (listed_places * 0) numbers ≡ numbers ++ drop (length numbers) old
from_start numbers old h =
    rw (mul-zero listed_places)
    (sets-eq numbers old 0 (omega arith) ∙ ap (λ (k : ℕ). numbers ++ drop k old) (zero-add (length numbers)))

module _ (j : Job) (depth : ℤ) (room : ℕ) (done : halve_status j depth room ≡ Ok tt) where
  pub job-fine : check_job j ≡ Ok tt
  unfolding halve_status
  job-fine = done_first _ _ done

  pub depth-done : depth_status depth ≡ Ok tt
  unfolding halve_status
  depth-done = done_first _ _ (done_next _ _ done)

  pub enough-room : listed_places * 2 ^ nat_abs depth ≤ room
  unfolding halve_status
  enough-room = room-holds (nat_abs depth) room (done_next _ _ (done_next _ _ done))

module _ (j : Job) (depth : ℤ) (old : List ℤ) where
  abbrev bs : List Listed
  bs = boxes_of j (nat_abs depth)

  pub halves-done : {new : List ℤ} {r : ℕ} → halve_status j depth (length old) ≡ Ok tt
      → Lists j.head.n old new 0 r bs → Halves j depth old new (Ok r)
  unfolding and_then
  halves-done e h =
      let room = enough-room j depth (length old) e in
      let size = numbers-length j.head.n bs in
      record {
        answer = rw e (rw (h.next, zero-add (length bs)) refl);
        list = rw e (h.list ∙ from_start (numbers_of j.head.n bs) old
            (omega (arith, few-boxes j (nat_abs depth), room, size)));
      }

  pub halves-refused : (r : Refusal) → halve_status j depth (length old) ≡ Err r → Halves j depth old old (Err r)
  unfolding and_then
  halves-refused r e = record { answer = rw e refl; list = rw e refl }
