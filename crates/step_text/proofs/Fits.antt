-- The ends of every image, and of every box that is left, can be written.
use mathlib.Core.Path.{◌≡◌, sym}
use Prim.Native.Nat.{ℕ, ◌≤◌, ◌<◌}
use native.Mathlib.Omega.{arith}
use Rattle.sizes.specs.Sizes.{n_max, image_max}
use Rattle.digits.specs.Number.{long_max}
use Rattle.intervals.specs.Ranges.{InI}
use Rattle.lines.proofs.Checks.{within-below}
use Rattle.checks.proofs.AcceptedLaws.{check_done}
use Rattle.step.specs.Values.{side_of}
use Rattle.faults.proofs.Laws.{fine-line, then-done, then-value}
use Rattle.one_step.specs.declared.Decided.{Decided}
use Rattle.one_step.specs.OneStep.{image_status, image_ends, gives_image, decide_check, decide_status, gives_move}
use Rattle.one_step.proofs.Given.{ends-in, job-checked, few}
use Rattle.one_step.proofs.Whole.{image-fine, image-taken}
use Rattle.one_step.proofs.Left.{moved_in}
use Rattle.jobs.specs.declared.Ends.{Ends}
use Rattle.jobs.specs.declared.Job.{Job}
use Rattle.step_text.specs.Lines.{EndsFit}
use Rattle.std.specs.Prelude.{Ok}

in-fits : (n : ℕ) (e : Ends) → n ≤ n_max → ((i : ℕ) → i < n → InI image_max (side_of e i)) → EndsFit n e
in-fits n e room h = record {
  few = room;
  low = within-below n e.lo long_max image_max (omega arith) (λ i l. (h i l).low);
  high = within-below n e.hi long_max image_max (omega arith) (λ i l. (h i l).high);
}

module _ (j : Job) (x : Ends) {k : Ends} (told : Ok k ≡ gives_image j x) where
  pub image-done : image_status j x ≡ Ok tt
  unfolding gives_image
  image-done = then-done (image_status j x) _ (sym told)

  pub image-is : k ≡ image_ends j x
  unfolding gives_image
  image-is = then-value (image_status j x) _ (sym told)

  pub image-fits : EndsFit j.head.n k
  image-fits =
      rw image-is (in-fits j.head.n (image_ends j x) (check_done j (job-checked j x image-done)).few
      (ends-in j.head.n image_max (image_ends j x) (image-fine j x image-done)))

  -- an image is taken, so that it decides
  pub decides : decide_check j.head.n x k ≡ Ok tt
  decides = rw image-is (image-taken j x image-done)

module _ (n : ℕ) (x k : Ends) {d : Decided} (told : Ok d ≡ gives_move n x k) where
  pub move-done : decide_status n x k ≡ Ok tt
  unfolding gives_move
  move-done = then-done (decide_status n x k) _ (sym told)

  pub move-fits : EndsFit n d.ends
  unfolding gives_move
  move-fits =
      let fine = fine-line _ 0 move-done in
      rw (then-value (decide_status n x k) _ (sym told)) (in-fits n _ (few n x k fine) (moved_in n x k fine))
