-- halve: what is refused touches no number.
use mathlib.Core.Path.{◌≡◌, sym, ◌∙◌}
use lib.ListN.{length}
use mir.Facts.{to_z-of_z}
use borrow.Author.Rules.{rules}
use Rattle.std.specs.Prelude.{Err}
use Rattle.faults.proofs.Laws.{then-done, then-value, then-refused}
use Rattle.halving.proofs.Answers.{job-fine, enough-room, halves-done, halves-refused}
use Rattle.halving.proofs.halve.Goals as goal

pub list_job-requires : goal.list_job-requires
list_job-requires c =
    let told = rw (to_z-of_z c.ranges.depth) at (sym c.halve_depth.ensures ∙ c.in_ok-deep.was) in
    let done = then-done _ _ told in
    record {
      j_value = job-fine _ _ _ done;
      depth_in_bounds = rw (then-value _ _ told) (enough-room c.args.j c.args.depth (length c.args.list.now) done);
    }

pub returns-in_err-deep : goal.returns-in_err-deep
returns-in_err-deep c =
    let told = rw (to_z-of_z c.ranges.depth) at (sym c.halve_depth.ensures ∙ c.in_err-deep.was) in
    let e : c.from_residual.result ≡ Err c.in_err-deep.field-0.0 = search rules in
    rw e (halves-refused c.args.j c.args.depth c.args.list.now _ (then-refused _ _ told))

pub returns : goal.returns
returns c =
    let told = rw (to_z-of_z c.ranges.depth) at (sym c.halve_depth.ensures ∙ c.in_ok-deep.was) in
    halves-done c.args.j c.args.depth c.args.list.now (then-done _ _ told)
    (rw (then-value _ _ told) at c.list_job.ensures)
