-- `job_put::rows::put_inverse_line` meets its contract.
use native.Mathlib.Omega.{arith}
use Rattle.digits.specs.Number.{digits_max}
use Rattle.lines.proofs.Squares.{square-fits}
use Rattle.lines.proofs.Rows.{matrix-long, matrix-within}
use Rattle.job_put.proofs.Matrix.{matrix-taken}
use Rattle.job_put.proofs.rows.put_inverse_line.Goals as goal

pub put_list_line-requires : goal.put_list_line-requires
put_list_line-requires c =
    let rows = c.args.inv in
    let n = c.args.n in
    let few = c.requires.few in
    rw (matrix-taken rows n few c.entries-all.ensures) (
      omega arith,
      omega (arith, c.requires.room, matrix-long rows n, square-fits n few),
      matrix-within n c.requires.some few rows digits_max (omega arith) c.requires.entries,
    )

pub returns : goal.returns
returns c =
    rw (matrix-taken c.args.inv c.args.n c.requires.few c.entries-all.ensures) at
    c.put_list_line.ensures
