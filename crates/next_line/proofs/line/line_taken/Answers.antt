-- `next_line::line::line_taken` meets its contract.
use Rattle.next_line.specs.State.{line_in, head_of}
use Rattle.next_line.proofs.Arms.{next-read, next-bad}
use Rattle.next_line.proofs.Fits.{read_fits_lem}
use Rattle.next_line.proofs.Rooms.{place-back, line-fits}
use Rattle.next_line.proofs.line.line_taken.Goals as goal

pub taken_as-requires-clause-line_ready : goal.taken_as-requires-clause-line_ready
taken_as-requires-clause-line_ready c =
    let fit = read_fits_lem c.args.r c.requires.line_in_bounds.1 in
    record { ends = c.requires.line_in_bounds.0; kind = fit.kind; few = fit.few }

pub taken_as-requires-clause-line_placed : goal.taken_as-requires-clause-line_placed
taken_as-requires-clause-line_placed c =
    rw (c.line_in-k.ensures, place-back c.args.r.next) (read_fits_lem c.args.r c.requires.line_in_bounds.1).next

pub job_line_number-requires : goal.job_line_number-requires
job_line_number-requires c =
    let fit = read_fits_lem c.args.r c.requires.line_in_bounds.1 in
    rw (c.head_of.ensures, c.line_in-k.ensures)
    (line-fits (line_in c.args.r.next) (head_of c.args.r) (rw place-back fit.next) fit.few)

pub returns-in-Ok : goal.returns-in-Ok
returns-in-Ok c =
    next-read c.args.r c.args.line.now c.requires.fault_value c.line_in-k.ensures c.in-Ok.ensures

pub returns-in-Err : goal.returns-in-Err
returns-in-Err c =
    rw (c.stopped.ensures, c.job_line_number.ensures, c.head_of.ensures)
    (next-bad c.args.r c.args.line.now c.requires.fault_value c.line_in-k.ensures c.in-Err.ensures)
