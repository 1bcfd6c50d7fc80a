-- `job_read::first::names_at` meets its contract.
use mathlib.Core.Path.{refl}
use native.Mathlib.Omega.{arith}
use Rattle.std.proofs.lemmas.Result.{err_from_is_err_and}
use Rattle.jobs.specs.Zero.{no_job}
use Rattle.lines.specs.Lines.{number_of, kind_of}
use Rattle.line_read.proofs.Ways.{leads-inside, leads-on, told-inside}
use Rattle.job_read.proofs.Lines.{number-leads, kind-leads, unknowns-leads, unknowns-whole, names-stop}
use Rattle.job_read.proofs.first.names_at.Goals as goal

pub returns-in_err-j : goal.returns-in_err-j
returns-in_err-j c =
    let t = c.args.text.now in
    let p = err_from_is_err_and c.from_residual.result c.from_residual.ensures.1 in
    rw (p.1, p.2)
    (names-stop
    (number-leads t no_job 0 (omega arith) c.number_line.ensures c.in_err-j.ensures))

pub kind_line-requires : goal.kind_line-requires
kind_line-requires c = told-inside number_of c.args.text.now 0 _ c.number_line.ensures c.in_ok-j.ensures

pub returns-in_err-k : goal.returns-in_err-k
returns-in_err-k c =
    let t = c.args.text.now in
    let number =
    number-leads t no_job 0 (omega arith) c.number_line.ensures c.in_ok-j.ensures in
    let p = err_from_is_err_and c.from_residual-in_err-k.result c.from_residual-in_err-k.ensures.1 in
    rw (p.1, p.2)
    (names-stop
    (leads-on _ _ number
    (kind-leads t _ _ (leads-inside _ _ number) c.kind_line.ensures c.in_err-k.ensures)))

pub unknowns_line-requires : goal.unknowns_line-requires
unknowns_line-requires c = told-inside kind_of c.args.text.now _ _ c.kind_line.ensures c.in_ok-k.ensures

pub returns-in_err-u : goal.returns-in_err-u
returns-in_err-u c =
    let t = c.args.text.now in
    let number =
    number-leads t no_job 0 (omega arith) c.number_line.ensures c.in_ok-j.ensures in
    let kind =
    leads-on _ _ number
    (kind-leads t _ _ (leads-inside _ _ number) c.kind_line.ensures c.in_ok-k.ensures) in
    let p = err_from_is_err_and c.from_residual-in_err-u.result c.from_residual-in_err-u.ensures.1 in
    rw (p.1, p.2)
    (names-stop
    (leads-on _ _ kind
    (unknowns-leads t _ _ (leads-inside _ _ kind) c.unknowns_line.ensures
    c.in_err-u.ensures)))

pub returns : goal.returns
returns c =
    let t = c.args.text.now in
    let number =
    number-leads t no_job 0 (omega arith) c.number_line.ensures c.in_ok-j.ensures in
    let kind =
    leads-on _ _ number
    (kind-leads t _ _ (leads-inside _ _ number) c.kind_line.ensures c.in_ok-k.ensures) in
    let read =
    leads-on _ _ kind
    (unknowns-leads t _ _ (leads-inside _ _ kind) c.unknowns_line.ensures
    c.in_ok-u.ensures) in
    record {
      leads = rw c.last_pin.ensures record { goes = read.goes };
      whole = unknowns-whole t _ _ c.unknowns_line.ensures c.in_ok-u.ensures refl;
      last = c.last_pin.ensures;
    }
