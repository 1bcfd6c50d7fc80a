-- `job_read::first::box_at` meets its contract.
use Rattle.std.proofs.lemmas.Result.{err_from_is_err_and}
use Rattle.lines.specs.Lines.{low_of, high_of, inverse_of}
use Rattle.line_read.proofs.Ways.{leads-inside, leads-on, leads-stop, told-inside}
use Rattle.job_read.proofs.Lines.{low-leads, high-leads, inverse-leads, steps-leads}
use Rattle.job_read.proofs.first.box_at.Goals as goal

pub returns-in_err-l : goal.returns-in_err-l
returns-in_err-l c =
    let t = c.args.text.now in
    let head = c.args.head in
    let e = err_from_is_err_and c.from_residual.result c.from_residual.ensures.1 in
    rw (e.1, e.2)
    record {
      leads = λ j p.
          leads-stop _ _
          (low-leads t j c.args.from c.requires.0 head p c.low_line.ensures
          c.in_err-l.ensures);
    }

pub high_line-requires : goal.high_line-requires
high_line-requires c = (
  told-inside (low_of c.args.head.n) c.args.text.now c.args.from _ c.low_line.ensures c.in_ok-l.ensures,
  c.requires.1,
)

pub returns-in_err-h : goal.returns-in_err-h
returns-in_err-h c =
    let t = c.args.text.now in
    let head = c.args.head in
    let e = err_from_is_err_and c.from_residual-in_err-h.result c.from_residual-in_err-h.ensures.1 in
    rw (e.1, e.2)
    record {
      leads = λ j p.
          let low =
          low-leads t j c.args.from c.requires.0 head p c.low_line.ensures
          c.in_ok-l.ensures in
          leads-stop _ _
          (leads-on _ _ low
          (high-leads t _ _ (leads-inside _ _ low) head p c.high_line.ensures
          c.in_err-h.ensures));
    }

pub inverse_line-requires : goal.inverse_line-requires
inverse_line-requires c = (
  told-inside (high_of c.args.head.n c.in_ok-l.l.value) c.args.text.now _ _ c.high_line.ensures
      c.in_ok-h.ensures,
  c.requires.1,
)

pub returns-in_err-i : goal.returns-in_err-i
returns-in_err-i c =
    let t = c.args.text.now in
    let head = c.args.head in
    let e = err_from_is_err_and c.from_residual-in_err-i.result c.from_residual-in_err-i.ensures.1 in
    rw (e.1, e.2)
    record {
      leads = λ j p.
          let low =
          low-leads t j c.args.from c.requires.0 head p c.low_line.ensures
          c.in_ok-l.ensures in
          let high =
          leads-on _ _ low
          (high-leads t _ _ (leads-inside _ _ low) head p c.high_line.ensures
          c.in_ok-h.ensures) in
          leads-stop _ _
          (leads-on _ _ high
          (inverse-leads t _ _ (leads-inside _ _ high) head p c.inverse_line.ensures
          c.in_err-i.ensures));
    }

pub steps_line-requires : goal.steps_line-requires
steps_line-requires c =
    told-inside (inverse_of c.args.head.n) c.args.text.now _ _ c.inverse_line.ensures c.in_ok-i.ensures

pub returns-in_err-s : goal.returns-in_err-s
returns-in_err-s c =
    let t = c.args.text.now in
    let head = c.args.head in
    let e = err_from_is_err_and c.from_residual-in_err-s.result c.from_residual-in_err-s.ensures.1 in
    rw (e.1, e.2)
    record {
      leads = λ j p.
          let low =
          low-leads t j c.args.from c.requires.0 head p c.low_line.ensures
          c.in_ok-l.ensures in
          let high =
          leads-on _ _ low
          (high-leads t _ _ (leads-inside _ _ low) head p c.high_line.ensures
          c.in_ok-h.ensures) in
          let inverse =
          leads-on _ _ high
          (inverse-leads t _ _ (leads-inside _ _ high) head p c.inverse_line.ensures
          c.in_ok-i.ensures) in
          leads-stop _ _
          (leads-on _ _ inverse
          (steps-leads t _ _ (leads-inside _ _ inverse) head p c.steps_line.ensures
          c.in_err-s.ensures));
    }

pub returns : goal.returns
returns c =
    let t = c.args.text.now in
    let head = c.args.head in
    record {
      leads = λ j p.
          let low =
          low-leads t j c.args.from c.requires.0 head p c.low_line.ensures
          c.in_ok-l.ensures in
          let high =
          leads-on _ _ low
          (high-leads t _ _ (leads-inside _ _ low) head p c.high_line.ensures
          c.in_ok-h.ensures) in
          let inverse =
          leads-on _ _ high
          (inverse-leads t _ _ (leads-inside _ _ high) head p c.inverse_line.ensures
          c.in_ok-i.ensures) in
          let read =
          leads-on _ _ inverse
          (steps-leads t _ _ (leads-inside _ _ inverse) head p c.steps_line.ensures
          c.in_ok-s.ensures) in
          record { goes = read.goes };
    }
