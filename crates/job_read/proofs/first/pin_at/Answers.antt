-- `job_read::first::pin_at` meets its contract: the pin, or no line.
use mathlib.Core.Path.{refl, sym, ◌∙◌}
use Rattle.std.proofs.lemmas.Result.{err_from_is_err_and}
use Rattle.line_read.proofs.Ways.{leads-stop}
use Rattle.job_read.proofs.Pins.{pin-leads, last-leads}
use Rattle.job_read.proofs.first.pin_at.Goals as goal

pub returns-then-not-pin_stands : goal.returns-then-not-pin_stands
returns-then-not-pin_stands c =
    record {
      leads = λ j p.
          rw (← p)
          (last-leads c.args.text.now j c.args.from c.requires.0
          (sym c.pin_stands.ensures ∙ c.if-not-pin_stands.true) (rw p c.requires.1));
      same = refl;
    }

pub returns-in_err-p : goal.returns-in_err-p
returns-in_err-p c =
    let p = err_from_is_err_and c.from_residual.result c.from_residual.ensures.1 in
    rw (p.1, p.2)
    record {
      leads = λ j e.
          leads-stop _ _
          (pin-leads c.args.text.now j c.args.from c.requires.0
          (sym c.pin_stands.ensures ∙ c.if-not-pin_stands.false) c.args.head e c.pin_line.ensures c.in_err-p.ensures);
      same = tt;
    }

pub returns : goal.returns
returns c =
    record {
      leads = λ j p.
          let read =
          pin-leads c.args.text.now j c.args.from c.requires.0
          (sym c.pin_stands.ensures ∙ c.if-not-pin_stands.false) c.args.head p c.pin_line.ensures c.in_ok-p.ensures in
          record { goes = read.goes };
      same = refl;
    }
