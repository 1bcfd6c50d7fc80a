-- `next_line::system::system_taken` meets its contract, kind by kind.
use mathlib.Core.Path.{sym, ◌∙◌}
use mir.Facts.{to_z-of_z}
use mir.Syntax.{w64}
use Rattle.std.proofs.Common.{rules}
use Rattle.reading.specs.Results.{after}
use Rattle.job_form.specs.JobForm.{system_says}
use Rattle.lines.specs.Lines.{equation_of, sided_of, row_of}
use Rattle.line_read.proofs.Ways.{said-ok, said-err}
use Rattle.next_line.proofs.Arms.{system-read}
use Rattle.next_line.proofs.Backs.{kind-same}
use Rattle.next_line.proofs.Rooms.{system-room}
use Rattle.next_line.proofs.system.system_taken.Goals as goal
use Rattle.next_line.proofs.system.system_taken.Goals.{in-Poly+in_ok-s-in-Poly, in-Linear+in_ok-l-in-Linear}
use Rattle.next_line.proofs.system.system_taken.Goals.{in-Eigen+in_ok-at-in-Eigen}

pub returns-in_err-s-in-Poly : goal.returns-in_err-s-in-Poly
unfolding system_says after
returns-in_err-s-in-Poly c =
    system-read c.args.r c.args.i c.args.line.now (sym c.kind_of.ensures ∙ c.in-Poly.is)
    (rw (said-err (equation_of c.args.r.n) c.args.line.now _ c.requires.0.ends c.in_err-s-in-Poly.ensures)
    (search rules))

pub returns-in_err-l-in-Linear : goal.returns-in_err-l-in-Linear
unfolding system_says after
returns-in_err-l-in-Linear c =
    system-read c.args.r c.args.i c.args.line.now (sym c.kind_of.ensures ∙ c.in-Linear.is)
    (rw (said-err (sided_of c.args.r.n) c.args.line.now _ c.requires.0.ends c.in_err-l-in-Linear.ensures)
    (search rules))

pub returns-in_err-at-in-Eigen : goal.returns-in_err-at-in-Eigen
unfolding system_says after
returns-in_err-at-in-Eigen c =
    system-read c.args.r c.args.i c.args.line.now (sym c.kind_of.ensures ∙ c.in-Eigen.is)
    (rw (said-err (row_of c.args.r.n) c.args.line.now _ c.requires.0.ends c.in_err-at-in-Eigen.ensures)
    (search rules))

pub place_of-requires : goal.place_of-requires
place_of-requires c =
    rw c.after_system.ensures (system-room _ _ c.requires.0.few c.requires.1)

pub returns : goal.returns
unfolding system_says after
returns c =
    rw (c.place_of.ensures, c.after_system.ensures)
    (elim c.match-kind_of.branch [
      | in-Poly+in_ok-s-in-Poly w ↦
          system-read c.args.r c.args.i c.args.line.now (sym c.kind_of.ensures ∙ w.in-Poly.is)
          (rw (
            w.s-is,
            said-ok (equation_of c.args.r.n) c.args.line.now _ c.requires.0.ends w.in_ok-s-in-Poly.ensures,
            kind-same _ c.requires.0.kind,
          ))
      | in-Linear+in_ok-l-in-Linear w ↦
          system-read c.args.r c.args.i c.args.line.now (sym c.kind_of.ensures ∙ w.in-Linear.is)
          (rw (
            w.s-is,
            said-ok (sided_of c.args.r.n) c.args.line.now _ c.requires.0.ends w.in_ok-l-in-Linear.ensures,
            to_z-of_z {w = w64} {z = w.in_ok-l-in-Linear.field-0.value.side} (search rules),
            kind-same _ c.requires.0.kind,
          ))
      | in-Eigen+in_ok-at-in-Eigen w ↦
          system-read c.args.r c.args.i c.args.line.now (sym c.kind_of.ensures ∙ w.in-Eigen.is)
          (rw (
            w.s-is,
            said-ok (row_of c.args.r.n) c.args.line.now _ c.requires.0.ends w.in_ok-at-in-Eigen.ensures,
            kind-same _ c.requires.0.kind,
          ))
    ])
