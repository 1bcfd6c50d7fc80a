use mathlib.Core.Path.{◌≡◌, sym, ap, ◌∙◌}
use mathlib.Core.Bool.{Bool, true, false, not, ◌&&◌}
use lib.Dec.{eqb}
use Rattle.faults.specs.declared.Fault.{Fault}
use Rattle.faults.specs.Checks.{bad_unless}
use Rattle.checks.specs.Checks.{good_pin}
use Rattle.lines.specs.Lines.{written_pin}
use Rattle.line_read.proofs.counts.written_pin.Goals as goal
use Rattle.line_read.proofs.counts.written_pin.Goals.{then-one_to, else-one_to}

on : {x a b : Bool} → a ≡ true → x ≡ b → x ≡ (a && b)
on e f = rw e f

off : {x r a : Bool} (b : Bool) → r ≡ a → r ≡ false → x ≡ r → x ≡ (a && b)
off b e f g = rw (sym e ∙ f) (g ∙ f)

pub returns : goal.returns
unfolding written_pin
returns c =
    let n = c.args.n in
    let pin = c.args.pin in
    let both : c.if-one_to.bad_unless ≡ (good_pin n pin && not (eqb pin n)) =
    elim c.if-one_to.branch [
      | then-one_to w ↦ on (sym c.one_to.ensures ∙ w.if-one_to.true) w.bad_unless-is
      | else-one_to w ↦ off _ c.one_to.ensures w.if-one_to.false w.bad_unless-is
    ] in
    c.bad_unless.ensures ∙ ap (λ (b : Bool). bad_unless b Fault.Pin) both
