-- `arguments::longs::plus` meets its contract.
use mathlib.Core.Path.{sym, ap, ◌∙◌}
use Rattle.digits.specs.Number.{without_minus}
use Rattle.arguments.specs.Longs.{long_magnitude}
use Rattle.arguments.proofs.Values.{long-held, long-fits, long-up}
use Rattle.arguments.proofs.longs.plus.Goals as goal
use Rattle.std.specs.Prelude.{Some}

pub overflow_cast-result : goal.overflow_cast-result
overflow_cast-result c =
    let long = sym c.is_long.ensures ∙ c.if-is_long.true in
    long-fits (long-held long c.value_of.ensures)

pub returns-then-is_long : goal.returns-then-is_long
unfolding without_minus long_magnitude
returns-then-is_long c =
    let long = sym c.is_long.ensures ∙ c.if-is_long.true in
    rw long (ap Some (long-up (long-held long c.value_of.ensures)))

pub returns : goal.returns
unfolding without_minus long_magnitude
returns c = rw (sym c.is_long.ensures ∙ c.if-is_long.false)
