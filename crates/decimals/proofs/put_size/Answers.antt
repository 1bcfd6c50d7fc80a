-- `decimals::put_size` meets its contract.
use Prim.Native.Nat.{◌/◌}
use native.Mathlib.Omega.{arith}
use Rattle.digits.specs.Number.{digits_max}
use Rattle.digits.proofs.Show.{show-short}
use Rattle.writing.proofs.Wrote.{wrote-append}
use Rattle.decimals.specs.Units.{unit, show_size}
use Rattle.decimals.proofs.put_size.Goals as goal

pub put_fraction-requires : goal.put_fraction-requires
put_fraction-requires c =
    let short = show-short digits_max (c.args.m / unit) in
    (omega (arith, c.put_magnitude-next.ensures.next, short, c.requires), omega arith)

pub returns : goal.returns
unfolding show_size
returns c =
    wrote-append c.put_magnitude-next.ensures c.put_fraction.ensures
