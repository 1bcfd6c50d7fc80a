-- `writing::put_row_line` meets its contract.
use borrow.Author.Rules.{rules}
use Prim.Native.Nat.{◌+◌, ◌≤◌}
use native.Mathlib.Omega.{arith}
use native.Mathlib.Nat.{mul-le-mul_left}
use mathlib.Core.Path.{◌≡◌}
use lib.ListN.{length, take, length-take}
use Rattle.sizes.specs.Sizes.{n_max}
use Rattle.writing.proofs.Lists.{taken-first}
use Rattle.writing.proofs.put_row_line.Goals as goal

pub put_list_line-requires : goal.put_list_line-requires
put_list_line-requires c =
    let n = c.args.n in
    let row = c.args.row in
    let long : length row ≡ n_max = search rules in
    let short : length (take n row) ≤ n_max = omega (arith, c.requires.few, length-take n row) in (
      c.requires.wide,
      omega (arith, c.requires.room, mul-le-mul_left (c.args.k + 2) short),
      rw (taken-first n row (omega (arith, c.requires.few))) c.requires.small,
    )

pub returns : goal.returns
returns c =
    let long : length c.args.row ≡ n_max = search rules in
    rw (taken-first c.args.n c.args.row (omega (arith, c.requires.few))) at
    c.put_list_line.ensures
