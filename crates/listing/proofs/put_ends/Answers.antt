-- put_ends: the slice has n numbers.
use Prim.Native.Nat.{◌+◌, ◌-◌}
use native.Mathlib.Omega.{arith}
use mathlib.Core.Path.{◌≡◌}
use lib.ListN.{drop}
use Rattle.listing.proofs.Short.{taken-few}
use Rattle.listing.proofs.put_ends.Goals as goal

pub put_list_line-requires : goal.put_list_line-requires
put_list_line-requires c =
    let a = c.args in
    let e : (a.from + a.n) - a.from ≡ a.n = omega arith in
    let few = taken-few a.n (drop a.from a.list.now) c.requires.few in
    rw e (omega arith, omega (arith, c.requires.room, few), c.requires.small)

pub returns : goal.returns
returns c =
    let a = c.args in
    let e : (a.from + a.n) - a.from ≡ a.n = omega arith in
    rw e at c.put_list_line.ensures
