-- put_box: the word, the low ends and the high ends, one after the other.
use mathlib.Core.Path.{◌≡◌, refl, ◌∙◌}
use mathlib.Core.Bool.{Bool, true, false}
use lib.IntN.{pos}
use Prim.Native.Nat.{◌*◌}
use native.Mathlib.Omega.{arith}
use lib.ListN.{length-set}
use mir.Syntax.{w64}
use mir.Val.{to_z, of_z, bool_byte}
use Rattle.integers.proofs.Machine.{got}
use Rattle.halving.specs.Lists.{listed_places, unique_number}
use Rattle.halving.proofs.Put.{put-length}
use Rattle.halving.proofs.Lists.{low-next, box-put}
use Rattle.halving.proofs.put_box.Goals as goal

word : (unique : Bool) → pos (bool_byte unique) ≡ unique_number unique
word true = refl
word false = refl

pub put_row-next-requires : goal.put_row-next-requires
put_row-next-requires c = rw (length-set) (omega (arith, c.requires.at_in_bounds))

pub put_row-requires : goal.put_row-requires
put_row-requires c =
    let a = c.args in
    let old = a.list.now in
    let size = length-set old (listed_places * a.at) (to_z w64 (of_z w64 c.from.result)) in
    omega (
      arith,
      low-next a.n a.x c.ends_of-ends.ensures c.put_row-next.ensures,
      put-length c.put_row-next.ensures,
      size,
      c.requires.at_in_bounds,
    )

pub shape_of-list : goal.shape_of-list
shape_of-list c =
    let a = c.args in
    put-length c.put_row.ensures ∙ put-length c.put_row-next.ensures
    ∙ length-set a.list.now (listed_places * a.at) (to_z w64 (of_z w64 c.from.result))

pub returns : goal.returns
returns c =
    let a = c.args in
    box-put a.n a.unique a.x (got c.from.type_inv (c.from.ensures ∙ word a.unique))
    c.ends_of-ends.ensures c.put_row-next.ensures c.put_row.ensures
