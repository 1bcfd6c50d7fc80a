use borrow.Author.Rules.{rules}
use Prim.Native.Nat.{ℕ, ◌+◌}
use native.Mathlib.Omega.{arith}
use native.Mathlib.Numerals.{add-one}
use mathlib.Core.Path.{◌≡◌, refl}
use mathlib.Core.List.{List, [], ◌++◌}
use mir.Syntax.{w64}
use mir.Facts.{to_z-of_z}
use lib.IntN.{ℤ, pos}
use lib.ListN.{get_or}
use Rattle.writing.proofs.Wrote.{wrote-append, wrote_none, wrote-length}
use Rattle.units.specs.Show.{unknown_line, unknown_lines}
use Rattle.units.proofs.Short.{unknown-short, small-live}
use Rattle.units.proofs.sides.put_unknowns.Goals as goal

no_lines : (lo hi : List ℤ) → unknown_lines 0 lo hi ≡ []
unfolding unknown_lines
no_lines lo hi = refl

line-more : (i : ℕ) (lo hi : List ℤ)
    → unknown_lines (i + 1) lo hi ≡ unknown_lines i lo hi ++ unknown_line (i + 1) (get_or lo i (pos 0))
    (get_or hi i (pos 0))
unfolding unknown_lines
line-more i lo hi = rw (add-one i)

pub loop-i-init : goal.loop-i-init
loop-i-init c = record { few = omega arith; room = omega arith; wrote = rw (no_lines _ _) (wrote_none _ _) }

pub put_unknown-p-requires : goal.put_unknown-p-requires
put_unknown-p-requires c =
    let l = c.loop-i in
    let low = get_or c.args.lo l.i (pos 0) in
    let high = get_or c.args.hi l.i (pos 0) in
    let test = c.loop-i-test.true in (
      omega (arith, l.invariant.room, test, c.requires.few, c.requires.room),
      rw (to_z-of_z {w = w64} {z = low} (search rules)) (small-live c.args.lo _ l.i c.requires.low test),
      rw (to_z-of_z {w = w64} {z = high} (search rules)) (small-live c.args.hi _ l.i c.requires.high test),
    )

pub loop-i-preserved : goal.loop-i-preserved
loop-i-preserved c =
    let l = c.loop-i in
    let low = get_or c.args.lo l.i (pos 0) in
    let high = get_or c.args.hi l.i (pos 0) in
    let e = to_z-of_z {w = w64} {z = low} (search rules) in
    let f = to_z-of_z {w = w64} {z = high} (search rules) in
    let written = rw (e, f) at c.put_unknown-p.ensures in
    record {
      few = omega arith;
      room = omega (arith, l.invariant.room, written.next, unknown-short (l.i + 1) low high);
      wrote = rw (line-more l.i c.args.lo c.args.hi) (wrote-append l.invariant.wrote written);
    }

pub shape_of-buf : goal.shape_of-buf
shape_of-buf c = wrote-length c.loop-i.invariant.wrote

pub returns : goal.returns
returns c =
    let l = c.loop-i in
    let e : l.i ≡ c.args.n = omega (arith, l.invariant.few, c.loop-i-test.false) in
    rw e at l.invariant.wrote
