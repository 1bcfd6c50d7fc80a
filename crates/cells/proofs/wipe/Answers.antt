-- `cells::wipe` meets its contract.
use Prim.Native.Nat.{ℕ, zero, suc}
use native.Mathlib.Omega.{arith}
use native.Mathlib.Numerals.{add-one}
use mathlib.Core.Path.{◌≡◌, refl, ap}
use mathlib.Core.List.{List, [], ◌∷◌, ◌++◌}
use Rattle.cells.specs.Cells.{zeros}
use Rattle.cells.proofs.Cells.{zeros-length}
use Rattle.writing.proofs.Wrote.{wrote-append, wrote_none, wrote_as}
use Rattle.cells.proofs.wipe.Goals as goal

-- one zero more
more : (i : ℕ) → zeros i ++ (0 ∷ []) ≡ zeros (suc i)
unfolding zeros
more zero = refl
more (suc i) = ap (λ (zs : List ℕ). 0 ∷ zs) (more i)

pub loop-i-init : goal.loop-i-init
unfolding zeros
loop-i-init c = wrote_none _ _

pub put_byte-at-requires : goal.put_byte-at-requires
put_byte-at-requires c =
    let l = c.loop-i in
    omega (arith, l.invariant.next, zeros-length l._i, c.loop-i-test.true, c.requires)

pub loop-i-preserved : goal.loop-i-preserved
loop-i-preserved c =
    let l = c.loop-i in
    rw (add-one l._i) (wrote_as (more l._i) (wrote-append l.invariant c.put_byte-at.ensures))
