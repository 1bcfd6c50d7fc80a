-- `cells::put_number` meets its contract.
use Prim.Native.Nat.{ℕ, ◌/◌, ◌%◌, ◌^◌}
use native.Mathlib.Omega.{arith}
use mathlib.Core.Path.{◌≡◌}
use mathlib.Core.List.{[], ◌∷◌}
use Rattle.cells.specs.Cells.{number_bytes}
use Rattle.writing.proofs.Wrote.{wrote_as}
use Rattle.cells.proofs.put_number.Goals as goal

-- the lowest four bytes
lowest : (v : ℕ) → v % 256 ∷ v / 256 % 256 ∷ v / 256 ^ 2 % 256 ∷ v / 256 ^ 3 % 256 ∷ [] ≡ number_bytes v
unfolding number_bytes
lowest v =
    let third : v / 256 ^ 2 % 256 ≡ v / 256 / 256 % 256 = omega arith in
    let fourth : v / 256 ^ 3 % 256 ≡ v / 256 / 256 / 256 % 256 = omega arith in
    rw (third, fourth)

pub returns : goal.returns
returns c = wrote_as (lowest c.args.v) (rw c.to_le_bytes.ensures at c.put_bytes.ensures)
