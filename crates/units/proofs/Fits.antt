-- No answer in units is longer than a text may be.
use Prim.Native.Nat.{ℕ, zero, suc, ◌*◌, ◌≤◌}
use native.Mathlib.Omega.{arith}
use mathlib.Core.List.{List}
use lib.ListN.{length, get_or, length-append}
use lib.IntN.{ℤ, pos}
use Rattle.sizes.specs.Sizes.{n_max, text_max}
use Rattle.jobs.specs.declared.Result.{Result}
use Rattle.result_form.specs.ResultShows.{show_result}
use Rattle.result_form.proofs.Trips.{result-width}
use Rattle.units.specs.Show.{unknown_max, unknown_line, unknown_lines, units_of}
use Rattle.units.proofs.Short.{unknown-short}

lines-short : (n : ℕ) (lo hi : List ℤ) → length (unknown_lines n lo hi) ≤ unknown_max * n
unfolding unknown_lines
lines-short zero lo hi = omega arith
lines-short (suc n) lo hi =
    let line = unknown_line (suc n) (get_or lo n (pos 0)) (get_or hi n (pos 0)) in
    rw (length-append (unknown_lines n lo hi) line)
    (omega (arith, lines-short n lo hi, unknown-short (suc n) (get_or lo n (pos 0)) (get_or hi n (pos 0))))

pub units-fit : (r : Result) → r.n ≤ n_max → length (units_of r) ≤ text_max
unfolding units_of
units-fit r few =
    rw (length-append (show_result r) (unknown_lines r.n r.lo r.hi))
    (omega (arith, result-width r, lines-short r.n r.lo r.hi))
