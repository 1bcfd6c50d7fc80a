-- The promises are not empty: document 01's marked example T11 is an accepted job, its run says "unique", and its zero
-- is the point that the run names.
use mathlib.Core.Path.{◌≡◌, refl}
use mathlib.Core.List.{List, [], ◌∷◌}
use Prim.Native.Nat.{ℕ, zero, suc, ◌<◌}
use native.Mathlib.Omega.{arith}
use lib.IntN.{ℤ, pos, negsuc, ◌*ℤ◌}
use lib.ListN.{get_or}
use Rattle.lists.specs.Loops.{tab, carry, all_b}
use Rattle.integers.proofs.Parts.{zorder}
use Rattle.integers.specs.Least.{min_ℤ, max_ℤ}
use Rattle.integers.specs.Rounding.{floor_by, ceil_by}
use Rattle.integers.specs.Sums.{sum_to}
use Rattle.intervals.specs.Places.{number_at, side_at}
use Rattle.intervals.specs.Fraction.{In}
use Rattle.intervals.specs.Interval.{add_i, neg_i, sum_i, scale_i, wide_i, out_i, mul_i, mid_i, meets_i, inside_i}
use Rattle.powers.specs.Powers.{power_i}
use Rattle.matrices.specs.Products.{dot_i, d_of, unit_z, entry_b, b_of, e_of}
use Rattle.term_checks.specs.Ranges.{one_to, is_within, all_within, all_ordered}
use Rattle.faults.specs.Checks.{bad_unless, first_of, on_line, and_then, lines_of}
use Rattle.checks.specs.Checks.{good_matrix, number_check, unknowns_check, pin_check}
use Rattle.checks.specs.Checks.{low_check, high_check, inverse_check, steps_check}
use Rattle.checks.specs.Checks.{row_check, sided_check, system_check, line_check}
use Rattle.checks.specs.Checks.{job_line_status, system_lines, head_lines, body_lines, check_job}
use Rattle.slopes.specs.Terms.{factor_i, term_over, equation_over, lowered, term_slope, slope_over}
use Rattle.slopes.specs.Fractions.{units_of}
use Rattle.systems.specs.Kinds.{row_of, unit_e, linear_equation, equation_of}
use Rattle.step.specs.Step.{image_of, image_box}
use Rattle.step.specs.Decide.{all_meet, all_inside, decide_of, step_of}
use Rattle.step.specs.Values.{box_of, start_of}
use Rattle.run.specs.Run.{run_of}
use Rattle.jobs.specs.declared.Kind.{Kind}
use Rattle.jobs.specs.declared.Row.{Row}
use Rattle.jobs.specs.declared.Job.{Job}
use Rattle.jobs.specs.declared.Verdict.{Verdict}
use Rattle.promises.specs.Claims.{Point, Lies, Same}
use Rattle.promises.specs.Jobs.{job_run, SolvesLinear}
use Rattle.promises.proofs.Demand3.{linear-zeros, at_most_one}
use Rattle.std.specs.Prelude.{Ok}

abbrev holding : List ℤ → Row
holding numbers = record { at = numbers }

-- "T11 linear, rows 131072,0,65536 and 0,262144,65536, inverse 32768,0,0,16384, box [-65536,65536] twice"
abbrev job11 : Job
job11 = record {
  head = record { number = 11; kind = Kind.Linear; n = 2; pin = 0 };
  ends = record { lo = negsuc 65535 ∷ negsuc 65535 ∷ []; hi = pos 65536 ∷ pos 65536 ∷ [] };
  inv = holding (pos 32768 ∷ pos 0 ∷ []) ∷ holding (pos 0 ∷ pos 16384 ∷ []) ∷ [];
  steps = 1;
  system = record {
    eqs = [];
    rows = holding (pos 131072 ∷ pos 0 ∷ []) ∷ holding (pos 0 ∷ pos 262144 ∷ []) ∷ [];
    right = pos 65536 ∷ pos 65536 ∷ [];
  };
}

pub accepted : check_job job11 ≡ Ok tt
unfolding check_job head_lines body_lines number_check unknowns_check one_to pin_check low_check high_check
    inverse_check good_matrix steps_check system_lines lines_of system_check line_check job_line_status
    sided_check row_check bad_unless first_of on_line and_then all_within is_within all_ordered all_b
accepted = refl

-- "unique, 1"
pub answer : (job_run job11 1).verdict ≡ Verdict.Unique
unfolding box_of run_of step_of image_box image_of decide_of all_meet all_inside all_b meets_i inside_i d_of b_of
    entry_b e_of dot_i unit_z sum_i carry add_i neg_i scale_i wide_i out_i mul_i power_i mid_i floor_by ceil_by min_ℤ
    max_ℤ equation_over slope_over term_slope term_over factor_i lowered equation_of linear_equation unit_e tab
answer = refl

-- "[32768,32768] and [16384,16384]": the point (32768, 16384) over 1
abbrev point11 : Point
point11 = record { num = λ k. get_or (pos 32768 ∷ pos 16384 ∷ []) k (pos 0); den = pos 1 }

solution : SolvesLinear job11 point11
unfolding sum_to
solution = record { each = line }
  where
    line : (i : ℕ) → i < 2
        → sum_to 2 (λ k. row_of job11 i k *ℤ point11.num k) ≡ number_at job11.system.right i *ℤ units_of (pos 1)
    line zero l = refl
    line (suc zero) l = refl
    line (suc (suc i)) l = absurd (omega arith)

starts : Lies 2 point11 (start_of job11)
starts = record { den = omega zorder; each = side }
  where
    side : (k : ℕ) → k < 2 → In (point11.num k) (pos 1) (side_at (start_of job11) k)
    side zero l = unfold box_of tab in (record { den = omega zorder; low = omega zorder; high = omega zorder })
    side (suc zero) l = unfold box_of tab in (record { den = omega zorder; low = omega zorder; high = omega zorder })
    side (suc (suc k)) l = absurd (omega arith)

-- so every fraction solution of A x = b in the starting box is this one
pub only-solution : (p : Point) → SolvesLinear job11 p → Lies 2 p (start_of job11) → Same 2 p point11
only-solution p solves lies =
    at_most_one job11 accepted 1 answer p point11 ((linear-zeros job11 accepted refl p lies.den).1 solves)
    ((linear-zeros job11 accepted refl point11 starts.den).1 solution) lies starts
