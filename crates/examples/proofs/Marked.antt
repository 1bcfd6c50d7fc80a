-- T1 to T12 and the examples of requests hold, by computation.
use mathlib.Core.Path.{refl}
use Rattle.integers.specs.Rounding.{floor_by, ceil_by}
use Rattle.integers.specs.Least.{min_ℤ, max_ℤ}
use Rattle.integers.specs.Sums.{sum_to}
use Rattle.lists.specs.Loops.{tab, carry, all_b}
use Rattle.intervals.specs.Interval.{add_i, neg_i, sum_i, scale_i, wide_i, out_i, mul_i, mid_i, meets_i, inside_i}
use Rattle.intervals.specs.Interval.{cut_i, same_i}
use Rattle.powers.specs.Powers.{holds_zero, square_range, square_i, cube_i, power_i}
use Rattle.matrices.specs.Products.{dot_i, d_of, unit_z, entry_b, b_of, e_of}
use Rattle.term_checks.specs.Ranges.{one_to, is_within, all_within, all_ordered}
use Rattle.term_checks.specs.Terms.{alike, falls, in_order, good_term, good_place, good_terms, good_coefs, degree}
use Rattle.faults.specs.Checks.{bad_unless, first_of, on_line, and_then, lines_of}
use Rattle.checks.specs.Checks.{good_matrix, number_check, unknowns_check, pin_check}
use Rattle.checks.specs.Checks.{low_check, high_check, inverse_check, steps_check}
use Rattle.checks.specs.Checks.{equation_check, row_check, sided_check, system_check, line_check}
use Rattle.checks.specs.Checks.{job_line_status, system_lines, head_lines, body_lines, check_job}
use Rattle.slopes.specs.Terms.{factor_i, term_over, equation_over, lowered, term_slope, slope_over}
use Rattle.slopes.specs.Fractions.{power, term_num, equation_num}
use Rattle.systems.specs.Kinds.{unit_e, vector_e, linear_equation, eigen_equation, equation_of}
use Rattle.step.specs.Step.{image_of, image_box}
use Rattle.step.specs.Decide.{all_meet, all_inside, cut_same, cut_box, decide_of, step_of}
use Rattle.step.specs.Values.{box_of}
use Rattle.run.specs.Run.{run_of}
use Rattle.run.specs.Job.{outcome_of, result_of, run_job}
use Rattle.examples.specs.Table.{table, requests, Holds}

pub marked-examples : Holds table × Holds requests
unfolding floor_by ceil_by min_ℤ max_ℤ sum_to tab carry all_b add_i neg_i sum_i scale_i wide_i out_i mul_i mid_i
    meets_i inside_i cut_i same_i holds_zero square_range square_i cube_i power_i dot_i d_of unit_z entry_b b_of e_of
    is_within all_within all_ordered alike falls in_order good_term good_place good_terms good_coefs and_then
    bad_unless first_of on_line lines_of one_to good_matrix number_check unknowns_check pin_check low_check high_check
    inverse_check steps_check equation_check row_check sided_check system_check line_check job_line_status
    system_lines head_lines body_lines check_job factor_i term_over equation_over lowered term_slope slope_over power
    term_num degree equation_num unit_e vector_e linear_equation eigen_equation equation_of image_of all_meet
    all_inside cut_same cut_box decide_of image_box step_of run_of box_of outcome_of result_of run_job
marked-examples = (
  (refl, (refl, (refl, (refl, (refl, (refl, (refl, (refl, (refl, (refl, (refl, (refl, (refl, (refl, tt)))))))))))))),
  (refl, (refl, tt)),
)
