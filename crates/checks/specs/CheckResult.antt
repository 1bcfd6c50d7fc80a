-- The checks of a result's values. "Values handed over without text get the same checks in the same line order."
use Rattle.std.specs.Prelude.{ℕ, List, leb, ℤ, Ok}
use Rattle.sizes.specs.Sizes.{n_max, visit_max}
use Rattle.faults.specs.Checks.{bad_unless, first_of, on_line, and_then}
use Rattle.faults.specs.declared.Fault.{Fault}
use Rattle.faults.specs.Checked.{Finding, Status}
use Rattle.jobs.specs.declared.Result.{Result}
use Rattle.jobs.specs.declared.ResultLine.{ResultLine}
use Rattle.jobs.specs.Lines.{result_number}
use Rattle.checks.specs.Checks.{number_check, steps_check, low_check, high_check}

-- document 02, P12: "at most 999,999,999, else 4"
unfoldable pub visit_check : ℕ → Finding
visit_check visit = bad_unless (leb visit visit_max) Fault.Beyond

-- "an empty list (n = 0 in values) is fault 2", one of over 6 numbers, since P10, fault 3
unfoldable pub count_check : ℕ → Finding
count_check n = first_of (bad_unless (leb 1 n) Fault.Spelling) (bad_unless (leb n n_max) Fault.Unknowns)

-- "the length of the `lo` list is n"
unfoldable pub counted_check : ℕ → List ℤ → Finding
counted_check n lo = first_of (count_check n) (low_check n lo)

-- the verdict is one of four, so nothing can be wrong with its line
unfoldable pub result_check : ResultLine → Result → Finding
result_check ResultLine.Number r = number_check r.number
result_check ResultLine.Visit r = visit_check r.visit
result_check ResultLine.Verdict r = Ok tt
result_check ResultLine.Steps r = steps_check r.steps
result_check ResultLine.Lo r = counted_check r.n r.lo
result_check ResultLine.Hi r = high_check r.n r.lo r.hi
result_check ResultLine.End r = Ok tt

unfoldable pub result_line_status : ResultLine → Result → Status
result_line_status k r = on_line (result_check k r) (result_number k)

-- "job, verdict, steps, lo, hi", with `visit=` as second line
unfoldable pub check_result : Result → Status
check_result r =
    and_then (result_line_status ResultLine.Number r)
    (and_then (result_line_status ResultLine.Visit r)
    (and_then (result_line_status ResultLine.Verdict r)
    (and_then (result_line_status ResultLine.Steps r)
    (and_then (result_line_status ResultLine.Lo r)
    (result_line_status ResultLine.Hi r)))))
