-- The number of each line: the one place that says it. A job's takes the head, for a line that only some jobs have
-- moves those after it.
use Rattle.std.specs.Prelude.{ℕ, ◌+◌, ◌≤◌, ◌<◌, ◌≡◌, Bool, false, not, cond, eqb}
use Rattle.sizes.specs.Sizes.{n_max}
use Rattle.jobs.specs.declared.Kind.{Kind}
use Rattle.jobs.specs.declared.Head.{Head}
use Rattle.jobs.specs.declared.JobLine.{JobLine}
use Rattle.jobs.specs.declared.ResultLine.{ResultLine}

-- document 02, P2: "Eigen jobs, and no others, get a line `pin=` after `n`"; "pin equal to n is never written"
abbrev pub pin_stands : Kind → ℕ → ℕ → Bool
pin_stands Kind.Poly n pin = false
pin_stands Kind.Linear n pin = false
pin_stands Kind.Eigen n pin = not (eqb pin n)

-- how many pin lines a job has, which the numbers of the lines after it count
unfoldable pub pin_lines : Head → ℕ
pin_lines h = cond (pin_stands h.kind h.n h.pin) 1 0

-- the line after n: an eigenpair's may be its pin
abbrev pub after_n : Kind → JobLine
after_n Kind.Poly = JobLine.Lo
after_n Kind.Linear = JobLine.Lo
after_n Kind.Eigen = JobLine.Pin

abbrev pub steps_number : Head → ℕ
steps_number h = 7 + pin_lines h

-- "then n lines": line i of the system, counted from 0
abbrev pub system_number : Head → ℕ → ℕ
system_number h i = steps_number h + 1 + i

-- "Order: job, kind, n, lo, hi, inv, steps, then n lines"; "A missing line is named by the number it would have had"
abbrev pub job_number : JobLine → Head → ℕ
job_number JobLine.Number h = 1
job_number JobLine.Kind h = 2
job_number JobLine.Unknowns h = 3
job_number JobLine.Pin h = 4
job_number JobLine.Lo h = 4 + pin_lines h
job_number JobLine.Hi h = 5 + pin_lines h
job_number JobLine.Inv h = 6 + pin_lines h
job_number JobLine.Steps h = steps_number h
job_number (JobLine.System i) h = system_number h i
job_number JobLine.End h = system_number h h.n

-- the lines that a job may have: of its system, those of n up to its limit
abbrev pub LineFits : JobLine → Head → Type 0
LineFits JobLine.Number h = Unit {0}
LineFits JobLine.Kind h = Unit {0}
LineFits JobLine.Unknowns h = Unit {0}
LineFits JobLine.Pin h = Unit {0}
LineFits JobLine.Lo h = Unit {0}
LineFits JobLine.Hi h = Unit {0}
LineFits JobLine.Inv h = Unit {0}
LineFits JobLine.Steps h = Unit {0}
LineFits (JobLine.System i) h = i ≤ n_max
LineFits JobLine.End h = h.n ≤ n_max

-- the order of a result's lines: job, then, since P12, visit "as second line", verdict, steps, lo, hi
abbrev pub result_number : ResultLine → ℕ
result_number ResultLine.Number = 1
result_number ResultLine.Visit = 2
result_number ResultLine.Verdict = 3
result_number ResultLine.Steps = 4
result_number ResultLine.Lo = 5
result_number ResultLine.Hi = 6
result_number ResultLine.End = 7

-- back from a number to its line: the number of `line` is k, if any line of that head has it
abbrev pub JobNumbered : ℕ → Head → JobLine → Type 0
JobNumbered k h line = 0 < k → k ≤ job_number JobLine.End h → job_number line h ≡ k

abbrev pub ResultNumbered : ℕ → ResultLine → Type 0
ResultNumbered k line = 0 < k → k ≤ result_number ResultLine.End → result_number line ≡ k
