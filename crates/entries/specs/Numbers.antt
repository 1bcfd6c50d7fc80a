-- Document 01, "Fault numbers": what is told of an entry's answer, and for values which fault, as a table. "lines are
-- taken in order and the first bad line decides; in one line 2 comes before the others, then 3, then 4, then 5 or 6",
-- "values handed over without text get the same checks in the same line order".
use Rattle.std.specs.Prelude.{ℕ, zero, suc, ◌+◌, ◌/◌, ◌^◌, Bool, cond, not, List, [], ◌∷◌, ◌++◌, eqb, ltb, leb, ℤ}
use Rattle.std.specs.Prelude.{pos, nat_abs, length, get_or}
use Rattle.sizes.specs.Sizes.{n_max, steps_max, number_max, visit_max, end_max, entry_max, image_max}
use Rattle.jobs.specs.Places.{equation_at, row_at}
use Rattle.term_checks.specs.Ranges.{is_within, all_within, all_ordered}
use Rattle.jobs.specs.Lines.{pin_lines, system_number}
use Rattle.term_checks.specs.Terms.{good_coefs, good_terms}
use Rattle.checks.specs.Checks.{good_unknowns, good_pin, good_ends, good_entries, good_matrix}
use Rattle.faults.specs.Words.{number_of, line_of}
use Rattle.jobs.specs.declared.Kind.{Kind}
use Rattle.jobs.specs.declared.Ends.{Ends}
use Rattle.jobs.specs.declared.Job.{Job}
use Rattle.jobs.specs.declared.Result.{Result}
use Rattle.halving.specs.Lists.{listed_places}
use Rattle.halving.specs.Halving.{depth_in}
use Rattle.job_parts.specs.declared.Parts.{Parts}
use Rattle.job_parts.specs.Limits.{fits}
use Rattle.faults.specs.Checked.{Checked}

-- "A fault returns its number and a line": 0 and 0 where there is none
pub record Told : Type 0 where
  pub number : ℕ
  pub line : ℕ

abbrev pub told : {A : Type 0} → Checked A → Told
told a = record { number = number_of a; line = line_of a }

abbrev pub tell : ℕ → ℕ → Told
tell number line = record { number = number; line = line }

-- the fault of a, and where it has none that of b
abbrev pub or_else : Told → Told → Told
or_else a b = cond (eqb a.number 0) b a

-- "the written text is longer than the lent buffer": 7, line 0
abbrev pub short_buffer : List ℕ → List ℕ → Told
short_buffer old text = cond (ltb (length old) (length text)) (tell 7 0) (tell 0 0)

-- a line, a fault's number, and whether it is given there
pub record Row : Type 0 where
  pub line : ℕ
  pub number : ℕ
  pub given : Bool

abbrev row : ℕ → ℕ → Bool → Row
row line number given = record { line = line; number = number; given = given }

-- the first bad line decides
abbrev pub first_given : List Row → Told
first_given [] = tell 0 0
first_given (r ∷ rs) = cond r.given (tell r.number r.line) (first_given rs)

-- the rows of n lines
abbrev pub each_line : ℕ → (ℕ → List Row) → List Row
each_line zero f = []
each_line (suc n) f = each_line n f ++ f n

-- line i of the system: `eq` of a polynomial job, `row` of a linear one with its right side, `row` of an eigenpair
abbrev pub system_rows : Kind → Job → ℕ → List Row
system_rows Kind.Poly j i =
    row (system_number j.head i) 4 (not (good_coefs (equation_at j.system.eqs i)))
    ∷ row (system_number j.head i) 6 (not (good_terms (equation_at j.system.eqs i) j.head.n))
    ∷ []
system_rows Kind.Linear j i =
    row (system_number j.head i) 4 (not (good_entries (row_at j.system.rows i) j.head.n))
    ∷ row (system_number j.head i) 4 (not (is_within (get_or j.system.right i (pos 0)) (pos entry_max)))
    ∷ []
system_rows Kind.Eigen j i =
    row (system_number j.head i) 4 (not (good_entries (row_at j.system.rows i) j.head.n)) ∷ []

-- document 02, P2: "9 for .. any pin not 1 to n, on its own line"; "other kinds ignore it"
abbrev pub pin_rows : Kind → Job → List Row
pin_rows Kind.Poly j = []
pin_rows Kind.Linear j = []
pin_rows Kind.Eigen j = row 4 9 (not (good_pin j.head.n j.head.pin)) ∷ []

-- "Order: job, kind, n, lo, hi, inv, steps, then n lines": a pin line moves those after it
abbrev pub box_rows : Job → List Row
box_rows j =
    row (4 + pin_lines j.head) 4 (not (good_ends j.ends.lo j.head.n))
    ∷ row (5 + pin_lines j.head) 4 (not (good_ends j.ends.hi j.head.n))
    ∷ row (5 + pin_lines j.head) 5 (not (all_ordered j.ends.lo j.ends.hi j.head.n))
    ∷ row (6 + pin_lines j.head) 4 (not (good_matrix j.inv j.head.n))
    ∷ row (7 + pin_lines j.head) 8 (not (leb j.steps steps_max))
    ∷ each_line j.head.n (system_rows j.head.kind j)

abbrev pub job_rows : Job → List Row
job_rows j =
    row 1 4 (not (leb j.head.number number_max))
    ∷ row 3 3 (not (good_unknowns j.head.n))
    ∷ (pin_rows j.head.kind j ++ box_rows j)

-- a result's lines are job, visit, verdict, steps, lo, hi. P12: the visit is "at most 999,999,999, else 4"; "an empty
-- list (n = 0 in values) is fault 2", one of over 6 numbers, since P10, fault 3
abbrev pub result_rows : Result → List Row
result_rows r =
    row 1 4 (ltb number_max r.number)
    ∷ row 2 4 (ltb visit_max r.visit)
    ∷ row 4 8 (ltb steps_max r.steps)
    ∷ row 5 2 (eqb r.n 0)
    ∷ row 5 3 (ltb n_max r.n)
    ∷ row 5 4 (not (good_ends r.lo r.n))
    ∷ row 6 4 (not (good_ends r.hi r.n))
    ∷ row 6 5 (not (all_ordered r.lo r.hi r.n))
    ∷ []

-- ---- P7: a box and an image handed in, all with line 0
-- "checked like a job's lo and hi": every end from -most to most, then a low end above its high end
abbrev pub ends_rows : ℕ → ℤ → Ends → List Row
ends_rows n most e =
    row 0 4 (not (all_within e.lo n most))
    ∷ row 0 4 (not (all_within e.hi n most))
    ∷ row 0 5 (not (all_ordered e.lo e.hi n))
    ∷ []

-- the job's own, then the box's
abbrev pub image_rows : Job → Ends → List Row
image_rows j x = job_rows j ++ ends_rows j.head.n (pos end_max) x

-- "3 for that n, first; 4 beyond the image's range, then 5 for its ends crossed, after .. the box's own"
abbrev pub decide_rows : ℕ → Ends → Ends → List Row
decide_rows n x k =
    row 0 3 (not (good_unknowns n)) ∷ (ends_rows n (pos end_max) x ++ ends_rows n (pos image_max) k)

-- P8: "the job's own, then 8 for depth not 0 to 8, then 7 where the list can't hold two to the power of the depth", for
-- a list of `room` numbers
abbrev pub halve_rows : Job → ℤ → ℕ → List Row
halve_rows j depth room =
    job_rows j
    ++ (row 0 8 (not (depth_in depth)) ∷ row 0 7 (not (leb (2 ^ nat_abs depth) (room / listed_places))) ∷ [])

-- what is carried between the calls of a text in parts: document 02, P1
unfoldable pub parts_rows : Parts → List Row
parts_rows p = row 0 4 (not (fits p)) ∷ []
