-- The jobs of the examples, written as their texts are: lists for the live places, zero past them.
use Rattle.std.specs.Prelude.{List, [], ◌∷◌, ℕ, ℤ, pos, neg_ℤ, length, get_or, replicate}
use Rattle.sizes.specs.Sizes.{n_max, terms_max}
use Rattle.lists.specs.Loops.{tab}
use Rattle.intervals.specs.Places.{number_at}
use Rattle.jobs.specs.Zero.{zero_term, zero_equation}
use Rattle.jobs.specs.Parts.{last_pin}
use Rattle.jobs.specs.declared.Kind.{Kind}
use Rattle.jobs.specs.declared.Term.{Term}
use Rattle.jobs.specs.declared.Equation.{Equation}
use Rattle.jobs.specs.declared.Row.{Row}
use Rattle.jobs.specs.declared.Job.{Job}

abbrev pub minus : ℕ → ℤ
minus n = neg_ℤ (pos n)

abbrev pub numbers : List ℤ → List ℤ
numbers xs = tab n_max (length xs) (pos 0) (number_at xs)

abbrev pub matrix : List (List ℤ) → List Row
matrix rows =
    tab n_max (length rows) (record { at = replicate n_max (pos 0) }) (λ i. record { at = numbers (get_or rows i []) })

-- a term `coefficient:exponents`, an `eq` line and all of them
abbrev pub term : ℤ → List ℕ → Term
term c e = record { coef = c; exps = tab n_max (length e) 0 (λ k. get_or e k 0) }

abbrev pub equation : List Term → Equation
equation ts = record { count = length ts; terms = tab terms_max (length ts) zero_term (λ k. get_or ts k zero_term) }

abbrev pub equations : List (List Term) → List Equation
equations eqs = tab n_max (length eqs) zero_equation (λ i. equation (get_or eqs i []))

-- "Order: job, kind, n, lo, hi, inv, steps, then n lines", without the lines of the system
abbrev head : ℕ → Kind → List ℤ → List ℤ → List (List ℤ) → ℕ → List Equation → List Row → List ℤ → Job
head number kind lo hi inv steps eqs rows right = record {
  head = record { number = number; kind = kind; n = length lo; pin = last_pin kind (length lo) };
  ends = record { lo = numbers lo; hi = numbers hi };
  inv = matrix inv;
  steps = steps;
  system = record { eqs = eqs; rows = rows; right = right };
}

abbrev pub poly_job : ℕ → List ℤ → List ℤ → List (List ℤ) → ℕ → List (List Term) → Job
poly_job number lo hi inv steps eqs = head number Kind.Poly lo hi inv steps (equations eqs) (matrix []) (numbers [])

abbrev pub linear_job : ℕ → List ℤ → List ℤ → List (List ℤ) → ℕ → List (List ℤ) → List ℤ → Job
linear_job number lo hi inv steps rows right =
    head number Kind.Linear lo hi inv steps (equations []) (matrix rows) (numbers right)

abbrev pub eigen_job : ℕ → List ℤ → List ℤ → List (List ℤ) → ℕ → List (List ℤ) → Job
eigen_job number lo hi inv steps rows = head number Kind.Eigen lo hi inv steps (equations []) (matrix rows) (numbers [])

-- the document's job 41, with an inverse
abbrev pub job41 : ℤ → Job
job41 c = poly_job 41 (pos 65536 ∷ []) (pos 131072 ∷ []) ((c ∷ []) ∷ []) 8
    ((term (pos 65536) (2 ∷ []) ∷ term (minus 131072) (0 ∷ []) ∷ []) ∷ [])

-- T7: "x = 0 (coefficient 65536, inverse 65536) on [0,2]", with an allowance
abbrev pub job7 : ℕ → Job
job7 steps = poly_job 7 (pos 0 ∷ []) (pos 2 ∷ []) ((pos 65536 ∷ []) ∷ []) steps ((term (pos 65536) (1 ∷ []) ∷ []) ∷ [])

-- T9: "x - 1 = 0 on [0,0], inverse 65536"
abbrev pub job9 : Job
job9 = poly_job 9 (pos 0 ∷ []) (pos 0 ∷ []) ((pos 65536 ∷ []) ∷ []) 8
    ((term (pos 65536) (1 ∷ []) ∷ term (minus 65536) (0 ∷ []) ∷ []) ∷ [])

-- T11: "linear, rows 131072,0,65536 and 0,262144,65536, inverse 32768,0,0,16384, box [-65536,65536] twice"
abbrev pub job11 : Job
job11 =
    linear_job 11 (minus 65536 ∷ minus 65536 ∷ []) (pos 65536 ∷ pos 65536 ∷ [])
    ((pos 32768 ∷ pos 0 ∷ []) ∷ (pos 0 ∷ pos 16384 ∷ []) ∷ []) 8
    ((pos 131072 ∷ pos 0 ∷ []) ∷ (pos 0 ∷ pos 262144 ∷ []) ∷ []) (pos 65536 ∷ pos 65536 ∷ [])

-- T12: "eigen, rows 65536,65536 and 0,131072"; its box and inverse play no part
abbrev pub job12 : Job
job12 = eigen_job 12 (pos 0 ∷ pos 0 ∷ []) (pos 0 ∷ pos 0 ∷ []) [] 0
    ((pos 65536 ∷ pos 65536 ∷ []) ∷ (pos 0 ∷ pos 131072 ∷ []) ∷ [])

-- P5: "our symmetric hinges", examples/hinge-geared.txt
abbrev pub job304 : Job
job304 =
    poly_job 304 (minus 49152 ∷ pos 40960 ∷ []) (pos 49152 ∷ pos 65536 ∷ [])
    ((pos 0 ∷ pos 59919 ∷ []) ∷ (pos 40330 ∷ pos 0 ∷ []) ∷ []) 20
    ((term (pos 65536) (2 ∷ 0 ∷ []) ∷ term (pos 65536) (0 ∷ 2 ∷ []) ∷ term (minus 65536) (0 ∷ 0 ∷ []) ∷ [])
    ∷ (term (pos 65536) (3 ∷ 0 ∷ []) ∷ term (pos 16384) (1 ∷ 0 ∷ []) ∷ term (minus 8192) (0 ∷ 0 ∷ []) ∷ []) ∷ [])
