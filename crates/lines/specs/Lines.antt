-- What each kind of line says, from its bytes without the line feed: its value, or its fault. Document 01, "The job
-- text and the result text" and "Fault numbers": of each line first its spelling, then the check that its values get
-- (crate checks, Checks): "in one line 2 comes before the others, then 3, then 4, then 5 or 6".
use Rattle.std.specs.Prelude.{ℕ, ◌+◌, ◌-◌, ◌*◌, List, ◌++◌, cond, not, ◌&&◌, get_or, eqb, ℤ, pos, Ok, Err}
use Rattle.sizes.specs.Sizes.{n_max, number_max, visit_max, steps_max}
use Rattle.faults.specs.declared.Fault.{Fault}
use Rattle.faults.specs.Checked.{Finding, Found}
use Rattle.faults.specs.Checks.{bad_unless}
use Rattle.digits.specs.Bytes.{digit0}
use Rattle.text.specs.Words.{job_key, kind_key, n_key, pin_key, lo_key, hi_key, inv_key, steps_key, row_key}
use Rattle.text.specs.Words.{visit_key, verdict_key}
use Rattle.text.specs.Keys.{same_bytes, body_of}
use Rattle.text.specs.Lists.{places_max}
use Rattle.jobs.specs.declared.Kind.{Kind}
use Rattle.jobs.specs.declared.Row.{Row}
use Rattle.jobs.specs.declared.Equation.{Equation}
use Rattle.jobs.specs.declared.Verdict.{Verdict}
use Rattle.checks.specs.Checks.{unknowns_check, good_pin, low_check, high_check, inverse_check}
use Rattle.checks.specs.Checks.{equation_check, row_check, sided_check}
use Rattle.checks.specs.CheckResult.{counted_check}
use Rattle.term_text.specs.Terms.{one_digit, read_equation}
use Rattle.term_text.specs.Terms.{Terms}
use Rattle.reading.specs.Results.{after, passing, refuse}
use Rattle.reading.specs.declared.Listed.{Listed}
use Rattle.reading.specs.NumberLines.{placed, count_line, list_line, row_line}
use Rattle.lines.specs.Words.{kind_word, verdict_word}
use Rattle.lines.specs.Places.{cells, rows_of}
use Rattle.lines.specs.declared.Sided.{Sided}

-- "wrongly spelled": 2
abbrev pub misspelled : {A : Type 0} → Found A
misspelled = Err Fault.Spelling

-- ---- a line that holds one number

-- job=: "a number beyond its size above (a negative job number too)" 4
unfoldable pub number_of : List ℕ → Found ℕ
number_of l = count_line Fault.Spelling Fault.Beyond job_key number_max l

-- visit=: document 02, P12, "at most 999,999,999, else 4"
unfoldable pub visit_of : List ℕ → Found ℕ
visit_of l = count_line Fault.Spelling Fault.Beyond visit_key visit_max l

-- steps=: "steps not 0 to 1,000" 8
unfoldable pub steps_of : List ℕ → Found ℕ
steps_of l = count_line Fault.Spelling Fault.Steps steps_key steps_max l

unfoldable pub digit_is : List ℕ → Found ℕ
digit_is b = refuse (not (one_digit b)) Fault.Spelling (Ok (get_or b 0 0 - digit0))

-- n=: "`n` is one digit"; 3 where it is not 1 to 6, since P10
unfoldable pub unknowns_of : List ℕ → Found ℕ
unknowns_of l = passing (digit_is (body_of n_key l)) unknowns_check

-- document 02, P2: "9 for a written pin of n, or any pin not 1 to n"
unfoldable pub written_pin : ℕ → ℕ → Finding
written_pin n pin = bad_unless (good_pin n pin && not (eqb pin n)) Fault.Pin

-- pin=: a number; its refusals come "after 2"
unfoldable pub pin_of : ℕ → List ℕ → Found ℕ
pin_of n l = passing (count_line Fault.Spelling Fault.Pin pin_key n l) (written_pin n)

-- ---- a line that holds a word

-- this value where the line is `line`, else the other
abbrev pub word_or : {A : Type 0} → List ℕ → List ℕ → A → Found A → Found A
word_or l line v other = cond (same_bytes line l) (Ok v) other

abbrev kind_or : List ℕ → Kind → Found Kind → Found Kind
kind_or l k other = word_or l (kind_key ++ kind_word k) k other

-- kind=: one of the three words
unfoldable pub kind_of : List ℕ → Found Kind
kind_of l = kind_or l Kind.Poly (kind_or l Kind.Linear (kind_or l Kind.Eigen misspelled))

abbrev verdict_or : List ℕ → Verdict → Found Verdict → Found Verdict
verdict_or l v other = word_or l (verdict_key ++ verdict_word v) v other

-- verdict=: one of the four words
unfoldable pub verdict_of : List ℕ → Found Verdict
verdict_of l =
    verdict_or l Verdict.None
    (verdict_or l Verdict.Unique (verdict_or l Verdict.Stalled (verdict_or l Verdict.Spent misspelled)))

-- ---- a line that holds a list

-- so many numbers after the key, "a list of the wrong count" is 2
abbrev pub numbers_of : List ℕ → ℕ → ℕ → List ℕ → Found (List ℤ)
numbers_of key places count l = row_line Fault.Spelling key places count l

-- lo= of a job: n numbers
unfoldable pub low_of : ℕ → List ℕ → Found (List ℤ)
low_of n l = passing (numbers_of lo_key n_max n l) (low_check n)

-- lo= of a result: "the length of the `lo` list is n: an empty list is fault 2", one of over 6 numbers, since P10,
-- fault 3
unfoldable pub any_low_of : List ℕ → Found Listed
any_low_of l = passing (list_line Fault.Spelling lo_key n_max l) (λ x. counted_check x.count x.row)

-- hi=: n numbers; "a low end above its high end" 5
unfoldable pub high_of : ℕ → List ℤ → List ℕ → Found (List ℤ)
high_of n lo l = passing (numbers_of hi_key n_max n l) (high_check n lo)

-- inv=: "`inv` holds n times n numbers, row by row"
unfoldable pub inverse_of : ℕ → List ℕ → Found (List Row)
inverse_of n l =
    passing (after (numbers_of inv_key places_max (n * n) l) (λ vals. rows_of vals n)) (inverse_check n)

-- row= of an eigenpair: n numbers
unfoldable pub row_of : ℕ → List ℕ → Found (List ℤ)
row_of n l = passing (numbers_of row_key n_max n l) (row_check n)

-- the first n numbers of the row, and zeros past them
abbrev pub live_sided : ℕ → Sided → Sided
live_sided n x = record { row = placed n_max n x.row; side = x.side }

abbrev pub sided_by : List ℤ → ℕ → Sided
sided_by vals n = record { row = cells vals 0 n; side = get_or vals n (pos 0) }

-- row= of a linear job: n + 1 numbers, "the right side last"
unfoldable pub sided_of : ℕ → List ℕ → Found Sided
sided_of n l =
    passing (after (numbers_of row_key places_max (n + 1) l) (λ vals. sided_by vals n))
    (λ x. sided_check n x.row x.side)

-- ---- eq= of a polynomial job: 2, then 4 for each term (also one that has no place), then 6

unfoldable pub terms_by : ℕ → Terms → Found Equation
terms_by n a =
    refuse (not a.ok) Fault.Spelling
    (refuse a.far Fault.Beyond (passing (Ok a.equation) (equation_check n)))

unfoldable pub equation_of : ℕ → List ℕ → Found Equation
equation_of n l = terms_by n (read_equation n l)
