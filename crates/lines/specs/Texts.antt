-- How each kind of line is written, without its line feed.
use Rattle.std.specs.Prelude.{ℕ, ◌*◌, ◌/◌, ◌%◌, List, [], ◌∷◌, ◌++◌, get_or, ℤ, pos}
use Rattle.lists.specs.Loops.{tab}
use Rattle.digits.specs.Number.{digits_max}
use Rattle.digits.specs.Show.{show_magnitude}
use Rattle.text.specs.Words.{kind_key, inv_key, row_key, verdict_key}
use Rattle.text.specs.Lists.{show_list}
use Rattle.reading.specs.NumberLines.{placed}
use Rattle.jobs.specs.Places.{row_at}
use Rattle.jobs.specs.declared.Kind.{Kind}
use Rattle.jobs.specs.declared.Row.{Row}
use Rattle.jobs.specs.declared.Verdict.{Verdict}
use Rattle.lines.specs.Words.{kind_word, verdict_word}

-- a key and a count
abbrev pub count_text : List ℕ → ℕ → List ℕ
count_text key m = key ++ show_magnitude digits_max m

abbrev pub kind_text : Kind → List ℕ
kind_text k = kind_key ++ kind_word k

abbrev pub verdict_text : Verdict → List ℕ
verdict_text v = verdict_key ++ verdict_word v

-- a key and n numbers
abbrev pub row_text : List ℕ → ℕ → List ℤ → List ℕ
row_text key n xs = key ++ show_list (placed n n xs)

-- number k of a matrix of n rows of n, "row by row"
unfoldable pub entry_of : List Row → ℕ → ℕ → ℤ
entry_of rows n k = get_or (row_at rows (k / n)) (k % n) (pos 0)

-- "`inv` holds n times n numbers, row by row"
unfoldable pub matrix_list : List Row → ℕ → List ℤ
matrix_list rows n = tab (n * n) (n * n) (pos 0) (entry_of rows n)

abbrev pub inverse_text : ℕ → List Row → List ℕ
inverse_text n rows = inv_key ++ show_list (matrix_list rows n)

-- "A `linear` job has `row` lines of n + 1 numbers, the right side last"
abbrev pub sided_text : ℕ → List ℤ → ℤ → List ℕ
sided_text n row right = row_key ++ show_list (placed n n row ++ (right ∷ []))
